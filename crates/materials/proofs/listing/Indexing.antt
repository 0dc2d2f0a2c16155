-- The loop of `index_all`: the polygons before p have their indices, and the table has the place of each material that has come.
use Prim.Native.Nat.{ℕ, suc, ◌+◌, ◌-◌, ◌≤◌, ◌<◌}
use native.Mathlib.Omega.{arith}
use native.Mathlib.Numerals.{add-one}
use mathlib.Core.Path.{◌≡◌, refl, sym, ap, subst, ◌∙◌}
use mathlib.Core.Bool.{Bool, true, false}
use mathlib.Core.List.{List, [], ◌∷◌, ◌++◌, map, map-append}
use lib.Dec.{eqb}
use lib.ListN.{length, get_or, set, take, replicate, length-set, length-map, length-replicate}
use lib.Seq.{length-take-le, take-suc}
use borrow.Author.Tests.{eqb-true, eqb-false}
use Rattle.base.specs.Lists.{over, Below}
use Rattle.base.proofs.EveryLaws.{every_append}
use Rattle.base.proofs.StoreLaws.{over_one}
use Rattle.materials.specs.Materials.{place_in, admit, list_of, indices_of}
use Rattle.materials.specs.Steps.Listing.{Placed, Fits, Marked, Entered, Empty, Indexed}
use Rattle.materials.proofs.ListLaws.{admit_length, place_kept, place_own, place_in_lem, list_more, indices_more, few_materials}

-- the materials of the first p polygons
abbrev pub done : (ℕ → ℕ) → List ℕ → ℕ → List ℕ
done value numbers p = map value (take p numbers)

pub record Indexing (value : ℕ → ℕ) (numbers indices₀ table list indices : List ℕ) (count p : ℕ) : Type 0 where
  pub bytes : Below 256 (take p numbers)
  pub whole : length table ≡ 1280
  pub long : length list ≡ 256
  pub len : length indices ≡ length indices₀
  pub counted : count ≡ length (list_of (done value numbers p))
  pub listed : take count list ≡ list_of (done value numbers p)
  pub placed : (b : ℕ) → b < 256 → Placed (value b) (list_of (done value numbers p)) (get_or table b 0)
  pub indexed : indices ≡ over (indices_of (done value numbers p)) indices₀
  pub marked : Marked table (list_of (done value numbers p))

pub start : (value : ℕ → ℕ) (numbers indices table list : List ℕ) → Empty table → length list ≡ 256
    → Indexing value numbers indices table list indices 0 0
start value numbers indices table list e l =
    record {
      bytes = tt;
      whole = e.whole;
      long = l;
      len = refl;
      counted = refl;
      listed = refl;
      placed = λ b h. record { place = λ ne. absurd (ne (e.empty b h)); there = λ ne. absurd (ne (e.empty b h)) };
      indexed = refl;
      marked = record { marks = λ y k. absurd (omega (arith, k)) };
    }

module _ (value : ℕ → ℕ) (numbers indices₀ table list indices : List ℕ) (count p : ℕ) (g : Indexing value numbers indices₀ table list indices count p)
    (h : p < length numbers) (b : ℕ) (e : b ≡ get_or numbers p 0) (small : b < 256) where
  abbrev xs : List ℕ
  xs = list_of (done value numbers p)

  abbrev x : ℕ
  x = value b

  number : take (suc p) numbers ≡ take p numbers ++ (b ∷ [])
  number = take-suc numbers p 0 h ∙ ap (λ (k : ℕ). take p numbers ++ (k ∷ [])) (sym e)

  more : done value numbers (suc p) ≡ done value numbers p ++ (x ∷ [])
  more = ap (map value) number ∙ map-append value (take p numbers) (b ∷ [])

  bytes_more : Below 256 (take (suc p) numbers)
  bytes_more = rw number (every_append (λ k. k < 256) (take p numbers) (b ∷ []) g.bytes (small, tt))

  list_is : list_of (done value numbers (suc p)) ≡ admit xs x
  list_is = ap list_of more ∙ list_more [] (done value numbers p) x

  few : length (admit xs x) ≤ 256
  few = omega (arith, ap length list_is, few_materials value (take (suc p) numbers) bytes_more)

  pub fits : Fits x list count
  fits =
      record {
        inside = omega (arith, g.counted, admit_length xs x, few, g.long);
        few = omega (arith, g.long);
        room = rw g.listed (omega (arith, place_in_lem xs x, few, g.long));
      }

  pub marks : Marked table (take count list)
  marks = rw g.listed g.marked

  pub entry : Placed x (take count list) (get_or table b 0)
  entry = rw g.listed (g.placed b small)

  module _ (table' list' : List ℕ) (r : ℕ) (t : length table' ≡ length table) (l : length list' ≡ length list)
      (n : Entered b x table table' (take count list) list' r) where
    own : get_or table' b 0 ≡ 1 + place_in xs x
    own = n.own ∙ ap (λ (ys : List ℕ). 1 + place_in ys x) g.listed

    pub index_is : (i : ℕ) → i + 1 ≡ get_or table' b 0 → i ≡ place_in xs x
    index_is i q = omega (arith, own)

    -- the table has the place, and a byte holds it
    pub there : (1 ≤ get_or table' b 0) × (get_or table' b 0 ≤ 256)
    there = (omega (arith, own), omega (arith, own, place_in_lem xs x, few))

    placed_more : (c : ℕ) → c < 256 → Placed (value c) (admit xs x) (get_or table' c 0)
    placed_more c k = go (eqb c b) refl
      where
        itself : Placed x (admit xs x) (get_or table' b 0)
        itself = record { place = λ ne. omega (arith, own, place_own xs x); there = λ ne. omega (arith, place_own xs x, place_in_lem xs x) }

        go : (q : Bool) → eqb c b ≡ q → Placed (value c) (admit xs x) (get_or table' c 0)
        go true q = subst (λ (k : ℕ). Placed (value k) (admit xs x) (get_or table' k 0)) (sym (eqb-true c b q)) itself
        go false q =
            let same : get_or table' c 0 ≡ get_or table c 0 = n.others c k (eqb-false c b q) in
            let old = g.placed c k in
            let kept : (get_or table c 0 ≡ 0 → ⊥) → place_in (admit xs x) (value c) ≡ place_in xs (value c) =
            λ m. place_kept xs x (value c) (old.there m) in
            record {
              place = λ ne. same ∙ old.place (λ z. ne (same ∙ z)) ∙ ap (λ (j : ℕ). 1 + j) (sym (kept (λ z. ne (same ∙ z))));
              there = λ ne. omega (arith, kept (λ z. ne (same ∙ z)), old.there (λ z. ne (same ∙ z)), admit_length xs x);
            }

    pub one_more : (i : ℕ) → i + 1 ≡ get_or table' b 0 → p < length indices₀ → Indexing value numbers indices₀ table' list' (set indices p i) r (p + 1)
    one_more i q k =
        let s : p + 1 ≡ suc p = add-one p in
        let full : length (indices_of (done value numbers p)) ≡ p =
        length-map (done value numbers p) (place_in xs) ∙ length-map (take p numbers) value ∙ length-take-le p numbers (omega arith) in
        rw s (record {
          bytes = bytes_more;
          whole = t ∙ g.whole;
          long = l ∙ g.long;
          len = length-set indices p i ∙ g.len;
          counted = n.counted ∙ ap (λ (ys : List ℕ). length (admit ys x)) g.listed ∙ ap length (sym list_is);
          listed = n.listed ∙ ap (λ (ys : List ℕ). admit ys x) g.listed ∙ sym list_is;
          placed = λ c h. rw list_is (placed_more c h);
          indexed =
              ap (λ (is : List ℕ). set is p i) g.indexed
              ∙ over_one (indices_of (done value numbers p)) indices₀ i p full k
              ∙ ap (λ (j : ℕ). over (indices_of (done value numbers p) ++ (j ∷ [])) indices₀) (index_is i q)
              ∙ ap (λ (is : List ℕ). over is indices₀) (sym (ap indices_of more ∙ indices_more (done value numbers p) x));
          marked = rw list_is (subst (λ (ys : List ℕ). Marked table' (admit ys x)) g.listed n.marked);
        })

pub ended : (value : ℕ → ℕ) (numbers indices₀ table list indices : List ℕ) (count p n : ℕ) → Indexing value numbers indices₀ table list indices count p
    → p ≡ n → Indexed (map value (take n numbers)) list indices₀ indices count
ended value numbers indices₀ table list indices count p n g e =
    rw (← e) (record {
      counted = g.counted;
      few = omega (arith, g.counted, few_materials value (take p numbers) g.bytes);
      listed = g.listed;
      indexed = g.indexed;
    })

-- ---- where only the materials are counted: the indices are thought of, and none is stored

pub record Counting (value : ℕ → ℕ) (numbers table list : List ℕ) (n count p : ℕ) : Type 0 where
  pub indices : List ℕ
  pub indexing : Indexing value numbers (replicate n 0) table list indices count p

pub count_start : (value : ℕ → ℕ) (numbers table list : List ℕ) (n : ℕ) → Empty table → length list ≡ 256 → Counting value numbers table list n 0 0
count_start value numbers table list n e l = record { indices = replicate n 0; indexing = start value numbers (replicate n 0) table list e l }

pub count_more_lem : (value : ℕ → ℕ) (numbers table list : List ℕ) (n count p : ℕ) (g : Counting value numbers table list n count p) (h : p < length numbers)
    (b : ℕ) (e : b ≡ get_or numbers p 0) (small : b < 256) (table' list' : List ℕ) (r : ℕ) → length table' ≡ length table → length list' ≡ length list
    → Entered b (value b) table table' (take count list) list' r → p < n → Counting value numbers table' list' n r (p + 1)
count_more_lem value numbers table list n count p g h b e small table' list' r t l entered room =
    let i = get_or table' b 0 - 1 in
    let set_there =
    there value numbers (replicate n 0) table list g.indices count p g.indexing h b e small table' list' r t l entered in
    record {
      indices = set g.indices p i;
      indexing =
          one_more value numbers (replicate n 0) table list g.indices count p g.indexing h b e small table' list' r t l entered i (omega (arith, set_there))
          (omega (arith, length-replicate {A = ℕ} n 0));
    }
