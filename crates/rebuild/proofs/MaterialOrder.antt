-- Materials in the order of the leaves: the values of reordered numbers are the reordered values, and a second pass over the first one's list and
-- reordered indices finds the reordered values. And the list is as long as before. By induction on the order.
use Rattle.std.specs.Prelude.{◌≡◌, ℕ, ◌<◌, ◌≤◌, List, [], ◌∷◌, map, length, get_or, take}
use native.Mathlib.Omega.{arith}
use mathlib.Core.Logic.{⊎_elim}
use mathlib.Core.Path.{refl, sym, ap, ap₂, subst, ◌∙◌}
use lib.ListN.{length-map}
use lib.Seq.{get_or-take, length-take-le, take_all}
use Rattle.base.proofs.ListLaws.{among_cases}
use Rattle.base.specs.Lists.{Among, Permutes, Below, up_from}
use Rattle.materials.proofs.ListLaws.{at_place, second_pass}
use Rattle.materials.proofs.OrderLaws.{list_no_longer}
use Rattle.materials.specs.Materials.{place_in, value_at, values_of, list_of, indices_of}
use Rattle.reorder.proofs.LookupLaws.{at_map, among_at, place_there, order_below, new_below, old_of_new}
use Rattle.reorder.specs.Reordering.{in_order}

-- what is made of each, in the order
pub map_in_order : (f : ℕ → ℕ) (order xs : List ℕ) → Below (length xs) order → map f (in_order order xs) ≡ in_order order (map f xs)
map_in_order f [] xs b = refl
map_in_order f (old ∷ order) xs b = ap₂ (λ (x : ℕ) (l : List ℕ). x ∷ l) (sym (at_map f xs old b.0)) (map_in_order f order xs b.1)

-- only the first n are looked at
in_order_taken : (n : ℕ) (order xs : List ℕ) → Below n order → in_order order xs ≡ in_order order (take n xs)
in_order_taken n [] xs b = refl
in_order_taken n (old ∷ order) xs b =
    ap₂ (λ (x : ℕ) (l : List ℕ). x ∷ l) (sym (get_or-take n xs old 0 b.0)) (in_order_taken n order xs b.1)

-- The values of the reordered numbers are the reordered values.
pub values_in_order : (m : ℕ) (mats : List ℕ) (n : ℕ) (order numbers : List ℕ) → length order ≡ n → Below n order → n ≤ length numbers
    → values_of m mats n (in_order order numbers) ≡ in_order order (values_of m mats n numbers)
values_in_order m mats n order numbers long b h =
    let all : take n (in_order order numbers) ≡ in_order order numbers =
    take_all n (in_order order numbers) (omega (arith, length-map order (λ old. get_or numbers old 0))) in
    let size : length (take n numbers) ≡ n = length-take-le n numbers h in
    ap (map (value_at m mats)) (all ∙ in_order_taken n order numbers b) ∙ map_in_order (value_at m mats) order (take n numbers) (rw size b)

-- A second pass, over the list and the reordered indices of a first one, has the reordered values before it.
pub second_pass_values : (order ms : List ℕ) → Below (length ms) order → map (λ i. get_or (list_of ms) i 0) (in_order order (indices_of ms)) ≡ in_order order ms
second_pass_values [] ms b = refl
second_pass_values (old ∷ order) ms b = ap₂ (λ (x : ℕ) (l : List ℕ). x ∷ l) (second_pass ms old b.0) (second_pass_values order ms b.1)

-- ---- how many

-- What stands in the order stands in the list.
in_order_from : (order ms : List ℕ) → Below (length ms) order → (x : ℕ) → Among x (in_order order ms) → Among x ms
in_order_from [] ms b x m = absurd (omega arith)
in_order_from (old ∷ order) ms b x m =
    ⊎_elim (λ e. subst (λ (y : ℕ). Among y ms) e (among_at ms old b.0)) (λ later. in_order_from order ms b.1 x later)
    (among_cases x (get_or ms old 0) (in_order order ms) m)

module _ (n : ℕ) (order ms : List ℕ) (long : length order ≡ n) (each_once : Permutes order (up_from 0 n)) (many : length ms ≡ n) where
  -- What stands in the list stands in the order.
  in_order_to : (x : ℕ) → Among x ms → Among x (in_order order ms)
  in_order_to x m =
      let old = place_in ms x in
      let there : old < length ms = place_there ms x m in
      let below : old < n = omega arith in
      let new = place_in order old in
      let within : new < length order = omega (arith, new_below n order long each_once old below) in
      let is : get_or (in_order order ms) new 0 ≡ x =
      at_map (λ o. get_or ms o 0) order new within
      ∙ ap (λ (o : ℕ). get_or ms o 0) (old_of_new n order long each_once old below)
      ∙ at_place ms x there in
      subst (λ (y : ℕ). Among y (in_order order ms)) is
      (among_at (in_order order ms) new (omega (arith, length-map order (λ o. get_or ms o 0))))

  -- Polygons in another order have as many materials.
  pub list_length_in_order : length (list_of (in_order order ms)) ≡ length (list_of ms)
  list_length_in_order =
      omega (
        arith,
        list_no_longer (in_order order ms) ms (in_order_from order ms (rw many (order_below n order long each_once))),
        list_no_longer ms (in_order order ms) in_order_to,
      )
