-- What the entry answers, case by case; what room there is where no buffer is too short; and the points, of which the first words are lent.
use Prim.Native.Nat.{ℕ, ◌+◌, ◌*◌, ◌≤◌, ◌<◌}
use mathlib.Core.Bool.{true, false}
use mathlib.Core.Path.{◌≡◌, refl, sym, ap, ◌∙◌}
use mathlib.Core.List.{List, ◌++◌}
use lib.Dec.{ltb}
use lib.Ieee.{Float}
use lib.ListN.{length, take, drop}
use lib.Seq.{length-take-le}
use borrow.Author.Tests.{lt-ltb, le-ltb, ltb-false, eq-eqb, ne_eqb}
use Rattle.std.specs.Prelude.{Option, Some, None, Result, Ok, Err}
use Rattle.base.specs.Lists.{over}
use Rattle.base.proofs.Truth.{neither}
use Rattle.corners.specs.Corners.{kinds_known}
use Rattle.shrink.specs.Shrinking.{shrink_margin}
use Rattle.shrinking.specs.declared.whole.Geometry.{Geometry}
use Rattle.verts_shrunk.specs.declared.entry.Lengths.{Lengths}
use Rattle.verts_shrunk.specs.declared.entry.ShrinkRefusal.{ShrinkRefusal}
use Rattle.verts_shrunk.specs.declared.entry.ShrinkRefusal.TheVariants.{TooManyPolygons, TooManyVertices, BufferTooShort, UnknownKind, InfiniteMargin}
use Rattle.verts_shrunk.specs.declared.entry.Shrunk.{Shrunk}
use Rattle.verts_shrunk.specs.declared.entry.Shrunk.TheVariants.{NoVertices}
use Rattle.shrinking.specs.Whole.{mesh_in, bound_of, infinite_start, shrunk_of, ShrunkTo}
use Rattle.verts_shrunk.specs.Answers.{short_of, short, shrunk_by, answer_of, kept, Answered}
use Rattle.verts_shrunk.specs.Steps.Work.{Lent}

-- ---- room

pub record Roomy (n v : ℕ) (l : Lengths) : Type 0 where
  pub polygons : 16 * n ≤ l.polygons
  pub vertices : 3 * v ≤ l.vertices
  pub points : 3 * v ≤ l.points
  pub corners : 3 * n ≤ l.corners
  pub tri : 3 * n ≤ l.tri
  pub firsts : 3 * n + v ≤ l.firsts
  pub spare : 3 * n ≤ l.spare
  pub links : 3 * n ≤ l.links
  pub normals : 3 * n ≤ l.normals
  pub olds : 9 * n ≤ l.olds
  pub news : 9 * n ≤ l.news

pub room : (n v : ℕ) (l : Lengths) → short n v l ≡ false → Roomy n v l
unfolding short
room n v l e =
    let e₇ = neither _ (ltb l.news (9 * n)) e in
    let e₆ = neither _ (ltb l.olds (9 * n)) e₇.0 in
    let e₅ = neither _ (ltb l.normals (3 * n)) e₆.0 in
    let e₄ = neither _ (ltb l.links (3 * n)) e₅.0 in
    let e₃ = neither _ (ltb l.spare (3 * n)) e₄.0 in
    let e₂ = neither _ (ltb l.tri (3 * n)) e₃.0 in
    let e₁ = neither (short_of n v l) (ltb l.corners (3 * n)) e₂.0 in
    let d₃ = neither _ (ltb l.firsts (3 * n + v)) e₁.0 in
    let d₂ = neither _ (ltb l.points (3 * v)) d₃.0 in
    let d₁ = neither (ltb l.polygons (16 * n)) (ltb l.vertices (3 * v)) d₂.0 in
    record {
      polygons = ltb-false l.polygons (16 * n) d₁.0;
      vertices = ltb-false l.vertices (3 * v) d₁.1;
      points = ltb-false l.points (3 * v) d₂.1;
      corners = ltb-false l.corners (3 * n) e₁.1;
      tri = ltb-false l.tri (3 * n) e₂.1;
      firsts = ltb-false l.firsts (3 * n + v) d₃.1;
      spare = ltb-false l.spare (3 * n) e₃.1;
      links = ltb-false l.links (3 * n) e₄.1;
      normals = ltb-false l.normals (3 * n) e₅.1;
      olds = ltb-false l.olds (9 * n) e₆.1;
      news = ltb-false l.news (9 * n) e₇.1;
    }

abbrev pub lengths_of : List ℕ → List ℕ → List ℕ → List ℕ → List ℕ → List ℕ → List ℕ → List ℕ → List Float → List Float → List Float → Lengths
lengths_of polygons vertices points corners tri firsts spare links normals olds news =
    record {
      polygons = length polygons;
      vertices = length vertices;
      points = length points;
      corners = length corners;
      tri = length tri;
      firsts = length firsts;
      spare = length spare;
      links = length links;
      normals = length normals;
      olds = length olds;
      news = length news;
    }

pub lent : (n v : ℕ) (polygons vertices points corners tri firsts spare links : List ℕ) (normals olds news : List Float) → n ≤ 32767 → v ≤ 32768
    → short n v (lengths_of polygons vertices points corners tri firsts spare links normals olds news) ≡ false
    → Lent n polygons v vertices (take (3 * v) points) corners tri firsts spare links normals olds news
lent n v polygons vertices points corners tri firsts spare links normals olds news few few_vertices e =
    let r = room n v (lengths_of polygons vertices points corners tri firsts spare links normals olds news) e in
    record {
      few = few;
      few_vertices = few_vertices;
      records = r.polygons;
      vertices_in = r.vertices;
      size = length-take-le (3 * v) points r.points;
      corners_room = r.corners;
      tri_room = r.tri;
      firsts_room = r.firsts;
      spare_room = r.spare;
      links_room = r.links;
      normals_room = r.normals;
      olds_room = r.olds;
      news_room = r.news;
    }

-- ---- the answers

module _ (g : Geometry) (n : ℕ) (polygons : List ℕ) (v : ℕ) (vertices : List ℕ) (l : Lengths) (before : List ℕ) where
  abbrev answer_is : Result Shrunk ShrinkRefusal → Type 0
  answer_is r = r ≡ answer_of g n polygons v vertices l

  abbrev done : List ℕ → Result Shrunk ShrinkRefusal → Type 0
  done after r = Answered g n polygons v vertices l before after r

  as_many_polygons : 32767 < n → answer_is (Err TooManyPolygons)
  unfolding answer_of
  as_many_polygons h = rw (lt-ltb 32767 n h)

  pub many_polygons : 32767 < n → done before (Err TooManyPolygons)
  many_polygons h = record { answer = as_many_polygons h; points_are = refl }

  as_many_vertices : n ≤ 32767 → 32768 < v → answer_is (Err TooManyVertices)
  unfolding answer_of
  as_many_vertices h k = rw (le-ltb 32767 n h, lt-ltb 32768 v k)

  pub many_vertices : n ≤ 32767 → 32768 < v → done before (Err TooManyVertices)
  many_vertices h k = record { answer = as_many_vertices h k; points_are = refl }

  module _ (few : n ≤ 32767) (few_vertices : v ≤ 32768) where
    as_short : short n v l ≡ true → answer_is (Err BufferTooShort)
    unfolding answer_of
    as_short e = rw (le-ltb 32767 n few, le-ltb 32768 v few_vertices, e)

    pub too_small : short n v l ≡ true → done before (Err BufferTooShort)
    too_small e = record { answer = as_short e; points_are = refl }

    module _ (long : short n v l ≡ false) where
      as_unknown : kinds_known n polygons ≡ false → answer_is (Err UnknownKind)
      unfolding answer_of
      as_unknown k = rw (le-ltb 32767 n few, le-ltb 32768 v few_vertices, long, k)

      pub unknown : kinds_known n polygons ≡ false → done before (Err UnknownKind)
      unknown k = record { answer = as_unknown k; points_are = refl }

      module _ (known : kinds_known n polygons ≡ true) where
        as_none : v ≡ 0 → answer_is (Ok NoVertices)
        unfolding answer_of
        as_none z = rw (le-ltb 32767 n few, le-ltb 32768 v few_vertices, long, known, eq-eqb v 0 z)

        pub none_there : v ≡ 0 → done before (Ok NoVertices)
        none_there z = record { answer = as_none z; points_are = refl }

        module _ (some : v ≡ 0 → ⊥) where
          as_infinite : infinite_start g ≡ true → answer_is (Err InfiniteMargin)
          unfolding answer_of
          as_infinite i = rw (le-ltb 32767 n few, le-ltb 32768 v few_vertices, long, known, ne_eqb v 0 some, i)

          pub infinite : infinite_start g ≡ true → done before (Err InfiniteMargin)
          infinite i = record { answer = as_infinite i; points_are = refl }

          module _ (finite : infinite_start g ≡ false) where
            as_shrunk : Ok (shrunk_by (shrink_margin (bound_of g) (mesh_in n polygons v vertices))) ≡ answer_of g n polygons v vertices l
            unfolding answer_of
            as_shrunk = rw (le-ltb 32767 n few, le-ltb 32768 v few_vertices, long, known, ne_eqb v 0 some, finite)

            written : (m : Option Float) (a b : List ℕ) → a ≡ kept (Ok (shrunk_by m)) a b
            written (Some m) a b = refl
            written None a b = refl

            pub served : (front : List ℕ) (m : Option Float) (r : Shrunk) → length front ≡ 3 * v → ShrunkTo g (mesh_in n polygons v vertices) front m
                → r ≡ shrunk_by m → done (front ++ drop (3 * v) before) (Ok r)
            served front m r size s e =
                let whole : List ℕ = over (shrunk_of g (mesh_in n polygons v vertices)) before in
                record {
                  answer = ap (λ (x : Shrunk). Ok x) (e ∙ ap shrunk_by s.answer) ∙ as_shrunk;
                  points_are =
                      ap (λ (k : ℕ). front ++ drop k before) (sym size)
                      ∙ ap (λ (l : List ℕ). over l before) s.points_are
                      ∙ written m whole before
                      ∙ ap (λ (x : Shrunk). kept (Ok x) whole before) (sym e);
                }
