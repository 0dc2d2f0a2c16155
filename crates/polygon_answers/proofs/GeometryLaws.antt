-- The polygon of a C struct, by its kind; and what the answers of writing, of a box, of links and of materials say of the C interface's. Assumes nothing.
use Prim.Native.Nat.{ℕ, ◌<◌, ◌≤◌}
use mathlib.Core.List.{List}
use mathlib.Core.Path.{◌≡◌, refl, ap, ◌∙◌}
use lib.Dec.{ltb}
use mathlib.Core.Bool.{true, false}
use borrow.Author.Tests.{ne_eqb, lt-ltb, le-ltb}
use Rattle.edges.specs.declared.entry.Lengths.{Lengths}
use Rattle.edges.specs.Edges.{Answered, kept, linked}
use Rattle.materials.specs.declared.building.Lengths as L
use Rattle.materials.specs.declared.building.MaterialsRefusal.{MaterialsRefusal}
use Rattle.std.specs.Prelude.{Result, ⊤}
use Rattle.materials.specs.Answers as M
use Rattle.materials.specs.Materials.{list_of, indices_of, materials_bytes}
use Rattle.polygon.specs.Answers.{Wrote, write_exit, write_number, polygons_number}
use Rattle.polygon_boxes.specs.Boxes.{bbox_of}
use Rattle.polygon_items.specs.Items as I
use Rattle.polygon.specs.declared.Polygon.{Polygon}
use Rattle.polygon.specs.declared.WriteRefusal.{WriteRefusal}
use Rattle.polygon.specs.declared.PolygonsRefusal.{PolygonsRefusal}
use Rattle.polygon_boxes.specs.declared.PolygonBox.{PolygonBox}
use Rattle.polygon_answers.specs.Geometry.{triangle_in, sphere_in, capsule_in, box_in, cylinder_in, polygon_in, WroteStruct, unboxed, boxed, box_answer}
use Rattle.polygon_answers.specs.Geometry.{ItemsAnswered, EdgesAnswered, materials_answer, MaterialsAnswered}
use Rattle.polygon_answers.specs.declared.BoxAnswer.{BoxAnswer}
use Rattle.polygon_answers.specs.declared.MaterialsAnswer.{MaterialsAnswer}
use Rattle.polygon_answers.specs.declared.PolygonC.{PolygonC}

module _ (c : PolygonC) where
  pub triangle_by_kind : c.kind ≡ 0 → polygon_in c ≡ triangle_in c
  unfolding polygon_in
  triangle_by_kind e = rw e

  pub box_by_kind : c.kind ≡ 3 → polygon_in c ≡ box_in c
  unfolding polygon_in
  box_by_kind e = rw e

  pub sphere_by_kind : c.kind ≡ 1 → polygon_in c ≡ sphere_in c
  unfolding polygon_in
  sphere_by_kind e = rw e

  pub capsule_by_kind : c.kind ≡ 2 → polygon_in c ≡ capsule_in c
  unfolding polygon_in
  capsule_by_kind e = rw e

  pub cylinder_by_kind : (c.kind ≡ 0 → ⊥) → (c.kind ≡ 3 → ⊥) → (c.kind ≡ 1 → ⊥) → (c.kind ≡ 2 → ⊥) → polygon_in c ≡ cylinder_in c
  unfolding polygon_in
  cylinder_by_kind n0 n3 n1 n2 = rw (ne_eqb _ 0 n0, ne_eqb _ 3 n3, ne_eqb _ 1 n1, ne_eqb _ 2 n2)

  -- ---- answers

  pub not_written : (before : List ℕ) → 4 < c.kind → WroteStruct c before before 6
  not_written before over =
      let e : ltb 4 c.kind ≡ true = lt-ltb 4 c.kind over in
      record { number = rw e refl; bytes = rw e refl }

  pub written : (p : Polygon) (before after : List ℕ) (w : Result ⊤ WriteRefusal) (r : ℕ) → c.kind ≤ 4 → p ≡ polygon_in c → Wrote p before after w
      → r ≡ write_number w → WroteStruct c before after r
  written p before after w r known same wrote given =
      let e : ltb 4 c.kind ≡ false = le-ltb 4 c.kind known in
      record {
        number = rw e (given ∙ ap write_number wrote.answer);
        bytes = rw e (wrote.bytes ∙ ap (λ (x : Polygon). write_exit x before) same);
      }

  pub not_boxed : (vertices : List ℕ) (r : BoxAnswer) → 4 < c.kind → r ≡ unboxed 6 → r ≡ box_answer c vertices
  not_boxed vertices r over given = rw (lt-ltb 4 c.kind over) given

  pub boxed_answer : (p : Polygon) (vertices : List ℕ) (b : PolygonBox) (r : BoxAnswer) → c.kind ≤ 4 → p ≡ polygon_in c → b ≡ bbox_of p vertices
      → r ≡ boxed b → r ≡ box_answer c vertices
  boxed_answer p vertices b r known same found given =
      rw (le-ltb 4 c.kind known) (given ∙ ap boxed (found ∙ ap (λ (x : Polygon). bbox_of x vertices) same))

pub items_answered : (n : ℕ) (bytes ws before after : List ℕ) (i : Result ⊤ PolygonsRefusal) (r : ℕ) → I.Answered n bytes ws before after i → r ≡ polygons_number i
    → ItemsAnswered n bytes ws before after r
items_answered n bytes ws before after i r a given =
    record {
      number = given ∙ ap polygons_number a.answer;
      words = a.words ∙ ap (λ (x : Result ⊤ PolygonsRefusal). I.kept x (I.items_of n bytes ws) before) a.answer;
    }

pub edges_answered : (n : ℕ) (l : Lengths) (before after : List ℕ) (e : Result ⊤ PolygonsRefusal) (r : ℕ) → Answered n l before after e → r ≡ polygons_number e
    → EdgesAnswered n l before after r
edges_answered n l before after e r a given =
    record {
      number = given ∙ ap polygons_number a.answer;
      bytes = a.bytes ∙ ap (λ (x : Result ⊤ PolygonsRefusal). kept x (linked n before) before) a.answer;
    }

pub materials_answered : (n m : ℕ) (l : L.Lengths) (ms list₀ list indices₀ indices : List ℕ) (b : Result ℕ MaterialsRefusal) (r : MaterialsAnswer)
    → M.Answered n m l ms list₀ list indices₀ indices b → r ≡ materials_answer b → MaterialsAnswered n m l ms list₀ list indices₀ indices r
materials_answered n m l ms list₀ list indices₀ indices b r a given =
    record {
      answer = given ∙ ap materials_answer a.answer;
      listed = a.listed ∙ ap (λ (x : Result ℕ MaterialsRefusal). M.kept x (materials_bytes (list_of ms)) list₀) a.answer;
      indexed = a.indexed ∙ ap (λ (x : Result ℕ MaterialsRefusal). M.kept x (indices_of ms) indices₀) a.answer;
    }
