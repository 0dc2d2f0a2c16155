-- `ranges::put_range` meets its contract: what `put_tree` ensures of the record that is made of the row's box and the two numbers.
use Prim.Native.Nat.{ℕ, ◌<◌}
use mathlib.Core.Path.{◌≡◌, ap, ◌∙◌}
use lib.Seq.{sets}
use mir.Syntax.{w16}
use mir.Val.{to_z}
use mir.Facts.{to_z_pos}
use Rattle.records.specs.declared.BoundVertex.{BoundVertex}
use Rattle.records.specs.declared.BvhTree.{BvhTree}
use Rattle.records.specs.declared.scale.Scale.{Scale}
use Rattle.records.specs.Quantise.{quantise_of}
use Rattle.records.specs.Records.{tree_bytes}
use Rattle.entries.specs.declared.boxes.BoxWords.{BoxWords}
use Rattle.rows.specs.Output.{tree_record}
use Rattle.rows.proofs.ranges.put_range.Goals as goal

-- two corners quantised and two numbers are the range's record
made : (s : Scale) (b d : BoxWords) (min max : BoundVertex) (first last : ℕ) → first < 32768 → last < 32768 → d ≡ b
    → min ≡ quantise_of d.min s.cen s.inverse → max ≡ quantise_of d.max s.cen s.inverse
    → record { min = min; max = max; node_index1 = to_z w16 first; node_index2 = to_z w16 last }
    ≡ tree_record s (record { box = b; first = first; last = last })
unfolding tree_record
made s b d min max first last hf hl eb emin emax = rw (emin, emax, to_z_pos w16 {n = first} hf, to_z_pos w16 {n = last} hl, eb)

pub returns : goal.returns
returns c =
    let a = c.args in
    let bytes = a.tree_bytes.now in
    c.put_tree.ensures
    ∙ ap (λ (t : BvhTree). sets bytes a.at (tree_bytes t))
    (made a.scale _ _ _ _ a.first a.last c.requires.2 c.requires.3 c.row_box-b.ensures c.quantise.ensures
    c.quantise-2.ensures)
