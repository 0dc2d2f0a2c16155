-- Worked examples of the definitions: numbers and lines at their ends, and whole listings from the bytes of the boxes to the text:
-- floats, split, tree, records, lines.
use Rattle.std.specs.Prelude.{◌≡◌, ℕ, List, [], ◌∷◌, ◌++◌, replicate, pos, negsuc}
use mathlib.Core.Path.{refl}
use lib.Ieee.{of_bits, of_int, add, sub, mul, div, lt, neg, to_signed}
use Rattle.base.specs.LittleEndian.{le_at}
use Rattle.float32.specs.Casts.{short_of}
use Rattle.float32.specs.Counts.{of_count}
use Rattle.float32.specs.Extremes.{vmin_of, vmax_of, vmin_word, vmax_word}
use Rattle.float32.specs.Signs as Signs
use Rattle.records.specs.Quantise.{quantise_of}
use Rattle.records.specs.Scale.{scale_of_box}
use Rattle.records.specs.declared.BoundVertex.{BoundVertex}
use Rattle.entries.specs.Folding.{fold_box}
use Rattle.entries.specs.Average.{average_of}
use Rattle.split.specs.Rule.{below, above, count_below, axis_of, chosen, group_one, group_two, two_leads, first_group_of, second_of}
use Rattle.bvh.specs.Build.{tree_of}
use Rattle.rows.specs.Output.{node_of, tree_record}
use Rattle.growth.specs.Grow.{grow_f, grow}
use Rattle.listing.specs.Lines.{node_line, record_line, vertex_fields, counts_line, refused_line, tree_line}
use Rattle.listing.specs.Listing.{boxes_text, children_of, nodes_of, trees_of, listing_of}
use Rattle.listing.specs.Reading.{corner_at, child_box}
use Rattle.listing.specs.Text.{decimal_of, decimal, signed, field}

-- "0", "10" and "-32768"
pub zero_text : decimal 0 ≡ 48 ∷ []
unfolding decimal decimal_of
zero_text = refl

pub ten_text : decimal 10 ≡ 49 ∷ 48 ∷ []
unfolding decimal decimal_of
ten_text = refl

pub least_text : signed (negsuc 32767) ≡ 45 ∷ 51 ∷ 50 ∷ 55 ∷ 54 ∷ 56 ∷ []
unfolding decimal decimal_of
least_text = refl

-- "nodes 3 5"
pub counts_text : counts_line 3 5 ≡ 110 ∷ 111 ∷ 100 ∷ 101 ∷ 115 ∷ 32 ∷ 51 ∷ 32 ∷ 53 ∷ 10 ∷ []
unfolding counts_line decimal decimal_of
counts_text = refl

abbrev corner : BoundVertex
corner = record { 0 = pos 16383; 1 = negsuc 32766; 2 = negsuc 32766 }

abbrev far : BoundVertex
far = record { 0 = pos 32767; 1 = pos 32767; 2 = pos 32767 }

-- "node 1 16383 -32767 -32767 32767 32767 32767 1 1"
pub node-text :
    node_line 1 (record { min = corner; max = far; item_id = pos 1; item_count = pos 1 })
    ≡ (110 ∷ 111 ∷ 100 ∷ 101 ∷ 32 ∷ 49 ∷ 32 ∷ 49 ∷ 54 ∷ 51 ∷ 56 ∷ 51 ∷ 32 ∷ 45 ∷ 51 ∷ 50 ∷ 55 ∷ 54 ∷ 55 ∷ 32 ∷ 45 ∷ 51 ∷ 50 ∷ 55 ∷ 54 ∷ 55 ∷ 32 ∷ [])
    ++ (51 ∷ 50 ∷ 55 ∷ 54 ∷ 55 ∷ 32 ∷ 51 ∷ 50 ∷ 55 ∷ 54 ∷ 55 ∷ 32 ∷ 51 ∷ 50 ∷ 55 ∷ 54 ∷ 55 ∷ 32 ∷ 49 ∷ 32 ∷ 49 ∷ 10 ∷ [])
unfolding node_line record_line vertex_fields field decimal decimal_of
node-text = refl

-- a float's word, the lowest byte first: -0.5
pub word_text : le_at 4 (0x00 ∷ 0x00 ∷ 0x00 ∷ 0xbf ∷ []) 0 ≡ 0xbf00_0000
unfolding le_at
word_text = refl

-- 8,193 bytes, which are no whole records either, are refused as too many.
pub over_text : boxes_text (replicate 8193 0) ≡ refused_line 1
unfolding boxes_text
over_text = refl

-- 63 bytes are ragged: "refused 13"
pub ragged_text : boxes_text (replicate 63 0) ≡ 114 ∷ 101 ∷ 102 ∷ 117 ∷ 115 ∷ 101 ∷ 100 ∷ 32 ∷ 49 ∷ 51 ∷ 10 ∷ []
unfolding boxes_text refused_line decimal decimal_of
ragged_text = refl

-- The scope document's two boxes, (−1,−1,−1) to (−0.5,1,1) and (0.5,−1,−1) to (1,1,1). Each w holds something else, which is not read.
abbrev input : List ℕ
input =
    (0x00 ∷ 0x00 ∷ 0x80 ∷ 0xbf ∷ 0x00 ∷ 0x00 ∷ 0x80 ∷ 0xbf ∷ 0x00 ∷ 0x00 ∷ 0x80 ∷ 0xbf ∷ 0x01 ∷ 0x00 ∷ 0xc0 ∷ 0x7f ∷ [])
    ++ (0x00 ∷ 0x00 ∷ 0x00 ∷ 0xbf ∷ 0x00 ∷ 0x00 ∷ 0x80 ∷ 0x3f ∷ 0x00 ∷ 0x00 ∷ 0x80 ∷ 0x3f ∷ 0x00 ∷ 0x00 ∷ 0xc8 ∷ 0xc2 ∷ [])
    ++ (0x00 ∷ 0x00 ∷ 0x00 ∷ 0x3f ∷ 0x00 ∷ 0x00 ∷ 0x80 ∷ 0xbf ∷ 0x00 ∷ 0x00 ∷ 0x80 ∷ 0xbf ∷ 0x01 ∷ 0x00 ∷ 0xc0 ∷ 0x7f ∷ [])
    ++ (0x00 ∷ 0x00 ∷ 0x80 ∷ 0x3f ∷ 0x00 ∷ 0x00 ∷ 0x80 ∷ 0x3f ∷ 0x00 ∷ 0x00 ∷ 0x80 ∷ 0x3f ∷ 0x00 ∷ 0x00 ∷ 0xc8 ∷ 0xc2 ∷ [])

-- its listing:
--   nodes 3 5
--   node 0 -32767 -32767 -32767 32767 32767 32767 3 0
--   node 1 16383 -32767 -32767 32767 32767 32767 1 1
--   node 2 -32767 -32767 -32767 -16383 32767 32767 0 1
--   tree 0 -32767 -32767 -32767 32767 32767 32767 0 3
abbrev listed : List ℕ
listed =
    (110 ∷ 111 ∷ 100 ∷ 101 ∷ 115 ∷ 32 ∷ 51 ∷ 32 ∷ 53 ∷ 10 ∷ [])
    ++ (110 ∷ 111 ∷ 100 ∷ 101 ∷ 32 ∷ 48 ∷ 32 ∷ 45 ∷ 51 ∷ 50 ∷ 55 ∷ 54 ∷ 55 ∷ 32 ∷ 45 ∷ 51 ∷ 50 ∷ 55 ∷ 54 ∷ 55
    ∷ 32 ∷ 45 ∷ 51 ∷ 50 ∷ 55 ∷ 54 ∷ 55 ∷ 32 ∷ 51 ∷ 50 ∷ 55 ∷ 54 ∷ 55 ∷ 32 ∷ 51 ∷ 50 ∷ 55 ∷ 54 ∷ 55 ∷ 32 ∷ 51 ∷ 50 ∷ 55 ∷ 54 ∷ 55 ∷ 32 ∷ 51 ∷ 32 ∷ 48 ∷ 10 ∷ [])
    ++ (110 ∷ 111 ∷ 100 ∷ 101 ∷ 32 ∷ 49 ∷ 32 ∷ 49 ∷ 54 ∷ 51 ∷ 56 ∷ 51 ∷ 32 ∷ 45 ∷ 51 ∷ 50 ∷ 55 ∷ 54 ∷ 55
    ∷ 32 ∷ 45 ∷ 51 ∷ 50 ∷ 55 ∷ 54 ∷ 55 ∷ 32 ∷ 51 ∷ 50 ∷ 55 ∷ 54 ∷ 55 ∷ 32 ∷ 51 ∷ 50 ∷ 55 ∷ 54 ∷ 55 ∷ 32 ∷ 51 ∷ 50 ∷ 55 ∷ 54 ∷ 55 ∷ 32 ∷ 49 ∷ 32 ∷ 49 ∷ 10 ∷ [])
    ++ (110 ∷ 111 ∷ 100 ∷ 101 ∷ 32 ∷ 50 ∷ 32 ∷ 45 ∷ 51 ∷ 50 ∷ 55 ∷ 54 ∷ 55 ∷ 32 ∷ 45 ∷ 51 ∷ 50 ∷ 55 ∷ 54 ∷ 55
    ∷ 32 ∷ 45 ∷ 51 ∷ 50 ∷ 55 ∷ 54 ∷ 55 ∷ 32 ∷ 45 ∷ 49 ∷ 54 ∷ 51 ∷ 56 ∷ 51 ∷ 32 ∷ 51 ∷ 50 ∷ 55 ∷ 54 ∷ 55 ∷ 32 ∷ 51 ∷ 50 ∷ 55 ∷ 54 ∷ 55 ∷ 32 ∷
    48 ∷ 32 ∷ 49 ∷ 10 ∷ [])
    ++ (116 ∷ 114 ∷ 101 ∷ 101 ∷ 32 ∷ 48 ∷ 32 ∷ 45 ∷ 51 ∷ 50 ∷ 55 ∷ 54 ∷ 55 ∷ 32 ∷ 45 ∷ 51 ∷ 50 ∷ 55 ∷ 54 ∷ 55
    ∷ 32 ∷ 45 ∷ 51 ∷ 50 ∷ 55 ∷ 54 ∷ 55 ∷ 32 ∷ 51 ∷ 50 ∷ 55 ∷ 54 ∷ 55 ∷ 32 ∷ 51 ∷ 50 ∷ 55 ∷ 54 ∷ 55 ∷ 32 ∷ 51 ∷ 50 ∷ 55 ∷ 54 ∷ 55 ∷ 32 ∷ 48 ∷ 32 ∷ 51 ∷ 10 ∷ [])

pub two_boxes : boxes_text input ≡ listed
unfolding boxes_text listing_of children_of nodes_of trees_of corner_at le_at child_box node_line tree_line counts_line record_line vertex_fields field decimal decimal_of
    tree_of grow grow_f node_of tree_record fold_box average_of below above count_below axis_of chosen group_one group_two two_leads first_group_of second_of quantise_of scale_of_box
    short_of of_count vmin_of vmax_of vmin_word vmax_word Signs.abs_of of_bits add sub mul div lt neg to_signed of_int
two_boxes = refl

-- No box: one leaf, empty, and its box is turned inside out (what the reference gives):
--   nodes 1 1
--   node 0 32766 32766 32766 -32766 -32766 -32766 0 0
--   tree 0 32766 32766 32766 -32766 -32766 -32766 0 1
abbrev nothing : List ℕ
nothing =
    (110 ∷ 111 ∷ 100 ∷ 101 ∷ 115 ∷ 32 ∷ 49 ∷ 32 ∷ 49 ∷ 10 ∷ [])
    ++ (110 ∷ 111 ∷ 100 ∷ 101 ∷ 32 ∷ 48 ∷ 32 ∷ 51 ∷ 50 ∷ 55 ∷ 54 ∷ 54 ∷ 32 ∷ 51 ∷ 50 ∷ 55 ∷ 54 ∷ 54 ∷ 32 ∷ 51 ∷ 50 ∷ 55 ∷ 54 ∷ 54
    ∷ 32 ∷ 45 ∷ 51 ∷ 50 ∷ 55 ∷ 54 ∷ 54 ∷ 32 ∷ 45 ∷ 51 ∷ 50 ∷ 55 ∷ 54 ∷ 54 ∷ 32 ∷ 45 ∷ 51 ∷ 50 ∷ 55 ∷ 54 ∷ 54 ∷ 32 ∷ 48 ∷ 32 ∷ 48 ∷ 10 ∷ [])
    ++ (116 ∷ 114 ∷ 101 ∷ 101 ∷ 32 ∷ 48 ∷ 32 ∷ 51 ∷ 50 ∷ 55 ∷ 54 ∷ 54 ∷ 32 ∷ 51 ∷ 50 ∷ 55 ∷ 54 ∷ 54 ∷ 32 ∷ 51 ∷ 50 ∷ 55 ∷ 54 ∷ 54
    ∷ 32 ∷ 45 ∷ 51 ∷ 50 ∷ 55 ∷ 54 ∷ 54 ∷ 32 ∷ 45 ∷ 51 ∷ 50 ∷ 55 ∷ 54 ∷ 54 ∷ 32 ∷ 45 ∷ 51 ∷ 50 ∷ 55 ∷ 54 ∷ 54 ∷ 32 ∷ 48 ∷ 32 ∷ 49 ∷ 10 ∷ [])

pub no_box_lem : boxes_text [] ≡ nothing
unfolding boxes_text listing_of children_of nodes_of trees_of corner_at le_at child_box node_line tree_line counts_line record_line vertex_fields field decimal decimal_of
    tree_of grow grow_f node_of tree_record fold_box average_of below above count_below axis_of chosen group_one group_two two_leads first_group_of second_of quantise_of scale_of_box
    short_of of_count vmin_of vmax_of vmin_word vmax_word Signs.abs_of of_bits add sub mul div lt neg to_signed of_int
no_box_lem = refl
