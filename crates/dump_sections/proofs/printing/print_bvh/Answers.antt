-- `printing::print_bvh`: each section has its lengths.
use Rattle.dump_sections.proofs.printing.print_bvh.Goals as goal

pub tree_lines-requires : goal.tree_lines-requires
tree_lines-requires c =
    let h = c.requires in
    (h.0.0, h.6, h.7, h.8)
