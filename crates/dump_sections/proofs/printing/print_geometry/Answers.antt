-- `printing::print_geometry`: each section has its lengths.
use Rattle.dump_sections.proofs.printing.print_geometry.Goals as goal

pub hull_lines-requires : goal.hull_lines-requires
hull_lines-requires c =
    let h = c.requires in
    (h.0.1, h.6, h.7, h.8)
