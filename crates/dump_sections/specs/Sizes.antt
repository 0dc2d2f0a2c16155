-- How large a mesh of an input is. Definitions only.
use Rattle.std.specs.Prelude.{◌≤◌}
use Rattle.meshes.specs.declared.Counts.{Counts}

-- 8,192 bytes have room for so many records of a polygon, with the number of its material, or so many vertices.
abbrev pub Small : Counts → Type 0
Small c = (c.polygons ≤ 473) × (c.vertices ≤ 670)
