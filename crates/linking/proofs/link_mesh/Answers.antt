-- `link_mesh` meets its contract: the corners that are unpacked, the links of them, and both in the written records (Meshing).
use Prim.Native.Nat.{◌*◌}
use native.Mathlib.Omega.{arith}
use mathlib.Core.Path.{sym}
use lib.Seq.{length-take-le}
use Rattle.linking.proofs.Meshing.{length_unpacked, fit, meshed}
use Rattle.linking.proofs.link_mesh.Goals as goal

pub slice_bounds-links_of-end-2 : goal.slice_bounds-links_of-end-2
slice_bounds-links_of-end-2 c = sym (length_unpacked _ _ _ _ c.unpack_corners.ensures)

pub links_of-requires : goal.links_of-requires
links_of-requires c =
    let p = c.requires in
    let e = c.unpack_corners.ensures in
    let s = c.args in
    let l = length_unpacked s.n s.polygons.now s.corners.now c.unpack_corners.new.corners e in (
      fit _ _ _ _ e p.few,
      record {
        for_keys = omega (arith, l, p.for_keys);
        for_sides = omega (arith, l, p.for_sides);
        for_spare = omega (arith, l, p.for_spare);
        for_links = omega (arith, l, p.for_links);
      },
    )

pub slice_bounds-put_links-end-2 : goal.slice_bounds-put_links-end-2
slice_bounds-put_links-end-2 c =
    sym (length-take-le _ c.links_of.new.links (omega (arith, c.links_of.auto.links, c.requires.for_links)))

pub put_links-requires : goal.put_links-requires
put_links-requires c =
    let l =
    length-take-le (3 * c.args.n) c.links_of.new.links
    (omega (arith, c.links_of.auto.links, c.requires.for_links)) in
    let w = c.put_written.auto.out in
    (omega (arith, w, c.requires.for_out), omega (arith, l))

pub returns : goal.returns
returns c =
    meshed _ _ _ _ c.unpack_corners.ensures _ c.links_of.ensures _ _ _ c.put_written.ensures
    c.put_links.ensures
