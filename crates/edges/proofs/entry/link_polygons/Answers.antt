-- `link_polygons`: the links of the corners that are unpacked, by the laws of Linking.
use native.Mathlib.Omega.{arith}
use Prim.Native.Nat.{◌*◌}
use mathlib.Core.Path.{sym}
use lib.Seq.{length-take-le}
use Rattle.edges.proofs.entry.Linking.{length_unpacked, fit, stored}
use Rattle.edges.proofs.entry.link_polygons.Goals as goal

pub slice_bounds-links_of-end-2 : goal.slice_bounds-links_of-end-2
slice_bounds-links_of-end-2 c = sym (length_unpacked _ _ _ _ c.unpack_corners.ensures)

pub links_of-requires : goal.links_of-requires
links_of-requires c =
    let p = c.requires in
    let e = c.unpack_corners.ensures in
    let s = c.args in
    let l = length_unpacked s.n s.polygons.now s.corners.now c.unpack_corners.new.corners e in (
      fit _ _ _ _ e p.few,
      record {
        for_keys = omega (arith, l, p.for_keys);
        for_sides = omega (arith, l, p.for_sides);
        for_spare = omega (arith, l, p.for_spare);
        for_links = omega (arith, l, p.for_links);
      },
    )

pub slice_bounds-put_links-end-2 : goal.slice_bounds-put_links-end-2
slice_bounds-put_links-end-2 c =
    let t = c.links_of in
    sym (length-take-le _ t.new.links (omega (arith, t.auto.links, c.requires.for_links)))

pub put_links-requires : goal.put_links-requires
put_links-requires c =
    let t = c.links_of in
    let l = length-take-le (3 * c.args.n) t.new.links (omega (arith, t.auto.links, c.requires.for_links)) in
    (c.requires.records, omega (arith, l))

pub returns : goal.returns
returns c =
    stored _ _ _ _ c.unpack_corners.ensures _ _ c.links_of.ensures c.put_links.ensures
