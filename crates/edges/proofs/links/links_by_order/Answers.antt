-- `links_by_order`: the sides have their keys and are in order, so that they can be linked; a side that is not there has no link.
use mathlib.Core.Path.{◌≡◌, sym, ◌∙◌}
use lib.ListN.{length, take}
use lib.Seq.{length-take-le}
use Rattle.sides.specs.Steps.Grouped.{key_in}
use Rattle.edges.proofs.links.Whole.{sides_rise, sides_within, sides_keyed, links_are}
use native.Mathlib.Omega.{arith}
use Rattle.edges.proofs.links.links_by_order.Goals as goal

pub slice_bounds-link_sides-end-2 : goal.slice_bounds-link_sides-end-2
slice_bounds-link_sides-end-2 c =
    let d = c.put_sides-k in
    sym (length-take-le d.result d.new.sides (omega (arith, d.ensures.0, d.auto.sides, c.requires.1.for_sides)))

pub slice_bounds-link_sides-end-4 : goal.slice_bounds-link_sides-end-4
slice_bounds-link_sides-end-4 c =
    let d = c.put_sides-k in
    sym (length-take-le d.result c.args.spare.now (omega (arith, d.ensures.0, c.requires.1.for_spare)))

pub link_sides-requires : goal.link_sides-requires
link_sides-requires c =
    let s = c.args in
    let p = c.requires in
    let k = c.put_keys in
    let d = c.put_sides-k in
    let l = c.clear_links in
    let a : length (take d.result d.new.sides) ≡ d.result =
    length-take-le d.result d.new.sides (omega (arith, d.ensures.0, d.auto.sides, p.1.for_sides)) in
    let b : length (take d.result s.spare.now) ≡ d.result =
    length-take-le d.result s.spare.now (omega (arith, d.ensures.0, p.1.for_spare)) in
    let keyed = sides_keyed _ p.0 k.new.keys (omega (arith, k.auto.keys, p.1.for_keys)) k.ensures in (
      record { few = omega (arith, a, d.ensures.0, p.0.few); keyed = rw d.ensures.1 keyed },
      rw d.ensures.1 (sides_rise _ p.0),
      rw d.ensures.1 (sides_within _ p.0 (length l.new.links) (omega (arith, l.auto.links, p.1.for_links))),
      b ∙ sym a,
    )

pub returns : goal.returns
returns c =
    let p = c.requires in
    let k = c.put_keys in
    let l = c.clear_links in
    let t = c.link_sides in
    let linked = rw c.put_sides-k.ensures.1 at t.ensures in
    links_are _ p.0 (key_in k.new.keys) k.ensures l.new.links t.new.links l.ensures linked
    (omega (arith, t.auto.links, l.auto.links, p.1.for_links))
