-- `links_of`: by chains where there is a word for each vertex.
use mathlib.Core.Path.{◌≡◌, sym, ◌∙◌}
use lib.ListN.{length, take}
use lib.Seq.{length-take-le}
use native.Mathlib.Omega.{arith}
use Rattle.edges.proofs.links.links_of.Goals as goal

pub slice_bounds-links_by_chains-end-then-m-corners : goal.slice_bounds-links_by_chains-end-then-m-corners
slice_bounds-links_by_chains-end-then-m-corners c =
    sym (length-take-le c.past_corners-m.result c.args.keys.now (omega (arith, c.if-m-corners.true, c.requires.1.for_keys)))

pub slice_bounds-links_by_chains-end-then-m-corners-3 : goal.slice_bounds-links_by_chains-end-then-m-corners-3
slice_bounds-links_by_chains-end-then-m-corners-3 c =
    sym (length-take-le c.past_corners-m.result c.args.spare.now (omega (arith, c.if-m-corners.true, c.requires.1.for_spare)))

pub links_by_chains-requires : goal.links_by_chains-requires
links_by_chains-requires c =
    let p = c.requires in
    let m = c.past_corners-m in
    let a : length (take m.result c.args.keys.now) ≡ m.result =
    length-take-le m.result c.args.keys.now (omega (arith, c.if-m-corners.true, p.1.for_keys)) in
    let b : length (take m.result c.args.spare.now) ≡ m.result =
    length-take-le m.result c.args.spare.now (omega (arith, c.if-m-corners.true, p.1.for_spare)) in (
      record { corners = p.0; below = λ s h t. omega (arith, m.ensures.1 s h t, a); for_nexts = p.1.for_sides },
      b ∙ sym a,
      omega (arith, a, m.ensures.0),
      p.1.for_links,
    )
