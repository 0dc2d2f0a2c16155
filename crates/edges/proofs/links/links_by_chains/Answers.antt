-- `links_by_chains`: the chains are of the sides, so that what is linked are they; a side that is not there has no link.
use mathlib.Core.Path.{refl, ◌∙◌}
use Rattle.sides.specs.Sides.{key_of, sides_of}
use Rattle.side_chains.proofs.chains.Entering.{still_enterable}
use Rattle.edges.proofs.links.ByChains.{chained, linkable, lows}
use Rattle.edges.proofs.links.Whole.{links_are}
use native.Mathlib.Omega.{arith}
use Rattle.edges.proofs.links.links_by_chains.Goals as goal

pub enter_sides-requires : goal.enter_sides-requires
enter_sides-requires c =
    let z = c.clear in (still_enterable _ _ _ _ _ c.requires.0 z.auto.words refl, λ b h. z.ensures b (omega (arith, h, z.auto.words)))

pub link_chains-requires : goal.link_chains-requires
link_chains-requires c =
    let p = c.requires in
    let z = c.clear-2 in
    let e = c.enter_sides in
    linkable _ _ _ p.0 _ _ _ _ e.ensures (e.auto.heads ∙ c.clear.auto.words) e.auto.nexts (z.auto.words ∙ p.1)
    (omega (arith, p.3, c.clear_links.auto.links)) p.2 (λ b h. omega (arith, z.ensures b (omega (arith, h, z.auto.words))))

pub returns : goal.returns
returns c =
    let p = c.requires in
    let cs = c.args.corners.now in
    let n = c.clear_links in
    let e = c.enter_sides in
    let t = c.link_chains in
    let hl = e.auto.heads ∙ c.clear.auto.words in
    let g = chained cs _ _ e.ensures in
    let w = lows cs _ _ p.0 e.new.heads hl in
    links_are cs p.0.corners (key_of cs) (λ s h. refl) _ _ n.ensures (t.ensures (key_of cs) (sides_of cs) g w)
    (omega (arith, p.3, n.auto.links, t.auto.links))
