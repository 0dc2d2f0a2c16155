-- `link_chains`: the sides whose lower corner is below a are linked, whatever the sides are that the chains are of.
use mathlib.Core.Path.{refl, ◌∙◌}
use Rattle.side_chains.proofs.walk.Linking.{start, walkable, one_chain, ended}
use native.Mathlib.Omega.{arith}
use Rattle.side_chains.proofs.walk.link_chains.Goals as goal

pub loop-a-init : goal.loop-a-init
loop-a-init c = (refl, refl, c.requires.old, λ key ss g. start _ _ _)

pub overflow_cast-a : goal.overflow_cast-a
overflow_cast-a c = omega (arith, c.requires.few)

pub overflow_mul-a : goal.overflow_mul-a
overflow_mul-a c = omega (arith, c.requires.few)

pub link_chain-requires : goal.link_chain-requires
link_chain-requires c =
    let l = c.loop-a in walkable _ _ _ (omega arith) _ _ _ _ c.requires l.invariant.0 l.invariant.1 l.invariant.2

pub loop-a-preserved : goal.loop-a-preserved
loop-a-preserved c =
    let l = c.loop-a in
    let t = c.link_chain in (
      t.auto.firsts ∙ l.invariant.0,
      t.auto.links ∙ l.invariant.1,
      (λ b h. omega (arith, t.ensures.newer b h)),
      (λ key ss g. one_chain _ _ _ (omega arith) key ss g _ _ _ (l.invariant.3 key ss g) t.ensures.linked),
    )

pub returns : goal.returns
returns c = λ key ss g w. ended _ _ _ _ _ _ (c.loop-a.invariant.3 key ss g) (omega arith) w
