-- `queries::at_box` meets its contract: an arm for each number, and one for all others.
use Rattle.std.proofs.Common.{◌≡◌, ℕ, sym, ap, ◌∙◌, arith, ne_eqb}
use lib.Ieee.{Float, neg}
use Rattle.math.specs.declared.aabb.Aabb.{Aabb}
use Rattle.math.specs.declared.vec3.Vec3.{Vec3}
use Rattle.pairs.specs.Drawing.{between, at_box}
use Rattle.pairs.proofs.queries.at_box.Goals as goal

at_key : (n k : ℕ) (near : Aabb) (grain : Float) → k ≡ n → at_box n near grain ≡ at_box k near grain
at_key n k near grain e = sym (ap (λ (j : ℕ). at_box j near grain) e)

other : (k : ℕ) (near : Aabb) (grain : Float) → (k ≡ 6 → ⊥) → (k ≡ 7 → ⊥) → (k ≡ 8 → ⊥) → (k ≡ 9 → ⊥) → (k ≡ 10 → ⊥)
    → between near.max near.max ≡ at_box k near grain
unfolding at_box
other k near grain a b d e f = rw (ne_eqb k 6 a, ne_eqb k 7 b, ne_eqb k 8 d, ne_eqb k 9 e, ne_eqb k 10 f)

pub returns-in-6 : goal.returns-in-6
unfolding at_box
returns-in-6 c =
    let a = c.args in
    at_key 6 a.k a.near _ (omega arith)

pub returns-in-7 : goal.returns-in-7
unfolding at_box
returns-in-7 c =
    let a = c.args in
    ap (between a.near.max) c.vadd_f.ensures ∙ at_key 7 a.k a.near _ (omega arith)

pub returns-in-8 : goal.returns-in-8
unfolding at_box neg
returns-in-8 c =
    let a = c.args in
    ap (λ (v : Vec3). between v a.near.min) c.vadd_f-in-8.ensures ∙ at_key 8 a.k a.near _ (omega arith)

pub returns-in-9 : goal.returns-in-9
unfolding at_box
returns-in-9 c =
    let a = c.args in
    at_key 9 a.k a.near _ (omega arith)

pub returns-in-10 : goal.returns-in-10
unfolding at_box
returns-in-10 c =
    let a = c.args in
    at_key 10 a.k a.near _ (omega arith)

pub returns-in_default : goal.returns-in_default
returns-in_default c =
    let a = c.args in
    other a.k a.near _
    (λ e. omega arith) (λ e. omega arith) (λ e. omega arith) (λ e. omega arith) (λ e. omega arith)
