-- `child_box` meets its contract: by the two tests. The words of child k are those of the first child from k on (`first-of-rest`).
use mathlib.Core.Bool.{and-false}
use Rattle.std.specs.Prelude.{◌≡◌, ℕ, ◌+◌, ◌-◌, ◌*◌, ◌/◌, ◌<◌, ◌≤◌, List, length, get_or, take, drop}
use mathlib.Core.Path.{ap, ◌∙◌}
use lib.Ieee.{binary32, of_bits}
use lib.Seq.{get_or-take, get_or-drop}
use native.Mathlib.Omega.{arith}
use borrow.Author.Tests.{lt-ltb, le-ltb, eq-eqb, ne_eqb}
use Rattle.entries.specs.Boxes.{point_at}
use Rattle.math.specs.Stored.{values_of}
use Rattle.math.specs.Transform.{transform_box}
use Rattle.composite.specs.Children.{row_at, matrix_at, computed_box, child_box_of}
use Rattle.composite.proofs.children.child_box.Goals as goal

module _ (ws : List ℕ) (n m : ℕ) where
  word : (i j : ℕ) → i < m → n + i ≡ j → get_or (take m (drop n ws)) i 0 ≡ get_or ws j 0
  word i j h e = get_or-take m (drop n ws) i 0 h ∙ get_or-drop n ws i 0 ∙ ap (λ (x : ℕ). get_or ws x 0) e

  point-of-rest : (i j : ℕ) → i + 3 ≤ m → n + i ≡ j → point_at (take m (drop n ws)) i ≡ point_at ws j
  point-of-rest i j h e =
      λ t. record {
        x = word i j (omega arith) e t;
        y = word (i + 1) (j + 1) (omega arith) (omega arith) t;
        z = word (i + 2) (j + 2) (omega arith) (omega arith) t;
      }

  row-of-rest : (i j : ℕ) → i + 4 ≤ m → n + i ≡ j → row_at (take m (drop n ws)) i ≡ row_at ws j
  row-of-rest i j h e =
      λ t. record {
        x = of_bits binary32 (word i j (omega arith) e t);
        y = of_bits binary32 (word (i + 1) (j + 1) (omega arith) (omega arith) t);
        z = of_bits binary32 (word (i + 2) (j + 2) (omega arith) (omega arith) t);
        w = of_bits binary32 (word (i + 3) (j + 3) (omega arith) (omega arith) t);
      }

first-of-rest : (ws : List ℕ) (k m : ℕ) → 24 ≤ m → computed_box (take m (drop (24 * k) ws)) 0 ≡ computed_box ws k
unfolding computed_box matrix_at
first-of-rest ws k m h =
    let n = 24 * k in
    λ t. transform_box
    (record {
      min = values_of (point-of-rest ws n m 1 (n + 1) (omega arith) (omega arith) t);
      max = values_of (point-of-rest ws n m 4 (n + 1 + 3) (omega arith) (omega arith) t);
    })
    (record {
      row0 = row-of-rest ws n m 8 (n + 8) (omega arith) (omega arith) t;
      row1 = row-of-rest ws n m 12 (n + 8 + 4) (omega arith) (omega arith) t;
      row2 = row-of-rest ws n m 16 (n + 8 + 8) (omega arith) (omega arith) t;
      row3 = row-of-rest ws n m 20 (n + 8 + 12) (omega arith) (omega arith) t;
    })

pub returns-then-k-children : goal.returns-then-k-children
unfolding child_box_of
returns-then-k-children c =
    rw (le-ltb c.args.k (length c.args.children.now / 24) c.if-k-children.true) c.no_box.ensures

pub returns-then-children-k-eq0 : goal.returns-then-children-k-eq0
unfolding child_box_of
returns-then-children-k-eq0 c = rw (eq-eqb _ _ c.if-children-k-eq0.true, and-false) c.no_box-then-children-k-eq0.ensures

pub returns : goal.returns
unfolding child_box_of
returns c =
    let words = c.args.children.now in
    let k = c.args.k in
    let b = c.computed_box-b.ensures ∙ first-of-rest words k (length words - 24 * k) (omega (arith, c.if-k-children.false)) in
    rw (lt-ltb c.args.k (length c.args.children.now / 24) c.if-k-children.false, ne_eqb _ _ c.if-children-k-eq0.false)
    (λ i. record { present = 1; min = (b i).min; max = (b i).max })
