-- `answer::matrix` meets its contract: what the calls ensure, row by row.
use Rattle.std.proofs.Common.{◌≡◌, ◌∙◌, ap₂}
use Rattle.math.specs.declared.mat4.Vec4.{Vec4}
use Rattle.math.specs.declared.mat4.Mat4.{Mat4}
use Rattle.replay.proofs.answer.matrix.Goals as goal

abbrev rows : Vec4 → Vec4 → Vec4 → Vec4 → Mat4
rows a b c d = record { row0 = a; row1 = b; row2 = c; row3 = d }

rows_same : {x x' y y' z z' w w' : Vec4} → x ≡ x' → y ≡ y' → z ≡ z' → w ≡ w' → rows x y z w ≡ rows x' y' z' w'
rows_same {x} {x'} {y} {y'} {z} {z'} {w} {w'} p q r s =
    ap₂ (λ (a b : Vec4). rows a b z w) p q ∙ ap₂ (λ (a b : Vec4). rows x' y' a b) r s

pub returns : goal.returns
returns c = rows_same c.row.ensures c.row-2.ensures c.row-3.ensures c.row-4.ensures
