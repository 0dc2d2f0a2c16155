-- `tree_header` meets its contract: by the checks' outcomes, and where both pass three runs of stores are the 128 bytes.
use mathlib.Core.Path.{◌≡◌, refl, sym, ap, ap₂, ◌∙◌}
use mathlib.Core.Bool.{Bool, cond}
use mathlib.Core.List.{List, ◌++◌}
use Prim.Native.Nat.{ℕ}
use lib.Dec.{ltb, eqb}
use lib.ListN.{length}
use borrow.Author.Tests.{lt-ltb, le-ltb}
use Rattle.header.specs.Header.{node_list_bytes, points_bytes, tree_list_bytes, header_bytes, header_answer, header_exit}
use Rattle.header.specs.declared.Bvh.{Bvh}
use Rattle.base.specs.Lists.{over}
use Rattle.base.proofs.LittleEndian.{joined}
use Rattle.header.proofs.Sizes.{node_list_bytes_lem, points_bytes_lem, header_bytes_lem}
use Rattle.base.proofs.StoreLaws.{store_next, sets_over}
use Rattle.header.proofs.tree_header.Goals as goal

-- the answer, by the outcomes of the two checks
answer : (h : Bvh) (out : List ℕ) {many short : Bool} → ltb 65535 h.trees_count ≡ many → ltb (length out) 128 ≡ short
    → header_answer h out ≡ cond many 1 (cond short 2 0)
answer h out m s = ap₂ (λ (many short : Bool). cond many 1 (cond short 2 0)) m s

exit : (h : Bvh) (out : List ℕ) (n : ℕ) → header_answer h out ≡ n → header_exit h out ≡ cond (eqb n 0) (over (header_bytes h) out) out
unfolding header_exit
exit h out n e = ap (λ (k : ℕ). cond (eqb k 0) (over (header_bytes h) out) out) e

pub returns-then-h-gt65535 : goal.returns-then-h-gt65535
returns-then-h-gt65535 c =
    let a = c.args in
    let e = answer a.h a.out.now (lt-ltb _ _ c.if-h-gt65535.true) refl in
    record { answer = sym e; bytes = sym (exit a.h a.out.now 1 e) }

pub returns-then-out-lt128 : goal.returns-then-out-lt128
returns-then-out-lt128 c =
    let a = c.args in
    let e = answer a.h a.out.now (le-ltb _ _ c.if-h-gt65535.false) (lt-ltb _ _ c.if-out-lt128.true) in
    record { answer = sym e; bytes = sym (exit a.h a.out.now 2 e) }

pub returns : goal.returns
unfolding header_bytes
returns c =
    let a = c.args in
    let h = a.h in
    let out = a.out.now in
    let e = answer h out (le-ltb _ _ c.if-h-gt65535.false) (le-ltb _ _ c.if-out-lt128.false) in
    let two = store_next out (node_list_bytes h) (points_bytes h) 0 32 (node_list_bytes_lem h).size c.put_node_list.ensures c.put_points.ensures in
    let three =
    store_next out (node_list_bytes h ++ points_bytes h) (tree_list_bytes h) 0 112 (joined (node_list_bytes_lem h) (points_bytes_lem h)).size two
    c.put_tree_list.ensures in
    record { answer = sym e; bytes = three ∙ sets_over (header_bytes h) out (rw (header_bytes_lem h).size c.if-out-lt128.false) ∙ sym (exit h out 0 e) }
