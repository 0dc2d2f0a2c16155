-- `put_lists`: list after list, each behind the one before (`Put`), and then the zeros.
use mathlib.Core.List.{[], ◌∷◌}
use Rattle.octant_bytes.proofs.Laying.{none_put, put1, put2, put3, put4, put5, put6, put7, put8, fits, zeros_fit, zeros_put}
use Rattle.octant_bytes.proofs.put_lists.Goals as goal

-- ---- what is asked, and what is left
pub put_list-a1-requires : goal.put_list-a1-requires
put_list-a1-requires c =
    let a = c.args in
    fits _ (a.l1.now ∷ a.l2.now ∷ a.l3.now ∷ a.l4.now ∷ a.l5.now ∷ a.l6.now ∷ a.l7.now ∷ []) _ _ _ _ (none_put _) c.requires

pub put_list-a2-requires : goal.put_list-a2-requires
put_list-a2-requires c =
    let a = c.args in
    fits _ (a.l2.now ∷ a.l3.now ∷ a.l4.now ∷ a.l5.now ∷ a.l6.now ∷ a.l7.now ∷ []) _ _ _ _ (put1 c.put_list-a1.ensures) c.requires

pub put_list-a3-requires : goal.put_list-a3-requires
put_list-a3-requires c =
    let a = c.args in
    fits _ (a.l3.now ∷ a.l4.now ∷ a.l5.now ∷ a.l6.now ∷ a.l7.now ∷ []) _ _ _ _ (put2 c.put_list-a1.ensures c.put_list-a2.ensures) c.requires

pub put_list-a4-requires : goal.put_list-a4-requires
put_list-a4-requires c =
    let a = c.args in
    fits _ (a.l4.now ∷ a.l5.now ∷ a.l6.now ∷ a.l7.now ∷ []) _ _ _ _ (put3 c.put_list-a1.ensures c.put_list-a2.ensures c.put_list-a3.ensures) c.requires

pub put_list-a5-requires : goal.put_list-a5-requires
put_list-a5-requires c =
    let a = c.args in
    fits _ (a.l5.now ∷ a.l6.now ∷ a.l7.now ∷ []) _ _ _ _ (put4 c.put_list-a1.ensures c.put_list-a2.ensures c.put_list-a3.ensures c.put_list-a4.ensures) c.requires

pub put_list-a6-requires : goal.put_list-a6-requires
put_list-a6-requires c =
    let a = c.args in
    fits _ (a.l6.now ∷ a.l7.now ∷ []) _ _ _ _ (put5 c.put_list-a1.ensures c.put_list-a2.ensures c.put_list-a3.ensures c.put_list-a4.ensures c.put_list-a5.ensures) c.requires

pub put_list-a7-requires : goal.put_list-a7-requires
put_list-a7-requires c =
    let a = c.args in
    fits _ (a.l7.now ∷ []) _ _ _ _ (put6 c.put_list-a1.ensures c.put_list-a2.ensures c.put_list-a3.ensures c.put_list-a4.ensures c.put_list-a5.ensures c.put_list-a6.ensures) c.requires

pub put_list-a8-requires : goal.put_list-a8-requires
put_list-a8-requires c =
    fits _ [] _ _ _ _ (put7 c.put_list-a1.ensures c.put_list-a2.ensures c.put_list-a3.ensures c.put_list-a4.ensures c.put_list-a5.ensures c.put_list-a6.ensures c.put_list-a7.ensures) c.requires

pub put_le-requires : goal.put_le-requires
put_le-requires c =
    zeros_fit _ _ _ _ (put8 c.put_list-a1.ensures c.put_list-a2.ensures c.put_list-a3.ensures c.put_list-a4.ensures c.put_list-a5.ensures c.put_list-a6.ensures c.put_list-a7.ensures c.put_list-a8.ensures) c.requires

pub returns : goal.returns
returns c =
    zeros_put _ _ _ _ _ (put8 c.put_list-a1.ensures c.put_list-a2.ensures c.put_list-a3.ensures c.put_list-a4.ensures c.put_list-a5.ensures c.put_list-a6.ensures c.put_list-a7.ensures c.put_list-a8.ensures) c.put_le.ensures
