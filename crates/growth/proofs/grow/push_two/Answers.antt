-- `grow::push_two` meets its contract: two stores.
use borrow.Author.Rules.{rules}
use lib.ListN.{length-set}
use Rattle.growth.proofs.grow.push_two.Goals as goal

pub bounds-stack-sp-2 : goal.bounds-stack-sp-2
bounds-stack-sp-2 c = simp length-set (search rules)
