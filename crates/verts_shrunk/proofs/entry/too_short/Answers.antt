-- `entry::too_short` meets its contract: the tests are the definition's, in its order.
use borrow.Author.Rules.{rules}
use borrow.Author.Tests.{tests}
use Rattle.verts_shrunk.specs.Answers.{short}
use Rattle.verts_shrunk.proofs.entry.too_short.Goals as goal

pub returns-then-l-rows : goal.returns-then-l-rows
unfolding short
returns-then-l-rows c = search (rules, tests)

pub returns-else-l-rows : goal.returns-else-l-rows
unfolding short
returns-else-l-rows c = search (rules, tests)
