-- `shrunk` meets its contract: a case of the enum each, told by the match.
use Rattle.shrink_answers.proofs.shrunk.Goals as goal

pub returns-in-ByMargin : goal.returns-in-ByMargin
returns-in-ByMargin c = rw c.in-ByMargin.is

pub returns-in-ByNormals : goal.returns-in-ByNormals
returns-in-ByNormals c = rw c.in-ByNormals.is c.without.ensures

pub returns-in-NoVertices : goal.returns-in-NoVertices
returns-in-NoVertices c = rw c.in-NoVertices.is c.without-in-NoVertices.ensures
