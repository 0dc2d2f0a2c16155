-- `groups::two_leads` meets its contract: the sizes alone decide.
use Rattle.split.specs.Rule.{two_leads}
use Rattle.split.proofs.groups.two_leads.Goals as goal

pub returns : goal.returns
unfolding two_leads
returns c at one two e f = rw (e, f)
