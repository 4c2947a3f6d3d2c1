-- `relation::closes_ring` meets its contract: one law for each of its two returns.
use Rattle.relation.proofs.AddedLaws.{closing}
use Rattle.relation.proofs.closes_ring.Goals as goal

pub returns-then-dependents-eq0 : goal.returns-then-dependents-eq0
returns-then-dependents-eq0 c = search closing

pub returns : goal.returns
returns c = search closing
