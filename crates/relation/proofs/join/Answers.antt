-- `relation::join` meets its contract: one law for each of its two returns.
use Rattle.relation.proofs.ClosureSteps.{steps}
use Rattle.relation.proofs.join.Goals as goal

pub returns-then-has_bit : goal.returns-then-has_bit
returns-then-has_bit c = search steps

pub returns : goal.returns
returns c = search steps
