-- `relation::has_bit` meets its contract: the lowest bit of the shifted mask is the bit that is asked for (`test_bit`).
use Rattle.relation.proofs.ClosureSteps.{steps}
use Rattle.relation.proofs.has_bit.Goals as goal

pub returns : goal.returns
returns c = search steps
