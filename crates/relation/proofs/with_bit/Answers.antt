-- `relation::with_bit` meets its contract: to join a power of two is to set its bit (`set-bit`).
use Rattle.relation.proofs.ClosureSteps.{steps}
use Rattle.relation.proofs.with_bit.Goals as goal

pub returns : goal.returns
returns c = search steps
