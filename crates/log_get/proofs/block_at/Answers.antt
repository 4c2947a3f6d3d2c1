-- `log_get::block_at` meets its contract.
use Rattle.log_get.proofs.GetSteps.{gets}
use Rattle.log_get.proofs.block_at.Goals as goal

pub returns : goal.returns
returns c = search gets
