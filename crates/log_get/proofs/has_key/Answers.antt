-- `log_get::has_key` meets its contract.
use Rattle.log_get.proofs.GetSteps.{gets}
use Rattle.log_get.proofs.has_key.Goals as goal

pub returns-then-b-eq0 : goal.returns-then-b-eq0
returns-then-b-eq0 c = search gets

pub returns : goal.returns
returns c = search gets
