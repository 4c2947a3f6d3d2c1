-- `log_get::get` meets its contract, one law for each of its returns.
use Rattle.log_get.proofs.GetSteps.{gets}
use Rattle.log_get.proofs.get.Goals as goal

pub returns-then-disk-ne-DISK_LENGTH : goal.returns-then-disk-ne-DISK_LENGTH
returns-then-disk-ne-DISK_LENGTH c = search gets

pub returns-then-is_damaged : goal.returns-then-is_damaged
returns-then-is_damaged c = search gets

pub returns-in-Some : goal.returns-in-Some
returns-in-Some c = search gets

pub returns-in-None : goal.returns-in-None
returns-in-None c = search gets
