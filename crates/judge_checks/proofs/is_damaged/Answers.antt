-- `judge_checks::is_damaged` meets its contract, one law for each of its returns.
use Rattle.judge_checks.proofs.CheckSteps.{checking}
use Rattle.judge_checks.proofs.is_damaged.Goals as goal

pub returns-then-head-tail : goal.returns-then-head-tail
returns-then-head-tail c = search checking

pub returns : goal.returns
returns c = search checking
