-- `judge_checks::range_at` meets its contract, by the contract of `range_holds`.
use Rattle.judge_checks.proofs.CheckSteps.{checking}
use Rattle.judge_checks.proofs.range_at.Goals as goal

pub returns : goal.returns
returns c = search checking
