-- `judge_checks::pointer_holds` meets its contract, one law for each of its returns.
use Rattle.judge_checks.proofs.CheckSteps.{checking}
use Rattle.judge_checks.proofs.pointer_holds.Goals as goal

pub returns-then-b-eq0 : goal.returns-then-b-eq0
returns-then-b-eq0 c = search checking

pub returns-then-to-gt-LAST_BLOCK : goal.returns-then-to-gt-LAST_BLOCK
returns-then-to-gt-LAST_BLOCK c = search checking

pub returns : goal.returns
returns c = search checking
