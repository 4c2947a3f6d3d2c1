-- `judge_settled::run_end` meets its contract. One law for each return.
use Rattle.judge_settled.proofs.RunLaws.{running}
use Rattle.judge_settled.proofs.run_end.Goals as goal

pub returns-then-writers-k-ne0 : goal.returns-then-writers-k-ne0
returns-then-writers-k-ne0 c = search running

pub returns-then-base-k-eq0 : goal.returns-then-base-k-eq0
returns-then-base-k-eq0 c = search running

pub returns : goal.returns
returns c = search running
