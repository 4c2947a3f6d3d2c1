-- `judge_settled::later` meets its contract. One law for each return.
use Rattle.judge_settled.proofs.RunLaws.{running}
use Rattle.judge_settled.proofs.later.Goals as goal

pub returns-then-next-tail : goal.returns-then-next-tail
returns-then-next-tail c = search running

pub returns-then-to-next : goal.returns-then-to-next
returns-then-to-next c = search running

pub returns-then-a-next : goal.returns-then-a-next
returns-then-a-next c = search running

pub returns : goal.returns
returns c = search running
