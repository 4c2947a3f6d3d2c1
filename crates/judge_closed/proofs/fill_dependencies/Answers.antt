-- `judge_closed::fill_dependencies` meets its contract. The invariant: the first i entries are filled.
use Rattle.judge_closed.proofs.OrderLaws.{ordering}
use Rattle.judge_closed.proofs.fill_dependencies.Goals as goal

pub loop-i-preserved : goal.loop-i-preserved
loop-i-preserved c = (search ordering, search ordering)
