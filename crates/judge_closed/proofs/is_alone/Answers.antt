-- `judge_closed::is_alone` meets its contract. By what a shifted one is.
use Rattle.judge_closed.proofs.OrderLaws.{ordering}
use Rattle.judge_closed.proofs.is_alone.Goals as goal

pub returns : goal.returns
returns c = search ordering
