-- `judge_closed::order` meets its contract. By the tables of each write, filled from closed rows.
use Rattle.judge_closed.proofs.OrderLaws.{ordering}
use Rattle.judge_closed.proofs.order.Goals as goal

pub returns : goal.returns
returns c = search ordering
