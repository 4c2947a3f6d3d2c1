-- `judge_schedules::complete` meets its contract. The invariant: the first i rows are turned, and the table makes the same schedules valid.
use Rattle.judge_schedules.proofs.ValidLaws.{completing}
use Rattle.judge_schedules.proofs.complete.Goals as goal

pub loop-i-preserved : goal.loop-i-preserved
loop-i-preserved c = search completing
