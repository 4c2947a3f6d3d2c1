-- `judge_schedules::with_rows` meets its contract. The invariant: those that are no longer left have their rows in the set.
use Rattle.judge_schedules.proofs.ValidLaws.{widening}
use Rattle.judge_schedules.proofs.with_rows.Goals as goal

pub loop-left-init : goal.loop-left-init
loop-left-init c = search widening

pub loop-left-smaller : goal.loop-left-smaller
loop-left-smaller c = search widening

pub loop-left-preserved : goal.loop-left-preserved
loop-left-preserved c = search widening

pub returns : goal.returns
returns c = search widening
