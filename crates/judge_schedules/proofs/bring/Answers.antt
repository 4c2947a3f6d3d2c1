-- `judge_schedules::bring` meets its contract. The invariant: the set is part of every valid schedule that has write i.
use Rattle.judge_schedules.proofs.ValidLaws.{bringing}
use Rattle.judge_schedules.proofs.bring.Goals as goal

pub loop-set-init : goal.loop-set-init
loop-set-init c = search bringing

pub loop-set-smaller : goal.loop-set-smaller
loop-set-smaller c = search bringing

pub loop-set-preserved : goal.loop-set-preserved
loop-set-preserved c = search bringing
