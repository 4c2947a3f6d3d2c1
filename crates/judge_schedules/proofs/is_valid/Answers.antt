-- `judge_schedules::is_valid` meets its contract. The invariant: of the flagged writes, those that are no longer left have their rows flagged.
use Rattle.judge_schedules.proofs.ValidLaws.{asking}
use Rattle.judge_schedules.proofs.is_valid.Goals as goal

pub returns-then-row-s : goal.returns-then-row-s
returns-then-row-s c = search asking

pub loop-left-smaller : goal.loop-left-smaller
loop-left-smaller c = search asking

pub loop-left-preserved : goal.loop-left-preserved
loop-left-preserved c = search asking

pub returns : goal.returns
returns c = search asking
