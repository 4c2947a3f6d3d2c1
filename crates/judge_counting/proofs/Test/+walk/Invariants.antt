-- `judge_counting::Test::walk` meets its contract, by induction on the number of what is free.
use Rattle.judge_counting.proofs.Test.+walk.Given as goal

abbrev pub decreases-walk : goal.decreases-walk
decreases-walk l = l.schedules.free
