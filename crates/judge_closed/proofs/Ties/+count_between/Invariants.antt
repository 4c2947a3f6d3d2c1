-- `judge_closed::Ties::count_between` meets its contract, by induction on the number of what is free.
use Rattle.judge_closed.proofs.Ties.+count_between.Given as goal

abbrev pub decreases-count_between : goal.decreases-count_between
decreases-count_between l = l.schedules.free
