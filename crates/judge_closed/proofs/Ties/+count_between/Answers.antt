-- `judge_closed::Ties::count_between` meets its contract, by induction on the number of what is free.
use Rattle.judge_closed.proofs.ClosedLaws.{counting}
use Rattle.judge_closed.proofs.Ties.+count_between.Goals as goal

pub returns-then-schedules-eq0 : goal.returns-then-schedules-eq0
returns-then-schedules-eq0 t c = search counting

pub count_between-out-requires : goal.count_between-out-requires
count_between-out-requires t c = search counting

pub overflow_mul-result : goal.overflow_mul-result
overflow_mul-result t c = search counting

pub returns-then-is_untied : goal.returns-then-is_untied
returns-then-is_untied t c = search counting

pub count_between-requires : goal.count_between-requires
count_between-requires t c = search counting

pub overflow_add-result : goal.overflow_add-result
overflow_add-result t c = search counting

pub returns : goal.returns
returns t c = search counting
