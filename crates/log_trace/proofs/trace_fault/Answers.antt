-- `log_trace::trace_fault` meets its contract, one law for each of its returns.
use Rattle.log_trace.proofs.ProgramLaws.{faults}
use Rattle.relation.proofs.Cases.{calls}
use Rattle.log_trace.specs.Traced.{trace_fault}
use Rattle.log_trace.proofs.trace_fault.Goals as goal

pub returns-then-initial-ne0 : goal.returns-then-initial-ne0
unfolding trace_fault
returns-then-initial-ne0 c = search calls

pub returns-then-main-ne0 : goal.returns-then-main-ne0
unfolding trace_fault
returns-then-main-ne0 c = search calls

pub returns-then-n-gt-MOST_INITIAL_PUTS : goal.returns-then-n-gt-MOST_INITIAL_PUTS
unfolding trace_fault
returns-then-n-gt-MOST_INITIAL_PUTS c = search calls

pub returns-then-m-gt-MOST_MAIN_PUTS : goal.returns-then-m-gt-MOST_MAIN_PUTS
unfolding trace_fault
returns-then-m-gt-MOST_MAIN_PUTS c = search calls

pub returns-then-has_empty : goal.returns-then-has_empty
returns-then-has_empty c = search faults

pub returns-then-has_empty-2 : goal.returns-then-has_empty-2
returns-then-has_empty-2 c = search faults

pub returns-then-room-n : goal.returns-then-room-n
returns-then-room-n c = search faults

pub returns : goal.returns
returns c = search faults
