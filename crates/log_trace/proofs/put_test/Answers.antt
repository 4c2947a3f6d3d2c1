-- `log_trace::put_test` meets its contract: the two programs and the end, written one behind the other, are the test.
use Rattle.log_trace.proofs.ProgramLaws.{faults}
use Rattle.log_trace.proofs.put_test.Goals as goal

pub returns : goal.returns
returns c = search faults
