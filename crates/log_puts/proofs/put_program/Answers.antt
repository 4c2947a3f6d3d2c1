-- `log_puts::put_program` meets its contract. The invariant: the fields of the first i puts are written, each in as many bytes.
use Rattle.log_puts.proofs.PutSteps.{putting}
use Rattle.log_puts.proofs.put_program.Goals as goal

pub loop-i-init : goal.loop-i-init
loop-i-init c = search putting

pub loop-i-preserved : goal.loop-i-preserved
loop-i-preserved c = search putting
