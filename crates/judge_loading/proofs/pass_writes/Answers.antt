-- `judge_loading::pass_writes` meets its contract. The invariant: the next field's place is known.
use Rattle.judge_loading.proofs.TestLaws.{columns}
use Rattle.judge_loading.proofs.pass_writes.Goals as goal

pub loop-i-init : goal.loop-i-init
loop-i-init c = search columns

pub loop-i-preserved : goal.loop-i-preserved
loop-i-preserved c = search columns
