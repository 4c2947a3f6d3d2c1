-- `judge_loading::load_writes` meets its contract. The invariant: the first i writes are in the columns, and the next field's place is known.
use Rattle.judge_loading.proofs.TestLaws.{columns}
use Rattle.judge_loading.proofs.load_writes.Goals as goal

pub loop-i-init : goal.loop-i-init
loop-i-init c = search columns

pub loop-i-preserved : goal.loop-i-preserved
loop-i-preserved c = (search columns, search columns, search columns, search columns)

pub returns : goal.returns
returns c = search columns
