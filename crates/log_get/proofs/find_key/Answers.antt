-- `log_get::find_key` meets its contract. The invariant: what is sought up to tail is what is sought up to a.
use Rattle.log_get.proofs.GetSteps.{gets}
use Rattle.log_get.proofs.find_key.Goals as goal

pub loop-a-init : goal.loop-a-init
loop-a-init c = search gets

pub has_key-requires : goal.has_key-requires
has_key-requires c = search gets

pub block_at-requires : goal.block_at-requires
block_at-requires c = search gets

pub returns-then-has_key : goal.returns-then-has_key
returns-then-has_key c = search gets

pub loop-a-preserved : goal.loop-a-preserved
loop-a-preserved c = search gets

pub returns : goal.returns
returns c = search gets
