-- `cache_steps::ready` meets its contract. The invariant: of the waiting writes those that are no longer left are not ready.
use Rattle.cache_steps.proofs.StepLaws.{readying}
use Rattle.cache_steps.proofs.ready.Goals as goal

pub returns-then-row-mask : goal.returns-then-row-mask
returns-then-row-mask c = search readying

pub loop-left-smaller : goal.loop-left-smaller
loop-left-smaller c = search readying

pub loop-left-preserved : goal.loop-left-preserved
loop-left-preserved c = search readying

pub returns : goal.returns
returns c = search readying
