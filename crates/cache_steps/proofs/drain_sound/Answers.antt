-- `cache_steps::drain_sound` meets its contract. The invariant: the state is sound, rows has its needs and done its stored writes, and after so many rounds state and disk are those after so many steps, in their order.
use Rattle.cache_steps.proofs.StepLaws.{draining}
use Rattle.cache_steps.proofs.drain_sound.Goals as goal

pub bounds-state-1 : goal.bounds-state-1
bounds-state-1 c = search draining

pub bounds-state-2 : goal.bounds-state-2
bounds-state-2 c = search draining

pub loop-n-init : goal.loop-n-init
loop-n-init c = search draining

pub loop-n-preserved : goal.loop-n-preserved
loop-n-preserved c = (search draining, search draining, search draining, search draining, search draining, search draining, search draining, search draining)

pub returns : goal.returns
returns c = search draining
