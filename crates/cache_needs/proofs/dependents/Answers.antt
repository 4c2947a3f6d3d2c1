-- `cache_needs::dependents` meets its contract. The invariant: the mask has what depends on w by the first k rules.
use Rattle.cache_needs.proofs.NeedSteps.{needing}
use Rattle.cache_needs.proofs.dependents.Goals as goal

pub loop-k-init : goal.loop-k-init
loop-k-init c = (search needing, λ addresses. search needing)

pub loop-k-preserved : goal.loop-k-preserved
loop-k-preserved c = (search needing, λ addresses. search needing)
