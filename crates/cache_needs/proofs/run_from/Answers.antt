-- `cache_needs::run_from` meets its contract. The invariant: the rules from k to end are joined.
use Rattle.cache_needs.proofs.NeedSteps.{runs}
use Rattle.cache_needs.proofs.run_from.Goals as goal

pub loop-end-init : goal.loop-end-init
loop-end-init c = search runs

pub loop-end-preserved : goal.loop-end-preserved
loop-end-preserved c = (search runs, search runs, search runs)
