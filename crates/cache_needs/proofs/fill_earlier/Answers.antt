-- `cache_needs::fill_earlier` meets its contract. The invariant: the first i rows are filled in, and last has the last of these writes to each address.
use Rattle.cache_needs.proofs.TableSteps.{earlier}
use Rattle.cache_needs.proofs.fill_earlier.Goals as goal

pub loop-i-init : goal.loop-i-init
loop-i-init c = search earlier

pub loop-i-preserved : goal.loop-i-preserved
loop-i-preserved c = (search earlier, search earlier, search earlier, search earlier)
