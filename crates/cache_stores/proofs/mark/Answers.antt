-- `cache_stores::mark` meets its contract: the two bytes are those of the definition.
use Rattle.cache_stores.proofs.StoreSteps.{storing_steps}
use Rattle.cache_stores.proofs.mark.Goals as goal

pub returns : goal.returns
returns c = search storing_steps
