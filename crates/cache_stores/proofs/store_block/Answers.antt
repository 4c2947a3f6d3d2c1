-- `cache_stores::store_block` meets its contract: block a stands at 4a.
use Rattle.cache_stores.proofs.StoreSteps.{storing_steps}
use Rattle.cache_stores.proofs.store_block.Goals as goal

pub returns : goal.returns
returns c = search storing_steps
