-- `cache_stores::put_write` meets its contract: four runs of bytes, one behind the other, are the write's.
use Rattle.cache_stores.proofs.AppendSteps.{appending}
use Rattle.cache_stores.proofs.put_write.Goals as goal

pub returns : goal.returns
returns c = search appending
