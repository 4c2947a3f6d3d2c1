-- `cache_stores::append` meets its contract: the entry's bytes and the count are those of the definition.
use Rattle.cache_stores.proofs.AppendSteps.{appending}
use Rattle.cache_stores.proofs.append.Goals as goal

pub returns : goal.returns
returns c = search appending
