-- `cache_stores::put_entry` meets its contract: the write's bytes and a flag behind them are the entry's.
use Rattle.cache_stores.proofs.AppendSteps.{appending}
use Rattle.cache_stores.proofs.put_entry.Goals as goal

pub put-requires : goal.put-requires
put-requires c = search appending

pub returns : goal.returns
returns c = search appending
