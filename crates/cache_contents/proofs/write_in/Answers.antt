-- `cache_contents::write_in` meets its contract.
use Rattle.cache_contents.proofs.ContentSteps.{reading}
use Rattle.cache_contents.proofs.write_in.Goals as goal

pub returns : goal.returns
returns c = search reading
