-- `cache_handin::fault_behind` meets its contract: one law for each of its returns.
use Rattle.cache_handin.proofs.HandInSteps.{behind}
use Rattle.cache_handin.proofs.fault_behind.Goals as goal

pub returns-then-dependents-stored-ne0 : goal.returns-then-dependents-stored-ne0
returns-then-dependents-stored-ne0 c = search behind

pub returns-then-closes_ring : goal.returns-then-closes_ring
returns-then-closes_ring c = search behind

pub returns : goal.returns
returns c = search behind
