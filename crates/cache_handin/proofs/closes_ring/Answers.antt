-- `cache_handin::closes_ring` meets its contract: nothing depends on the new write, or what it needs is followed.
use Rattle.cache_handin.proofs.HandInSteps.{behind}
use Rattle.cache_handin.proofs.closes_ring.Goals as goal

pub returns-then-dependents-eq0 : goal.returns-then-dependents-eq0
returns-then-dependents-eq0 c = search behind

pub returns : goal.returns
returns c = search behind
