-- `cache_soundness::all_covered` meets its contract. The invariant: the rows below i are covered.
use Rattle.cache_soundness.proofs.PartSteps.{covering}
use Rattle.cache_soundness.proofs.all_covered.Goals as goal

pub loop-i-init : goal.loop-i-init
loop-i-init c = search covering

pub returns-then-not-row_covered : goal.returns-then-not-row_covered
returns-then-not-row_covered c = search covering

pub loop-i-preserved : goal.loop-i-preserved
loop-i-preserved c = (search covering, search covering)
