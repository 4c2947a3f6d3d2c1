-- `cache_soundness::row_covered` meets its contract: one law for each of its returns.
use Rattle.cache_soundness.proofs.PartSteps.{covering}
use Rattle.cache_soundness.proofs.row_covered.Goals as goal

pub returns-then-has_bit : goal.returns-then-has_bit
returns-then-has_bit c = search covering

pub returns : goal.returns
returns c = search covering
