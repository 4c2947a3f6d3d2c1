-- `judge_checks::first_of` meets its contract, by arithmetic.
use native.Mathlib.Omega.{arith}
use Rattle.model.specs.Disk.{first_of}
use mathlib.Core.Path.{refl}
use Rattle.judge_checks.proofs.first_of.Goals as goal

pub returns : goal.returns
unfolding first_of
returns c = (refl, omega arith)
