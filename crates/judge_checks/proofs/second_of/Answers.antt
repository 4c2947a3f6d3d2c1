-- `judge_checks::second_of` meets its contract, by arithmetic.
use native.Mathlib.Omega.{arith}
use Rattle.model.specs.Disk.{second_of}
use mathlib.Core.Path.{refl}
use Rattle.judge_checks.proofs.second_of.Goals as goal

pub returns : goal.returns
unfolding second_of
returns c = (refl, omega arith)
