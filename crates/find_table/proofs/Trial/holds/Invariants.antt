-- `find_table::Trial::holds` meets its contract. The invariant: the checks before hold.
use mathlib.Core.Path.{◌≡◌}
use mathlib.Core.Bool.{true}
use lib.ListN.{take}
use Rattle.model.specs.Check.{consistent}
use Rattle.find_table.proofs.Trial.holds.Given as goal

abbrev pub invariant-loop-check : goal.invariant-loop-check
invariant-loop-check l = consistent (take l.check-index l.check-items) l.disk ≡ true
