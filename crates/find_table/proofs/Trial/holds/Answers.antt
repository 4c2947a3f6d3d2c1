-- `find_table::Trial::holds` meets its contract. The invariant: the checks before hold.
use Rattle.find_table.proofs.TableSteps.{marking}
use Rattle.find_table.proofs.Trial.holds.Goals as goal

pub loop-check-init : goal.loop-check-init
loop-check-init c = search marking

pub loop-check-preserved : goal.loop-check-preserved
loop-check-preserved c = search marking

pub returns-then-not-check_holds : goal.returns-then-not-check_holds
returns-then-not-check_holds c = search marking

pub returns : goal.returns
returns c = search marking
