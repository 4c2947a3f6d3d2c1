-- `find_sets::pick` meets its contract. The invariant: the first n rules written are the set of the first i candidates.
use Rattle.find_sets.proofs.RuleSteps.{ordering}
use Rattle.find_sets.proofs.pick.Goals as goal

pub loop-i-init : goal.loop-i-init
loop-i-init c = search ordering

pub loop-i-preserved : goal.loop-i-preserved
loop-i-preserved c = search ordering
