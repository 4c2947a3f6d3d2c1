-- `find_choice::choose` meets its contract. The invariant: the best so far is the choice among the sets of the words before.
use Rattle.find_choice.proofs.ChoiceSteps.{choosing}
use Rattle.find_choice.proofs.choose.Goals as goal

pub loop-word-init : goal.loop-word-init
loop-word-init c = search choosing

pub loop-word-preserved-then-is_hopeless : goal.loop-word-preserved-then-is_hopeless
loop-word-preserved-then-is_hopeless c = search choosing
