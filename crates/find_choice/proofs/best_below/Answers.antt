-- `find_choice::best_below` meets its contract. The invariant: the best so far is the choice among the sets below m.
use Rattle.find_choice.proofs.ChoiceSteps.{choosing}
use Rattle.find_choice.proofs.best_below.Goals as goal

pub loop-m-preserved : goal.loop-m-preserved
loop-m-preserved c = search choosing
