-- `find_choice::better_of` meets its contract. A return for each reason to keep the best so far.
use Rattle.find_choice.proofs.ChoiceSteps.{choosing}
use Rattle.find_choice.proofs.better_of.Goals as goal

pub returns-then-not-rivals : goal.returns-then-not-rivals
returns-then-not-rivals c = search choosing

pub returns-then-is_marked : goal.returns-then-is_marked
returns-then-is_marked c = search choosing

pub returns-then-has_spare : goal.returns-then-has_spare
returns-then-has_spare c = search choosing

pub returns-then-is_cyclic : goal.returns-then-is_cyclic
returns-then-is_cyclic c = search choosing

pub returns : goal.returns
returns c = search choosing
