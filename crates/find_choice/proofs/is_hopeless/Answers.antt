-- `find_choice::is_hopeless` meets its contract. By the ones of the word's number, or by its bits.
use Rattle.find_choice.proofs.ChoiceSteps.{choosing}
use Rattle.find_choice.proofs.is_hopeless.Goals as goal

pub returns-then-not-rivals : goal.returns-then-not-rivals
returns-then-not-rivals c = search choosing

pub returns : goal.returns
returns c = search choosing
