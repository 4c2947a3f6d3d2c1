-- `find_choice::is_marked` meets its contract. The set's bit.
use Rattle.find_choice.proofs.ChoiceSteps.{sparing}
use Rattle.find_choice.proofs.is_marked.Goals as goal

pub returns : goal.returns
returns c = search sparing
