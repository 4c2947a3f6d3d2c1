-- `find_choice::has_spare` meets its contract. The invariant: no candidate below i is spare.
use Rattle.find_choice.proofs.ChoiceSteps.{sparing}
use Rattle.find_choice.proofs.has_spare.Goals as goal

pub loop-i-init : goal.loop-i-init
loop-i-init c = search sparing

pub loop-i-preserved : goal.loop-i-preserved
loop-i-preserved c = search sparing

pub returns-then-is_spare : goal.returns-then-is_spare
returns-then-is_spare c = search sparing
