-- `find_choice::is_spare` meets its contract. By the bit; a set bit is taken away by turning it over.
use Rattle.find_choice.proofs.ChoiceSteps.{sparing}
use Rattle.find_choice.proofs.is_spare.Goals as goal

pub is_marked-requires : goal.is_marked-requires
is_marked-requires c = search sparing

pub returns-then-has_bit : goal.returns-then-has_bit
returns-then-has_bit c = search sparing

pub returns-else-has_bit : goal.returns-else-has_bit
returns-else-has_bit c = search sparing
