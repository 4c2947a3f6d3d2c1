-- `model::coded` meets its contract, by the cases of its definition.
use borrow.Author.Rules.{rules}
use Rattle.model.specs.Answer.{coded}
use Rattle.model.proofs.coded.Goals as goal

pub returns-in-Ok : goal.returns-in-Ok
unfolding coded
returns-in-Ok c = search rules

pub returns-in-Err : goal.returns-in-Err
unfolding coded
returns-in-Err c = search rules
