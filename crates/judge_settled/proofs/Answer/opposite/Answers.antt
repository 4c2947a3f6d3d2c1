-- `judge_settled::Answer::opposite` meets its contract. One law for each answer.
use Rattle.judge_settled.proofs.AnswerLaws.{answering}
use Rattle.judge_settled.proofs.Answer.opposite.Goals as goal

pub returns-in-Yes : goal.returns-in-Yes
returns-in-Yes c = search answering

pub returns-in-No : goal.returns-in-No
returns-in-No c = search answering

pub returns-in-Open : goal.returns-in-Open
returns-in-Open c = search answering
