-- `judge_settled::Answer::is_definite` meets its contract. One law for each answer.
use Rattle.judge_settled.proofs.AnswerLaws.{answering}
use Rattle.judge_settled.proofs.Answer.is_definite.Goals as goal

pub returns-in-Yes : goal.returns-in-Yes
returns-in-Yes c = search answering

pub returns-in-Open : goal.returns-in-Open
returns-in-Open c = search answering
