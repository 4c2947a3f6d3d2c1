-- `judge_settled::CheckQuestion::address` meets its contract. One law for each form of a check.
use Rattle.judge_settled.proofs.AnswerLaws.{answering}
use Rattle.judge_settled.proofs.CheckQuestion.address.Goals as goal

pub returns : goal.returns
returns c = search answering
