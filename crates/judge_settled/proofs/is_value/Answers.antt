-- `judge_settled::is_value` meets its contract. By whether the numbers are equal.
use Rattle.judge_settled.proofs.AnswerLaws.{answering}
use Rattle.judge_settled.proofs.is_value.Goals as goal

pub returns-then-own-v : goal.returns-then-own-v
returns-then-own-v c = search answering

pub returns-else-own-v : goal.returns-else-own-v
returns-else-own-v c = search answering
