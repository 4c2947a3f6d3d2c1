-- `judge_settled::BlockIsQuestion::with` meets its contract.
use Rattle.judge_settled.proofs.SettledLaws.{value_says}
use Rattle.judge_settled.proofs.BlockIsQuestion.with.Goals as goal

pub returns : goal.returns
returns c = value_says _ _ _ _ _ c.is_value.ensures
