-- `judge_suspects::can_spoil` meets its contract.
use Rattle.judge_suspects.proofs.MarkLaws.{marking}
use Rattle.judge_suspects.proofs.can_spoil.Goals as goal

pub returns-in-Range : goal.returns-in-Range
returns-in-Range c = search marking

pub returns-in-Pair : goal.returns-in-Pair
returns-in-Pair c = search marking
