-- `judge_suspects::can_open` meets its contract.
use Rattle.judge_suspects.proofs.MarkLaws.{marking}
use Rattle.judge_suspects.proofs.can_open.Goals as goal

pub returns-in-Range : goal.returns-in-Range
returns-in-Range c = search marking

pub returns-in-Pair : goal.returns-in-Pair
returns-in-Pair c = search marking

pub returns-in-Pointer : goal.returns-in-Pointer
returns-in-Pointer c = search marking
