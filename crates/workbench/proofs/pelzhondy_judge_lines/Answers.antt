-- `workbench::pelzhondy_judge_lines` meets its contract: 12, or the program's text at the front of the buffer.
use Rattle.workbench.proofs.PrintedLaws.{prints}
use Rattle.workbench.proofs.pelzhondy_judge_lines.Goals as goal

pub returns-then-out-lt-TEXT_LENGTH : goal.returns-then-out-lt-TEXT_LENGTH
returns-then-out-lt-TEXT_LENGTH c = search prints

pub returns : goal.returns
returns c = search prints
