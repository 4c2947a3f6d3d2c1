-- `judge_text::put_case` meets its contract: the counts of the test are those of its line.
use Rattle.judge_text.proofs.TextLaws.{texts}
use Rattle.judge_text.proofs.put_case.Goals as goal

pub put_line-requires : goal.put_line-requires
put_line-requires c = search texts

pub returns : goal.returns
returns c = search texts
