-- `judge_text::judge_lines` meets its contract: the refusal, or the lines of the tests.
use Rattle.judge_text.proofs.TextLaws.{texts}
use Rattle.judge_text.proofs.judge_lines.Goals as goal

pub put_cases-requires : goal.put_cases-requires
put_cases-requires c = search texts

pub put_refused-requires : goal.put_refused-requires
put_refused-requires c = search texts

pub returns-in-Ok : goal.returns-in-Ok
returns-in-Ok c = search texts

pub returns-in-Err : goal.returns-in-Err
returns-in-Err c = search texts
