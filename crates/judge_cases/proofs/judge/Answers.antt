-- `judge_cases::judge` meets its contract: the refusal, or the counts of the test found.
use Rattle.judge_cases.proofs.JudgeLaws.{judges}
use Rattle.judge_cases.proofs.judge.Goals as goal

pub returns-in_err-selected : goal.returns-in_err-selected
returns-in_err-selected c = search judges

pub judge_test-requires : goal.judge_test-requires
judge_test-requires c = search judges

pub returns : goal.returns
returns c = search judges
