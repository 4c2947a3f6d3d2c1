-- `judge_cases::decide` meets its contract: the refusal, or the verdict on the test found.
use Rattle.judge_cases.proofs.JudgeLaws.{judges}
use Rattle.judge_cases.proofs.decide.Goals as goal

pub returns-in_err-selected : goal.returns-in_err-selected
returns-in_err-selected c = search judges

pub decide_test-requires : goal.decide_test-requires
decide_test-requires c = search judges

pub returns : goal.returns
returns c = search judges
