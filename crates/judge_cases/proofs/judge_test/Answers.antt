-- `judge_cases::judge_test` meets its contract: the loaded case gives the counts of the definition.
use Rattle.judge_cases.proofs.JudgeLaws.{loops}
use Rattle.judge_cases.proofs.judge_test.Goals as goal

pub count_all-requires : goal.count_all-requires
count_all-requires c = (search loops, (search loops, search loops))

pub returns : goal.returns
returns c = (search loops, search loops)
