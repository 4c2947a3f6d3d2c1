-- `judge_cases::decide_test` meets its contract: the loaded case gives the verdict of the definition.
use Rattle.judge_cases.proofs.JudgeLaws.{loops}
use Rattle.judge_cases.proofs.decide_test.Goals as goal

pub smallest_bad-requires : goal.smallest_bad-requires
smallest_bad-requires c = search loops

pub returns : goal.returns
returns c = search loops
