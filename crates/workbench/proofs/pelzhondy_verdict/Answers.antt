-- `workbench::pelzhondy_verdict` meets its contract: the refusal, or the verdict as one number.
use Rattle.judge_answers.proofs.JudgedLaws.{judged}
use Rattle.workbench.proofs.pelzhondy_verdict.Goals as goal

pub code-requires : goal.code-requires
code-requires c = search judged

pub returns-in-Ok : goal.returns-in-Ok
returns-in-Ok c = search judged

pub returns-in-Err : goal.returns-in-Err
returns-in-Err c = search judged
