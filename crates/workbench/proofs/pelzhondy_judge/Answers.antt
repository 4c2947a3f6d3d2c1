-- `workbench::pelzhondy_judge` meets its contract: the judge's refusal, or its numbers as one.
use Rattle.judge_answers.proofs.JudgedLaws.{judged}
use Rattle.workbench.proofs.pelzhondy_judge.Goals as goal

pub code_of-requires : goal.code_of-requires
code_of-requires c = search judged

pub code-requires : goal.code-requires
code-requires c = search judged

pub returns-in-Ok : goal.returns-in-Ok
returns-in-Ok c = search judged

pub returns-in-Err : goal.returns-in-Err
returns-in-Err c = search judged
