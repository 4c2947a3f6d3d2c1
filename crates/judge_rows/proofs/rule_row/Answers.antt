-- `judge_rows::rule_row` meets its contract. The invariant: the mask has what the rule pairs among the first j labels.
use lib.Seq.{get_or-take}
use native.Mathlib.Omega.{arith}
use Rattle.judge_rows.proofs.RowSteps.{steps}
use Rattle.judge_rows.proofs.rule_row.Goals as goal

pub returns-then-name_of-rule : goal.returns-then-name_of-rule
returns-then-name_of-rule c = search steps

pub loop-j-init : goal.loop-j-init
loop-j-init c = search steps

pub loop-j-preserved : goal.loop-j-preserved
loop-j-preserved c =
    let same = get_or-take c.args.n c.args.labels.now c.loop-j.j 0 (omega arith) in
    let next = rw same at c.with_match-mask.ensures in
    search (steps, next)
