-- `judge_closed::dependent_row` meets its contract. The invariant: the mask of the writes below i.
use Rattle.judge_closed.proofs.OrderLaws.{reaching_row-more, ordering}
use Rattle.judge_closed.proofs.dependent_row.Goals as goal

pub loop-i-init : goal.loop-i-init
loop-i-init c = search ordering

pub loop-i-preserved : goal.loop-i-preserved
loop-i-preserved c =
    let l = c.loop-i in
    (search ordering, reaching_row-more _ _ l.i l.mask _ c.has_bit.result l.invariant.1 c.has_bit.ensures c.with_if-mask.ensures)
