-- `find_table::Trial::mark_by` meets its contract. The invariant: the sets of the inconsistent schedules that begin with a number below x are marked too.
use native.Mathlib.Omega.{arith}
use Rattle.find_table.proofs.ForbidLaws.{power_near, near-most}
use Rattle.find_table.proofs.MarkLaws.{begins_none, begins_more, begins_all}
use Rattle.find_table.proofs.Trial.mark_by.Goals as goal

pub loop-x-init : goal.loop-x-init
loop-x-init c =
    let t = c.args.self.now in
    (power_near t.near t.far t.few, near-most t.near t.far t.few, begins_none _ _ _ _ _ _ _ _)

pub loop-x-preserved : goal.loop-x-preserved
loop-x-preserved c =
    let l = c.loop-x in
    let i = l.invariant in
    (i.0, i.1, begins_more _ _ _ _ _ _ _ _ l.x c.apply.new.disk l.table _ i.2 (omega arith) c.apply.ensures c.mark_after.ensures)

pub returns : goal.returns
returns c =
    let l = c.loop-x in
    let i = l.invariant in
    begins_all _ _ _ _ _ _ _ _ l.x _ l.table i.2 i.0 (omega arith) (omega arith)
