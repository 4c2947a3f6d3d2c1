-- `find_table::Trial::mark_after` meets its contract. The invariant: the sets of the inconsistent schedules with an end below y are marked too, and the disk is as it was at first.
use mathlib.Core.Path.{refl, ap, ◌∙◌}
use Prim.Native.Nat.{ℕ, ◌+◌, ◌*◌}
use Rattle.std.proofs.Common.{rules}
use native.Mathlib.Omega.{arith}
use Rattle.judge_disks.proofs.RestoreLaws.{restored-run, ran}
use Rattle.find_table.proofs.ForbidLaws.{power_near, power_far, far_most}
use Rattle.find_table.proofs.MarkLaws.{adds_none, adds_marked, adds_more, place-within, place-few}
use Rattle.find_table.proofs.Trial.mark_after.Goals as goal

pub loop-y-init : goal.loop-y-init
loop-y-init c =
    let t = c.args.self.now in
    (power_far t.near t.far t.few, far_most t.near t.far t.few, power_near t.near t.far t.few, refl, adds_none _ _ _)

pub bounds-self-x : goal.bounds-self-x
bounds-self-x c =
    let t = c.args.self.now in
    let i = c.loop-y.invariant in
    omega (arith, place-within t.near t.far c.args.x c.loop-y.y _ _ i.2 i.0 c.requires c.loop-y-test.true t.few)

pub overflow_sub-set : goal.overflow_sub-set
overflow_sub-set c =
    let t = c.args.self.now in
    let i = c.loop-y.invariant in
    place-few t.near t.far c.args.x c.loop-y.y _ _ i.2 i.0 c.requires c.loop-y-test.true _ _ t.bounded

pub loop-y-preserved-then-has_bit : goal.loop-y-preserved-then-has_bit
loop-y-preserved-then-has_bit c =
    let l = c.loop-y in
    let i = l.invariant in
    (i.0, i.1, i.2, i.3, adds_marked _ _ _ _ _ _ _ _ l.table _ l.y i.4 (ap (λ (r : ℕ). c.args.x + r * l.y) i.2) c.has_bit.result c.has_bit.ensures c.if-has_bit.true)

pub loop-y-preserved : goal.loop-y-preserved
loop-y-preserved c =
    let l = c.loop-y in
    let i = l.invariant in
    let a = c.args in
    let t = a.self.now in
    let made = ran _ _ _ l.disk _ i.3 c.apply.ensures in (
      i.0,
      i.1,
      i.2,
      c.restore.ensures ∙ restored-run t.stores.now a.mid.now t.near t.far l.y c.apply.new.disk (search rules) made,
      adds_more _ _ _ _ _ _ _ _ l.table _ l.y i.4 (ap (λ (r : ℕ). a.x + r * l.y) i.2) _ c.apply.new.disk _ _ c.holds-consistent.result refl t.bounded (search rules) made c.holds-consistent.ensures c.mark_one.ensures,
    )
