-- `judge_suspects::mark_for` meets its contract. The invariant: the masks of the writes below i.
use lib.Seq.{get_or-take}
use native.Mathlib.Omega.{arith}
use Rattle.judge_suspects.proofs.MarkLaws.{marked-write, masking}
use Rattle.judge_suspects.proofs.mark_for.Goals as goal

pub loop-i-init : goal.loop-i-init
loop-i-init c = search masking

pub loop-i-preserved : goal.loop-i-preserved
loop-i-preserved c =
    let l = c.loop-i in
    let same = get_or-take c.args.n c.args.stores.now l.i 0 (omega arith) in
    let opens = rw same at c.can_open.ensures in
    let spoils = rw same at c.can_spoil.ensures in
    (search masking, marked-write _ _ l.i l.own l.other _ _ _ _ l.invariant.1 opens spoils c.with_if-own.ensures c.with_if-other.ensures)
