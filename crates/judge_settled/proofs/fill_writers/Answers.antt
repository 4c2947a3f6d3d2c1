-- `judge_settled::fill_writers` meets its contract. The invariant: the table has the first i writes.
use lib.Seq.{get_or-take}
use native.Mathlib.Omega.{arith}
use Rattle.judge_settled.proofs.AnswerLaws.{answering}
use Rattle.judge_settled.proofs.fill_writers.Goals as goal

pub loop-i-init : goal.loop-i-init
loop-i-init c = search answering

pub loop-i-preserved : goal.loop-i-preserved
loop-i-preserved c =
    let same = get_or-take c.args.n c.args.stores.now c.loop-i.i 0 (omega arith) in
    let at = rw same at c.address_of-a.ensures.0 in
    search (answering, at)
