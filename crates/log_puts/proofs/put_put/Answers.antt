-- `log_puts::put_put` meets its contract: its two fields, written one behind the other, are the put's.
use native.Mathlib.Omega.{arith}
use Rattle.log_puts.proofs.PutSteps.{put-wrote}
use Rattle.log_puts.proofs.put_put.Goals as goal

pub returns : goal.returns
returns c =
    let e = c.put_write-next.ensures.1 in
    let g = c.put_write.ensures.1 in
    (put-wrote _ _ _ _ _ _ _ _ _ _ c.put_write-next.ensures.0 (rw c.from.ensures at c.put_write.ensures.0), omega arith)
