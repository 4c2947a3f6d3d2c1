-- `log_puts::put_write` meets its contract: its bytes, written one behind the other, are the field.
use native.Mathlib.Omega.{arith}
use Rattle.log_puts.proofs.PutSteps.{write-wrote}
use Rattle.log_puts.proofs.put_write.Goals as goal

pub returns : goal.returns
returns c =
    let w = write-wrote _ _ _ _ _ _ _ _ _ _ c.put_bytes-next.ensures c.put_word-next.ensures c.put_word.ensures in
    let f0 = c.put_bytes-next.ensures.place in
    let f1 = c.put_word-next.ensures.place in
    let f2 = c.put_word.ensures.place in
    (w, omega arith)
