-- `receiver::pelzhondy_hand_in` meets its contract: a refusal, or the write appended.
use Rattle.std.proofs.Common.{refl}
use Rattle.cache_handin.proofs.HandInSteps.{hand_room, given-refused, given-taken}
use Rattle.receiver.proofs.pelzhondy_hand_in.Goals as goal

pub append-requires : goal.append-requires
append-requires c = hand_room _ _ _ c.in_default.ensures refl

pub returns-in-Err : goal.returns-in-Err
returns-in-Err c = given-refused _ _ _ _ c.given-w.ensures _ c.in-Err.ensures (rw c.from.ensures at c.code.ensures)

pub returns : goal.returns
returns c = given-taken _ _ _ _ c.given-w.ensures _ c.in_default.ensures c.append.ensures.0 c.append.ensures.1
