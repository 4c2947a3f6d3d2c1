-- `log_get::find_key` meets its contract. The invariant: what is sought up to tail is what is sought up to a.
use Prim.Native.Nat.{◌-◌, ◌≤◌}
use mathlib.Core.Path.{◌≡◌}
use mathlib.Core.Bool.{false}
use Rattle.model.specs.Check.{damaged}
use Rattle.log_get.specs.Get.{get_from}
use Rattle.log_get.proofs.find_key.Given as goal

abbrev pub invariant-loop-a : goal.invariant-loop-a
invariant-loop-a l = (damaged l.head l.tail ≡ false) × (l.head ≤ l.a) × (l.a ≤ l.tail) × (get_from l.disk l.key l.head (l.a - l.head) ≡ get_from l.disk l.key l.head (l.tail - l.head))
