-- `judge_loading::pass_writes` meets its contract. The invariant: the next field's place is known.
use Prim.Native.Nat.{◌≤◌}
use mathlib.Core.Path.{◌≡◌}
use Rattle.file_format.specs.Scan.{field_place}
use Rattle.judge_loading.proofs.pass_writes.Given as goal

abbrev pub invariant-loop-i : goal.invariant-loop-i
invariant-loop-i l = (l.i ≤ l.n) × (l.at ≡ field_place l.file l.from l.i)
