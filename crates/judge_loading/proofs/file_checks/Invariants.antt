-- `judge_loading::file_checks` meets its contract. The invariant: the first i checks are loaded, and the next field's place is known.
use Prim.Native.Nat.{◌≤◌}
use mathlib.Core.Path.{◌≡◌}
use lib.ListN.{length, take}
use Rattle.model.specs.Limits.{most_checks}
use Rattle.file_format.specs.Scan.{field_place, checks_at}
use Rattle.judge_loading.proofs.file_checks.Given as goal

abbrev pub invariant-loop-i : goal.invariant-loop-i
invariant-loop-i l = (l.i ≤ l.n) × (length l.checks ≡ most_checks) × (l.at ≡ field_place l.file l.from l.i) × (take l.i l.checks ≡ checks_at l.file l.from l.i)
