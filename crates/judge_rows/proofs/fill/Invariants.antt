-- `judge_rows::fill` meets its contract. The invariants: the first i rows are filled; the mask has what the first k rules pair label i with.
use Prim.Native.Nat.{◌≤◌}
use mathlib.Core.Path.{◌≡◌}
use lib.ListN.{get_or, take}
use Rattle.rule_match.specs.Held.{rules_of}
use Rattle.judge_disks.specs.Packed.{labelled}
use Rattle.judge_rows.specs.Rows.{row_of, rows_from}
use Rattle.judge_rows.proofs.fill.Given as goal

abbrev pub invariant-rules : goal.invariant-rules
invariant-rules l = (l.k ≤ l.rules.count) × (l.mask ≡ row_of (take l.k l.rules.items) (labelled (get_or l.labels l.i 0)) l.labels l.n)

abbrev pub invariant-labels : goal.invariant-labels
invariant-labels l = (l.i ≤ l.n) × (take l.i l.rows ≡ rows_from (rules_of l.rules) l.labels l.n l.i)
