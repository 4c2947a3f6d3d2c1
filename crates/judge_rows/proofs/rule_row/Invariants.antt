-- `judge_rows::rule_row` meets its contract. The invariant: the mask has what the rule pairs among the first j labels.
use Prim.Native.Nat.{◌≤◌}
use mathlib.Core.Path.{◌≡◌}
use Rattle.judge_disks.specs.Packed.{labelled}
use Rattle.judge_rows.specs.Rows.{rule_row}
use Rattle.judge_rows.proofs.rule_row.Given as goal

abbrev pub invariant-loop-j : goal.invariant-loop-j
invariant-loop-j l = (l.j ≤ l.n) × (l.mask ≡ rule_row l.rule (labelled l.one) l.labels l.j)
