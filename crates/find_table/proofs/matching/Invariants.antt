-- `find_table::matching` meets its contract. The invariant: the mask is that of the first c candidates.
use mathlib.Core.Path.{◌≡◌}
use Rattle.judge_disks.specs.Packed.{labelled}
use Rattle.find_table.specs.Table.{matching}
use Rattle.find_table.proofs.matching.Given as goal

abbrev pub invariant-loop-c : goal.invariant-loop-c
invariant-loop-c l = l.mask ≡ matching l.cands (labelled l.one) (labelled l.other) l.c
