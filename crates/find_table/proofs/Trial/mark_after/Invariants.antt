-- `find_table::Trial::mark_after` meets its contract. The invariant: the sets of the inconsistent schedules with an end below y are marked too, and the disk is as it was at first.
use mathlib.Core.Path.{◌≡◌}
use Prim.Native.Nat.{◌^◌, ◌≤◌}
use Rattle.model.specs.Limits.{found_schedules}
use Rattle.judge_disks.specs.Packed.{held_from}
use Rattle.find_table.specs.Table.{spoils, set_after, Adds}
use Rattle.find_table.proofs.Trial.mark_after.Given as goal

abbrev pub invariant-loop-y : goal.invariant-loop-y
invariant-loop-y l = (l.columns ≡ 2 ^ l.self.far) × (l.columns ≤ found_schedules) × (l.rows ≡ 2 ^ l.self.near) × (l.disk ≡ l.mid) × Adds (spoils l.self.checks.now (held_from l.self.stores.now l.self.near l.self.far) l.mid) (set_after l.self.forbidden.now l.self.all l.x (2 ^ l.self.near)) l.y l.initial.table l.table
