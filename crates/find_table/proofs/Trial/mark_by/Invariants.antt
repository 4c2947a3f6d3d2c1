-- `find_table::Trial::mark_by` meets its contract. The invariant: the sets of the inconsistent schedules that begin with a number below x are marked too.
use mathlib.Core.Path.{◌≡◌}
use Prim.Native.Nat.{◌^◌, ◌≤◌}
use Rattle.model.specs.Limits.{found_schedules}
use Rattle.find_table.proofs.MarkLaws.{Begun}
use Rattle.find_table.proofs.Trial.mark_by.Given as goal

abbrev pub invariant-loop-x : goal.invariant-loop-x
invariant-loop-x l = (l.rows ≡ 2 ^ l.self.near) × (l.rows ≤ found_schedules) × Begun l.self.checks.now l.self.stores.now l.base l.self.forbidden.now l.self.all l.self.near l.self.far l.initial.table l.x l.table
