-- `cache_needs::run_from` meets its contract. The invariant: the rules from k to end are joined.
use Prim.Native.Nat.{◌<◌, ◌≤◌}
use Rattle.cache_needs.specs.Tables.{Joins}
use Rattle.cache_needs.proofs.run_from.Given as goal

abbrev pub invariant-loop-end : goal.invariant-loop-end
invariant-loop-end l = (l.k < l.end) × (l.end ≤ l.rules.count) × Joins l.names l.n l.rules l.k l.end l.seconds
