-- `find_candidates::from_trace` meets its contract. The invariant: the rules from the writes below i are inserted.
use Prim.Native.Nat.{◌+◌, ◌≤◌}
use Rattle.model.specs.Limits.{most_candidates}
use Rattle.find_candidates.specs.Tests.{Traces}
use Rattle.find_candidates.proofs.from_trace.Given as goal

abbrev pub invariant-loop-i : goal.invariant-loop-i
invariant-loop-i l = (l.i ≤ l.n) × (l.c.count ≤ most_candidates + 1) × Traces l.labels l.n l.i l.initial.c l.c
