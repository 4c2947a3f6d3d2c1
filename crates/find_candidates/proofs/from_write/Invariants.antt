-- `find_candidates::from_write` meets its contract. The invariant: the rules to the writes below j are inserted.
use Prim.Native.Nat.{◌+◌, ◌≤◌}
use Rattle.model.specs.Limits.{most_candidates}
use Rattle.find_candidates.specs.Tests.{Pairs}
use Rattle.find_candidates.proofs.from_write.Given as goal

abbrev pub invariant-loop-j : goal.invariant-loop-j
invariant-loop-j l = (l.j ≤ l.n) × (l.c.count ≤ most_candidates + 1) × Pairs l.labels l.n l.i l.j l.initial.c l.c
