-- `find_candidates::collect` meets its contract. The invariant: the candidates of the tests from t on are held.
use Prim.Native.Nat.{◌+◌, ◌≤◌}
use Rattle.model.specs.Limits.{most_candidates}
use Rattle.find_candidates.proofs.CandidateSteps.{Gathered}
use Rattle.find_candidates.proofs.collect.Given as goal

abbrev pub invariant-loop-t : goal.invariant-loop-t
invariant-loop-t l = (l.t ≤ l.n) × (l.out.count ≤ most_candidates + 1) × Gathered l.file l.t l.out
