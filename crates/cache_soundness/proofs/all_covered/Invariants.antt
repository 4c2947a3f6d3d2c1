-- `cache_soundness::all_covered` meets its contract. The invariant: the rows below i are covered.
use mathlib.Core.Path.{◌≡◌}
use mathlib.Core.Bool.{true}
use Prim.Native.Nat.{◌≤◌}
use Rattle.relation.specs.Lists.{all_below}
use Rattle.cache_soundness.specs.Parts.{covered_at}
use Rattle.cache_soundness.proofs.all_covered.Given as goal

abbrev pub invariant-loop-i : goal.invariant-loop-i
invariant-loop-i l = (l.i ≤ l.n) × (all_below (covered_at l.rows l.mask) l.i ≡ true)
