-- `relation::join_all` meets its contract. The invariant: the first rows are joined, and the others are as they were.
use mathlib.Core.Path.{◌≡◌}
use Rattle.relation.specs.Finite.{joined}
use Rattle.relation.proofs.ClosureSteps.{mapped}
use Rattle.relation.proofs.join_all.Given as goal

abbrev pub invariant-loop-row : goal.invariant-loop-row
invariant-loop-row l = l.row-items ≡ mapped (joined l.k l.through) l.initial.row-items l.row-index
