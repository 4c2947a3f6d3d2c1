-- `cache_masks::mark_ranks` meets its contract. The invariant: the first i writes are marked.
use Prim.Native.Nat.{◌≤◌}
use Rattle.relation.specs.Tables.{Filled}
use Rattle.cache_masks.specs.Ranks.{bounds, next_mask}
use Rattle.cache_masks.proofs.mark_ranks.Given as goal

abbrev pub invariant-loop-i : goal.invariant-loop-i
invariant-loop-i l = (l.i ≤ l.n) × Filled (next_mask l.ranks l.i) bounds l.belows
