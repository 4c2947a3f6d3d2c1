-- `cache_masks::fill_ranks` meets its contract. The invariant: r is the rank of t, and the first i ranks are filled in.
use mathlib.Core.Path.{◌≡◌}
use Prim.Native.Nat.{◌≤◌}
use Rattle.relation.specs.Tables.{Filled}
use Rattle.model.specs.Limits.{most_held}
use Rattle.cache_masks.specs.Ranks.{rank_of, rank_at}
use Rattle.cache_masks.proofs.fill_ranks.Given as goal

abbrev pub invariant-loop-i : goal.invariant-loop-i
invariant-loop-i l = (l.i ≤ l.n) × (l.r ≡ rank_of l.epochs l.t) × (l.r ≤ most_held) × Filled (rank_at l.epochs) l.i l.ranks
