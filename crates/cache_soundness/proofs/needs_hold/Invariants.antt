-- `cache_soundness::needs_hold` meets its contract. The invariant: the columns and the tables are filled, and the rows have what the first k rules add.
use mathlib.Core.Path.{◌≡◌}
use Prim.Native.Nat.{◌≤◌, ◌-◌}
use lib.ListN.{length, take}
use Rattle.relation.specs.Tables.{Filled}
use Rattle.model.specs.Limits.{most_held}
use Rattle.cache_model.specs.State.{accepted_count}
use Rattle.cache_contents.specs.Columns.{InColumns}
use Rattle.cache_masks.specs.Ranks.{rank_at, below_mask, bounds}
use Rattle.cache_needs.specs.Tables.{earlier_at, Prepared, Adds}
use Rattle.cache_soundness.specs.Parts.{Decoded}
use Rattle.cache_soundness.proofs.needs_hold.Given as goal

abbrev pub invariant-loop-k : goal.invariant-loop-k
invariant-loop-k l = (l.k ≤ l.seen.rules.count) × (l.n ≡ accepted_count l.state) × (length l.rows ≡ most_held) × Decoded l.state l.seen × InColumns l.state (accepted_count l.state) l.columns × Prepared l.columns.names l.n l.tables × (Filled (earlier_at l.columns.addresses) l.n l.initial.rows × Filled (rank_at l.columns.epochs) l.n l.tables.ranks × Filled (below_mask l.tables.ranks l.n) bounds l.tables.belows) × Adds (take l.k l.seen.rules.items) l.columns.names l.n l.tables.ranks l.tables.belows l.initial.rows l.rows

abbrev pub decreases-loop-k : goal.decreases-loop-k
decreases-loop-k l = l.seen.rules.count - l.k
