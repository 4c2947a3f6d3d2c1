-- `cache_needs::fill_earlier` meets its contract. The invariant: the first i rows are filled in, and last has the last of these writes to each address.
use mathlib.Core.Path.{◌≡◌}
use Prim.Native.Nat.{◌≤◌}
use lib.ListN.{length}
use Rattle.relation.specs.Tables.{Filled}
use Rattle.model.specs.Limits.{disk_blocks}
use Rattle.cache_needs.specs.Tables.{earlier_at, Lasts}
use Rattle.cache_needs.proofs.fill_earlier.Given as goal

abbrev pub invariant-loop-i : goal.invariant-loop-i
invariant-loop-i l = (l.i ≤ l.n) × (length l.last ≡ disk_blocks) × Filled (earlier_at l.addresses) l.i l.rows × Lasts l.addresses l.i l.rows l.last
