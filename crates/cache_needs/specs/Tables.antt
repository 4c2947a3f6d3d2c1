-- Tables of needs while they are filled.
use Rattle.std.specs.Prelude.{ℕ, zero, suc, ◌≤◌, ◌<◌, ◌≡◌, true, cond, not, ◌&&◌, List, [], eqb, get_or, take}
use Rattle.std.specs.Int.Bits.{bit_and, bit_or}
use Rattle.relation.specs.Bits.{bit, with_bit}
use Rattle.model.specs.declared.Rule.{Rule}
use Rattle.model.specs.Limits.{most_held, disk_blocks}
use Rattle.relation.specs.Tables.{Filled}
use Rattle.rule_match.specs.declared.Rules.{Rules}
use Rattle.rule_match.specs.Held.{item_at}
use Rattle.cache_masks.specs.Masks.{same_mask, same_at, epoch_mask}
use Rattle.cache_masks.specs.Ranks.{rank_at, below_mask, standing_in, bounds, SmallRanks}
use Rattle.cache_masks.specs.Columns.{columned}
use Rattle.cache_needs.specs.declared.Tables.{Tables}
use Rattle.cache_needs.specs.Needed.{needs_row}

-- a write at a place from 1 and its row; nothing for 0
unfoldable pub behind_of : List ℕ → ℕ → ℕ
behind_of rows zero = 0
behind_of rows (suc j) = with_bit (get_or rows j 0) j

-- which of the writes before i are to its address
unfoldable pub earlier_at : List ℕ → ℕ → ℕ
earlier_at addresses i = same_mask addresses (get_or addresses i 0) i

-- the ranks of a mask's members are below 64
pub record SmallOf (mask : ℕ) (ranks : List ℕ) : Type 0 where
  pub at : (i : ℕ) → bit mask i ≡ true → get_or ranks i 0 < most_held

-- what rules of one predicate add to the row of write i
unfoldable pub added_to : ℕ → ℕ → List ℕ → List ℕ → ℕ → ℕ
added_to seconds p ranks belows i = bit_and seconds (standing_in belows (get_or ranks i 0) p)

-- the rows of firsts, but for those left, have what such rules add
pub record Added (old : List ℕ) (firsts seconds p : ℕ) (ranks belows : List ℕ) (left : ℕ) (rows : List ℕ) : Type 0 where
  pub at : (i : ℕ) → get_or rows i 0 ≡ cond (bit firsts i && not (bit left i)) (bit_or (get_or old i 0) (added_to seconds p ranks belows i)) (get_or old i 0)

-- the last write to each address, by its place from 1, of the first i: with its row it tells them all
pub record Lasts (addresses : List ℕ) (i : ℕ) (rows last : List ℕ) : Type 0 where
  pub place : (a : ℕ) → a < disk_blocks → get_or last a 0 ≤ i
  pub tells : (a : ℕ) → a < disk_blocks → same_mask addresses a i ≡ behind_of rows (get_or last a 0)

-- the tables that serve every rule: for each write those up to it with its name, and a rank below 64. (That the ranks and the table by ranks are
-- those of the epochs is asked in `Adds`)
pub record Prepared (names : List ℕ) (n : ℕ) (t : Tables) : Type 0 where
  pub alike-filled : Filled (same_at names) n t.alike
  pub ranks-small : SmallRanks n t.ranks

-- the rules from k up to, but not with, e add to the rows of rule k's first name those of seconds to whose epochs the row's own stands as
-- rule k's predicate says, and nothing else
pub record Joins (names : List ℕ) (n : ℕ) (rules : Rules) (k e seconds : ℕ) : Type 0 where
  pub at : (addresses epochs : List ℕ) (i : ℕ) → i < n
      → cond (eqb (get_or names i 0) (item_at rules k).first) (bit_or (needs_row (take k rules.items) (columned addresses names epochs n) n i) (bit_and seconds (epoch_mask epochs (item_at rules k).predicate (get_or epochs i 0) n))) (needs_row (take k rules.items) (columned addresses names epochs n) n i)
      ≡ needs_row (take e rules.items) (columned addresses names epochs n) n i

-- rows of writes that need nothing by rules become rows of what they need, whatever their addresses and epochs are that have these ranks
pub record Adds (rules : List Rule) (names : List ℕ) (n : ℕ) (ranks belows old rows : List ℕ) : Type 0 where
  pub at : (addresses epochs : List ℕ) → Filled (rank_at epochs) n ranks → Filled (below_mask ranks n) bounds belows
      → Filled (needs_row [] (columned addresses names epochs n) n) n old → Filled (needs_row rules (columned addresses names epochs n) n) n rows
