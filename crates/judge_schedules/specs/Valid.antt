-- Schedules by a table of rows: row i is the mask of the writes that write i depends on.
use Rattle.std.specs.Prelude.{ℕ, ◌^◌, ◌<◌, ◌≡◌, Bool, true, not, ◌&&◌, ◌||◌, List, get_or}
use Rattle.relation.specs.Bits.{bit}
use Rattle.relation.specs.Lists.{all_below}
use Rattle.relation.specs.Union.{part_of}
use Rattle.model.specs.declared.Write.{Write}
use Rattle.model.specs.declared.Check.{Check}
use Rattle.model.specs.Schedule.{run}
use Rattle.model.specs.Check.{consistent}

-- a schedule of n writes is valid: each flagged write has all of its row flagged
unfoldable pub valid_rows : List ℕ → ℕ → ℕ → Bool
valid_rows rows n s = all_below (λ i. not (bit s i) || part_of (get_or rows i 0) s) n

-- it is bad: valid, and its disk is inconsistent
unfoldable pub bad_rows : List ℕ → ℕ → List ℕ → List Write → List Check → ℕ → Bool
bad_rows rows n base ws checks s = valid_rows rows n s && not (consistent checks (run ws s base))

-- the rows of n writes name no others
unfoldable pub Narrow : List ℕ → ℕ → Type 0
Narrow rows n = (i : ℕ) → i < n → get_or rows i 0 < 2 ^ n

-- ---- what a write brings

-- a set, with all that its members depend on: no more than every valid schedule has that has the set
pub record Widens (rows : List ℕ) (n s r : ℕ) : Type 0 where
  pub most : r < 2 ^ n
  pub part : part_of s r ≡ true
  pub rows_in : (i : ℕ) → i < n → bit s i ≡ true → part_of (get_or rows i 0) r ≡ true
  pub least : (t : ℕ) → valid_rows rows n t ≡ true → part_of s t ≡ true → part_of r t ≡ true

-- the smallest valid schedule that flags write i: it is part of every other one
pub record Brings (rows : List ℕ) (n i r : ℕ) : Type 0 where
  pub most : r < 2 ^ n
  pub valid : valid_rows rows n r ≡ true
  pub has : bit r i ≡ true
  pub least : (t : ℕ) → valid_rows rows n t ≡ true → bit t i ≡ true → part_of r t ≡ true

-- a table of these, of n writes, and by it the same schedules are valid
pub record Completes (rows : List ℕ) (n : ℕ) (table : List ℕ) : Type 0 where
  pub alike : (s : ℕ) → valid_rows table n s ≡ valid_rows rows n s
  pub at : (i : ℕ) → i < n → Brings rows n i (get_or table i 0)
