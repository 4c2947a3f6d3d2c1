-- The schedules among which the smallest bad one is. A check that fails of a disk fails by two of its blocks at most: the one that it begins
-- with, and one other. So what the last flagged writes to these two bring is bad already.
use Rattle.std.specs.Prelude.{ℕ, zero, suc, ◌+◌, ◌-◌, ◌*◌, ◌/◌, ◌^◌, ◌≤◌, ◌<◌, ◌≡◌, ◌⊎◌, Bool, true, cond, not, ◌&&◌, List, eqb, length, get_or}
use Rattle.std.specs.Int.Bits.{bit_or}
use Rattle.relation.specs.Rank.{rank}
use Rattle.relation.specs.Bits.{bit, mask_of}
use Rattle.relation.specs.Lists.{any}
use Rattle.model.specs.declared.Check.{Check}
use Rattle.model.specs.declared.Check.TheVariants.{Range, Pair, Pointer}
use Rattle.model.specs.Limits.{disk_blocks, most_main}
use Rattle.model.specs.Disk.{empty}
use Rattle.judge_disks.specs.Packed.{unpacked, held_from}
use Rattle.judge_schedules.specs.Valid.{valid_rows, bad_rows}

-- ---- the blocks by which a check fails

-- with block v at x a check may fail: it begins at x, and v does not settle a pair or a pointer. Of a range's block nothing more is asked: that may be too many, never too few
unfoldable pub opens : Check → ℕ → ℕ → Bool
opens (Range a) x v = eqb x a
opens (Pair a own b w) x v = eqb x a && eqb v own
opens (Pointer a) x v = eqb x a && not (empty v)

-- block v at x, beside the one that it begins with, may make a check fail
unfoldable pub spoils : Check → ℕ → ℕ → Bool
spoils (Range a) x v = empty v
spoils (Pair a own b w) x v = eqb x b && not (eqb v w)
spoils (Pointer a) x v = empty v

-- the same of a write of a column
unfoldable pub opens_in : List ℕ → Check → ℕ → Bool
opens_in column c i = opens c (unpacked (get_or column i 0)).address (unpacked (get_or column i 0)).block

unfoldable pub spoils_in : List ℕ → Check → ℕ → Bool
spoils_in column c i = spoils c (unpacked (get_or column i 0)).address (unpacked (get_or column i 0)).block

-- the masks of the first n writes that are such for a check
pub record MarkedFor (column : List ℕ) (n : ℕ) (c : Check) (own other : ℕ) : Type 0 where
  pub own_is : own ≡ mask_of (opens_in column c) n
  pub other-is : other ≡ mask_of (spoils_in column c) n

-- the masks of those that are such for some check
pub record Marked (column : List ℕ) (n : ℕ) (checks : List Check) (own other : ℕ) : Type 0 where
  pub own_is : own ≡ mask_of (λ i. any (λ c. opens_in column c i) checks) n
  pub other-is : other ≡ mask_of (λ i. any (λ c. spoils_in column c i) checks) n

-- ---- lists of ranks

-- the pairs of different numbers below h
unfoldable pub pairs_below : ℕ → ℕ
pairs_below zero = 0
pairs_below (suc h) = pairs_below h + h

-- the most ranks of a list: of no write, of one, and of two
abbrev pub most_listed : ℕ
most_listed = 1 + most_main + most_main * (most_main - 1) / 2

-- x is among the first `many` of a list
abbrev pub Has : ℕ → List ℕ → ℕ → Type 0
Has many list x = (i : ℕ) × (i < many) × (get_or list i 0 ≡ x)

-- these are in rising order
unfoldable pub Rising : ℕ → List ℕ → Type 0
Rising many list = (i j : ℕ) → i ≤ j → j < many → get_or list i 0 ≤ get_or list j 0

-- those of one list are among those of another
unfoldable pub Kept : ℕ → List ℕ → ℕ → List ℕ → Type 0
Kept many old more new = (x : ℕ) → Has many old x → Has more new x

-- room made for x at place k: those before are where they were, and the last of them is at most x; those behind are above x, and stand one place further
pub record MakesRoom (many x : ℕ) (old : List ℕ) (k : ℕ) (list : List ℕ) : Type 0 where
  pub most : k ≤ many
  pub before : (i : ℕ) → i < k → get_or list i 0 ≡ get_or old i 0
  pub last : 0 < k → get_or old (k - 1) 0 ≤ x
  pub behind : (i : ℕ) → k ≤ i → i < many → get_or list (i + 1) 0 ≡ get_or old i 0
  pub above : (i : ℕ) → k ≤ i → i < many → x < get_or old i 0

-- a number put in its place among them
pub record Inserts (many x : ℕ) (old new : List ℕ) : Type 0 where
  pub rising : Rising many old → Rising (many + 1) new
  pub here : Has (many + 1) new x
  pub kept : Kept many old (many + 1) new
  pub only : (y : ℕ) → Has (many + 1) new y → (y ≡ x) ⊎ Has many old y

-- x is the rank of a valid schedule
pub record RankOf (rows : List ℕ) (n x : ℕ) : Type 0 where
  pub set : ℕ
  pub most : set < 2 ^ n
  pub valid : valid_rows rows n set ≡ true
  pub is : x ≡ rank set

-- in rising order the ranks of valid schedules
pub record Ranks (rows : List ℕ) (n many : ℕ) (list : List ℕ) : Type 0 where
  pub rising : Rising many list
  pub each : (x : ℕ) → Has many list x → RankOf rows n x

-- ---- the suspects listed

-- the schedule without flags, and what the writes of a mask below k bring, each alone
pub record OnesListed (brought : List ℕ) (n mask k many : ℕ) (list : List ℕ) : Type 0 where
  pub most : many ≤ 1 + k
  pub ranks : Ranks brought n many list
  pub none : Has many list (rank 0)
  pub all : (i : ℕ) → i < k → bit mask i ≡ true → Has many list (rank (get_or brought i 0))

-- what write h brings with each write of a mask below k
pub record RowListed (brought : List ℕ) (n h mask k many : ℕ) (old : List ℕ) (more : ℕ) (new : List ℕ) : Type 0 where
  pub most : more ≤ many + k
  pub ranks : Ranks brought n more new
  pub kept : Kept many old more new
  pub all : (l : ℕ) → l < k → bit mask l ≡ true → Has more new (rank (bit_or (get_or brought h 0) (get_or brought l 0)))

-- the writes of two masks that write h can be suspected with: those of the second if it is of the first, and the other way round
unfoldable pub mates_of : ℕ → ℕ → ℕ → ℕ
mates_of own other h = bit_or (cond (bit own h) other 0) (cond (bit other h) own 0)

-- what each write below k brings with its mates before it
pub record TwosListed (brought : List ℕ) (n own other k many : ℕ) (old : List ℕ) (more : ℕ) (new : List ℕ) : Type 0 where
  pub most : more ≤ many + pairs_below k
  pub ranks : Ranks brought n more new
  pub kept : Kept many old more new
  pub all : (h l : ℕ) → h < k → l < h → bit (mates_of own other h) l ≡ true → Has more new (rank (bit_or (get_or brought h 0) (get_or brought l 0)))

-- ---- what the search is given

-- in rising order the ranks of valid schedules; and whatever the base, to every bad schedule there is a bad one in the list, of no larger rank
pub record Suspects (rows column : List ℕ) (n : ℕ) (checks : List Check) (list : List ℕ) (many : ℕ) : Type 0 where
  pub most : many ≤ most_listed
  pub ranks : Ranks rows n many list
  pub every : (base : List ℕ) → length base ≡ disk_blocks → (s : ℕ) → s < 2 ^ n → bad_rows rows n base (held_from column 0 n) checks s ≡ true
      → (t : ℕ) × (t < 2 ^ n) × Has many list (rank t) × (bad_rows rows n base (held_from column 0 n) checks t ≡ true) × (rank t ≤ rank s)
