-- What all schedules between two sets say of a block, of a check, of all checks.
use Rattle.std.specs.Prelude.{ℕ, ◌+◌, ◌≤◌, ◌<◌, ◌≡◌, Bool, true, false, cond, not, List, eqb, leb, ltb, min, length, get_or, set}
use Rattle.relation.specs.Bits.{bit, mask_of}
use Rattle.relation.specs.Tables.{Filled}
use Rattle.model.specs.declared.Check.{Check}
use Rattle.model.specs.declared.Check.TheVariants.{Range, Pair, Pointer}
use Rattle.model.specs.Limits.{disk_blocks, most_main}
use Rattle.model.specs.Disk.{empty, block_at}
use Rattle.model.specs.Schedule.{run}
use Rattle.model.specs.Check.{range_holds, holds, consistent}
use Rattle.judge_disks.specs.Packed.{unpacked, held_from}
use Rattle.judge_closed.specs.Closed.{between}
use Rattle.judge_settled.specs.declared.Answer.{Answer}
use Rattle.judge_settled.specs.declared.Answer.TheVariants.{Yes, No, Open}

-- ---- answers

-- what is answered of a test over all schedules between two sets: all pass, none passes, or a free write is named, and nothing is said
unfoldable pub Says : (ℕ → Bool) → ℕ → ℕ → Answer → Type 0
Says p chosen free Yes = (s : ℕ) → between chosen free s ≡ true → p s ≡ true
Says p chosen free No = (s : ℕ) → between chosen free s ≡ true → p s ≡ false
Says p chosen free (Open h) = bit free h ≡ true

-- the answer to the opposite question
unfoldable pub opposed : Answer → Answer
opposed Yes = No
opposed No = Yes
opposed (Open h) = Open h

-- ---- what is asked of a schedule's disk: of the first n writes of a column, from a base

abbrev pub disk_of : List ℕ → List ℕ → ℕ → ℕ → List ℕ
disk_of column base n s = run (held_from column 0 n) s base

-- the block at a
unfoldable pub laid : List ℕ → List ℕ → ℕ → ℕ → ℕ → ℕ
laid column base n a s = block_at (disk_of column base n s) a

-- it is v
unfoldable pub is_block : List ℕ → List ℕ → ℕ → ℕ → ℕ → ℕ → Bool
is_block column base n a v s = eqb (laid column base n a s) v

-- a check, all checks hold
unfoldable pub holds_in : List ℕ → List ℕ → ℕ → Check → ℕ → Bool
holds_in column base n c s = holds (disk_of column base n s) c

unfoldable pub all_hold : List ℕ → List ℕ → ℕ → List Check → ℕ → Bool
all_hold column base n checks s = consistent checks (disk_of column base n s)

-- ---- with one block known

-- the address of the block that a check begins with
unfoldable pub own_block : Check → ℕ
own_block (Range a) = a
own_block (Pair a v b w) = a
own_block (Pointer a) = a

-- the disk with a block put at a: the schedule's own, where that block is there
abbrev pub known_of : List ℕ → List ℕ → ℕ → ℕ → ℕ → ℕ → List ℕ
known_of column base n a own s = set (disk_of column base n s) a own

-- its block at k is v; is not empty
unfoldable pub is_known : List ℕ → List ℕ → ℕ → ℕ → ℕ → ℕ → ℕ → ℕ → Bool
is_known column base n a own k v s = eqb (block_at (known_of column base n a own s) k) v

unfoldable pub is_there : List ℕ → List ℕ → ℕ → ℕ → ℕ → ℕ → ℕ → Bool
is_there column base n a own k s = not (empty (block_at (known_of column base n a own s) k))

-- of it a range of blocks holds; a check does, whose own block was put there
unfoldable pub range_in : List ℕ → List ℕ → ℕ → ℕ → ℕ → ℕ → ℕ → ℕ → Bool
range_in column base n a own head tail s = range_holds (known_of column base n a own s) head tail

unfoldable pub holds_by : List ℕ → List ℕ → ℕ → Check → ℕ → ℕ → Bool
holds_by column base n c own s = holds (known_of column base n (own_block c) own s) c

-- a known block is v
unfoldable pub valued : ℕ → ℕ → Answer
valued own v = cond (eqb own v) Yes No

-- ---- the writes to an address

unfoldable pub writers_of : List ℕ → ℕ → ℕ → ℕ
writers_of column n a = mask_of (λ i. eqb (unpacked (get_or column i 0)).address a) n

-- a table of these, for each address
abbrev pub Writers : List ℕ → ℕ → List ℕ → Type 0
Writers column n writers = Filled (writers_of column n) disk_blocks writers

-- a column, a base and that table
pub record Ready (column base : List ℕ) (n : ℕ) (writers : List ℕ) : Type 0 where
  pub few : n ≤ most_main
  pub size : length base ≡ disk_blocks
  pub at : Writers column n writers

-- ---- runs of blocks that are there whatever is stored

-- a block that is there, and that no write goes to
pub record Fixed (base writers : List ℕ) (k : ℕ) : Type 0 where
  pub none : get_or writers k 0 ≡ 0
  pub there : get_or base k 0 ≡ 0 → ⊥

-- all blocks from k up to `to` - 1 are such, if there are any
pub record Run (base writers : List ℕ) (k to : ℕ) : Type 0 where
  pub at : (j : ℕ) → k ≤ j → j < to → Fixed base writers j

-- a table of where these end, for each block from `from` on
pub record Runs (base writers : List ℕ) (from : ℕ) (runs : List ℕ) : Type 0 where
  pub at : (k : ℕ) → from ≤ k → k < disk_blocks → Run base writers k (get_or runs k 0)

-- where the run at k ends, before one that ends at `to`
unfoldable pub run_end : List ℕ → List ℕ → ℕ → ℕ → ℕ
run_end base writers k to = cond (eqb (get_or writers k 0) 0) (cond (eqb (get_or base k 0) 0) k to) k

-- the next block behind k: of a run the end, but no further than `tail`, and than the block at a
unfoldable pub later_of : List ℕ → ℕ → ℕ → ℕ → ℕ
later_of runs a k tail =
    cond (eqb (k + 1) tail) tail
    (cond (leb (min (get_or runs (k + 1) 0) tail) (k + 1)) (k + 1)
    (cond (ltb a (k + 1)) (min (get_or runs (k + 1) 0) tail) (min (min (get_or runs (k + 1) 0) tail) a)))

-- a set has no others than writes to a
unfoldable pub Among : List ℕ → ℕ → ℕ → ℕ → Type 0
Among column n a set = (i : ℕ) → bit set i ≡ true → bit (writers_of column n a) i ≡ true

-- all writes to a that a schedule flags are in a set
unfoldable pub Only : List ℕ → ℕ → ℕ → ℕ → ℕ → Type 0
Only column n a set s = (i : ℕ) → bit (writers_of column n a) i ≡ true → bit s i ≡ true → bit set i ≡ true

-- ---- the possible blocks, one by one

-- an answer is yes or no
unfoldable pub definite : Answer → Bool
definite Yes = true
definite No = true
definite (Open h) = false

-- what a definite answer says of one schedule
unfoldable pub Agrees : Answer → Bool → Type 0
Agrees Yes b = b ≡ true
Agrees No b = b ≡ false
Agrees (Open h) b = Unit {0}

-- if a set of writes was found alike: the answer is definite, and right for all schedules whose writes to a are in the set
unfoldable pub AlikeIf : Bool → (ℕ → Bool) → List ℕ → ℕ → ℕ → ℕ → ℕ → ℕ → Answer → Type 0
AlikeIf false p column n chosen free a set first = Unit {0}
AlikeIf true p column n chosen free a set first =
    (definite first ≡ true) × ((s : ℕ) → between chosen free s ≡ true → Only column n a set s → Agrees first (p s))
