-- The code's steps: for each schedule the candidates that make it invalid, and a table of marked sets.
use Rattle.std.specs.Prelude.{ℕ, zero, suc, ◌+◌, ◌-◌, ◌*◌, ◌/◌, ◌%◌, ◌^◌, ◌≤◌, ◌<◌, ◌≡◌, ◌⊎◌, Bool, true, cond, not, ◌||◌, List, length, get_or}
use Rattle.std.specs.Int.Bits.{bit_or}
use Rattle.relation.specs.Bits.{bit, with_bit, mask_of}
use Rattle.relation.specs.Union.{union}
use Rattle.model.specs.Limits.{found_schedules, candidate_sets}
use Rattle.model.specs.declared.Rule.{Rule}
use Rattle.model.specs.declared.Write.{Write}
use Rattle.model.specs.declared.Check.{Check}
use Rattle.model.specs.Rules.{Label, matches}
use Rattle.model.specs.Cyclic.{rule_at}
use Rattle.model.specs.Schedule.{run}
use Rattle.model.specs.Check.{consistent}
use Rattle.judge_disks.specs.Packed.{labelled}
use Rattle.find_laws.specs.Hit.{allows, spread}

-- ---- for each schedule the set of the candidates that make it invalid

-- the most schedules of all writes of a test but the last
abbrev pub half_schedules : ℕ
half_schedules = found_schedules / 2

-- the first n candidates that match two labels
unfoldable pub matching : List Rule → Label → Label → ℕ → ℕ
matching cs l m n = mask_of (λ c. matches (rule_at cs c) l m) n

-- those that match the labels of places i and j of a column
unfoldable pub pairs : List Rule → ℕ → List ℕ → ℕ → ℕ → ℕ
pairs cs n column i j = matching cs (labelled (get_or column i 0)) (labelled (get_or column j 0)) n

-- the first n of the writes before write k, in both orders
pub record Facing (pair : ℕ → ℕ → ℕ) (k n : ℕ) (out back : List ℕ) : Type 0 where
  pub out_size : length out ≡ 64
  pub back-size : length back ≡ 64
  pub out_at : (j : ℕ) → j < n → get_or out j 0 ≡ pair k j
  pub back_at : (j : ℕ) → j < n → get_or back j 0 ≡ pair j k

-- the first k writes that a schedule does not flag
unfoldable pub unflagged : ℕ → ℕ → ℕ
unflagged s k = mask_of (λ j. not (bit s j)) k

-- the union of what pairs a flagged write with an unflagged one, of the first k writes
unfoldable pub forbids : (ℕ → ℕ → ℕ) → ℕ → ℕ → ℕ
forbids pair s zero = 0
forbids pair s (suc k) = bit_or (forbids pair s k) (cond (bit s k) (union (pair k) (unflagged s k) k) (union (λ i. pair i k) s k))

pub record Forbids (pair : ℕ → ℕ → ℕ) (k : ℕ) (table : List ℕ) : Type 0 where
  pub at : (s : ℕ) → s < 2 ^ k → get_or table s 0 ≡ forbids pair s k

-- the first n schedules of k writes are those of one write more, without it and with it
pub record Widened (outs backs : List ℕ) (k : ℕ) (old new : List ℕ) (n : ℕ) : Type 0 where
  pub without : (s : ℕ) → s < n → get_or new s 0 ≡ bit_or (get_or old s 0) (get_or backs s 0)
  pub rest : (s : ℕ) → n ≤ s → s < 2 ^ k → get_or new s 0 ≡ get_or old s 0
  pub with_it : (s : ℕ) → s < n → get_or new (2 ^ k + s) 0 ≡ bit_or (get_or old s 0) (get_or outs (2 ^ k - 1 - s) 0)

-- for each schedule below n those of the first c candidates that alone make it invalid
pub record Sets (cs : List Rule) (ws : List Write) (n c : ℕ) (l : List ℕ) : Type 0 where
  pub at : (s : ℕ) → s < n → get_or l s 0 ≡ mask_of (λ i. not (allows cs ws s i)) c

-- these sets, of the schedules below n, have numbers up to that of the set of all candidates
pub record Bounded (l : List ℕ) (all n : ℕ) : Type 0 where
  pub few : all < candidate_sets
  pub below : (s : ℕ) → s < n → get_or l s 0 ≤ all

-- ---- marks

-- the words of a table with a bit for each set
abbrev pub set_words : ℕ
set_words = candidate_sets / 64

-- set x is marked
unfoldable pub mark_at : List ℕ → ℕ → Bool
mark_at table x = bit (get_or table (x / 64) 0) (x % 64)

-- a schedule leaves an inconsistent disk
unfoldable pub spoils : List Check → List Write → List ℕ → ℕ → Bool
spoils checks ws base s = not (consistent checks (run ws s base))

-- the candidates that leave a schedule valid, and those of the schedule that begins with x and ends with y
unfoldable pub set_of : List ℕ → ℕ → ℕ → ℕ
set_of forbidden all s = all - get_or forbidden s 0

unfoldable pub set_after : List ℕ → ℕ → ℕ → ℕ → ℕ → ℕ
set_after forbidden all x rows y = set_of forbidden all (x + rows * y)

-- a table with the sets of the numbers below n in it that fail
pub record Adds (fails : ℕ → Bool) (sets : ℕ → ℕ) (n : ℕ) (old new : List ℕ) : Type 0 where
  pub size : length new ≡ length old
  pub kept : (x : ℕ) → mark_at old x ≡ true → mark_at new x ≡ true
  pub each : (s : ℕ) → s < n → fails s ≡ true → mark_at new (sets s) ≡ true
  pub only : (x : ℕ) → mark_at new x ≡ true → (mark_at old x ≡ true) ⊎ ((s : ℕ) × (s < n) × (fails s ≡ true) × (sets s ≡ x))

-- the marks of a table, and those of f
pub record Joins (f : ℕ → Bool) (old new : List ℕ) : Type 0 where
  pub size : length new ≡ length old
  pub at : (x : ℕ) → x < candidate_sets → mark_at new x ≡ f x || mark_at old x

-- the marks of a table below n are those of f
pub record Shows (f : ℕ → Bool) (l : List ℕ) (n : ℕ) : Type 0 where
  pub size : length l ≡ set_words
  pub at : (x : ℕ) → x < n → mark_at l x ≡ f x

-- the words that hold the sets of n candidates
abbrev pub words_of : ℕ → ℕ
words_of n = (2 ^ n + 63) / 64

-- the bits of a word whose numbers lack candidate b: the first 2 ^ b of every 2 ^ (b + 1)
unfoldable pub lacking : ℕ → ℕ
lacking b = (2 ^ 64 - 1) / (2 ^ 2 ^ b + 1)

-- the marks of the sets of the first k words are handed down from the sets with candidate b
pub record Lowered (b : ℕ) (old new : List ℕ) (k : ℕ) : Type 0 where
  pub size : length new ≡ length old
  pub done : (x : ℕ) → x / 64 < k → mark_at new x ≡ mark_at old x || mark_at old (with_bit x b)
  pub rest : (i : ℕ) → k ≤ i → get_or new i 0 ≡ get_or old i 0

-- by the candidates below b of n
pub record Spreads (n b : ℕ) (old new : List ℕ) : Type 0 where
  pub size : length new ≡ length old
  pub shows : (f : ℕ → Bool) → Shows f old (2 ^ n) → Shows (spread f b) new (2 ^ n)
