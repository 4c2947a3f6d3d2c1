-- Valid schedules as closed sets of writes: with each write all that it depends on. What flagging a write, or leaving it out, takes
-- with it, and the valid schedules that lie between two sets.
use Rattle.std.specs.Prelude.{ℕ, ◌%◌, ◌^◌, ◌<◌, ◌≡◌, Bool, true, false, ◌&&◌, ◌||◌, List, eqb, get_or}
use Rattle.std.specs.Int.Bits.{bit_and, bit_or}
use Rattle.relation.specs.Bits.{bit, with_bit, mask_of}
use Rattle.relation.specs.Union.{part_of}
use Rattle.judge_schedules.specs.Valid.{valid_rows}

-- two tables of sets, each write's dependencies and each one's dependents, itself among both: reflexive, transitive, and the one the converse of the other
pub record Order (n : ℕ) (dependencies dependents : List ℕ) : Type 0 where
  pub reflexive : (i : ℕ) → i < n → bit (get_or dependencies i 0) i ≡ true
  pub transitive : (i j k : ℕ) → i < n → j < n → bit (get_or dependencies i 0) j ≡ true → bit (get_or dependencies j 0) k ≡ true → bit (get_or dependencies i 0) k ≡ true
  pub dependencies_most : (i : ℕ) → i < n → get_or dependencies i 0 < 2 ^ n
  pub dependents-most : (j : ℕ) → j < n → get_or dependents j 0 < 2 ^ n
  pub converse : (i j : ℕ) → i < n → j < n → bit (get_or dependents j 0) i ≡ bit (get_or dependencies i 0) j

-- the dependencies are those of rows, over any number of steps: a schedule that has with each write its row has its dependencies, and the other way round
pub record Orders (rows : List ℕ) (n : ℕ) (dependencies dependents : List ℕ) : Type 0 where
  pub order : Order n dependencies dependents
  pub same : (s : ℕ) → s < 2 ^ n → valid_rows dependencies n s ≡ valid_rows rows n s

-- ---- between two sets

-- all that is chosen is flagged, and nothing that is neither chosen nor free
unfoldable pub between : ℕ → ℕ → ℕ → Bool
between chosen free s = part_of chosen s && part_of s (bit_or chosen free)

-- and it is valid
unfoldable pub valid_between : List ℕ → ℕ → ℕ → ℕ → ℕ → Bool
valid_between dependencies n chosen free s = valid_rows dependencies n s && between chosen free s

-- what is chosen brings all that it depends on, and what is free needs nothing that is left out: any free write may be flagged next, or left out
pub record Choice (dependencies : List ℕ) (n chosen free : ℕ) : Type 0 where
  pub chosen-most : chosen < 2 ^ n
  pub free_most : free < 2 ^ n
  pub apart : (i : ℕ) → bit chosen i ≡ true → bit free i ≡ false
  pub whole : (i j : ℕ) → i < n → bit chosen i ≡ true → bit (get_or dependencies i 0) j ≡ true → bit chosen j ≡ true
  pub within : (i j : ℕ) → i < n → bit free i ≡ true → bit (get_or dependencies i 0) j ≡ true → bit chosen j || bit free j ≡ true

-- ---- the code's steps

-- write i and what a closed row says that it reaches
unfoldable pub reached_row : List ℕ → ℕ → ℕ → ℕ
reached_row closed n i = with_bit (get_or closed i 0) i % 2 ^ n

-- the writes below k that have write j among their dependencies
unfoldable pub reaching_row : List ℕ → ℕ → ℕ → ℕ
reaching_row dependencies k j = mask_of (λ i. bit (get_or dependencies i 0) j) k

-- a set has no free member but h
unfoldable pub alone : ℕ → ℕ → ℕ → Bool
alone set free h = eqb (bit_and set free) (2 ^ h)
