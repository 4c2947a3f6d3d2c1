-- The counts over schedules, and the smallest bad one.
use Rattle.std.specs.Prelude.{ℕ, ◌+◌, ◌*◌, ◌^◌, ◌≤◌, ◌<◌, ◌≡◌, ◌⊎◌, Bool, true, not, ◌&&◌, min, List}
use Rattle.relation.specs.Best.{smallest_below}
use Rattle.relation.specs.Rank.{small_sets, rank}
use Rattle.model.specs.declared.Check.{Check}
use Rattle.model.specs.Limits.{most_schedules}
use Rattle.model.specs.Test.{shown_of, count_below}
use Rattle.judge_closed.specs.Closed.{valid_between}
use Rattle.judge_settled.specs.Settled.{all_hold}
use Rattle.judge_counting.specs.declared.Judgement.{Judgement}
use Rattle.judge_counting.specs.declared.Tally.{Tally}

-- the three numbers, of the schedules below n that are valid and that are bad
unfoldable pub tallied : (ℕ → Bool) → (ℕ → Bool) → ℕ → Judgement
tallied v b n = record { valid = count_below v n; bad = count_below b n; shown = shown_of (smallest_below b n) }

-- ---- on the way: the least rank of the bad ones so far

-- above the rank of every schedule, and 0 in its lower half
abbrev pub no_rank : ℕ
no_rank = 64 * small_sets

-- more valid schedules in the counts, that leave consistent disks; more, that are all bad, and s the smallest of them
unfoldable pub with_good : Tally → ℕ → Tally
with_good t many = record { valid = t.valid + many; bad = t.bad; best = t.best }

unfoldable pub with_bad : Tally → ℕ → ℕ → Tally
with_bad t many s = record { valid = t.valid + many; bad = t.bad + many; best = min t.best (rank s) }

-- ---- between two sets

-- a schedule between two sets is bad: valid, and some check fails of its disk
unfoldable pub bad_between : List ℕ → List ℕ → ℕ → List Check → List ℕ → ℕ → ℕ → ℕ → Bool
bad_between column base n checks dependencies chosen free s = not (all_hold column base n checks s) && valid_between dependencies n chosen free s

-- there is room in the counts for all valid ones
pub record Room (dependencies : List ℕ) (n chosen free : ℕ) (t : Tally) : Type 0 where
  pub valid : t.valid + count_below (valid_between dependencies n chosen free) (2 ^ n) ≤ most_schedules
  pub bad : t.bad + count_below (valid_between dependencies n chosen free) (2 ^ n) ≤ most_schedules

-- valid and bad have grown by how many numbers below n pass v and b; the best rank is the least of the old one and of those that pass b
pub record Gains (v b : ℕ → Bool) (n : ℕ) (old new : Tally) : Type 0 where
  pub valid : new.valid ≡ old.valid + count_below v n
  pub bad : new.bad ≡ old.bad + count_below b n
  pub kept : new.best ≤ old.best
  pub least : (s : ℕ) → s < n → b s ≡ true → new.best ≤ rank s
  pub one : (new.best ≡ old.best) ⊎ ((s : ℕ) × (s < n) × (b s ≡ true) × (new.best ≡ rank s))
