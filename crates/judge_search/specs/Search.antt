-- The search for the smallest bad schedule.
use Rattle.std.specs.Prelude.{ℕ, ◌-◌, ◌%◌, ◌<◌, ◌≡◌, Bool, true, false, not, ◌&&◌, List, eqb, ltb, get_or, Option, None, Some}
use Rattle.relation.specs.Best.{smallest_below}
use Rattle.relation.specs.Rank.{small_sets}
use Rattle.model.specs.declared.Write.{Write}
use Rattle.model.specs.declared.Check.{Check}
use Rattle.model.specs.Schedule.{run}
use Rattle.model.specs.Check.{consistent}
use Rattle.judge_search.specs.Verdict.{verdict_by}

-- the verdict on the numbers below n
unfoldable pub verdict_below : (ℕ → Bool) → ℕ → Option ℕ
verdict_below p n = verdict_by (smallest_below p n)

-- ---- the code's steps

-- entry k of a list is the one before it once more
unfoldable pub repeated : List ℕ → ℕ → Bool
repeated list k = ltb 0 k && eqb (get_or list (k - 1) 0) (get_or list k 0)

-- a schedule leaves an inconsistent disk
unfoldable pub leaves_inconsistent : List ℕ → List Write → List Check → ℕ → Bool
leaves_inconsistent base ws checks s = not (consistent checks (run ws s base))

-- the schedule whose rank is entry k of a list
abbrev pub listed : List ℕ → ℕ → ℕ
listed list k = get_or list k 0 % small_sets

-- a search through the first `many` stops at the first schedule that passes, or does not stop
unfoldable pub StopsAt : (ℕ → Bool) → List ℕ → ℕ → Option ℕ → Type 0
StopsAt p list many None = (i : ℕ) → i < many → p (listed list i) ≡ false
StopsAt p list many (Some s) = (i : ℕ) × (i < many) × (s ≡ listed list i) × (p s ≡ true) × ((j : ℕ) → j < i → p (listed list j) ≡ false)
