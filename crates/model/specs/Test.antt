-- Tests, and what the judge counts.
use Rattle.std.specs.Prelude.{ℕ, zero, suc, ◌+◌, ◌^◌, ◌<◌, Bool, cond, not, ◌&&◌, List, length}
use Rattle.std.proofs.Math.Option.{Option, none, some}
use Rattle.relation.specs.Best.{Smallest, smallest_below}
use Rattle.relation.specs.Lists.{all_below}
use Rattle.model.specs.declared.Write.{Write}
use Rattle.model.specs.declared.Rule.{Rule}
use Rattle.model.specs.declared.Check.{Check}
use Rattle.model.specs.Disk.{empty_disk}
use Rattle.model.specs.Schedule.{written, run, Valid, valid}
use Rattle.model.specs.Check.{Consistent, consistent}

-- *test*: its initial writes, its main writes and its checks
pub record Test : Type 0 where
  pub initial : List Write
  pub main : List Write
  pub checks : List Check

abbrev pub test : List Write → List Write → List Check → Test
test initial main checks = record { initial = initial; main = main; checks = checks }

-- *file*: rules that serve all tests, and tests
pub record File : Type 0 where
  pub rules : List Rule
  pub tests : List Test

abbrev pub file : List Rule → List Test → File
file rules tests = record { rules = rules; tests = tests }

-- *the initial disk*: the empty disk after all initial writes
unfoldable pub initial_disk : Test → List ℕ
initial_disk t = written t.initial empty_disk

-- how many schedules a test's main writes have
abbrev pub schedules : Test → ℕ
schedules t = 2 ^ length t.main

-- the disk that a schedule of the main writes leaves
abbrev pub disk_after : Test → ℕ → List ℕ
disk_after t s = run t.main s (initial_disk t)

-- how many numbers below n pass a test
unfoldable pub count_below : (ℕ → Bool) → ℕ → ℕ
count_below p zero = 0
count_below p (suc n) = cond (p n) 1 0 + count_below p n

-- ---- for any meaning `Counts` of which schedules count

-- every schedule that counts leaves a consistent disk
abbrev pub HoldsFor : (ℕ → Type 0) → Test → Type 0
HoldsFor Counts t = (s : ℕ) → s < schedules t → Counts s → Consistent t.checks (disk_after t s)

-- a schedule is bad: it counts, and its disk is inconsistent
abbrev pub BadFor : (ℕ → Type 0) → Test → ℕ → Type 0
BadFor Counts t s = (s < schedules t) × Counts s × (Consistent t.checks (disk_after t s) → ⊥)

-- the smallest one: bad, and every other bad one has more flagged writes, or as many and a larger number
abbrev pub SmallestBadFor : (ℕ → Type 0) → Test → ℕ → Type 0
SmallestBadFor Counts t s = Smallest (BadFor Counts t) s

-- ---- the same, computed, for any choice `counts` of which schedules count

-- a schedule counts, and its disk is inconsistent
abbrev pub bad_for : (ℕ → Bool) → Test → ℕ → Bool
bad_for counts t s = counts s && not (consistent t.checks (disk_after t s))

-- no schedule is bad
abbrev pub holds_for : (ℕ → Bool) → Test → Bool
holds_for counts t = all_below (λ s. not (bad_for counts t s)) (schedules t)

-- the smallest bad schedule, if there is one
abbrev pub smallest_bad_for : (ℕ → Bool) → Test → Option ℕ
smallest_bad_for counts t = smallest_below (bad_for counts t) (schedules t)

-- the number that the judge shows: that of the smallest bad schedule, or 0 where there is none
unfoldable pub shown_of : Option ℕ → ℕ
shown_of none = 0
shown_of (some s) = s

-- how many schedules count, and how many of these are bad
abbrev pub count_for : (ℕ → Bool) → Test → ℕ
count_for counts t = count_below counts (schedules t)

abbrev pub bad_count_for : (ℕ → Bool) → Test → ℕ
bad_count_for counts t = count_below (bad_for counts t) (schedules t)

-- ---- where the valid schedules count

-- *a test holds*: every valid schedule leaves a consistent disk
unfoldable pub TestHolds : List Rule → Test → Type 0
TestHolds rules t = HoldsFor (Valid rules t.main) t

-- a schedule is bad: valid, and its disk is inconsistent
unfoldable pub Bad : List Rule → Test → ℕ → Type 0
Bad rules t s = BadFor (Valid rules t.main) t s

-- *the smallest failing schedule* (02, [4]): the smallest of the bad ones
abbrev pub SmallestBad : List Rule → Test → ℕ → Type 0
SmallestBad rules t s = SmallestBadFor (Valid rules t.main) t s

-- the same, computed
unfoldable pub bad : List Rule → Test → ℕ → Bool
bad rules t s = bad_for (valid rules t.main) t s

unfoldable pub test_holds : List Rule → Test → Bool
test_holds rules t = holds_for (valid rules t.main) t

unfoldable pub smallest_bad : List Rule → Test → Option ℕ
smallest_bad rules t = smallest_bad_for (valid rules t.main) t

-- the judge's counts: of valid schedules, and of valid and inconsistent ones
unfoldable pub valid_count : List Rule → Test → ℕ
valid_count rules t = count_for (valid rules t.main) t

unfoldable pub bad_count : List Rule → Test → ℕ
bad_count rules t = bad_count_for (valid rules t.main) t
