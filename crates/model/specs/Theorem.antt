-- The theorems of the definitions: each computed form agrees with its meaning, which speaks of every rule, write, check or schedule.
-- (Cyclic rules: crate `rule_cyclelaws`; candidates and the choice among their sets: crate `find_laws`.)
use Rattle.std.specs.Prelude.{ℕ, suc, ◌<◌, ◌≡◌, ◌↔◌, ◌⊎◌, Bool, true, List, length}
use Rattle.std.proofs.Math.Option.{none, some}
use Rattle.std.specs.Int.Count.{ones}
use Rattle.model.specs.Limits.{disk_blocks}
use Rattle.model.specs.declared.Write.{Write}
use Rattle.model.specs.declared.Rule.{Rule}
use Rattle.model.specs.declared.Check.{Check}
use Rattle.model.specs.Rules.{Label, DependsOn, depends_on, Known, known}
use Rattle.model.specs.Schedule.{flagged, Valid, valid}
use Rattle.model.specs.Needs.{Needs, NeedsRing, Earliest, Late, needs, needs_ring, ready, late}
use Rattle.model.specs.Check.{RangeHolds, Damaged, damaged, Holds, holds, Consistent, consistent}
use Rattle.model.specs.Test.{Test, schedules, HoldsFor, holds_for, BadFor, bad_for, bad_count_for, SmallestBadFor, smallest_bad_for, TestHolds, test_holds, Bad, bad, count_below, bad_count, SmallestBad, smallest_bad}

-- a label depends on another
abbrev pub Depends : Type 0
Depends = (rules : List Rule) (l m : Label) → DependsOn rules l m ↔ depends_on rules l m ≡ true

-- all predicates are known
abbrev pub KnownRules : Type 0
KnownRules = (rules : List Rule) → Known rules ↔ known rules ≡ true

-- a schedule is valid
abbrev pub ValidSchedule : Type 0
ValidSchedule = (rules : List Rule) (ws : List Write) (s : ℕ) → Valid rules ws s ↔ valid rules ws s ≡ true

-- a write of a list needs another
abbrev pub NeededWrites : Type 0
NeededWrites = (rules : List Rule) (ws : List Write) (i j : ℕ) → i < length ws → j < length ws → Needs rules ws i j ↔ needs rules ws i j ≡ true

-- needs form a ring
abbrev pub RingOfNeeds : Type 0
RingOfNeeds = (rules : List Rule) (ws : List Write) → NeedsRing rules ws ↔ needs_ring rules ws ≡ true

-- a write is late
abbrev pub LateWrite : Type 0
LateWrite = (rules : List Rule) (ws : List Write) (stored : ℕ → Bool) (w : Write) → Late rules ws stored w ↔ late rules ws stored w ≡ true

-- write i is the earliest that waits and whose needs are all stored
abbrev pub EarliestReady : Type 0
EarliestReady = (rules : List Rule) (ws : List Write) (stored : ℕ → Bool) (i : ℕ) → Earliest rules ws stored i ↔ ready rules ws stored ≡ suc i

-- head and tail are damaged; that is, with them the range fails of every disk of 256 blocks
abbrev pub DamagedRange : Type 0
DamagedRange =
    (head tail : ℕ) → (Damaged head tail ↔ damaged head tail ≡ true) × (Damaged head tail ↔ ((disk : List ℕ) → length disk ≡ disk_blocks → RangeHolds disk head tail → ⊥))

-- a check holds of a disk, and a disk is consistent
abbrev pub CheckHolds : Type 0
CheckHolds = (disk : List ℕ) (c : Check) → Holds disk c ↔ holds disk c ≡ true

abbrev pub ConsistentDisk : Type 0
ConsistentDisk = (checks : List Check) (disk : List ℕ) → Consistent checks disk ↔ consistent checks disk ≡ true

-- ---- judging, for any meaning of which schedules count and any computed form that agrees with it on the schedules of a test

abbrev pub Agrees : (ℕ → Type 0) → (ℕ → Bool) → Test → Type 0
Agrees Counts counts t = (s : ℕ) → s < schedules t → Counts s ↔ counts s ≡ true

-- a schedule of a test is bad
abbrev pub BadScheduleFor : Type 1
BadScheduleFor = (Counts : ℕ → Type 0) (counts : ℕ → Bool) (t : Test) → Agrees Counts counts t → (s : ℕ) → s < schedules t → BadFor Counts t s ↔ bad_for counts t s ≡ true

-- a test holds; and it holds exactly if no bad schedule is counted
abbrev pub HoldingTestFor : Type 1
HoldingTestFor = (Counts : ℕ → Type 0) (counts : ℕ → Bool) (t : Test) → Agrees Counts counts t → (HoldsFor Counts t ↔ holds_for counts t ≡ true) × (HoldsFor Counts t ↔ bad_count_for counts t ≡ 0)

-- a test holds or has a bad schedule, and not both
abbrev pub DecidedFor : Type 1
DecidedFor =
    (Counts : ℕ → Type 0) (counts : ℕ → Bool) (t : Test) → Agrees Counts counts t → (HoldsFor Counts t ⊎ ((s : ℕ) × BadFor Counts t s)) × ((s : ℕ) → BadFor Counts t s → HoldsFor Counts t → ⊥)

-- the smallest bad schedule: where a test does not hold there is one, and only one; it is what is computed, and the computed form is none exactly if the test holds
pub record SmallestFailingFor (Counts : ℕ → Type 0) (counts : ℕ → Bool) (t : Test) : Type 0 where
  pub one : (HoldsFor Counts t → ⊥) → (s : ℕ) × SmallestBadFor Counts t s
  pub only : (s k : ℕ) → SmallestBadFor Counts t s → SmallestBadFor Counts t k → s ≡ k
  pub computed : (s : ℕ) → SmallestBadFor Counts t s ↔ smallest_bad_for counts t ≡ some s
  pub holds : HoldsFor Counts t ↔ smallest_bad_for counts t ≡ none

abbrev pub SmallestScheduleFor : Type 1
SmallestScheduleFor = (Counts : ℕ → Type 0) (counts : ℕ → Bool) (t : Test) → Agrees Counts counts t → SmallestFailingFor Counts counts t

-- ---- and where the valid schedules count

-- a schedule of a test is bad
abbrev pub BadSchedule : Type 0
BadSchedule = (rules : List Rule) (t : Test) (s : ℕ) → s < schedules t → Bad rules t s ↔ bad rules t s ≡ true

-- a test holds; and it holds exactly if no bad schedule is counted
abbrev pub HoldingTest : Type 0
HoldingTest = (rules : List Rule) (t : Test) → (TestHolds rules t ↔ test_holds rules t ≡ true) × (TestHolds rules t ↔ bad_count rules t ≡ 0)

-- a test holds or has a bad schedule, and not both
abbrev pub Decided : Type 0
Decided = (rules : List Rule) (t : Test) → (TestHolds rules t ⊎ ((s : ℕ) × Bad rules t s)) × ((s : ℕ) → Bad rules t s → TestHolds rules t → ⊥)

-- a schedule has as many flagged writes as its number has ones
abbrev pub FlagsCounted : Type 0
FlagsCounted = (t : Test) (s : ℕ) → s < schedules t → count_below (flagged s) (length t.main) ≡ ones s

-- the smallest failing schedule: where a test does not hold there is one, and only one; it is what is computed, and the computed form is none exactly if the test holds
pub record SmallestFailing (rules : List Rule) (t : Test) : Type 0 where
  pub one : (TestHolds rules t → ⊥) → (s : ℕ) × SmallestBad rules t s
  pub only : (s k : ℕ) → SmallestBad rules t s → SmallestBad rules t k → s ≡ k
  pub computed : (s : ℕ) → SmallestBad rules t s ↔ smallest_bad rules t ≡ some s
  pub holds : TestHolds rules t ↔ smallest_bad rules t ≡ none

abbrev pub SmallestSchedule : Type 0
SmallestSchedule = (rules : List Rule) (t : Test) → SmallestFailing rules t
