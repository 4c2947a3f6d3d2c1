-- The theorem of judging, for all files and test numbers: what a judge is given (`case_in`), and what `judgement_of` and `verdict_of` say of it. The exported
-- contracts cite these three. Here they are told by meanings, `Cyclic`, `Valid`, `Bad`, `SmallestBad` and `TestHolds`, and not by what is computed.
use Rattle.std.specs.Prelude.{ℕ, ◌-◌, ◌≤◌, ◌<◌, ◌≡◌, ◌↔◌, ◌⊎◌, Bool, true, List, length, Option, None, Some}
use Rattle.model.specs.Answer.{Outcome, answer, refused}
use Rattle.model.specs.Cyclic.{Cyclic}
use Rattle.model.specs.Schedule.{Valid}
use Rattle.model.specs.Test.{File, schedules, TestHolds, Bad, SmallestBad, count_below}
use Rattle.file_format.specs.File.{read_of}
use Rattle.file_format.specs.Held.{test_of}
use Rattle.judge_counting.specs.declared.Judgement.{Judgement}
use Rattle.judge_cases.specs.Judge.{Case, case_in, judgement_of, verdict_of}

-- no such test: tests count from 1
abbrev pub NoSuchTest : File → ℕ → Type 0
NoSuchTest f k = (k ≡ 0) ⊎ (length f.tests < k)

-- test k of a file under the file's rules
abbrev pub case_of_test : File → ℕ → Case
case_of_test f k = record { rules = f.rules; test = test_of f (k - 1) }

-- what the judge is given for test k of a file that is read
pub record CaseFor (f : File) (k : ℕ) (o : Outcome Case) : Type 0 where
  -- 8 exactly if labels can form a ring
  pub ring : o ≡ refused 8 0 ↔ Cyclic f.rules
  -- 9 exactly if they cannot, and there is no such test
  pub missing : o ≡ refused 9 0 ↔ ((Cyclic f.rules → ⊥) × NoSuchTest f k)
  -- the test exactly if they cannot, and there is one
  pub admitted : o ≡ answer (case_of_test f k) ↔ ((Cyclic f.rules → ⊥) × (NoSuchTest f k → ⊥))
  -- and nothing else
  pub only : (o ≡ refused 8 0) ⊎ (o ≡ refused 9 0) ⊎ (o ≡ answer (case_of_test f k))

-- n is how many numbers below m have a property: some test passes exactly those with the property, and n numbers pass it
abbrev pub CountOf : (ℕ → Type 0) → ℕ → ℕ → Type 0
CountOf P m n = (p : ℕ → Bool) × ((s : ℕ) → s < m → P s ↔ p s ≡ true) × (n ≡ count_below p m)

-- what the judge's three numbers say of a test under rules
pub record NumbersSay (c : Case) (j : Judgement) : Type 0 where
  -- the count of valid schedules
  pub valid : CountOf (λ s. Valid c.rules c.test.main s) (schedules c.test) j.valid
  -- the count of valid and inconsistent ones
  pub bad : CountOf (λ s. Bad c.rules c.test s) (schedules c.test) j.bad
  -- the number of the smallest such schedule: the one with the fewest flagged writes, and among those the smallest number (02, [4])
  pub shown : (j.bad ≡ 0 → ⊥) → SmallestBad c.rules c.test j.shown
  -- or 0 where that count is 0
  pub none : j.bad ≡ 0 → j.shown ≡ 0
  -- and that count is 0 exactly if the test holds
  pub holds : j.bad ≡ 0 ↔ TestHolds c.rules c.test

-- what the verdict alone says of it: holds exactly if the test holds; fails exactly with the smallest valid and inconsistent schedule
pub record VerdictSays (c : Case) (v : Option ℕ) : Type 0 where
  pub holds : v ≡ None ↔ TestHolds c.rules c.test
  pub fails : (s : ℕ) → v ≡ Some s ↔ SmallestBad c.rules c.test s

-- the theorem
pub record JudgedAsMeant : Type 0 where
  -- a refusal of reading, which is one of 1 to 7, is passed on
  pub refused-file : (s : List ℕ) (k number place : ℕ) → read_of s ≡ refused number place → (case_in s k ≡ refused number place) × (1 ≤ number) × (number ≤ 7)
  -- a file that is read: 8, 9 or the test
  pub read-file : (s : List ℕ) (k : ℕ) (f : File) → read_of s ≡ answer f → CaseFor f k (case_in s k)
  -- the judge's numbers
  pub judge : (c : Case) → NumbersSay c (judgement_of c)
  -- the verdict alone
  pub verdict : (c : Case) → VerdictSays c (verdict_of c)
  -- the two show the same schedule
  pub same : (c : Case) (s : ℕ) → verdict_of c ≡ Some s → (judgement_of c).shown ≡ s
