-- Judging one test of a file.
use Rattle.std.specs.Prelude.{ℕ, ◌-◌, ◌≤◌, ◌≡◌, Bool, cond, ◌&&◌, List, leb, length, Option, None, Some, Result, Ok, Err}
use Rattle.model.specs.declared.Rule.{Rule}
use Rattle.model.specs.declared.Refusal.{Refusal}
use Rattle.model.specs.Limits.{most_rules, most_schedules}
use Rattle.model.specs.Answer.{Outcome, answer, refused, number_of}
use Rattle.model.specs.Cyclic.{cyclic}
use Rattle.model.specs.Schedule.{valid}
use Rattle.model.specs.Test.{Test, File, smallest_bad_for, shown_of, count_for, bad_count_for}
use Rattle.file_format.specs.declared.Extent.{Extent}
use Rattle.file_format.specs.File.{read_of}
use Rattle.file_format.specs.Scan.{test_at}
use Rattle.file_format.specs.Held.{test_of, Inside, Placed}
use Rattle.file_reader.specs.Limits.{longest}
use Rattle.rule_match.specs.Held.{rules_of}
use Rattle.judge_counting.specs.declared.Judgement.{Judgement}
use Rattle.judge_search.specs.Verdict.{verdict_by}
use Rattle.judge_cases.specs.declared.Opened.{Opened}
use Rattle.judge_cases.specs.declared.Selected.{Selected}

-- a test and the rules it is judged under
pub record Case : Type 0 where
  pub rules : List Rule
  pub test : Test

-- after reading: 8 cyclic rules; 9 no such test. Tests count from 1
unfoldable pub case_of : Outcome File → ℕ → Outcome Case
case_of (refused number place) k = refused number place
case_of (answer f) k =
    cond (cyclic f.rules) (refused 8 0)
    (cond (leb 1 k && leb k (length f.tests)) (answer (record { rules = f.rules; test = test_of f (k - 1) })) (refused 9 0))

-- the case that a judge is given, or its refusal
unfoldable pub case_in : List ℕ → ℕ → Outcome Case
case_in s k = case_of (read_of s) k

-- the judge's numbers of a test, by any choice of which schedules count: how many do, how many of these are bad, and the smallest bad one, or 0 where there is none
abbrev pub judgement_for : (ℕ → Bool) → Test → Judgement
judgement_for counts t = record { valid = count_for counts t; bad = bad_count_for counts t; shown = shown_of (smallest_bad_for counts t) }

-- the verdict alone: the smallest bad schedule, if there is one; a test without one holds
abbrev pub verdict_for : (ℕ → Bool) → Test → Option ℕ
verdict_for counts t = verdict_by (smallest_bad_for counts t)

-- of a case: the valid schedules count
unfoldable pub judgement_of : Case → Judgement
judgement_of c = judgement_for (valid c.rules c.test.main) c.test

unfoldable pub verdict_of : Case → Option ℕ
verdict_of c = verdict_for (valid c.rules c.test.main) c.test

-- ---- what the routines give

-- the case that stands at an extent of a file
abbrev pub case_at : List Rule → List ℕ → Extent → Case
case_at rules s e = record { rules = rules; test = test_at s e }

-- a refusal that a judge gives: its number is at most 9, its place at most the longest file's length
abbrev pub SmallRefusal : Refusal → Type 0
SmallRefusal why = (number_of why.cause ≤ 9) × (why.place ≤ longest)

-- a file that is read, or 8: its rules are cyclic
unfoldable pub judged_file : Outcome File → Outcome File
judged_file (refused number place) = refused number place
judged_file (answer f) = cond (cyclic f.rules) (refused 8 0) (answer f)

-- a file opened: its rules and where its tests stand
abbrev pub OpensTo : List ℕ → Opened → Type 0
OpensTo s x =
    (f : File) × (judged_file (read_of s) ≡ answer f) × (rules_of x.rules ≡ f.rules) × (x.rules.count ≤ most_rules) × Placed s f.tests x.tests x.count

-- that, or the refusal
unfoldable pub OpensFile : List ℕ → Result Opened Refusal → Type 0
OpensFile s (Ok x) = OpensTo s x
OpensFile s (Err why) = (judged_file (read_of s) ≡ refused (number_of why.cause) why.place) × SmallRefusal why

-- the test that a call asks for, by its place in the file and with the file's rules
abbrev pub SelectsTo : List ℕ → ℕ → Selected → Type 0
SelectsTo s k x = (case_in s k ≡ answer (case_at (rules_of x.rules) s x.test)) × (x.rules.count ≤ most_rules) × Inside s x.test

-- that, or the refusal
unfoldable pub Selects : List ℕ → ℕ → Result Selected Refusal → Type 0
Selects s k (Ok x) = SelectsTo s k x
Selects s k (Err why) = (case_in s k ≡ refused (number_of why.cause) why.place) × SmallRefusal why

-- the judge: the refusal, or the numbers of the case
unfoldable pub judged_of : Outcome Case → Outcome Judgement
judged_of (refused number place) = refused number place
judged_of (answer c) = answer (judgement_of c)

-- the verdict alone: the refusal, or the verdict on the case
unfoldable pub decided_of : Outcome Case → Outcome (Option ℕ)
decided_of (refused number place) = refused number place
decided_of (answer c) = answer (verdict_of c)

-- a test has at most so many schedules, and no number of an answer is larger
unfoldable pub FewNumbers : Judgement → Type 0
FewNumbers j = (j.valid ≤ most_schedules) × (j.bad ≤ most_schedules) × (j.shown ≤ most_schedules)

unfoldable pub Few : Result Judgement Refusal → Type 0
Few (Ok j) = FewNumbers j
Few (Err why) = SmallRefusal why

unfoldable pub FewDecided : Result (Option ℕ) Refusal → Type 0
FewDecided (Ok None) = Unit {0}
FewDecided (Ok (Some s)) = s ≤ most_schedules
FewDecided (Err why) = SmallRefusal why
