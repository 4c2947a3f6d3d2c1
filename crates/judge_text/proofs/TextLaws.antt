-- The program's text from its lines, outcome by outcome.
use mathlib.Core.Path.{◌≡◌, refl}
use mathlib.Core.Bool.{Bool, true, false, cond}
use mathlib.Core.List.{List}
use Prim.Native.Nat.{ℕ, zero, suc, ◌+◌, ◌≤◌, ◌<◌}
use native.Mathlib.Numerals.{add-one}
use native.Mathlib.Omega.{arith}
use lib.ListN.{length, take, get_or}
use Rattle.std.proofs.Common.{get_or-take, length-take}
use borrow.Author.Rules.{rules}
use Rattle.std.specs.Prelude.{Result, Ok, Err}
use Rattle.model.specs.declared.Rule.{Rule}
use Rattle.model.specs.declared.Refusal.{Refusal}
use Rattle.model.specs.Limits.{most_rules, most_tests}
use Rattle.model.specs.Answer.{Outcome, answer, refused, number_of}
use Rattle.model.specs.Cyclic.{cyclic}
use Rattle.model.specs.Test.{File, valid_count, bad_count}
use Rattle.file_format.specs.declared.Extent.{Extent}
use Rattle.file_format.specs.File.{read_of}
use Rattle.file_format.specs.Scan.{test_at}
use Rattle.file_format.specs.Held.{test_of, extent_of, no_extent, Inside, AllInside}
use Rattle.rule_match.specs.Held.{rules_of}
use Rattle.judge_counting.specs.declared.Judgement.{Judgement}
use Rattle.judge_cases.specs.declared.Opened.{Opened}
use Rattle.judge_cases.specs.Judge.{case_at, judgement_of, SmallRefusal, judged_file, OpensTo, OpensFile, FewNumbers}
use Rattle.file_writing.specs.Writing.{Wrote}
use Rattle.judge_text.specs.Decimal.{Digits}
use Rattle.judge_text.specs.Lines.{refused_line, test_line, lines, text_of, program_text, case_lines, test_digits, count_digits, refusal_digits, place_digits}
use Rattle.file_writing.proofs.WroteLaws.{wrote_then, wrote_none}

-- ---- one test

pub case_line : (rules : List Rule) (s : List ℕ) (e : Extent) (j : Judgement) (k at : ℕ) (l l₁ : List ℕ) (r : ℕ) → j ≡ judgement_of (case_at rules s e)
    → Wrote l at (test_line k j.valid j.bad) l₁ r → Wrote l at (test_line k (valid_count rules (test_at s e)) (bad_count rules (test_at s e))) l₁ r
unfolding judgement_of valid_count bad_count
case_line rules s e j k at l l₁ r h w = rw h at w

pub few-valid : (j : Judgement) → FewNumbers j → Digits count_digits j.valid
unfolding FewNumbers Digits
few-valid j f = let a = f.0 in (omega arith, omega arith)

pub few-bad : (j : Judgement) → FewNumbers j → Digits count_digits j.bad
unfolding FewNumbers Digits
few-bad j f = let a = f.1 in (omega arith, omega arith)

-- ---- the first tests

pub test-digits : (i n : ℕ) → i < n → n ≤ most_tests → Digits test_digits (i + 1)
unfolding Digits
test-digits i n h l = (omega arith, omega arith)

-- an extent that is walked over is one of the first n
pub walked_few : (tests : List Extent) (n i : ℕ) → i < length (take n tests) → i < n
walked_few tests n i h = omega (arith, h, length-take n tests)

pub walked-inside : (s : List ℕ) (tests : List Extent) (n i : ℕ) → AllInside s tests n → i < length (take n tests) → Inside s (get_or (take n tests) i no_extent)
walked-inside s tests n i a h = rw (get_or-take n tests i no_extent (walked_few tests n i h)) (a i (walked_few tests n i h))

module _ (rules : List Rule) (s : List ℕ) (tests : List Extent) (l : List ℕ) where
  pub cases_none : Wrote l 0 (case_lines rules s tests 0) l 0
  unfolding case_lines lines
  cases_none = wrote_none l 0

  pub cases_more : (i at r : ℕ) (l₁ l₂ : List ℕ) → Wrote l 0 (case_lines rules s tests i) l₁ at
      → Wrote l₁ at (test_line (i + 1) (valid_count rules (test_at s (extent_of tests i))) (bad_count rules (test_at s (extent_of tests i)))) l₂ r
      → Wrote l 0 (case_lines rules s tests (i + 1)) l₂ r
  unfolding case_lines lines
  cases_more i at r l₁ l₂ w v =
      rw (add-one i) (wrote_then l 0 (case_lines rules s tests i) l₁ at (test_line (suc i) (valid_count rules (test_at s (extent_of tests i))) (bad_count rules (test_at s (extent_of tests i)))) l₂ r w (rw (add-one i) at v))

  -- where the first n are walked
  pub cases_next : (n i at r : ℕ) (l₁ l₂ : List ℕ) → i < length (take n tests) → Wrote l 0 (case_lines rules s tests i) l₁ at
      → Wrote l₁ at (test_line (i + 1) (valid_count rules (test_at s (get_or (take n tests) i no_extent))) (bad_count rules (test_at s (get_or (take n tests) i no_extent)))) l₂ r
      → Wrote l 0 (case_lines rules s tests (i + 1)) l₂ r
  cases_next n i at r l₁ l₂ h w v = cases_more i at r l₁ l₂ w (rw (get_or-take n tests i no_extent (walked_few tests n i h)) at v)

  pub cases_all : (i n at : ℕ) (l₁ : List ℕ) → i ≤ n → n ≤ i → Wrote l 0 (case_lines rules s tests i) l₁ at → Wrote l 0 (case_lines rules s tests n) l₁ at
  cases_all i n at l₁ h k w = let z : i ≡ n = omega arith in rw z at w

-- ---- the whole file

lines_ext : (f g : ℕ → List ℕ) (n : ℕ) → ((i : ℕ) → i < n → f i ≡ g i) → lines f n ≡ lines g n
unfolding lines
lines_ext f g zero h = refl
lines_ext f g (suc n) h = rw (lines_ext f g n (λ i k. h i (omega arith)), h n (omega arith))

-- a file that is not judged prints its refusal
text_unjudged : (o : Outcome File) (number place : ℕ) → judged_file o ≡ refused number place → text_of o ≡ refused_line number place
unfolding judged_file text_of
text_unjudged (refused a b) number place e = let h : a ≡ number = cc in let k : b ≡ place = cc in rw (h, k)
text_unjudged (answer f) number place e = go (cyclic f.rules) e
  where
    go : (b : Bool) → cond {A = Outcome File} b (refused 8 0) (answer f) ≡ refused number place
        → cond b (refused_line 8 0) (lines (λ i. test_line (suc i) (valid_count f.rules (test_of f i)) (bad_count f.rules (test_of f i))) (length f.tests)) ≡ refused_line number place
    go true q = let h : 8 ≡ number = cc in let k : 0 ≡ place = cc in rw (← h, ← k)
    go false q = let z : ◌≡◌ {A = ℕ} 0 1 = cc in absurd (omega arith)

-- one that is judged prints its tests' lines
text_judged : (o : Outcome File) (f : File) → judged_file o ≡ answer f
    → text_of o ≡ lines (λ i. test_line (suc i) (valid_count f.rules (test_of f i)) (bad_count f.rules (test_of f i))) (length f.tests)
unfolding judged_file text_of
text_judged (refused a b) f e = let z : ◌≡◌ {A = ℕ} 0 1 = cc in absurd (omega arith)
text_judged (answer g) f e = go (cyclic g.rules) e
  where
    go : (b : Bool) → cond {A = Outcome File} b (refused 8 0) (answer g) ≡ answer f
        → cond b (refused_line 8 0) (lines (λ i. test_line (suc i) (valid_count g.rules (test_of g i)) (bad_count g.rules (test_of g i))) (length g.tests))
        ≡ lines (λ i. test_line (suc i) (valid_count f.rules (test_of f i)) (bad_count f.rules (test_of f i))) (length f.tests)
    go true q = let z : ◌≡◌ {A = ℕ} 0 1 = cc in absurd (omega arith)
    go false q = let z : g ≡ f = cc in rw z

module _ (s : List ℕ) (x : Result Opened Refusal) (o : OpensFile s x) where
  module _ (why : Refusal) (e : x ≡ Err why) where
    turned_down : (judged_file (read_of s) ≡ refused (number_of why.cause) why.place) × SmallRefusal why
    unfolding OpensFile
    turned_down = rw e at o

    pub text_refused : (l l₁ : List ℕ) (r : ℕ) → Wrote l 0 (refused_line (number_of why.cause) why.place) l₁ r → Wrote l 0 (program_text s) l₁ r
    unfolding program_text
    text_refused l l₁ r w = rw (text_unjudged (read_of s) (number_of why.cause) why.place turned_down.0) w

    pub number-few : Digits refusal_digits (number_of why.cause)
    unfolding Digits
    number-few = let h = turned_down.1.0 in (omega arith, omega arith)

    pub place-few : Digits place_digits why.place
    unfolding Digits
    place-few = let h = turned_down.1.1 in (omega arith, omega arith)

  module _ (y : Opened) (e : x ≡ Ok y) where
    found : OpensTo s y
    unfolding OpensFile
    found = rw e at o

    pub tests-few : y.count ≤ most_tests
    tests-few = found.4.most

    pub rules-few : y.rules.count ≤ most_rules
    rules-few = found.3

    pub tests-inside : AllInside s y.tests y.count
    tests-inside = found.4.inside

    pub text_tests : (l l₁ : List ℕ) (r : ℕ) → Wrote l 0 (case_lines (rules_of y.rules) s y.tests y.count) l₁ r → Wrote l 0 (program_text s) l₁ r
    unfolding program_text case_lines
    text_tests l l₁ r w =
        let f = found.0 in
        let same : lines (λ i. test_line (suc i) (valid_count (rules_of y.rules) (test_at s (extent_of y.tests i))) (bad_count (rules_of y.rules) (test_at s (extent_of y.tests i)))) y.count
        ≡ lines (λ i. test_line (suc i) (valid_count f.rules (test_of f i)) (bad_count f.rules (test_of f i))) y.count
        = lines_ext _ _ y.count (λ i h. rw (found.2, found.4.each i h)) in
        rw (text_judged (read_of s) f found.1, found.4.count, ← same) w

pub ruleset texts = (rules, case_line, few-valid, few-bad, cases_none, test-digits, walked_few, walked-inside, cases_next, cases_all, text_refused, number-few, place-few, tests-few, rules-few, tests-inside, text_tests)
