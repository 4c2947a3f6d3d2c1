-- The theorem of judging: the definitions that are computed mean what document 01 says, by `rule_cyclelaws` and by the theorems of `model`; the rest is the cases of `case_of`.
use mathlib.Core.Path.{◌≡◌, refl, sym, ap, ◌∙◌}
use mathlib.Core.Logic.{◌↔◌, ◌⊎◌, inl, inr}
use mathlib.Core.Bool.{Bool, true, false, cond, false≢true, and-false, ◌&&◌}
use mathlib.Core.List.{List}
use mathlib.Core.Option.{Option, none, some}
use Prim.Native.Nat.{ℕ, zero, suc, ◌≤◌, ◌<◌}
use native.Mathlib.Omega.{arith}
use lib.Dec.{leb}
use lib.ListN.{length}
use borrow.Author.Tests.{leb-false, le-leb, lt-leb}
use Rattle.model.specs.Answer.{Outcome, answer, refused}
use Rattle.model.specs.Cyclic.{Cyclic, cyclic}
use Rattle.model.specs.Schedule.{Valid, valid}
use Rattle.model.specs.declared.Rule.{Rule}
use Rattle.model.specs.Test.{Test, File, HoldsFor, SmallestBadFor, smallest_bad_for, bad_count_for, TestHolds, bad, bad_count, shown_of}
use Rattle.model.specs.Theorem.{Agrees, SmallestFailingFor}
use Rattle.model.proofs.TestLaws.{valid_agrees}
use Rattle.model.proofs.Theorems.{holding-test_for, smallest_schedule_for, bad-schedule, holding-test}
use Rattle.rule_cyclelaws.proofs.CyclicLaws.{cyclic_exactly}
use Rattle.file_format.specs.File.{read_of}
use Rattle.file_reader.proofs.CallerLaws.{refused-limits, holding-limits}
use Rattle.std.specs.Prelude.{None, Some}
use Rattle.judge_search.specs.Verdict.{verdict_by}
use Rattle.judge_cases.specs.Judge.{Case, case_of, case_in, judgement_for, verdict_for, judgement_of, verdict_of}
use Rattle.judge_cases.specs.Theorem.{NoSuchTest, case_of_test, CaseFor, NumbersSay, VerdictSays, JudgedAsMeant}

-- ---- what the judge is given

-- outcomes told apart by a number
unfoldable number_of : Outcome Case → ℕ
number_of (answer c) = 0
number_of (refused number place) = number

apart : (x y : Outcome Case) (m n : ℕ) → number_of x ≡ m → number_of y ≡ n → (m ≡ n → ⊥) → x ≡ y → ⊥
apart x y m n p q d e = d (sym p ∙ ap number_of e ∙ q)

module _ (f : File) (k : ℕ) where
  -- the test of a test's number
  outside : NoSuchTest f k ↔ (leb 1 k && leb k (length f.tests)) ≡ false
  outside = (there, back k)
    where
      there : NoSuchTest f k → (leb 1 k && leb k (length f.tests)) ≡ false
      there (inl z) = rw (lt-leb 1 k (omega arith))
      there (inr l) = rw (lt-leb k (length f.tests) l) (and-false (leb 1 k))

      back : (i : ℕ) → (leb 1 i && leb i (length f.tests)) ≡ false → (i ≡ 0) ⊎ (length f.tests < i)
      back zero e = inl refl
      back (suc i) e = inr (leb-false (suc i) (length f.tests) (rw (le-leb 1 (suc i) (omega arith)) at e))

  abbrev chosen : Bool → Bool → Outcome Case
  chosen b t = cond b (refused 8 0) (cond t (answer (case_of_test f k)) (refused 9 0))

  case_for : (b t : Bool) → (Cyclic f.rules ↔ b ≡ true) → (NoSuchTest f k ↔ t ≡ false) → CaseFor f k (chosen b t)
  unfolding number_of
  case_for true t p q =
      let c = p.1 refl in
      record {
        ring = (λ e. c, λ r. refl);
        missing = (λ e. absurd (apart _ _ 8 9 refl refl (λ (d : 8 ≡ 9). absurd (omega arith)) e), λ w. absurd (w.0 c));
        admitted = (λ e. absurd (apart _ _ 8 0 refl refl (λ (d : 8 ≡ 0). absurd (omega arith)) e), λ w. absurd (w.0 c));
        only = inl refl;
      }
  case_for false true p q =
      let n : NoSuchTest f k → ⊥ = λ m. false≢true (sym (q.0 m)) in
      record {
        ring = (λ e. absurd (apart _ _ 0 8 refl refl (λ (d : 0 ≡ 8). absurd (omega arith)) e), λ r. absurd (false≢true (p.0 r)));
        missing = (λ e. absurd (apart _ _ 0 9 refl refl (λ (d : 0 ≡ 9). absurd (omega arith)) e), λ w. absurd (n w.1));
        admitted = (λ e. (λ r. false≢true (p.0 r), n), λ w. refl);
        only = inr (inr refl);
      }
  case_for false false p q =
      let m = q.1 refl in
      record {
        ring = (λ e. absurd (apart _ _ 9 8 refl refl (λ (d : 9 ≡ 8). absurd (omega arith)) e), λ r. absurd (false≢true (p.0 r)));
        missing = (λ e. (λ r. false≢true (p.0 r), m), λ w. refl);
        admitted = (λ e. absurd (apart _ _ 9 0 refl refl (λ (d : 9 ≡ 0). absurd (omega arith)) e), λ w. absurd (w.1 m));
        only = inr (inl refl);
      }

case-read : (s : List ℕ) (k : ℕ) (f : File) → read_of s ≡ answer f → CaseFor f k (case_in s k)
unfolding case_in case_of
case-read s k f e =
    rw e
    (case_for f k (cyclic f.rules) (leb 1 k && leb k (length f.tests)) (cyclic_exactly f.rules (holding-limits s f e).0.known).1 (outside f k))

passed_on : (s : List ℕ) (k number place : ℕ) → read_of s ≡ refused number place → (case_in s k ≡ refused number place) × (1 ≤ number) × (number ≤ 7)
unfolding case_in case_of
passed_on s k number place e = let l = refused-limits s number place e in (rw e, l.0, l.1)

-- ---- what is said of it, for any meaning of which schedules count

-- the verdict by the smallest bad schedule, if there is one
holds_by : (o : Option ℕ) → verdict_by o ≡ None ↔ o ≡ none
unfolding verdict_by
holds_by none = (λ e. refl, λ e. refl)
holds_by (some s) = (λ e. let z : ◌≡◌ {A = ℕ} 0 1 = cc in absurd (omega arith), λ e. let z : ◌≡◌ {A = ℕ} 0 1 = cc in absurd (omega arith))

fails_by : (o : Option ℕ) (s : ℕ) → verdict_by o ≡ Some s ↔ o ≡ some s
unfolding verdict_by
fails_by none s = (λ e. let z : ◌≡◌ {A = ℕ} 0 1 = cc in absurd (omega arith), λ e. let z : ◌≡◌ {A = ℕ} 0 1 = cc in absurd (omega arith))
fails_by (some k) s = (λ e. let z : k ≡ s = cc in rw z, λ e. let z : k ≡ s = cc in rw z)

module _ (Counts : ℕ → Type 0) (counts : ℕ → Bool) (t : Test) (agrees : Agrees Counts counts t) where
  abbrev small : SmallestFailingFor Counts counts t
  small = smallest_schedule_for Counts counts t agrees

  shown_smallest : (o : Option ℕ) → smallest_bad_for counts t ≡ o → (HoldsFor Counts t → ⊥) → SmallestBadFor Counts t (shown_of o)
  unfolding shown_of
  shown_smallest none e f = absurd (f (small.holds.1 e))
  shown_smallest (some s) e f = (small.computed s).1 e

  shown-none : (o : Option ℕ) → smallest_bad_for counts t ≡ o → HoldsFor Counts t → shown_of o ≡ 0
  unfolding shown_of
  shown-none none e h = refl
  shown-none (some s) e h = let z : none ≡ some s = sym (small.holds.0 h) ∙ e in let y : ◌≡◌ {A = ℕ} 0 1 = cc in absurd (omega arith)

  pub judgement_shown : (bad_count_for counts t ≡ 0 → ⊥) → SmallestBadFor Counts t (judgement_for counts t).shown
  judgement_shown n = shown_smallest (smallest_bad_for counts t) refl (λ h. n ((holding-test_for Counts counts t agrees).1.0 h))

  pub judgement_none : bad_count_for counts t ≡ 0 → (judgement_for counts t).shown ≡ 0
  judgement_none z = shown-none (smallest_bad_for counts t) refl ((holding-test_for Counts counts t agrees).1.1 z)

  pub verdict-holds : verdict_for counts t ≡ None ↔ HoldsFor Counts t
  verdict-holds =
      let o = smallest_bad_for counts t in
      (λ e. small.holds.1 ((holds_by o).0 e), λ h. (holds_by o).1 (small.holds.0 h))

  pub verdict-fails : (s : ℕ) → verdict_for counts t ≡ Some s ↔ SmallestBadFor Counts t s
  verdict-fails s =
      let o = smallest_bad_for counts t in
      (λ e. (small.computed s).1 ((fails_by o s).0 e), λ b. (fails_by o s).1 ((small.computed s).0 b))

pub shown-same : (counts : ℕ → Bool) (t : Test) (s : ℕ) → verdict_for counts t ≡ Some s → (judgement_for counts t).shown ≡ s
unfolding shown_of
shown-same counts t s e = rw ((fails_by (smallest_bad_for counts t) s).0 e)

-- ---- and of a case, where the valid schedules count

module _ (c : Case) where
  abbrev rules : List Rule
  rules = c.rules

  abbrev t : Test
  t = c.test

  numbers_say : NumbersSay c (judgement_of c)
  unfolding judgement_of bad_count bad
  numbers_say =
      let h = (holding-test rules t).1 in
      record {
        valid = (valid rules t.main, valid_agrees rules t, refl);
        bad = (bad rules t, λ s l. bad-schedule rules t s l, refl);
        shown = judgement_shown (Valid rules t.main) (valid rules t.main) t (valid_agrees rules t);
        none = judgement_none (Valid rules t.main) (valid rules t.main) t (valid_agrees rules t);
        holds = (h.1, h.0);
      }

  verdict_says : VerdictSays c (verdict_of c)
  unfolding verdict_of TestHolds
  verdict_says = record {
    holds = verdict-holds (Valid rules t.main) (valid rules t.main) t (valid_agrees rules t);
    fails = verdict-fails (Valid rules t.main) (valid rules t.main) t (valid_agrees rules t);
  }

  same-shown : (s : ℕ) → verdict_of c ≡ Some s → (judgement_of c).shown ≡ s
  unfolding verdict_of judgement_of
  same-shown = shown-same (valid rules t.main) t

pub judged_as_meant : JudgedAsMeant
judged_as_meant = record { refused-file = passed_on; read-file = case-read; judge = numbers_say; verdict = verdict_says; same = same-shown }
