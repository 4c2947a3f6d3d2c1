-- The finder's answers, its 13 and its 24 are right for all files: by the cases of `find_of`, and by what is chosen among the candidates.
use mathlib.Core.Path.{◌≡◌, refl, sym, ap}
use mathlib.Core.Bool.{Bool, true, false, cond, false≢true}
use mathlib.Core.List.{List, [], ◌∷◌}
use mathlib.Core.Option.{Option, none, some}
use Prim.Native.Nat.{ℕ}
use native.Mathlib.Omega.{arith}
use lib.Dec.{ltb}
use lib.ListN.{length}
use borrow.Author.Tests.{lt-ltb, ltb-true, ltb-false}
use Rattle.relation.specs.Lists.{any}
use Rattle.relation.proofs.ListLaws.{any-true, any_intro}
use Rattle.model.specs.Limits.{most_found, most_candidates}
use Rattle.model.specs.declared.Rule.{Rule}
use Rattle.model.specs.Answer.{Outcome, answer, refused}
use Rattle.model.specs.Test.{Test, File}
use Rattle.model.specs.Find.{Candidates, NoneSuffices, Fewest, picked, Chosen, candidates_of, chosen}
use Rattle.file_format.specs.Encode.{rule_fields}
use Rattle.file_format.specs.File.{read_of}
use Rattle.file_reader.proofs.CallerLaws.{refused-limits}
use Rattle.find_candidates.specs.Tests.{too_long}
use Rattle.find_laws.proofs.CandidateLaws.{collected}
use Rattle.find_laws.proofs.ChosenLaws.{given, refused as unmet}
use Rattle.find_call.specs.Finder.{found_length, Found, found, over, wrote, find_among, find_in, find_of}
use Rattle.find_call.specs.Theorem.{FindsSmallest, Wanting, HasLongTest, LongDecided, LongRefused, LongAnyBuffer, RefusalLeaves}

-- ---- outcomes told apart

unfoldable is_answer : Outcome ℕ → Bool
is_answer (answer n) = true
is_answer (refused number place) = false

unfoldable value_of : Outcome ℕ → ℕ
value_of (answer n) = n
value_of (refused number place) = number

apart : {A : Type 0} (number place n : ℕ) → refused number place ≡ answer n → A
unfolding is_answer
apart number place n e = absurd (false≢true (ap is_answer e))

-- ---- what is found among the candidates

module _ (tests : List Test) (buffer : List ℕ) where
  -- right for these tests: an answer, 13, and the buffer of a refusal
  pub record Right (r : Found) : Type 0 where
    pub given : (n : ℕ) → r.outcome ≡ answer n
        → (m : ℕ)
        × Chosen tests (candidates_of tests) m
        × Fewest tests (picked (candidates_of tests) m)
        × (n ≡ length (picked (candidates_of tests) m))
        × (r.buffer ≡ over (rule_fields (picked (candidates_of tests) m)) buffer)
    pub wanting : (place : ℕ) → r.outcome ≡ refused 13 place → NoneSuffices tests
    pub unchanged : (number place : ℕ) → r.outcome ≡ refused number place → r.buffer ≡ buffer

  right_refused : (number : ℕ) → (number ≡ 13 → NoneSuffices tests) → Right (found (refused number 0) buffer)
  right_refused number f =
      record {
        given = λ n e. apart number 0 n e;
        wanting = λ place e. f (unfold value_of in ap value_of e);
        unchanged = λ m place e. refl;
      }

  right_wrote : (o : Option ℕ) → chosen tests (candidates_of tests) ≡ o → Right (wrote (candidates_of tests) o buffer)
  unfolding wrote
  right_wrote none e = right_refused 13 (λ q. (unmet tests).0 e)
  right_wrote (some m) e =
      let (enough, choice, fewest) = given tests m e in
      record {
        given = λ n q. (m, choice, fewest, unfold value_of in sym (ap value_of q), refl);
        wanting = λ place q. apart 13 place (length (picked (candidates_of tests) m)) (sym q);
        unchanged = λ number place q. apart number place (length (picked (candidates_of tests) m)) (sym q);
      }

  right_cond : (b : Bool) (x y : Found) → Right x → Right y → Right (cond b x y)
  right_cond true x y p q = p
  right_cond false x y p q = q

  other : (number : ℕ) → (number ≡ 13 → ⊥) → Right (found (refused number 0) buffer)
  other number d = right_refused number (λ e. absurd (d e))

  right_among : Right (find_among tests buffer)
  unfolding find_among
  right_among =
      right_cond (ltb most_candidates (length (candidates_of tests))) _ _ (other 11 (λ (e : 11 ≡ 13). absurd (omega arith)))
      (right_wrote (chosen tests (candidates_of tests)) refl)

right_file : (f : File) (buffer : List ℕ) → Right f.tests buffer (find_in (answer f) buffer)
unfolding find_in
right_file f buffer =
    right_cond f.tests buffer (ltb 0 (length f.rules)) _ _ (other f.tests buffer 10 (λ (e : 10 ≡ 13). absurd (omega arith)))
    (right_cond f.tests buffer (too_long f.tests) _ _ (other f.tests buffer 24 (λ (e : 24 ≡ 13). absurd (omega arith)))
    (right_cond f.tests buffer (ltb (length buffer) found_length) _ _ (other f.tests buffer 12 (λ (e : 12 ≡ 13). absurd (omega arith)))
    (right_among f.tests buffer)))

-- ---- 24

-- a refusal's number and place; an answer has none
unfoldable number_of : Outcome ℕ → ℕ
number_of (answer n) = 0
number_of (refused number place) = number

unfoldable place_of : Outcome ℕ → ℕ
place_of (answer n) = 0
place_of (refused number place) = place

-- an outcome that is not 24
abbrev Not24 : Found → Type 0
Not24 r = number_of r.outcome ≡ 24 → ⊥

not24_cond : (b : Bool) (x y : Found) → Not24 x → Not24 y → Not24 (cond b x y)
not24_cond true x y p q = p
not24_cond false x y p q = q

not24_refused : (number : ℕ) (buffer : List ℕ) → (number ≡ 24 → ⊥) → Not24 (found (refused number 0) buffer)
unfolding number_of
not24_refused number buffer d = d

not24_wrote : (candidates : List Rule) (o : Option ℕ) (buffer : List ℕ) → Not24 (wrote candidates o buffer)
unfolding wrote number_of
not24_wrote candidates none buffer = not24_refused 13 buffer (λ (e : ◌≡◌ {A = ℕ} 13 24). absurd (omega arith))
not24_wrote candidates (some m) buffer = λ (e : ◌≡◌ {A = ℕ} 0 24). absurd (omega arith)

-- finding among the candidates does not report it
not24_among : (tests : List Test) (buffer : List ℕ) → Not24 (find_among tests buffer)
unfolding find_among
not24_among tests buffer =
    not24_cond (ltb most_candidates (length (candidates_of tests))) _ _ (not24_refused 11 buffer (λ (e : 11 ≡ 24). absurd (omega arith)))
    (not24_wrote (candidates_of tests) (chosen tests (candidates_of tests)) buffer)

no_rules : (l : List Rule) → ltb 0 (length l) ≡ false → l ≡ []
no_rules [] e = refl
no_rules (r ∷ rs) e = let h = ltb-false 0 (length (r ∷ rs)) e in absurd (omega arith)

pub long_decided : LongDecided
unfolding too_long
long_decided tests = (found-long, long-found)
  where
    found-long : any (λ (t : Test). ltb most_found (length t.main)) tests ≡ true → HasLongTest tests
    found-long e =
        let (t, m, l) = any-true (λ (t : Test). ltb most_found (length t.main)) tests e in
        (t, m, ltb-true most_found (length t.main) l)

    long-found : HasLongTest tests → any (λ (t : Test). ltb most_found (length t.main)) tests ≡ true
    long-found (t, m, l) = any_intro (λ (t : Test). ltb most_found (length t.main)) m (lt-ltb most_found (length t.main) l)

long-file : (f : File) (buffer : List ℕ) (place : ℕ) → (find_in (answer f) buffer).outcome ≡ refused 24 place → (place ≡ 0) × (f.rules ≡ []) × HasLongTest f.tests
unfolding find_in
long-file f buffer place = go (ltb 0 (length f.rules)) (too_long f.tests) refl refl
  where
    rest : Found
    rest = cond (ltb (length buffer) found_length) (found (refused 12 0) buffer) (find_among f.tests buffer)

    other-rest : Not24 rest
    other-rest = not24_cond (ltb (length buffer) found_length) _ _ (not24_refused 12 buffer (λ (e : 12 ≡ 24). absurd (omega arith))) (not24_among f.tests buffer)

    go : (a b : Bool) → ltb 0 (length f.rules) ≡ a → too_long f.tests ≡ b
        → (cond a (found (refused 10 0) buffer) (cond b (found (refused 24 0) buffer) rest)).outcome ≡ refused 24 place → (place ≡ 0) × (f.rules ≡ []) × HasLongTest f.tests
    go true b p l q = absurd (not24_refused 10 buffer (λ (e : 10 ≡ 24). absurd (omega arith)) (unfold number_of in ap number_of q))
    go false true p l q = (unfold place_of in sym (ap place_of q), no_rules f.rules p, (long_decided f.tests).0 l)
    go false false p l q = absurd (other-rest (unfold number_of in ap number_of q))

file-long : (f : File) (buffer : List ℕ) → f.rules ≡ [] → HasLongTest f.tests → (find_in (answer f) buffer).outcome ≡ refused 24 0
unfolding find_in
file-long f buffer e h = rw (e, (long_decided f.tests).1 h)

-- ---- all files

pub finds_smallest : FindsSmallest
unfolding find_of
finds_smallest s buffer n = go (read_of s) refl
  where
    go : (o : Outcome File) → read_of s ≡ o → (find_in o buffer).outcome ≡ answer n
        → (f : File)
        × (candidates : List Rule)
        × (m : ℕ)
        × (o ≡ answer f)
        × Candidates f.tests candidates
        × Chosen f.tests candidates m
        × Fewest f.tests (picked candidates m)
        × (n ≡ length (picked candidates m))
        × ((find_in o buffer).buffer ≡ over (rule_fields (picked candidates m)) buffer)
    go (refused number place) e q = unfold find_in in apart number place n q
    go (answer f) e q =
        let (m, choice, fewest, count, bytes) = (right_file f buffer).given n q in
        (f, candidates_of f.tests, m, refl, collected f.tests, choice, fewest, count, bytes)

pub wanting : Wanting
unfolding find_of
wanting s buffer place = go (read_of s) refl
  where
    go : (o : Outcome File) → read_of s ≡ o → (find_in o buffer).outcome ≡ refused 13 place → (f : File) × (o ≡ answer f) × NoneSuffices f.tests
    go (refused number at) e q =
        let h = (refused-limits s number at e).1 in
        let z : number ≡ 13 = unfold find_in value_of in ap value_of q in
        absurd (omega arith)
    go (answer f) e q = (f, refl, (right_file f buffer).wanting place q)

pub long-refused : LongRefused
unfolding find_of
long-refused s buffer place = (go (read_of s) refl, back (read_of s))
  where
    go : (o : Outcome File) → read_of s ≡ o → (find_in o buffer).outcome ≡ refused 24 place → (place ≡ 0) × (f : File) × (o ≡ answer f) × (f.rules ≡ []) × HasLongTest f.tests
    go (refused number at) e q =
        let h = (refused-limits s number at e).1 in
        let z : number ≡ 24 = unfold find_in number_of in ap number_of q in
        absurd (omega arith)
    go (answer f) e q = let (z, n, h) = long-file f buffer place q in (z, f, refl, n, h)

    back : (o : Outcome File) → (place ≡ 0) × (f : File) × (o ≡ answer f) × (f.rules ≡ []) × HasLongTest f.tests → (find_in o buffer).outcome ≡ refused 24 place
    back o (z, f, e, n, h) = rw (e, z) (file-long f buffer n h)

pub long-any-buffer : LongAnyBuffer
long-any-buffer s buffer other place q = (long-refused s other place).1 ((long-refused s buffer place).0 q)

pub refusal-leaves : RefusalLeaves
unfolding find_of
refusal-leaves s buffer number place = go (read_of s)
  where
    go : (o : Outcome File) → (find_in o buffer).outcome ≡ refused number place → (find_in o buffer).buffer ≡ buffer
    go (refused n at) q = unfold find_in in refl
    go (answer f) q = (right_file f buffer).unchanged number place q
