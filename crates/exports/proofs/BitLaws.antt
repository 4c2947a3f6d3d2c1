-- No answer reaches bit 63: each is bounded by the limits of files, tests, states and buffers. So are a judge's counts, and fit into their bits.
use Prim.Native.Nat.{ℕ, zero, suc, ◌+◌, ◌*◌, ◌-◌, ◌/◌, ◌%◌, ◌^◌, ◌≤◌, ◌<◌}
use mathlib.Core.Path.{◌≡◌, refl, sym}
use mathlib.Core.Bool.{Bool, true, false, cond, not, ◌&&◌, ◌||◌, false≢true}
use mathlib.Core.List.{List, [], ◌∷◌, ◌++◌, Memᴰ}
use mathlib.Core.Option.{Option, none, some}
use native.Mathlib.Omega.{arith}
use lib.Dec.{eqb, leb, ltb}
use lib.ListN.{length, get_or, drop, length-append}
use lib.Pow.{pow_mono}
use borrow.Author.Tests.{leb-true, leb-false, ltb-false, le-ltb}
use Rattle.relation.specs.Best.{Smallest}
use Rattle.relation.specs.Lists.{any}
use Rattle.relation.proofs.ListLaws.{and_left, and_right, or_none-left, or_none_right}
use Rattle.model.specs.declared.Rule.{Rule}
use Rattle.model.specs.declared.Write.{Write}
use Rattle.model.specs.Limits.{most_main, most_initial_puts, most_main_puts, most_schedules, most_candidates, most_held}
use Rattle.model.specs.Answer.{Outcome, answer, refused}
use Rattle.model.specs.Cyclic.{cyclic}
use Rattle.model.specs.Disk.{second_of}
use Rattle.model.specs.Find.{candidates_of, chosen, picked}
use Rattle.model.specs.Schedule.{valid}
use Rattle.model.specs.Test.{Test, File, schedules, Bad, bad, smallest_bad, shown_of, valid_count, bad_count}
use Rattle.model.proofs.CountLaws.{count_most}
use Rattle.model.proofs.TestLaws.{computed_smallest}
use Rattle.file_format.specs.Bytes.{block_length, disk_length, block_in}
use Rattle.file_format.specs.File.{put_length, end_length, read_of}
use Rattle.file_format.specs.declared.Extent.{Extent}
use Rattle.file_format.specs.Held.{no_test, test_of, extent_of}
use Rattle.file_format.specs.Scan.{Places, scan_of}
use Rattle.file_reader.specs.Limits.{TestLimits}
use Rattle.file_reader.proofs.CallerLaws.{holding-limits, refused-limits}
use Rattle.judge_search.specs.Verdict.{verdict_by}
use Rattle.judge_cases.specs.Judge.{Case, case_of, case_in, judgement_of, verdict_of}
use Rattle.judge_answers.specs.Judged.{count_bits, judgement_code, parts_of, verdict_code, judge_answer, verdict_answer}
use Rattle.file_calls.specs.File.{sizes, read_answer, packed_extent, Packed, located, locate_answer, cyclic_in, cyclic_answer}
use Rattle.file_calls.proofs.FileLaws.{placed_packed}
use Rattle.judge_text.specs.Decimal.{decimal}
use Rattle.judge_text.specs.Lines.{refused_line, test_line, lines, text_of, program_text, holds_text, fails_text, test_digits, count_digits, refusal_digits, place_digits, test_length, refused_length, text_length}
use Rattle.judge_text.proofs.WriteLaws.{decimal-most}
use Rattle.find_candidates.specs.Tests.{too_long}
use Rattle.find_call.specs.Finder.{Found, wrote, find_among, find_in, find_of, found_length}
use Rattle.model.specs.Check.{damaged}
use Rattle.log_get.specs.Get.{keyed, head_of, tail_of, get_from, get_of, value_code}
use Rattle.file_format.specs.Encode.{test_bytes}
use Rattle.log_get.specs.Puts.{Put, Traced, traced, puts_of, log_test, empty_put, trace_of}
use Rattle.workbench.specs.Printed.{printed_of}
use Rattle.model.specs.Needs.{needs_ring, ready, late}
use Rattle.cache_model.specs.State.{state_size, accepted_count, rules_in, writes_in, stored_in}
use Rattle.cache_model.specs.Sound.{sound}
use Rattle.cache_model.specs.Calls.{Left, storing, checked, stepped, drained, open_with, open_of, hand_in_of, step_of, drain_of}
use Rattle.cache_statelaws.proofs.SoundLaws.{sound-true, sound-most}
use Rattle.model.proofs.ReadyLaws.{ready_earliest}
use Rattle.cache_statelaws.proofs.LayoutLaws.{writes-length}
use Rattle.exports.specs.Theorem.{bit63, ToldApart, NoneReachesBit63, JudgeTakenApart}

-- ---- outcomes by cases

turned_down : (number place : ℕ) → ToldApart (refused number place)
unfolding ToldApart
turned_down number place = omega arith

-- of what gives an outcome, one of two by a test
by_case : {A : Type 0} (f : A → Outcome ℕ) (b : Bool) (x y : A) → (b ≡ true → ToldApart (f x)) → (b ≡ false → ToldApart (f y)) → ToldApart (f (cond b x y))
by_case f true x y p q = p refl
by_case f false x y p q = q refl

-- ---- the cache

left_either : (b : Bool) (x y : Left) → (b ≡ true → ToldApart x.outcome) → (b ≡ false → ToldApart y.outcome) → ToldApart (cond b x y).outcome
left_either = by_case (λ (l : Left). l.outcome)

open_apart : (file state : List ℕ) → ToldApart (open_of file state []).outcome
unfolding open_of ToldApart
open_apart file state =
    left_either (eqb (length state) state_size) _ _ (λ e. go (read_of file)) (λ e. turned_down 14 0)
  where
    go : (o : Outcome File) → ToldApart (open_with o state []).outcome
    go (refused number place) = unfold open_with in turned_down number place
    go (answer f) =
        unfold open_with in
        left_either (ltb 0 (length f.tests)) _ _ (λ e. turned_down 22 0)
        (λ e. left_either (cyclic f.rules) _ _ (λ h. turned_down 8 0) (λ h. omega arith))

hand_in_apart : (w : Write) (state : List ℕ) → ToldApart (hand_in_of w state []).outcome
unfolding hand_in_of ToldApart
hand_in_apart w state =
    left_either (not (eqb (length state) state_size)) _ _ (λ e. turned_down 14 0)
    (λ e. left_either (not (sound state)) _ _ (λ e. turned_down 15 0)
    (λ e. left_either (leb most_held (accepted_count state)) _ _ (λ e. turned_down 16 0)
    (λ few. left_either (late (rules_in state) (writes_in state) (stored_in state) w) _ _ (λ e. turned_down 17 0)
    (λ e. left_either (needs_ring (rules_in state) (writes_in state ++ (w ∷ []))) _ _ (λ e. turned_down 18 0)
    (λ e. let l = leb-false most_held (accepted_count state) few in omega arith)))))

checked-apart : (call : List ℕ → List ℕ → Left) (state disk : List ℕ) → (sound state ≡ true → ToldApart (call state disk).outcome) → ToldApart (checked call state disk).outcome
unfolding checked
checked-apart call state disk h =
    left_either (not (eqb (length state) state_size)) _ _ (λ e. turned_down 14 0)
    (λ e. left_either (not (eqb (length disk) disk_length)) _ _ (λ e. turned_down 14 0)
    (λ e. left_either (not (sound state)) _ _ (λ e. turned_down 15 0) (λ t. h (yes_of (sound state) t))))
  where
    yes_of : (b : Bool) → not b ≡ false → b ≡ true
    yes_of true e = refl
    yes_of false e = absurd (false≢true (sym e))

step-apart : (state disk : List ℕ) → ToldApart (step_of state disk).outcome
unfolding step_of
step-apart state disk = checked-apart stepped state disk (λ t. unfold stepped in go t (ready (rules_in state) (writes_in state) (stored_in state)) refl)
  where
    go : sound state ≡ true → (k : ℕ) → ready (rules_in state) (writes_in state) (stored_in state) ≡ k → ToldApart (storing k state disk).outcome
    go t zero e = unfold storing ToldApart in omega arith
    go t (suc i) e =
        let a = (ready_earliest (rules_in state) (writes_in state) (stored_in state) i e).accepted in
        let l = writes-length state in
        let m = sound-most state (sound-true state t) in
        unfold storing ToldApart in omega arith

drain-apart : (state disk : List ℕ) → ToldApart (drain_of state disk).outcome
unfolding drain_of drained ToldApart
drain-apart state disk = checked-apart drained state disk (λ t. let m = sound-most state (sound-true state t) in omega arith)

-- ---- get

value-below : (disk : List ℕ) (key head n : ℕ) → value_code (get_from disk key head n) < bit63
unfolding get_from value_code
value-below disk key head zero = omega arith
value-below disk key head (suc n) = go (keyed disk key (head + n)) (value-below disk key head n)
  where
    go : (b : Bool) → value_code (get_from disk key head n) < bit63 → value_code (cond b (some (second_of (block_in disk (head + n)))) (get_from disk key head n)) < bit63
    go true h = unfold second_of in omega arith
    go false h = h

get-of : (g v : Option ℕ) → value_code g < bit63 → (a b : Bool) → cond a (refused 14 0) (cond b (refused 21 0) (answer g)) ≡ answer v → value_code v < bit63
get-of g v h true b q = let z : ◌≡◌ {A = ℕ} 0 1 = cc in absurd (omega arith)
get-of g v h false true q = let z : ◌≡◌ {A = ℕ} 0 1 = cc in absurd (omega arith)
get-of g v h false false q = let z : g ≡ v = cc in rw z at h

get-below : (disk : List ℕ) (key : ℕ) (v : Option ℕ) → get_of disk key ≡ answer v → value_code v < bit63
unfolding get_of
get-below disk key v e =
    let head : ℕ = head_of disk in
    let tail : ℕ = tail_of disk in
    get-of (get_from disk key head (tail - head)) v (value-below disk key head (tail - head)) (not (eqb (length disk) disk_length)) (damaged head tail) e

-- ---- read, locate, cyclic

read-apart : (file : List ℕ) → ToldApart (read_answer file)
unfolding read_answer
read-apart file = go (read_of file) refl
  where
    go : (o : Outcome File) → read_of file ≡ o → ToldApart (sizes o)
    go (refused number place) e = unfold sizes in turned_down number place
    go (answer f) e =
        let l = (holding-limits file f e).0 in
        let a = l.rules in let b = l.tests in
        unfold sizes ToldApart in omega arith

-- an extent of a file in one number
extent-below : (e : Extent) → Packed e → ToldApart (answer (packed_extent e))
unfolding ToldApart
extent-below e q = let a = q.at in let b = q.initial in let c = q.main in let d = q.checks in omega arith

locate-apart : (file : List ℕ) (k : ℕ) → ToldApart (locate_answer file k)
unfolding locate_answer located
locate-apart file k = go (scan_of file) refl
  where
    go : (x : Outcome Places) → scan_of file ≡ x → ToldApart (located k x)
    go (refused number place) e = turned_down number place
    go (answer p) e =
        by_case (λ (o : Outcome ℕ). o) (leb 1 k && leb k (length p.tests)) _ _
        (λ h. let l = leb-true 1 k (and_left (leb 1 k) (leb k (length p.tests)) h) in
        let m = leb-true k (length p.tests) (and_right (leb 1 k) (leb k (length p.tests)) h) in
        extent-below (extent_of p.tests (k - 1)) (placed_packed file p e (k - 1) (omega arith)))
        (λ h. turned_down 9 0)

one_apart : (b : Bool) → ToldApart (answer (cond b 1 0))
unfolding ToldApart
one_apart true = omega arith
one_apart false = omega arith

cyclic-apart : (file : List ℕ) → ToldApart (cyclic_answer file)
unfolding cyclic_answer
cyclic-apart file = go (read_of file)
  where
    go : (o : Outcome File) → ToldApart (cyclic_in o)
    go (refused number place) = unfold cyclic_in in turned_down number place
    go (answer f) = unfold cyclic_in in one_apart (cyclic f.rules)

-- ---- judge and verdict: a test has at most so many schedules

test-limits : (ts : List Test) → ((t : Test) → Memᴰ t ts → TestLimits t) → (i : ℕ) → TestLimits (get_or ts i no_test)
test-limits [] h i = unfold no_test in record { initial = omega arith; main = omega arith; checks = omega arith }
test-limits (t ∷ ts) h zero = h t (Memᴰ.head refl)
test-limits (t ∷ ts) h (suc i) = test-limits ts (λ u m. h u (Memᴰ.tail m)) i

few_of : (f : File) (k : ℕ) (c : Case) → ((t : Test) → Memᴰ t f.tests → TestLimits t) → (a b : Bool)
    → cond a (refused 8 0) (cond b (answer (record { rules = f.rules; test = test_of f (k - 1) })) (refused 9 0)) ≡ answer c → schedules c.test ≤ most_schedules
few_of f k c h true b q = let z : ◌≡◌ {A = ℕ} 0 1 = cc in absurd (omega arith)
few_of f k c h false false q = let z : ◌≡◌ {A = ℕ} 0 1 = cc in absurd (omega arith)
few_of f k c h false true q =
    let z : record { rules = f.rules; test = test_of f (k - 1) } ≡ c = cc in
    rw (← z) (pow_mono {i = length (test_of f (k - 1)).main} {j = most_main} (test-limits f.tests h (k - 1)).main)

few : (file : List ℕ) (k : ℕ) (c : Case) → case_in file k ≡ answer c → schedules c.test ≤ most_schedules
unfolding case_in
few file k c = go (read_of file) refl
  where
    go : (o : Outcome File) → read_of file ≡ o → case_of o k ≡ answer c → schedules c.test ≤ most_schedules
    go (refused number place) h q = unfold case_of in let z : ◌≡◌ {A = ℕ} 0 1 = cc in absurd (omega arith)
    go (answer f) h q = few_of f k c (holding-limits file f h).0.each (cyclic f.rules) (leb 1 k && leb k (length f.tests)) (unfold case_of in q)

-- the three numbers of a judgement are no more than there are schedules
module _ (file : List ℕ) (k : ℕ) (c : Case) (e : case_in file k ≡ answer c) where
  valid-most : valid_count c.rules c.test ≤ most_schedules
  unfolding valid_count
  valid-most = let m = few file k c e in let x = count_most (valid c.rules c.test.main) (schedules c.test) in omega (arith, m, x)

  bad-most : bad_count c.rules c.test ≤ most_schedules
  unfolding bad_count bad
  bad-most = let m = few file k c e in let y = count_most (bad c.rules c.test) (schedules c.test) in omega (arith, m, y)

  smallest_most : (o : Option ℕ) → smallest_bad c.rules c.test ≡ o → (shown_of o ≤ most_schedules) × (verdict_code (verdict_by o) < bit63)
  unfolding shown_of verdict_by verdict_code Smallest Bad
  smallest_most none q = (omega arith, omega arith)
  smallest_most (some s) q = let l = (computed_smallest c.rules c.test s q).0.0 in let m = few file k c e in (omega (arith, l, m), omega (arith, l, m))

  judge-below : judge_answer (answer c) < bit63
  unfolding judge_answer judgement_of judgement_code valid_count bad_count smallest_bad
  judge-below =
      let a = valid-most in
      let b = bad-most in
      let s = (smallest_most (smallest_bad c.rules c.test) refl).0 in
      omega (arith, a, b, s)

  taken-apart : parts_of (judge_answer (answer c)) ≡ judgement_of c
  unfolding judge_answer judgement_of judgement_code parts_of valid_count bad_count smallest_bad
  taken-apart = go (valid_count c.rules c.test) (bad_count c.rules c.test) (shown_of (smallest_bad c.rules c.test)) valid-most bad-most (smallest_most (smallest_bad c.rules c.test) refl).0
    where
      go : (a b s : ℕ) → a ≤ most_schedules → b ≤ most_schedules → s ≤ most_schedules
          → parts_of (judgement_code (record { valid = a; bad = b; shown = s })) ≡ record { valid = a; bad = b; shown = s }
      go a b s h l m =
          let r = a + 2 ^ count_bits * b + 2 ^ (count_bits + count_bits) * s in
          let t : r / 2 ^ count_bits ≡ b + 2 ^ count_bits * s = omega (arith, h, l, m) in
          let u : r / 2 ^ (count_bits + count_bits) ≡ s = omega (arith, h, l, m) in
          let x : r % 2 ^ count_bits ≡ a = omega (arith, h, l, m) in
          let y : r / 2 ^ count_bits % 2 ^ count_bits ≡ b = rw t (omega (arith, h, l, m)) in
          let z : r / 2 ^ (count_bits + count_bits) % 2 ^ count_bits ≡ s = rw u (omega (arith, h, l, m)) in
          rw (x, y, z)

  verdict-below : verdict_answer (answer c) < bit63
  unfolding verdict_answer verdict_of smallest_bad
  verdict-below = (smallest_most (smallest_bad c.rules c.test) refl).1

pub judge-taken-apart : JudgeTakenApart
judge-taken-apart = taken-apart

-- ---- lines: one for each test, or that of a refusal

line_most : (k valid bad : ℕ) → k < 10 ^ test_digits → valid < 10 ^ count_digits → bad < 10 ^ count_digits → length (test_line k valid bad) ≤ test_length
unfolding test_line
line_most k valid bad h i j =
    let a = decimal-most (test_digits - 1) k h in
    let b = decimal-most (count_digits - 1) valid i in
    let c = decimal-most (count_digits - 1) bad j in
    rw (length-append (decimal k) _, length-append (decimal valid) _, length-append (decimal bad) _, length-append (cond (eqb bad 0) holds_text fails_text) _)
    (go (eqb bad 0) a b c)
  where
    go : (x : Bool) → length (decimal k) ≤ test_digits → length (decimal valid) ≤ count_digits → length (decimal bad) ≤ count_digits
        → length (decimal k) + suc (length (decimal valid) + suc (length (decimal bad) + suc (length (cond x holds_text fails_text) + 1))) ≤ test_length
    go true a b c = omega arith
    go false a b c = omega arith

lines-most : (f : ℕ → List ℕ) (n : ℕ) → ((i : ℕ) → i < n → length (f i) ≤ test_length) → length (lines f n) ≤ test_length * n
unfolding lines
lines-most f zero h = omega arith
lines-most f (suc n) h =
    let a = lines-most f n (λ i l. h i (omega arith)) in
    let b = h n (omega arith) in
    rw (length-append (lines f n) (f n)) (omega arith)

refused-most : (number place : ℕ) → number < 10 ^ refusal_digits → place < 10 ^ place_digits → length (refused_line number place) ≤ refused_length
unfolding refused_line
refused-most number place h i =
    let a = decimal-most (refusal_digits - 1) number h in
    let b = decimal-most (place_digits - 1) place i in
    rw (length-append (decimal number) _, length-append (decimal place) _) (omega arith)

text_most : (file : List ℕ) → length (program_text file) ≤ text_length
unfolding program_text valid_count bad_count bad
text_most file = go (read_of file) refl
  where
    tests : (f : File) → read_of file ≡ answer f → (b : Bool)
        → length (cond b (refused_line 8 0) (lines (λ i. test_line (suc i) (valid_count f.rules (test_of f i)) (bad_count f.rules (test_of f i))) (length f.tests))) ≤ text_length
    tests f h true = let l = refused-most 8 0 (omega arith) (omega arith) in omega arith
    tests f h false =
        let limits = (holding-limits file f h).0 in
        let n = limits.tests in
        let l = lines-most
        (λ i. test_line (suc i) (valid_count f.rules (test_of f i)) (bad_count f.rules (test_of f i)))
        (length f.tests)
        (λ i k.
        let m = pow_mono {i = length (test_of f i).main} {j = most_main} (test-limits f.tests limits.each i).main in
        let a = count_most (valid f.rules (test_of f i).main) (schedules (test_of f i)) in
        let b = count_most (bad f.rules (test_of f i)) (schedules (test_of f i)) in
        line_most (suc i) (valid_count f.rules (test_of f i)) (bad_count f.rules (test_of f i)) (omega arith) (omega arith) (omega arith))
        in
        omega arith

    go : (o : Outcome File) → read_of file ≡ o → length (text_of o) ≤ text_length
    go (refused number place) h =
        let l = refused-limits file number place h in
        let a = l.1 in let b = l.2 in
        let m = refused-most number place (omega arith) (omega arith) in
        unfold text_of in omega arith
    go (answer f) h = unfold text_of in tests f h (cyclic f.rules)

lines-below : (file buffer : List ℕ) → text_length ≤ length buffer → (printed_of file buffer).answer < bit63
unfolding printed_of
lines-below file buffer h = let l = text_most file in rw (le-ltb (length buffer) text_length h) (omega arith)

-- ---- find: at most 16 rules

picked-most : (rules : List Rule) (m : ℕ) → length (picked rules m) ≤ length rules
unfolding picked
picked-most [] m = omega arith
picked-most (r ∷ rs) m = go (eqb (m % 2) 1) (picked-most rs (m / 2))
  where
    go : (b : Bool) → length (picked rs (m / 2)) ≤ length rs → length (cond b (r ∷ picked rs (m / 2)) (picked rs (m / 2))) ≤ suc (length rs)
    go true h = omega arith
    go false h = omega arith

found_either : (b : Bool) (x y : Found) → (b ≡ true → ToldApart x.outcome) → (b ≡ false → ToldApart y.outcome) → ToldApart (cond b x y).outcome
found_either = by_case (λ (l : Found). l.outcome)

find-apart : (file buffer : List ℕ) → ToldApart (find_of file buffer).outcome
unfolding find_of
find-apart file buffer = go (read_of file)
  where
    wrote-apart : (candidates : List Rule) (o : Option ℕ) → length candidates ≤ most_candidates → ToldApart (wrote candidates o buffer).outcome
    wrote-apart candidates none h = unfold wrote in turned_down 13 0
    wrote-apart candidates (some m) h = let l = picked-most candidates m in unfold wrote ToldApart in omega arith

    go : (o : Outcome File) → ToldApart (find_in o buffer).outcome
    go (refused number place) = unfold find_in in turned_down number place
    go (answer f) =
        unfold find_in find_among in
        found_either (ltb 0 (length f.rules)) _ _ (λ e. turned_down 10 0)
        (λ e. found_either (too_long f.tests) _ _ (λ e. turned_down 24 0)
        (λ e. found_either (ltb (length buffer) found_length) _ _ (λ e. turned_down 12 0)
        (λ e. found_either (ltb most_candidates (length (candidates_of f.tests))) _ _ (λ e. turned_down 11 0)
        (λ l. wrote-apart (candidates_of f.tests) (chosen f.tests (candidates_of f.tests)) (ltb-false most_candidates (length (candidates_of f.tests)) l)))))

-- ---- trace: at most 42 puts

traced_either : (b : Bool) (x y : Traced) → (b ≡ true → ToldApart x.outcome) → (b ≡ false → ToldApart y.outcome) → ToldApart (cond b x y).outcome
traced_either = by_case (λ (l : Traced). l.outcome)

trace-apart : (initial main buffer : List ℕ) → ToldApart (trace_of initial main buffer).outcome
unfolding trace_of ToldApart
trace-apart initial main buffer =
    let i : List Put = puts_of initial in
    let m : List Put = puts_of main in
    let size : ℕ = put_length * (length i + length m) + end_length in
    let done : Traced = traced (answer size) (test_bytes (log_test i m) ++ drop size buffer) in
    let short : Traced = cond (ltb (length buffer) size) (traced (refused 12 0) buffer) done in
    let empty : Traced = cond (any empty_put i || any empty_put m) (traced (refused 20 0) buffer) short in
    traced_either (not (eqb (length initial % block_length) 0) || not (eqb (length main % block_length) 0)) _ (cond (ltb most_initial_puts (length i) || ltb most_main_puts (length m)) (traced (refused 6 0) buffer) empty)
    (λ e. turned_down 19 0)
    (λ e. traced_either (ltb most_initial_puts (length i) || ltb most_main_puts (length m)) _ empty (λ e. turned_down 6 0)
    (λ few. traced_either (any empty_put i || any empty_put m) _ short (λ e. turned_down 20 0)
    (λ e. traced_either (ltb (length buffer) size) _ done (λ e. turned_down 12 0)
    (λ e.
    let a = ltb-false most_initial_puts (length i) (or_none-left (ltb most_initial_puts (length i)) (ltb most_main_puts (length m)) few) in
    let b = ltb-false most_main_puts (length m) (or_none_right (ltb most_initial_puts (length i)) (ltb most_main_puts (length m)) few) in
    omega arith))))

-- ---- all of them

pub none-reaches-bit63 : NoneReachesBit63
none-reaches-bit63 =
    record {
      refusals = λ number place. unfold ToldApart in turned_down number place;
      opening = open_apart;
      hand_in = hand_in_apart;
      step = step-apart;
      drain = drain-apart;
      get = get-below;
      read = read-apart;
      locate = locate-apart;
      cyclic = cyclic-apart;
      judge = judge-below;
      verdict = verdict-below;
      lines = lines-below;
      find = find-apart;
      trace = trace-apart;
    }
