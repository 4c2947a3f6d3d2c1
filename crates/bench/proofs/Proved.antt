-- The theorem over the bench sheet: each line computes, and what speaks of every schedule or of labels follows from what is computed.
use mathlib.Core.Path.{◌≡◌, refl, sym, ap, ◌∙◌}
use mathlib.Core.Bool.{Bool, true, false, cond, not, ◌||◌}
use mathlib.Core.List.{List, [], ◌∷◌, ◌++◌, append-nil}
use mathlib.Core.Option.{Option}
use Prim.{tt}
use Prim.Native.Nat.{ℕ, ◌^◌, ◌<◌}
use native.Mathlib.Omega.{arith}
use lib.Count.{ones, ones_in}
use lib.Dec.{eqb, ltb, lit<}
use lib.ListN.{length, drop}
use lib.Seq.{drop-length}
use borrow.Author.Tests.{eqb-true, lt-ltb, le-ltb}
use Rattle.relation.specs.Best.{taken, best_below, fewer}
use Rattle.relation.specs.Bits.{bit, with_bit, mask_of}
use Rattle.relation.specs.Lists.{any, all, any_below, all_below, tabulate}
use Rattle.relation.specs.Finite.{related, rows_of, joined, round, closed, loops, has_ring}
use Rattle.relation.proofs.ListLaws.{or_right, all_below-true, all_below_intro}
use Rattle.relation.proofs.MaskLaws.{implies}
use Rattle.model.specs.declared.Rule.{Rule}
use Rattle.model.specs.declared.Write.{Write}
use Rattle.model.specs.Answer.{Outcome, answer, refused}
use Rattle.model.specs.Disk.{block, first_of, second_of, empty, empty_disk}
use Rattle.model.specs.Rules.{stands, matches, depends_on, known}
use Rattle.model.specs.Cyclic.{no_rule, leads, has, equal_leads, meets, cyclic}
use Rattle.model.specs.Schedule.{store, run, written, no_write, valid}
use Rattle.model.specs.Check.{damaged, range_holds, holds, consistent}
use Rattle.model.specs.Test.{Test, File, file, initial_disk, Bad, bad, test_holds, smallest_bad, shown_of, schedules, count_below, valid_count, bad_count}
use Rattle.model.specs.Find.{before, picked, pairing, inserted, from_write, from_trace, candidates_of, suffices, preferred, chosen}
use Rattle.model.proofs.CountLaws.{count-all}
use Rattle.model.proofs.TestLaws.{bad-true, true-bad, bad-fails, count-holds, computed_smallest}
use Rattle.file_format.specs.Bytes.{half, word, block_in, narrow_write_bytes, wide_write_bytes, narrow_rule_bytes, wide_rule_bytes}
use Rattle.file_format.specs.Encode.{field_bytes, rule_field_bytes, rule_fields, write_field_bytes, write_fields, check_field_bytes, check_fields, test_bytes, tests_bytes, file_bytes}
use Rattle.file_format.specs.File.{is_tag, is_wide, kind_of, is_rule, is_check, body_length, narrow_rule, wide_rule, rule_of, narrow_write, wide_write, write_of, check_of, counts_of, out_of_order, over_test, over_limit, rule_fault, body_fault, fault_of, grown, finished, read_from, nothing, read_of}
use Rattle.rule_cyclelaws.proofs.Examples.{K5-not-cyclic, K6-cyclic}
use Rattle.judge_search.specs.Verdict.{verdict_by}
use Rattle.judge_cases.specs.Judge.{Case, case_of, case_in, judgement_of, verdict_of}
use Rattle.judge_cases.specs.Examples.{four_not_three, nothing_stored}
use Rattle.judge_answers.specs.Judged.{judgement_code, verdict_code, judge_answer, verdict_answer}
use Rattle.log_get.specs.Puts.{start, after, put_writes, writes_of, after_all, log_test, puts_of, empty_put, Traced, traced, trace_of}
use Rattle.log_get.specs.Get.{keyed, get_from, get_of}
use Rattle.log_get.specs.Theorem.{filled, Meets}
use Rattle.log_get.proofs.DamageLaws.{filled-meets, damage_exactly}
use Rattle.judge_text.specs.Decimal.{decimal_with, decimal}
use Rattle.judge_text.specs.Lines.{refused_line, test_line, lines, text_of, program_text}
use Rattle.find_candidates.specs.Tests.{too_long}
use Rattle.find_call.specs.Finder.{Found, found, found_length, over, wrote, find_among, find_in, find_of}
use Rattle.model.specs.Needs.{needs, needs_ring, met, ready_from, ready, late}
use Rattle.cache_model.specs.Entries.{flag_at, flag_count}
use Rattle.cache_model.specs.State.{rule_in, write_in, rules_in, writes_in, stored_in, entries_in, bytes_each, entry_bytes, front, back, state_of, opened, handed, marked, stored_on}
use Rattle.cache_model.specs.Sound.{same, layout, ruled, needs_hold, sound}
use Rattle.cache_model.specs.Calls.{open_with, open_of, hand_in_of, storing, checked, stepped, step_of}
use Rattle.bench.specs.Sheet.{FindingAll, logged, mixed-K, sixteen, waits, put, K, K3-rules, together, Finding, RangeAt, Call, call, Gave, gave, calls, blank, Calling, Sheet, K-initial, K-main, Unstarred, trimmed, long, puts, Requested}

-- ---- what the lines are computed by: to unfold one of these is to unfold all that it unfolds

-- a test's schedules
judged : List Rule → Test → ℕ → Bool
unfolding bad valid consistent holds range_holds damaged run written store initial_disk empty_disk no_write depends_on matches stands bit all_below any all empty first_of second_of block
judged rules t s = bad rules t s

-- those of test K
counted : List Rule → ℕ
unfolding judged K log_test writes_of after_all put_writes after start valid_count bad_count count_below smallest_bad best_below taken fewer ones ones_in
counted rules = bad_count rules K

-- rings of rules and of needs
ringed : List Rule → Bool
unfolding cyclic meets equal_leads has leads no_rule has_ring loops closed round joined rows_of related any_below tabulate bit with_bit mask_of
ringed rules = cyclic rules

-- files
file_read : File → Outcome File
unfolding file_bytes tests_bytes test_bytes check_fields check_field_bytes write_fields write_field_bytes rule_fields rule_field_bytes field_bytes narrow_write_bytes wide_write_bytes narrow_rule_bytes wide_rule_bytes read_of read_from nothing finished grown fault_of body_fault rule_fault over_limit over_test out_of_order counts_of check_of write_of wide_write narrow_write rule_of wide_rule narrow_rule body_length is_check is_rule kind_of is_wide is_tag word half
file_read f = read_of (file_bytes f)

-- the test that a judge is given
case_read : File → Outcome Case
unfolding counted ringed file_read case_in case_of
case_read f = case_in (file_bytes f) 1

-- the finder's choice
searched : List Test → List ℕ → Found
unfolding counted together ringed file_read too_long any find_among wrote over candidates_of from_trace from_write inserted pairing before chosen preferred suffices picked test_holds ones ones_in
searched tests buffer = find_among tests buffer

-- calls of the cache
called : List Call → Gave
unfolding judged ringed file_read calls call open_of open_with opened bytes_each hand_in_of step_of checked stepped storing sound ruled needs_hold layout same state_of front back entries_in flag_count flag_at late known count_below met needs needs_ring ready_from ready rules_in writes_in stored_in rule_in write_in handed marked stored_on entry_bytes
called cs = calls cs blank blank

-- traces of puts
made : List ℕ → List ℕ → List ℕ → Traced
unfolding counted file_read trace_of puts_of empty_put tabulate
made initial main buffer = trace_of initial main buffer

-- what the program prints
printed : List ℕ → List ℕ
unfolding counted ringed file_read program_text text_of lines test_line refused_line decimal decimal_with
printed s = program_text s

-- ---- from what is computed to what the lines say

-- no schedule but n is bad
only : (rules : List Rule) (t : Test) (n : ℕ) → all_below (λ s. not (bad rules t s) || eqb s n) (schedules t) ≡ true → (s : ℕ) → Bad rules t s → s ≡ n
unfolding Bad
only rules t n e s b = eqb-true s n (implies (bad rules t s) (eqb s n) (all_below-true _ (schedules t) e s b.0) (true-bad rules t s b))

finding_all : (ts : List Test) (left : List ℕ → Found) → read_of (file_bytes (file [] ts)) ≡ answer (file [] ts) → too_long ts ≡ false
    → ((buffer : List ℕ) → find_among ts buffer ≡ left buffer) → FindingAll ts left
unfolding find_of find_in
finding_all ts left e short h buffer l = rw (e, short, le-ltb (length buffer) found_length l) (h buffer)

finding : (t : Test) (left : List ℕ → Found) → read_of (file_bytes (file [] (t ∷ []))) ≡ answer (file [] (t ∷ [])) → too_long (t ∷ []) ≡ false
    → ((buffer : List ℕ) → find_among (t ∷ []) buffer ≡ left buffer) → Finding t left
finding t left = finding_all (t ∷ []) left

calling : (cs : List Call) (outcomes : List (Outcome ℕ)) (disk : List ℕ) → called cs ≡ gave outcomes disk → Calling cs outcomes disk
unfolding called
calling cs outcomes disk e = e

range : (head tail : ℕ) (result : Bool) → ((disk : List ℕ) → range_holds disk (first_of (block head tail)) (second_of (block head tail)) ≡ result) → RangeAt head tail result
unfolding holds
range head tail result h disk a e = rw e (h disk)

-- ---- the theorem

pub sheet : Sheet
sheet =
    record {
      K1 = ((unfold case_read in refl, unfold counted in refl, unfold counted in refl), count-holds _ _ (unfold counted in refl));
      K2 = ((unfold case_read in refl, unfold counted in refl, unfold counted in refl), bad-fails [] K 2 (bad-true [] K 2 (unfold counted in lit< tt) (unfold counted in refl)), computed_smallest [] K 2 (unfold counted in refl));
      K3 = (
        (unfold case_read in refl, unfold counted in refl, unfold counted in refl),
        computed_smallest K3-rules K 12 (unfold counted in refl),
        only _ _ _ (unfold counted in refl),
      );
      K4 = finding _ _ (unfold searched in refl) (unfold searched in refl) (λ buffer. unfold searched in refl);
      K5 = (unfold ringed in refl, K5-not-cyclic);
      K6 = (unfold ringed in refl, K6-cyclic);
      K7 = finding _ _ (unfold searched in refl) (unfold searched in refl) (λ buffer. unfold searched in refl);
      K8 = calling _ _ _ (unfold called in refl);
      K9 = calling _ _ _ (unfold called in refl);
      K10 = calling _ _ _ (unfold called in refl);
      K11 = calling _ _ _ (unfold called in refl);
      K12 = (range _ _ _ (λ disk. unfold judged in refl), range _ _ _ (λ disk. unfold judged in refl), range _ _ _ (λ disk. unfold judged in refl));
    }

-- ---- the lines without a star

-- a trace of one put and of K, by the room that there is
abbrev Roomed : List ℕ → List ℕ → Test → ℕ → Type 0
Roomed initial main t size = (buffer : List ℕ) → trace_of initial main buffer
    ≡ cond (ltb (length buffer) size) (traced (refused 12 0) buffer) (traced (answer size) (test_bytes t ++ drop size buffer))

one-traced : Roomed [] K-initial (log_test [] (put 0 42 ∷ [])) 33
unfolding made
one-traced buffer = refl

K-traced : Roomed K-initial K-main K 85
unfolding made
K-traced buffer = refl

pub unstarred : Unstarred
unstarred =
    record {
      put-empty = λ buffer. unfold made in refl;
      put-accepted = λ buffer l. rw (one-traced buffer, le-ltb (length buffer) 33 l);
      room = λ buffer e.
          K-traced buffer
          ∙ rw (le-ltb (length buffer) 85 (omega arith))
          (ap (λ (l : List ℕ). traced (answer 85) (test_bytes K ++ l)) (ap (λ (n : ℕ). drop n buffer) (sym e) ∙ drop-length buffer)
          ∙ ap (traced (answer 85)) (append-nil (test_bytes K)));
      no_room = λ buffer e. K-traced buffer ∙ rw (lt-ltb (length buffer) 85 (omega arith));
      K3_prints = unfold printed in refl;
      one-byte_prints = unfold printed in refl;
      empty_prints = unfold printed in refl;
    }

-- ---- document 02

-- gets of a filled disk
gets : ℕ → ℕ → Outcome (Option ℕ)
unfolding judged get_of get_from keyed block_in word half
gets superblock key = get_of (filled superblock) key

-- the trimmed log
trims : ℕ → Test
unfolding searched trimmed
trims head = trimmed head

-- by the theorem: get gives 21
unmet : (other : List ℕ) → Meets (block 300 200) other → ⊥
unfolding gets
unmet = (damage_exactly (filled (block 300 200)) 0 refl).0 refl

-- a long test's file, and the finder's answer where it does not look for rules
reads : File → Outcome File
unfolding counted file_read long
reads f = read_of (file_bytes f)

asked : File → List ℕ → Found
unfolding reads too_long any find_of find_in
asked f buffer = find_of (file_bytes f) buffer

-- the finder's answer where it does look for rules
twelve : ℕ → Test
unfolding searched long
twelve n = long n

-- a program of puts traced
put_traces : ℕ → List ℕ → Traced
unfolding made puts
put_traces n buffer = trace_of [] (puts n) buffer

ten_room : Roomed [] (puts 10) (log_test [] (puts_of (puts 10))) 267
unfolding put_traces
ten_room buffer = refl

unruled : (ws : List Write) (s : ℕ) → valid [] ws s ≡ true
unfolding valid depends_on any
unruled ws s =
    all_below_intro _ (length ws) (λ i h. or_right (not (bit s i)) _ (all_below_intro _ (length ws) (λ j l. refl)))

all_valid : (t : Test) → valid_count [] t ≡ schedules t
unfolding valid_count
all_valid t = count-all (valid [] t.main) (schedules t) (unruled t.main)

-- a case of [4], its file and its answers
shows : Case → ℕ
unfolding case_read four_not_three nothing_stored judge_answer verdict_answer judgement_code verdict_code judgement_of verdict_of verdict_by shown_of
shows c = judge_answer (answer c)

-- files byte by byte
spelt : List ℕ → Outcome File
unfolding file_read counted mixed-K sixteen
spelt s = read_of s

-- names above 255
named : Test → List ℕ → Found
unfolding searched spelt logged waits
named t buffer = find_among (t ∷ []) buffer

-- a buffer one byte too short
finding_short : (t : Test) (buffer : List ℕ) → read_of (file_bytes (file [] (t ∷ []))) ≡ answer (file [] (t ∷ [])) → too_long (t ∷ []) ≡ false → length buffer < found_length
    → find_of (file_bytes (file [] (t ∷ []))) buffer ≡ found (refused 12 0) buffer
unfolding find_of find_in
finding_short t buffer e short l = rw (e, short, lt-ltb (length buffer) found_length l)

pub requested : Requested
requested =
    record {
      four_shown = (unfold shows in refl, unfold shows in refl, unfold shows in refl);
      none-shown = (unfold shows in refl, unfold shows in refl, unfold shows in refl);
      fails = (range _ _ _ (λ disk. unfold judged in refl), range _ _ _ (λ disk. unfold judged in refl), range _ _ _ (λ disk. unfold judged in refl));
      still_holds = (range _ _ _ (λ disk. unfold judged in refl), range _ _ _ (λ disk. unfold judged in refl));
      get_refused = ((λ key. unfold gets in refl), (λ key. unfold gets in refl), (λ key. unfold gets in refl), λ key. unfold gets in refl);
      get_none = ((λ key. unfold gets in refl), (λ key. unfold gets in refl), λ key. unfold gets in refl);
      get-some = unfold gets in refl;
      none-meets = unmet;
      some_meet = (filled-meets (block 1 4) (unfold gets in refl), filled-meets (block 5 5) (unfold gets in refl));
      trimmed-holds = (count-holds [] (trimmed 4) (unfold trims in refl), finding _ _ (unfold trims in refl) (unfold trims in refl) (λ buffer. unfold trims in refl));
      trimmed-fails = (bad-true [] (trimmed 5) 1 (unfold trims in lit< tt) (unfold trims in refl), finding _ _ (unfold trims in refl) (unfold trims in refl) (λ buffer. unfold trims in refl));
      twenty_read = unfold reads in refl;
      one-more-refused = unfold reads in refl;
      all_valid = all_valid;
      twenty_valid = λ t e. all_valid t ∙ ap (λ (n : ℕ). 2 ^ n) e;
      longest_line = (unfold printed in refl, refl, refl, refl);
      thirteen_refused = ((λ buffer. unfold asked in refl), (λ buffer. unfold asked in refl), λ buffer. unfold asked in refl);
      twelve_taken = (finding _ _ (unfold twelve in refl) (unfold twelve in refl) (λ buffer. unfold twelve in refl), unfold asked in refl);
      ten_traced = λ buffer l. rw (ten_room buffer, le-ltb (length buffer) 267 l);
      eleven_refused = λ buffer. unfold put_traces in refl;
      wide-rule-read = unfold spelt in refl;
      wide-fault = (unfold spelt in refl, unfold spelt in refl, unfold spelt in refl);
      thirty_three = unfold spelt in refl;
      wide-order = (unfold spelt in refl, unfold spelt in refl);
      K-mixed = unfold spelt in refl;
      apart = (unfold named in refl, unfold named in refl, unfold named in refl, unfold named in refl);
      both_written = finding_all _ _ (unfold named in refl) (unfold named in refl) (λ buffer. unfold named in refl);
      K_300 = finding _ _ (unfold named in refl) (unfold named in refl) (λ buffer. unfold named in refl);
      longest-file = (refl, refl);
      buffer_127 = (λ buffer e. finding_short _ _ (unfold named in refl) (unfold named in refl) (omega arith), refl);
    }
