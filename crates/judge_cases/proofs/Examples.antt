-- The two files of `specs/Examples.antt`: reading and counts compute, the refusals follow by the theorem.
use mathlib.Core.Path.{◌≡◌, refl}
use mathlib.Core.Logic.{inl, inr}
use mathlib.Core.Bool.{Bool, false≢true}
use mathlib.Core.List.{List, [], ◌∷◌}
use Prim.Native.Nat.{ℕ}
use native.Mathlib.Omega.{arith}
use lib.Dec.{lit<}
use lib.Count.{ones_in, ones}
use Rattle.relation.specs.Best.{taken, best_below, fewer}
use Rattle.relation.specs.Bits.{bit, with_bit, mask_of}
use Rattle.relation.specs.Lists.{any, all, any_below, all_below, tabulate}
use Rattle.relation.specs.Finite.{related, rows_of, joined, round, closed, loops, has_ring}
use Rattle.model.specs.declared.Rule.{Rule}
use Rattle.model.specs.Answer.{Outcome, answer}
use Rattle.model.specs.Disk.{block, first_of, second_of, empty, empty_disk}
use Rattle.model.specs.Rules.{stands, matches, depends_on}
use Rattle.model.specs.Cyclic.{Cyclic, no_rule, leads, has, equal_leads, meets, cyclic}
use Rattle.model.specs.Schedule.{store, run, written, no_write, valid}
use Rattle.model.specs.Check.{damaged, range_holds, holds, consistent}
use Rattle.model.specs.Test.{Test, File, file, initial_disk, Bad, bad, smallest_bad, shown_of, count_below, valid_count, bad_count}
use Rattle.model.proofs.TestLaws.{bad-true, bad-fails}
use Rattle.rule_cyclelaws.specs.Examples.{equal_alone}
use Rattle.rule_cyclelaws.proofs.CyclicLaws.{true-cyclic}
use Rattle.rule_cyclelaws.proofs.Examples.{equal-cyclic}
use Rattle.file_format.specs.Bytes.{half, word}
use Rattle.file_format.specs.Held.{no_test}
use Rattle.file_format.specs.File.{is_tag, is_wide, kind_of, is_rule, is_check, body_length, narrow_rule, wide_rule, rule_of, narrow_write, wide_write, write_of, check_of, counts_of, out_of_order, over_test, over_limit, rule_fault, body_fault, fault_of, grown, finished, read_from, nothing, read_of}
use Rattle.judge_search.specs.Verdict.{verdict_by}
use Rattle.judge_cases.specs.Judge.{case_in, judgement_of, verdict_of}
use Rattle.judge_cases.specs.Theorem.{NoSuchTest, case_of_test, CaseFor}
use Rattle.judge_cases.specs.Examples.{K3-bytes, K3-test, K3-file, ring-bytes, JudgedFiles, four_not_three, nothing_stored, SmallestShown}
use Rattle.judge_cases.proofs.TheoremLaws.{judged_as_meant}

-- ---- what is computed: to unfold one of these is to unfold all that it unfolds

file_read : List ℕ → Outcome File
unfolding K3-bytes K3-file K3-test ring-bytes read_of read_from nothing finished grown fault_of body_fault rule_fault over_limit over_test out_of_order counts_of check_of write_of wide_write narrow_write rule_of wide_rule narrow_rule body_length is_check is_rule kind_of is_wide is_tag word half block no_test
file_read s = read_of s

counted : List Rule → Test → ℕ
unfolding K3-file K3-test four_not_three nothing_stored judgement_of verdict_of verdict_by shown_of smallest_bad best_below taken fewer ones ones_in valid_count bad_count count_below bad valid consistent holds range_holds damaged run written store initial_disk empty_disk no_write depends_on matches stands bit all_below any all empty first_of second_of block
counted rules t = bad_count rules t

ringed : List Rule → Bool
unfolding K3-file cyclic meets equal_leads has leads no_rule has_ring loops closed round joined rows_of related any_below tabulate bit with_bit mask_of
ringed rules = cyclic rules

-- ---- K3's file

K3-read : read_of K3-bytes ≡ answer K3-file
unfolding file_read
K3-read = refl

K3-acyclic : Cyclic K3-file.rules → ⊥
unfolding ringed
K3-acyclic c = false≢true (true-cyclic K3-file.rules c)

K3-bad : Bad K3-file.rules (case_of_test K3-file 1).test 12
K3-bad = bad-true K3-file.rules (case_of_test K3-file 1).test 12 (unfold counted in lit< tt) (unfold counted in refl)

K3-there : NoSuchTest K3-file 1 → ⊥
unfolding K3-file
K3-there (inl e) = absurd (omega arith)
K3-there (inr l) = absurd (omega arith)

-- test k of it
K3_for : (k : ℕ) → CaseFor K3-file k (case_in K3-bytes k)
K3_for k = judged_as_meant.read-file K3-bytes k K3-file K3-read

pub judged_files : JudgedFiles
judged_files =
    record {
      K3-read = K3-read;
      K3-acyclic = K3-acyclic;
      K3-given = (K3_for 1).admitted.1 (K3-acyclic, K3-there);
      K3-judged = unfold counted in refl;
      K3-fails = unfold counted in refl;
      K3-not-held = bad-fails K3-file.rules (case_of_test K3-file 1).test 12 K3-bad;
      K3-zero = (K3_for 0).missing.1 (K3-acyclic, inl refl);
      K3-above = λ k l. (K3_for k).missing.1 (K3-acyclic, inr (unfold K3-file in l));
      ring-refused = λ k. (judged_as_meant.read-file ring-bytes k (file (equal_alone 1) (no_test ∷ [])) (unfold file_read in refl)).ring.1 (equal-cyclic 1);
    }

-- ---- the smallest failing schedule

pub smallest_shown : SmallestShown
smallest_shown =
    record {
      three_bad = bad-true [] four_not_three.test 3 (unfold counted in lit< tt) (unfold counted in refl);
      four_judged = unfold counted in refl;
      four_fails = unfold counted in refl;
      none-judged = unfold counted in refl;
      none-fails = unfold counted in refl;
    }
