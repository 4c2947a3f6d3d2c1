-- The program's text as meant: reading gives known predicates, for which the computed test of rings decides.
use Prim.Native.Nat.{ℕ, suc}
use mathlib.Core.Path.{◌≡◌, refl}
use mathlib.Core.Bool.{Bool, true, false, cond}
use mathlib.Core.List.{List}
use lib.ListN.{length}
use Rattle.model.specs.Answer.{answer}
use Rattle.model.specs.Cyclic.{Cyclic, cyclic}
use Rattle.model.specs.Test.{File, valid_count, bad_count}
use Rattle.file_format.specs.File.{read_of}
use Rattle.file_format.specs.Held.{test_of}
use Rattle.file_reader.proofs.CallerLaws.{holding-limits}
use Rattle.rule_cyclelaws.proofs.CyclicLaws.{cyclic-true, true-cyclic}
use Rattle.judge_text.specs.Lines.{refused_line, test_line, lines, text_of, program_text}
use Rattle.judge_text.specs.Theorem.{TextAsMeant}

text_ring : (s : List ℕ) (f : File) → read_of s ≡ answer f → Cyclic f.rules → program_text s ≡ refused_line 8 0
unfolding program_text text_of
text_ring s f e c = rw (e, true-cyclic f.rules c)

text_tests : (s : List ℕ) (f : File) → read_of s ≡ answer f → (Cyclic f.rules → ⊥)
    → program_text s ≡ lines (λ i. test_line (suc i) (valid_count f.rules (test_of f i)) (bad_count f.rules (test_of f i))) (length f.tests)
unfolding program_text text_of
text_tests s f e n = rw e (go (cyclic f.rules) refl)
  where
    go : (b : Bool) → cyclic f.rules ≡ b
        → cond b (refused_line 8 0) (lines (λ i. test_line (suc i) (valid_count f.rules (test_of f i)) (bad_count f.rules (test_of f i))) (length f.tests))
        ≡ lines (λ i. test_line (suc i) (valid_count f.rules (test_of f i)) (bad_count f.rules (test_of f i))) (length f.tests)
    go true q = absurd (n (cyclic-true f.rules (holding-limits s f e).0.known q))
    go false q = refl

pub text_as_meant : TextAsMeant
text_as_meant s = record { unread = λ number place e. unfold program_text text_of in rw e; ring = text_ring s; tests = text_tests s }
