-- Cyclic rules of a file as meant: reading gives known predicates, for which the computed test decides.
use Prim.Native.Nat.{ℕ}
use mathlib.Core.Path.{◌≡◌, refl, sym, ◌∙◌}
use mathlib.Core.Logic.{◌↔◌, ◌⊎◌, inl, inr}
use mathlib.Core.Bool.{Bool, true, false, cond, false≢true}
use mathlib.Core.List.{List}
use native.Mathlib.Omega.{arith}
use Rattle.model.specs.Answer.{answer}
use Rattle.model.specs.Cyclic.{Cyclic, cyclic}
use Rattle.model.specs.Test.{File}
use Rattle.file_format.specs.File.{read_of}
use Rattle.file_reader.proofs.CallerLaws.{holding-limits}
use Rattle.rule_cyclelaws.proofs.CyclicLaws.{cyclic-true, true-cyclic}
use Rattle.file_calls.specs.File.{cyclic_in, cyclic_answer}
use Rattle.file_calls.specs.Theorem.{CyclicAsMeant}

cyclic-read : (s : List ℕ) (f : File) → read_of s ≡ answer f → cyclic_answer s ≡ answer (cond (cyclic f.rules) 1 0)
unfolding cyclic_answer cyclic_in
cyclic-read s f e = rw e

pub cyclic_as_meant : CyclicAsMeant
cyclic_as_meant s f e = go (cyclic f.rules) refl
  where
    go : (b : Bool) → cyclic f.rules ≡ b → (cyclic_answer s ≡ answer 1 ↔ Cyclic f.rules) × ((cyclic_answer s ≡ answer 1) ⊎ (cyclic_answer s ≡ answer 0))
    go true q =
        let a : cyclic_answer s ≡ answer 1 = cyclic-read s f e ∙ rw q in
        ((λ h. cyclic-true f.rules (holding-limits s f e).0.known q, λ c. a), inl a)
    go false q =
        let a : cyclic_answer s ≡ answer 0 = cyclic-read s f e ∙ rw q in
        ((λ h. let z : ◌≡◌ {A = ℕ} 0 1 = cc in absurd (omega arith), λ c. absurd (false≢true (sym q ∙ true-cyclic f.rules c))), inr a)
