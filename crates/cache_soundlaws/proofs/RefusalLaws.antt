-- Refused calls: by the lengths and the soundness of what is lent, and that they leave it.
use mathlib.Core.Path.{◌≡◌, refl, sym}
use mathlib.Core.Logic.{◌≢◌, ◌⊎◌, inl, inr, ⊎_elim}
use mathlib.Core.Bool.{Bool, true, false, cond, not, false≢true}
use mathlib.Core.List.{List}
use Prim.Native.Nat.{ℕ, zero, suc}
use native.Mathlib.Omega.{arith}
use lib.Dec.{eqb}
use lib.ListN.{length}
use borrow.Author.Tests.{eq-eqb, ne_eqb}
use Rattle.relation.proofs.ListLaws.{untrue}
use Rattle.model.specs.Answer.{Outcome, answer, refused}
use Rattle.model.specs.Test.{File}
use Rattle.file_format.specs.Bytes.{disk_length}
use Rattle.cache_model.specs.State.{state_size}
use Rattle.cache_model.specs.Sound.{Sound, sound}
use Rattle.cache_model.specs.Calls.{Left, left, open_with, open_of, hand_in_of, storing, checked, stepped, step_of, drained, drain_of}
use Rattle.cache_soundlaws.specs.Theorem.{TurnsDown, Unchanged, Refuses}
use Rattle.cache_statelaws.proofs.SoundLaws.{sound-true}

-- ---- what is lent stays

module _ (s d : List ℕ) where
  lent : (number place : ℕ) → Unchanged s d (left (refused number place) s d)
  lent number place n p e = (refl, refl)

  answered : (k : ℕ) (t e : List ℕ) → Unchanged s d (left (answer k) t e)
  answered k t e n p q = let z : ◌≡◌ {A = ℕ} 0 1 = cc in absurd (omega arith)

  either : (b : Bool) (x y : Left) → Unchanged s d x → Unchanged s d y → Unchanged s d (cond b x y)
  either true x y h k = h
  either false x y h k = k

  opening : (o : Outcome File) → Unchanged s d (open_with o s d)
  unfolding open_with
  opening (refused number place) = lent number place
  opening (answer g) = search (lent, answered, either) depth 9

  check : (call : List ℕ → List ℕ → Left) → Unchanged s d (call s d) → Unchanged s d (checked call s d)
  unfolding checked
  check call h = search (lent, either) depth 9

  stored : (k : ℕ) → Unchanged s d (storing k s d)
  unfolding storing
  stored zero = answered 0 s d
  stored (suc i) = answered (suc i) _ _

pub refuses : Refuses
unfolding open_of hand_in_of step_of drain_of stepped drained
refuses s d = (
  λ file. search (lent, opening, either) depth 9,
  λ w. search (lent, answered, either) depth 9,
  check s d stepped (stored s d _),
  check s d drained (answered s d _ _ _),
)

-- ---- by what is lent

unsound : (s : List ℕ) → (Sound s → ⊥) → sound s ≡ false
unsound s n = untrue (sound s) (λ e. n (sound-true s e))

module _ (call : List ℕ → List ℕ → Left) (s d : List ℕ) where
  pub checked-length : (length s ≢ state_size) ⊎ (length d ≢ disk_length) → checked call s d ≡ left (refused 14 0) s d
  unfolding checked
  checked-length h = go (eqb (length s) state_size) (eqb (length d) disk_length) wrong
    where
      wrong : (eqb (length s) state_size ≡ false) ⊎ (eqb (length d) disk_length ≡ false)
      wrong = ⊎_elim (λ n. inl (ne_eqb _ _ n)) (λ n. inr (ne_eqb _ _ n)) h

      go : (a b : Bool) → (a ≡ false) ⊎ (b ≡ false)
          → cond (not a) (left (refused 14 0) s d) (cond (not b) (left (refused 14 0) s d) (cond (not (sound s)) (left (refused 15 0) s d) (call s d))) ≡ left (refused 14 0) s d
      go false b w = refl
      go true false w = refl
      go true true w = absurd (⊎_elim (λ e. false≢true (sym e)) (λ e. false≢true (sym e)) w)

  checked-unsound : length s ≡ state_size → length d ≡ disk_length → (Sound s → ⊥) → checked call s d ≡ left (refused 15 0) s d
  unfolding checked
  checked-unsound a b n = rw (eq-eqb (length s) state_size a, eq-eqb (length d) disk_length b, unsound s n)

pub turns_down : TurnsDown
turns_down s d =
    record {
      step-length = unfold step_of in checked-length stepped s d;
      step-unsound = unfold step_of in checked-unsound stepped s d;
      drain-length = unfold drain_of in checked-length drained s d;
      drain-unsound = unfold drain_of in checked-unsound drained s d;
      hand_in_length = λ w n. unfold hand_in_of in rw (ne_eqb (length s) state_size n);
      hand_in_unsound = λ w a n. unfold hand_in_of in rw (eq-eqb (length s) state_size a, unsound s n);
    }
