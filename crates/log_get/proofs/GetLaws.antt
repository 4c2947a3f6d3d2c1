-- The computed value of a key is the one at the highest address, and no other value is.
use mathlib.Core.Path.{◌≡◌, refl, sym, ap, ◌∙◌}
use mathlib.Core.Bool.{Bool, true, false, cond, false≢true}
use mathlib.Core.List.{List}
use Prim.Native.Nat.{ℕ, zero, suc, ◌+◌, ◌<◌}
use mathlib.Core.Option.{Option, none, some}
use native.Mathlib.Omega.{arith}
use native.Mathlib.Decide.{dec_lt}
use Rattle.log_get.specs.Get.{keyed, Gets, get_from}
use Rattle.model.specs.Disk.{second_of}
use Rattle.file_format.specs.Bytes.{block_in}

module _ (disk : List ℕ) (key head : ℕ) where
  -- one address more, which has not the key
  at_or_below : (n : ℕ) → keyed disk key (head + n) ≡ false → (a : ℕ) → a < head + suc n → (a < head + n → keyed disk key a ≡ false) → keyed disk key a ≡ false
  at_or_below n e a h k = elim (dec_lt a (head + n)) [ yes lt ↦ k lt | no ge ↦ (let q : a ≡ head + n = omega arith in rw q e) ]

  gets_more : (n : ℕ) → keyed disk key (head + n) ≡ false → (v : Option ℕ) → Gets disk key head (head + n) v → Gets disk key head (head + suc n) v
  unfolding Gets
  gets_more n e none g = λ a l h. at_or_below n e a h (λ lt. g a l lt)
  gets_more n e (some v) g =
      let a = g.0 in let l = g.1 in let h = g.2 in
      (a, l, omega arith, g.3, g.4, λ b p q. at_or_below n e b q (λ lt. g.5 b p lt))

  pub get_from_gets : (n : ℕ) → Gets disk key head (head + n) (get_from disk key head n)
  unfolding get_from
  get_from_gets zero = unfold Gets in λ a l h. absurd (omega arith)
  get_from_gets (suc n) = go (keyed disk key (head + n)) refl (get_from_gets n)
    where
      go : (b : Bool) → keyed disk key (head + n) ≡ b → Gets disk key head (head + n) (get_from disk key head n)
          → Gets disk key head (head + suc n) (cond b (some (second_of (block_in disk (head + n)))) (get_from disk key head n))
      go true e g = unfold Gets in (head + n, omega arith, omega arith, e, refl, λ b p q. absurd (omega arith))
      go false e g = gets_more n e (get_from disk key head n) g

  pub gets_one : (tail : ℕ) (u v : Option ℕ) → Gets disk key head tail u → Gets disk key head tail v → u ≡ v
  unfolding Gets
  gets_one tail none none g h = refl
  gets_one tail none (some v) g h = absurd (false≢true (sym (g h.0 h.1 h.2) ∙ h.3))
  gets_one tail (some u) none g h = absurd (false≢true (sym (h g.0 g.1 g.2) ∙ g.3))
  gets_one tail (some u) (some v) g h = ap some (g.4 ∙ ap (λ (a : ℕ). second_of (block_in disk a)) same ∙ sym h.4)
    where
      same : g.0 ≡ h.0
      same = elim (dec_lt g.0 h.0) [
        | yes lt ↦ absurd (false≢true (sym (g.5 h.0 lt h.2) ∙ h.3))
        | no ge ↦ elim (dec_lt h.0 g.0) [
          | yes lt ↦ absurd (false≢true (sym (h.5 g.0 lt g.2) ∙ g.3))
          | no le ↦ omega arith
        ]
      ]
