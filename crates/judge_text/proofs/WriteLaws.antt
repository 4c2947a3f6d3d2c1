-- The digits of a number.
use mathlib.Core.Path.{◌≡◌, refl, ap, ◌∙◌}
use mathlib.Core.Bool.{Bool, true, false, cond}
use mathlib.Core.List.{List, [], ◌∷◌, ◌++◌}
use Prim.Native.Nat.{ℕ, zero, suc, ◌+◌, ◌/◌, ◌%◌, ◌^◌, ◌≤◌, ◌<◌}
use native.Mathlib.Nat.{pow-suc}
use native.Mathlib.Omega.{arith}
use lib.Dec.{ltb}
use lib.ListN.{length, length-append}
use borrow.Author.Rules.{rules}
use borrow.Author.Tests.{lt-ltb, le-ltb, ltb-false, ltb-true}
use Rattle.judge_text.specs.Decimal.{decimal_with, decimal}
use Rattle.file_writing.specs.Writing.{Wrote}
use Rattle.file_writing.proofs.WroteLaws.{wrote_then}

-- ---- digits

same_digits : (f g n : ℕ) → n < f → n < g → decimal_with f n ≡ decimal_with g n
unfolding decimal_with
same_digits zero g n h l = absurd (omega arith)
same_digits (suc f) zero n h l = absurd (omega arith)
same_digits (suc f) (suc g) n h l = go (ltb n 10) refl (λ k. same_digits f g (n / 10) (omega arith) (omega arith))
  where
    go : (b : Bool) → ltb n 10 ≡ b → (10 ≤ n → decimal_with f (n / 10) ≡ decimal_with g (n / 10))
        → cond b ((48 + n) ∷ []) (decimal_with f (n / 10) ++ ((48 + n % 10) ∷ [])) ≡ cond b ((48 + n) ∷ []) (decimal_with g (n / 10) ++ ((48 + n % 10) ∷ []))
    go true e k = refl
    go false e k = rw (k (ltb-false n 10 e))

pub decimal_digit : (n : ℕ) → n < 10 → decimal n ≡ (48 + n) ∷ []
unfolding decimal decimal_with
decimal_digit n h = rw (lt-ltb n 10 h)

pub decimal-more : (n : ℕ) → 10 ≤ n → decimal n ≡ decimal (n / 10) ++ ((48 + n % 10) ∷ [])
unfolding decimal
decimal-more n h =
    let first : decimal_with (suc n) n ≡ decimal_with n (n / 10) ++ ((48 + n % 10) ∷ []) = unfold decimal_with in rw (le-ltb n 10 h) in
    first ∙ ap (λ (l : List ℕ). l ++ ((48 + n % 10) ∷ [])) (same_digits n (suc (n / 10)) (n / 10) (omega arith) (omega arith))

-- a number below 10 to the power k has at most k digits
pub decimal-most : (k n : ℕ) → n < 10 ^ suc k → length (decimal n) ≤ suc k
decimal-most zero n h = rw (decimal_digit n h) (omega arith)
decimal-most (suc k) n h = go (ltb n 10) refl (decimal-most k (n / 10))
  where
    go : (b : Bool) → ltb n 10 ≡ b → (n / 10 < 10 ^ suc k → length (decimal (n / 10)) ≤ suc k) → length (decimal n) ≤ suc (suc k)
    go true e ih = rw (decimal_digit n (ltb-true n 10 e)) (omega arith)
    go false e ih =
        let p = pow-suc 10 (suc k) in
        let l = ih (omega arith) in
        rw (decimal-more n (ltb-false n 10 e), length-append (decimal (n / 10)) ((48 + n % 10) ∷ [])) (omega arith)

module _ (n at size : ℕ) where
  pub room-digit : n < 10 → at + length (decimal n) ≤ size → at < size
  room-digit h l = let q : at + 1 ≤ size = rw (decimal_digit n h) at l in omega arith

  pub room-front : 10 ≤ n → at + length (decimal n) ≤ size → at + length (decimal (n / 10)) ≤ size
  room-front h l =
      let q : at + length (decimal (n / 10) ++ ((48 + n % 10) ∷ [])) ≤ size = rw (decimal-more n h) at l in
      let e = length-append (decimal (n / 10)) ((48 + n % 10) ∷ []) in
      omega arith

  pub room-last : (l l₁ : List ℕ) (r : ℕ) → 10 ≤ n → at + length (decimal n) ≤ length l → Wrote l at (decimal (n / 10)) l₁ r → r < length l₁
  room-last l l₁ r h k w =
      let q : at + length (decimal (n / 10) ++ ((48 + n % 10) ∷ [])) ≤ length l = rw (decimal-more n h) at k in
      let e = length-append (decimal (n / 10)) ((48 + n % 10) ∷ []) in
      let p = w.place in
      let s = w.size in
      omega arith

module _ (n at : ℕ) (l l₁ : List ℕ) (r : ℕ) where
  pub wrote-digit : n < 10 → Wrote l at ((48 + n) ∷ []) l₁ r → Wrote l at (decimal n) l₁ r
  wrote-digit h w = rw (decimal_digit n h) w

  pub wrote-more : (l₂ : List ℕ) (r₂ : ℕ) → 10 ≤ n → Wrote l at (decimal (n / 10)) l₁ r → Wrote l₁ r ((48 + n % 10) ∷ []) l₂ r₂ → Wrote l at (decimal n) l₂ r₂
  wrote-more l₂ r₂ h w v = rw (decimal-more n h) (wrote_then l at (decimal (n / 10)) l₁ r ((48 + n % 10) ∷ []) l₂ r₂ w v)

pub ruleset writes = (rules, room-digit, room-front, room-last, wrote-digit, wrote-more)
