-- A number without one of its bits has one 1 less, and its halves are the number's without that bit. By halving.
use mathlib.Core.Path.{◌≡◌, sym, ap, ◌∙◌}
use mathlib.Core.Bool.{true, false}
use Prim.Native.Nat.{ℕ, zero, suc, ◌+◌, ◌-◌, ◌/◌, ◌%◌, ◌^◌, ◌≤◌}
use native.Mathlib.Nat.{div-one, mod-lt, pow-suc}
use native.Mathlib.Omega.{arith}
use lib.Count.{ones, ones_step, ones_cat}
use lib.Pow.{pow_pos, split}
use borrow.Author.Tests.{eqb-true, eq-eqb}
use Rattle.relation.specs.Bits.{bit}
use Rattle.relation.proofs.BitLaws.{bit-suc}

pub lowest_odd : (m : ℕ) → bit m 0 ≡ true → m % 2 ≡ 1
unfolding bit
lowest_odd m e = eqb-true (m % 2) 1 (rw (div-one m) at e)

-- and the lowest bit of odd and of even numbers
pub odd_bit : (m : ℕ) → m % 2 ≡ 1 → bit m 0 ≡ true
unfolding bit
odd_bit m e = rw (div-one m) (eq-eqb (m % 2) 1 e)

pub even_bit : (m : ℕ) → m % 2 ≡ 0 → bit m 0 ≡ false
unfolding bit
even_bit m e = rw (div-one m, e)

-- a bit of a number is no more than the number
pub bit-most : (m i : ℕ) → bit m i ≡ true → 2 ^ i ≤ m
bit-most m zero e = let odd = lowest_odd m e in omega arith
bit-most m (suc i) e =
    let h = bit-most (m / 2) i (sym (bit-suc m i) ∙ e) in
    omega (arith, pow-suc 2 i)

-- without the lowest bit
module _ (m : ℕ) (e : bit m 0 ≡ true) where
  pub lowest_even : (m - 1) % 2 ≡ 0
  lowest_even = let odd = lowest_odd m e in omega arith

  pub lowest-half : (m - 1) / 2 ≡ m / 2
  lowest-half = let odd = lowest_odd m e in omega arith

-- without a higher bit
module _ (m i : ℕ) (e : bit m (suc i) ≡ true) where
  pub higher_parity : (m - 2 ^ suc i) % 2 ≡ m % 2
  higher_parity = let h = bit-most m (suc i) e in omega (arith, pow-suc 2 i)

  pub higher_half : (m - 2 ^ suc i) / 2 ≡ m / 2 - 2 ^ i
  higher_half = let h = bit-most m (suc i) e in omega (arith, pow-suc 2 i)

pub ones-without : (m i : ℕ) → bit m i ≡ true → ones m ≡ ones (m - 2 ^ i) + 1
ones-without m zero e =
    let odd = lowest_odd m e in
    rw (ones_step m, ones_step (m - 1), lowest_even m e, lowest-half m e) (omega arith)
ones-without m (suc i) e =
    let h = ones-without (m / 2) i (sym (bit-suc m i) ∙ e) in
    rw (ones_step m, ones_step (m - 2 ^ suc i), higher_parity m i e, higher_half m i e) (omega arith)

-- the bits from k on have no more
pub ones_upper : (m k : ℕ) → ones (m / 2 ^ k) ≤ ones m
ones_upper m k =
    let e : ones m ≡ ones (m / 2 ^ k) + ones (m % 2 ^ k) = ap ones (sym (split m k)) ∙ ones_cat k (m / 2 ^ k) (m % 2 ^ k) (mod-lt m (pow_pos k)) in
    omega arith
