-- Masks as sets: a mask without the members of another, bit by bit and as a smaller number, and the highest and the lowest member, by the leading and the trailing zeros.
use mathlib.Core.Path.{◌≡◌, refl, sym, ap, ◌∙◌}
use mathlib.Core.Bool.{Bool, true, false, cond, not, ◌&&◌, ◌||◌, false≢true, and_assoc}
use Prim.Native.Nat.{ℕ, zero, suc, ◌+◌, ◌-◌, ◌/◌, ◌%◌, ◌^◌, ◌≤◌, ◌<◌}
use native.Mathlib.Nat.{pow-suc, mod-lt, mod-le, lt_of_lt_of_le}
use native.Mathlib.Omega.{arith}
use lib.Bits.{bit_and, bit_or, or_disjoint, and_le_l}
use lib.Count.{count_leading_zeros, leading_le, leading_top, count_trailing_zeros, trailing_le, under}
use lib.Dec.{eqb, ltb}
use lib.Pow.{pow_mono, pow_pos}
use borrow.Author.Rules.{rules}
use borrow.Author.Tests.{lt-ltb, ltb-true, ltb-false, not-true}
use Rattle.relation.specs.Bits.{bit, with_bit, mask_of, without, Highest, Lowest}
use Rattle.relation.proofs.BitLaws.{bit-suc, bit-and, bit-or, bit_mask, mask_below, bits_equal, bit-zero, bit_mod, bit_pow, set-bit}
use Rattle.relation.proofs.ListLaws.{clash, untrue, and_left, and_right, and_intro}
use Rattle.relation.proofs.UnionLaws.{bits_same, bit_past, bit_top, others_bits}
use Rattle.relation.proofs.WithoutLaws.{bit-most, odd_bit, even_bit}

-- ---- setting a bit if asked for

pub if_on : (on : Bool) (m i r : ℕ) → on ≡ true → r ≡ with_bit m i → r ≡ cond on (with_bit m i) m
if_on on m i r e q = q ∙ rw e

pub if_off : (on : Bool) (m i : ℕ) → on ≡ false → m ≡ cond on (with_bit m i) m
if_off on m i e = rw e

-- ---- the members of one that are not in the other

low_without : (a b j : ℕ) → j < 64 → bit (without a b) j ≡ bit a j && not (bit b j)
unfolding without
low_without a b j h = bit_mask (λ j. bit a j && not (bit b j)) 64 j ∙ ap (λ (t : Bool). t && (bit a j && not (bit b j))) (lt-ltb j 64 h)

pub without-below : (a b : ℕ) → without a b < 2 ^ 64
unfolding without
without-below a b = mask_below (λ j. bit a j && not (bit b j)) 64

high_false : (a j : ℕ) → a < 2 ^ 64 → 64 ≤ j → bit a j ≡ false
high_false a j h l = let p = pow_mono {i = 64} {j = j} l in bit_past a j (omega (arith, p, h))

pub bit-without : (a b j : ℕ) → a < 2 ^ 64 → bit (without a b) j ≡ bit a j && not (bit b j)
bit-without a b j h = go (ltb j 64) refl
  where
    go : (t : Bool) → ltb j 64 ≡ t → bit (without a b) j ≡ bit a j && not (bit b j)
    go true e = low_without a b j (ltb-true j 64 e)
    go false e = let l = ltb-false j 64 e in rw (high_false a j h l) (high_false (without a b) j (without-below a b) l)

-- its members
pub without_member : (a b j : ℕ) → bit (without a b) j ≡ true → (bit a j ≡ true) × (bit b j ≡ false)
without_member a b j e = go (ltb j 64) refl
  where
    go : (t : Bool) → ltb j 64 ≡ t → (bit a j ≡ true) × (bit b j ≡ false)
    go true l =
        let m = sym (low_without a b j (ltb-true j 64 l)) ∙ e in
        (and_left (bit a j) (not (bit b j)) m, not-true (bit b j) (and_right (bit a j) (not (bit b j)) m))
    go false l = absurd (false≢true (sym (high_false (without a b) j (without-below a b) (ltb-false j 64 l)) ∙ e))

pub member_without : (a b j : ℕ) → j < 64 → bit a j ≡ true → bit b j ≡ false → bit (without a b) j ≡ true
member_without a b j l ea eb = low_without a b j l ∙ rw (ea, eb)

-- a mask without one of its numbers
pub mask_without : (p : ℕ → Bool) (n i : ℕ) → n ≤ 64 → without (mask_of p n) (2 ^ i) ≡ mask_of (λ j. p j && not (eqb j i)) n
mask_without p n i h =
    let q : ℕ → Bool = λ j. p j && not (eqb j i) in
    let small = lt_of_lt_of_le (mask_below p n) (pow_mono {i = n} {j = 64} h) in
    bits_equal 64 _ _ (without-below (mask_of p n) (2 ^ i)) (lt_of_lt_of_le (mask_below q n) (pow_mono {i = n} {j = 64} h))
    (λ j l. bit-without (mask_of p n) (2 ^ i) j small ∙ rw (bit_mask p n j, bit_pow i j, bit_mask q n j) (and_assoc (ltb j n) (p j) (not (eqb j i))))

pub without_is : (a b : ℕ) → a < 2 ^ 64 → b < 2 ^ 64 → bit_and a (18446744073709551615 - b) ≡ without a b
without_is a b h k =
    bits_equal 64 _ _ (let l = and_le_l a (18446744073709551615 - b) in omega (arith, l, h)) (without-below a b)
    (λ j l. rw (bit-and a (18446744073709551615 - b) j, others_bits b 64 k, bit_mask (λ j. not (bit b j)) 64 j, lt-ltb j 64 l, low_without a b j l))

-- to take a member away makes a smaller number
module _ (a b h : ℕ) (most : a < 2 ^ 64) (ea : bit a h ≡ true) (eb : bit b h ≡ true) where
  apart : (x y : Bool) → (x && not y) && (x && y) ≡ false
  apart true true = refl
  apart true false = refl
  apart false y = refl

  both : (x y : Bool) → (x && not y) || (x && y) ≡ x
  both true true = refl
  both true false = refl
  both false y = refl

  pub without_less : without a b < a
  without_less =
      let r = without a b in
      let x = bit_and a b in
      let none : bit_and r x ≡ 0 = bits_same _ _ (λ j. rw (bit-and r x j, bit-without a b j most, bit-and a b j, bit-zero j) (apart (bit a j) (bit b j))) in
      let all : bit_or r x ≡ a = bits_same _ _ (λ j. rw (bit-or r x j, bit-without a b j most, bit-and a b j) (both (bit a j) (bit b j))) in
      let sum : r + x ≡ a = sym (or_disjoint r x none) ∙ all in
      let some = bit-most x h (rw (bit-and a b h, ea, eb)) in
      let pos = pow_pos h in
      omega (arith, sum, some, pos)

-- the same of any number
pub without-falls : (a b h : ℕ) → h < 64 → bit a h ≡ true → bit b h ≡ true → without a b < a
without-falls a b h l ea eb =
    let m = a % 2 ^ 64 in
    let fits : m < 2 ^ 64 = mod-lt a {m = 2 ^ 64} (pow_pos 64) in
    let less : m ≤ a = mod-le a (2 ^ 64) in
    let same : without m b ≡ without a b = bits_equal 64 _ _ (without-below m b) (without-below a b) (λ j k. low_without m b j k ∙ rw (bit_mod a 64 j k) (sym (low_without a b j k))) in
    let falls = without_less m b h fits (bit_mod a 64 h l ∙ ea) eb in
    omega (arith, less, same, falls)

-- ---- sets that do not meet

pub apart-bit : (a b j : ℕ) → bit_and a b ≡ 0 → bit a j ≡ true → bit b j ≡ false
apart-bit a b j z e = untrue (bit b j) (λ f. clash (bit (bit_and a b) j) (bit-and a b j ∙ and_intro (bit a j) (bit b j) e f) (rw z (bit-zero j)))

pub bits_apart : (a b : ℕ) → ((j : ℕ) → bit a j ≡ true → bit b j ≡ false) → bit_and a b ≡ 0
bits_apart a b f = bits_same (bit_and a b) 0 (λ j. bit-and a b j ∙ go j (bit a j) refl ∙ sym (bit-zero j))
  where
    go : (j : ℕ) (t : Bool) → bit a j ≡ t → t && bit b j ≡ false
    go j true e = f j e
    go j false e = refl

-- ---- the highest member

pub leading_fits : (m : ℕ) → count_leading_zeros 64 m < 2 ^ 64
leading_fits m = omega (arith, leading_le 64 m)

pub leading_most : (m k : ℕ) → 0 < m → m < 2 ^ 64 → 63 ≤ k → count_leading_zeros 64 m ≤ k
leading_most m k p h l = let t = leading_top 64 m p h in omega (arith, t.1, l)

pub highest-is : (m : ℕ) → 0 < m → m < 2 ^ 64 → Highest m (63 - count_leading_zeros 64 m)
unfolding Highest
highest-is m p h =
    let (j, e, low, up) = leading_top 64 m p h in
    let z : 63 - count_leading_zeros 64 m ≡ j = omega (arith, e) in
    rw z (top j low up, λ (i : ℕ) (l : j < i). bit_past m i (let q = pow_mono {i = suc j} {j = i} l in omega (arith, q, up)))
  where
    top : (j : ℕ) → 2 ^ j ≤ m → m < 2 ^ suc j → bit m j ≡ true
    top j low up =
        let s = pow-suc 2 j in
        let e : 2 ^ j + (m - 2 ^ j) ≡ m = omega (arith, low) in
        sym (ap (λ (n : ℕ). bit n j) e) ∙ bit_top (m - 2 ^ j) j (omega (arith, s, up, low))

pub highest-below : (m : ℕ) → 63 - count_leading_zeros 64 m < 64
highest-below m = omega arith

-- ---- the lowest member

-- by halving: an odd number has 0, and an even one what its half has, one further up
lowest_in : (k m : ℕ) → 0 < m → m < 2 ^ k → Lowest m (count_trailing_zeros k m) × (count_trailing_zeros k m < k)
unfolding count_trailing_zeros Lowest
lowest_in zero m p h = absurd (omega arith)
lowest_in (suc k) m p h = go (m % 2) refl (λ x y. lowest_in k (m / 2) x y)
  where
    go : (r : ℕ) → m % 2 ≡ r → (0 < m / 2 → m / 2 < 2 ^ k → Lowest (m / 2) (count_trailing_zeros k (m / 2)) × (count_trailing_zeros k (m / 2) < k))
        → Lowest m (under r (count_trailing_zeros k (m / 2))) × (under r (count_trailing_zeros k (m / 2)) < suc k)
    go zero e half =
        let s = pow-suc 2 k in
        let z = half (omega arith) (omega arith) in
        let t = count_trailing_zeros k (m / 2) in
        ((bit-suc m t ∙ z.0.0, λ j l. below j t l z.0.1), omega (arith, z.1))
      where
        below : (j t : ℕ) → j < suc t → ((i : ℕ) → i < t → bit (m / 2) i ≡ false) → bit m j ≡ false
        below zero t l f = even_bit m e
        below (suc j) t l f = bit-suc m j ∙ f j (omega arith)
    go (suc r) e half = ((odd_bit m (omega arith), λ j l. absurd (omega arith)), omega arith)

pub trailing_fits : (m : ℕ) → count_trailing_zeros 64 m < 2 ^ 64
trailing_fits m = omega (arith, trailing_le 64 m)

pub lowest-is : (m : ℕ) → 0 < m → m < 2 ^ 64 → Lowest m (count_trailing_zeros 64 m)
lowest-is m p h = (lowest_in 64 m p h).0

pub lowest-below : (m : ℕ) → 0 < m → m < 2 ^ 64 → count_trailing_zeros 64 m < 64
lowest-below m p h = (lowest_in 64 m p h).1

pub ruleset setting = (rules, set-bit, if_on, if_off, without_is, leading_fits, leading_most, highest-is, highest-below, trailing_fits, lowest-is, lowest-below)
