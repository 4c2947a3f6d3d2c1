-- Masks as sets: part of, union, intersection. A number is known by its bits.
use mathlib.Core.Path.{◌≡◌, sym, ap, ◌∙◌}
use mathlib.Core.Bool.{Bool, true, false, cond, not, ◌&&◌, ◌||◌, false≢true, and_comm}
use mathlib.Core.Path.{refl}
use Prim.Native.Nat.{ℕ, zero, suc, ◌+◌, ◌≤◌, ◌<◌}
use native.Mathlib.Nat.{lt_of_le_of_lt, lt_of_lt_of_le}
use native.Mathlib.Numerals.{add-one}
use native.Mathlib.Omega.{arith}
use lib.Bits.{bit_and, bit_or, and_le_l, or_lt}
use lib.Pow.{pow_mono}
use lib.Dec.{eqb, ltb}
use borrow.Author.Tests.{eqb-true, eq-eqb, lt-ltb, ltb-true}
use Rattle.relation.specs.Bits.{bit, with_bit, mask_of}
use Rattle.relation.specs.Lists.{all_below}
use Rattle.relation.proofs.BitLaws.{bit-and, bit-or, bit_with, with_below, bit_mask, mask_below, bits_equal}
use Rattle.relation.proofs.ListLaws.{and_left, and_right, and_intro, bool_equal, all_below-true, all_below_intro}

-- `not a || b` is an implication
pub implies : (a b : Bool) → not a || b ≡ true → a ≡ true → b ≡ true
implies true b h e = h
implies false b h e = absurd (false≢true e)

pub implied : (a b : Bool) → (a ≡ true → b ≡ true) → not a || b ≡ true
implied true b h = h refl
implied false b h = refl

pub mask_part : (p : ℕ → Bool) (n s : ℕ) → eqb (bit_and (mask_of p n) s) (mask_of p n) ≡ all_below (λ j. not (p j) || bit s j) n
mask_part p n s = bool_equal _ _ there back
  where
    there : eqb (bit_and (mask_of p n) s) (mask_of p n) ≡ true → all_below (λ j. not (p j) || bit s j) n ≡ true
    there e =
        all_below_intro _ n (λ j h. implied (p j) (bit s j) (λ q.
        let b : bit (mask_of p n) j ≡ true = bit_mask p n j ∙ and_intro (ltb j n) (p j) (lt-ltb j n h) q in
        and_right (bit (mask_of p n) j) (bit s j) (sym (bit-and (mask_of p n) s j) ∙ ap (λ (x : ℕ). bit x j) (eqb-true _ _ e) ∙ b)))

    back : all_below (λ j. not (p j) || bit s j) n ≡ true → eqb (bit_and (mask_of p n) s) (mask_of p n) ≡ true
    back a =
        eq-eqb _ _
        (bits_equal n (bit_and (mask_of p n) s) (mask_of p n) (lt_of_le_of_lt (and_le_l (mask_of p n) s) (mask_below p n)) (mask_below p n)
        (λ j h. bit-and (mask_of p n) s j
        ∙ bool_equal _ _ (λ q. and_left (bit (mask_of p n) j) (bit s j) q)
        (λ q. and_intro (bit (mask_of p n) j) (bit s j) q (implies (p j) (bit s j) (all_below-true _ n a j h) (and_right (ltb j n) (p j) (sym (bit_mask p n j) ∙ q))))))

-- the members of a mask
pub mask_member : (p : ℕ → Bool) (n i : ℕ) → bit (mask_of p n) i ≡ true → (i < n) × (p i ≡ true)
mask_member p n i e =
    let m = sym (bit_mask p n i) ∙ e in
    (ltb-true i n (and_left (ltb i n) (p i) m), and_right (ltb i n) (p i) m)

pub member_mask : (p : ℕ → Bool) (n i : ℕ) → i < n → p i ≡ true → bit (mask_of p n) i ≡ true
member_mask p n i h e = bit_mask p n i ∙ and_intro (ltb i n) (p i) (lt-ltb i n h) e

pub mask_false : (p : ℕ → Bool) (n : ℕ) → ((j : ℕ) → p j ≡ false) → mask_of p n ≡ 0
unfolding mask_of
mask_false p zero h = refl
mask_false p (suc n) h = rw (h n) (mask_false p n h)

pub mask_none : (n : ℕ) → 0 ≡ mask_of (λ j. false) n
mask_none n = sym (mask_false (λ j. false) n (λ j. refl))

module _ (p q : ℕ → Bool) (n : ℕ) where
  pub mask_or : bit_or (mask_of p n) (mask_of q n) ≡ mask_of (λ j. p j || q j) n
  mask_or =
      bits_equal n _ _ (or_lt n (mask_of p n) (mask_of q n) (mask_below p n) (mask_below q n)) (mask_below (λ j. p j || q j) n)
      (λ j h. bit-or (mask_of p n) (mask_of q n) j ∙ rw (bit_mask p n j, bit_mask q n j, bit_mask (λ j. p j || q j) n j, lt-ltb j n h))

  pub mask_and : bit_and (mask_of p n) (mask_of q n) ≡ mask_of (λ j. p j && q j) n
  mask_and =
      bits_equal n _ _ (lt_of_le_of_lt (and_le_l (mask_of p n) (mask_of q n)) (mask_below p n)) (mask_below (λ j. p j && q j) n)
      (λ j h. bit-and (mask_of p n) (mask_of q n) j ∙ rw (bit_mask p n j, bit_mask q n j, bit_mask (λ j. p j && q j) n j, lt-ltb j n h))

-- the members of a mask that are in a set
pub mask_cut : (p : ℕ → Bool) (n s : ℕ) → bit_and (mask_of p n) s ≡ mask_of (λ j. bit s j && p j) n
mask_cut p n s =
    bits_equal n _ _ (lt_of_le_of_lt (and_le_l (mask_of p n) s) (mask_below p n)) (mask_below (λ j. bit s j && p j) n)
    (λ j h. rw (bit-and (mask_of p n) s j, bit_mask p n j, bit_mask (λ j. bit s j && p j) n j, lt-ltb j n h) (and_comm (p j) (bit s j)))

-- a mask of numbers below k, as one of numbers below n
pub mask_short : (p : ℕ → Bool) (k n : ℕ) → k ≤ n → mask_of p k ≡ mask_of (λ j. ltb j k && p j) n
mask_short p k n l =
    bits_equal n _ _ (lt_of_lt_of_le (mask_below p k) (pow_mono l)) (mask_below (λ j. ltb j k && p j) n)
    (λ j h. bit_mask p k j ∙ rw (bit_mask (λ j. ltb j k && p j) n j, lt-ltb j n h))

-- a mask with one number more
pub mask_with : (p : ℕ → Bool) (n i : ℕ) → i < n → with_bit (mask_of p n) i ≡ mask_of (λ j. p j || eqb j i) n
mask_with p n i h =
    bits_equal n _ _ (with_below (mask_of p n) i n (mask_below p n) h) (mask_below (λ j. p j || eqb j i) n)
    (λ j l. bit_with (mask_of p n) i j ∙ rw (bit_mask p n j, bit_mask (λ j. p j || eqb j i) n j, lt-ltb j n l))

-- ---- a mask made bit by bit

pub mask_begun : (p : ℕ → Bool) → 0 ≡ mask_of p 0
unfolding mask_of
mask_begun p = refl

pub mask_more : (p : ℕ → Bool) (i mask next : ℕ) (b : Bool) → mask ≡ mask_of p i → b ≡ p i → next ≡ cond b (with_bit mask i) mask → next ≡ mask_of p (i + 1)
unfolding mask_of
mask_more p i mask next b e q z = z ∙ rw (q, e, add-one i)

pub mask_all : (p : ℕ → Bool) (i n mask : ℕ) → mask ≡ mask_of p i → i ≤ n → n ≤ i → mask ≡ mask_of p n
mask_all p i n mask e h l = let z : i ≡ n = omega arith in rw (← z) e
