-- Unions of rows, set by set; a union is part of a set exactly if each of its rows is. By the bits.
use mathlib.Core.Path.{◌≡◌, refl, sym, ap, subst, ◌∙◌}
use mathlib.Core.Logic.{⊎_elim}
use mathlib.Core.Bool.{Bool, true, false, cond, not, and-true, or-false, ◌&&◌, ◌||◌, false≢true}
use mathlib.Core.List.{List}
use Prim.Native.Nat.{ℕ, zero, suc, ◌+◌, ◌-◌, ◌*◌, ◌/◌, ◌%◌, ◌^◌, ◌≤◌, ◌<◌}
use native.Mathlib.Nat.{pow-suc, div-eq_of_lt}
use native.Mathlib.Numerals.{add-one}
use native.Mathlib.Omega.{arith}
use lib.Bits.{bit_and, bit_or, and_shr, or_lt}
use lib.Dec.{eqb, ltb, lit<}
use lib.ListN.{length, get_or, set}
use lib.Pow.{pow_pos, pow_mono}
use lib.Seq.{get_or-set_same, get_or-set_other}
use borrow.Author.Rules.{rules}
use borrow.Author.Tests.{eqb-true, eq-eqb, ne_eqb, ltb-true, ltb-false, lt-ltb}
use Rattle.relation.specs.Bits.{bit, with_bit, mask_of}
use Rattle.relation.specs.Lists.{all_below, any_below}
use Rattle.relation.specs.Union.{part_of, union, rows_on, Unites, Doubled}
use Rattle.relation.proofs.BitLaws.{power_is, bit-zero, bit-or, bit-and, bit_with, bit_mask, mask_below, bits_equal}
use Rattle.relation.proofs.ListLaws.{and_left, and_right, and_intro, or_cases, or_left, or_right, bool_equal, below_suc}
use Rattle.relation.proofs.MaskLaws.{mask_false}

-- ---- parts

below_pow : (n : ℕ) → n < 2 ^ n
below_pow zero = lit< tt
below_pow (suc n) = let h = below_pow n in let e = pow-suc 2 n in omega arith

-- numbers with the same bits are the same
pub bits_same : (a b : ℕ) → ((j : ℕ) → bit a j ≡ bit b j) → a ≡ b
bits_same a b same =
    let x = below_pow (a + b) in
    bits_equal (a + b) a b (omega arith) (omega arith) (λ j h. same j)

pub part-true : (a s j : ℕ) → part_of a s ≡ true → bit a j ≡ true → bit s j ≡ true
unfolding part_of
part-true a s j e h = and_right (bit a j) (bit s j) (sym (bit-and a s j) ∙ ap (λ (x : ℕ). bit x j) (eqb-true _ _ e) ∙ h)

pub part_intro : (a s : ℕ) → ((j : ℕ) → bit a j ≡ true → bit s j ≡ true) → part_of a s ≡ true
unfolding part_of
part_intro a s f =
    eq-eqb _ _ (bits_same (bit_and a s) a (λ j. bit-and a s j
    ∙ bool_equal _ _ (λ q. and_left (bit a j) (bit s j) q) (λ q. and_intro (bit a j) (bit s j) q (f j q))))

pub part-zero : (s : ℕ) → part_of 0 s ≡ true
part-zero s = part_intro 0 s (λ j h. absurd (false≢true (sym (bit-zero j) ∙ h)))

-- a union of two is part of a set exactly if both are
pub part_or : (a b s : ℕ) → part_of (bit_or a b) s ≡ part_of a s && part_of b s
part_or a b s = bool_equal _ _
    (λ h. and_intro (part_of a s) (part_of b s)
    (part_intro a s (λ j q. part-true (bit_or a b) s j h (bit-or a b j ∙ or_left (bit a j) (bit b j) q)))
    (part_intro b s (λ j q. part-true (bit_or a b) s j h (bit-or a b j ∙ or_right (bit a j) (bit b j) q))))
    (λ h. part_intro (bit_or a b) s (λ j q. ⊎_elim
    (λ (l : bit a j ≡ true). part-true a s j (and_left (part_of a s) (part_of b s) h) l)
    (λ (r : bit b j ≡ true). part-true b s j (and_right (part_of a s) (part_of b s) h) r)
    (or_cases (bit a j) (bit b j) (sym (bit-or a b j) ∙ q))))

-- a part's members from k on are the set's
pub part_from : (a s k : ℕ) → part_of a s ≡ true → part_of (a / 2 ^ k) (s / 2 ^ k) ≡ true
unfolding part_of
part_from a s k h = eq-eqb _ _ (sym (and_shr a s k) ∙ ap (λ (x : ℕ). x / 2 ^ k) (eqb-true _ _ h))

-- ---- unions

module _ (row : ℕ → ℕ) where
  pub union-part : (x n s : ℕ) → part_of (union row x n) s ≡ all_below (λ i. not (bit x i) || part_of (row i) s) n
  unfolding union all_below
  union-part x zero s = part-zero s
  union-part x (suc n) s = go (union-part x n s) (bit x n)
    where
      go : part_of (union row x n) s ≡ all_below (λ i. not (bit x i) || part_of (row i) s) n → (b : Bool) → part_of (cond b (bit_or (union row x n) (row n)) (union row x n)) s
          ≡ all_below (λ i. not (bit x i) || part_of (row i) s) n && (not b || part_of (row n) s)
      go h true = part_or (union row x n) (row n) s ∙ ap (λ (t : Bool). t && part_of (row n) s) h
      go h false = h ∙ sym (and-true _)

  pub union_ext : (x y n : ℕ) → ((i : ℕ) → i < n → bit x i ≡ bit y i) → union row x n ≡ union row y n
  unfolding union
  union_ext x y zero h = refl
  union_ext x y (suc n) h = rw (h n (omega arith), union_ext x y n (λ i l. h i (omega arith)))

-- ---- a number below 2 ^ i, and one that has bit i too

pub bit_past : (x i : ℕ) → x < 2 ^ i → bit x i ≡ false
unfolding bit
bit_past x i h = rw (div-eq_of_lt h)

above-bit : (x i : ℕ) → x < 2 ^ i → 2 ^ i + x ≡ with_bit x i
unfolding with_bit
above-bit x i h = rw (bit_past x i h) (omega arith)

high_bit : (x i : ℕ) → x < 2 ^ i → bit (2 ^ i + x) i ≡ true
high_bit x i h = rw (above-bit x i h, bit_with x i i) (or_right (bit x i) (eqb i i) (eq-eqb i i refl))

low_bit : (x i j : ℕ) → x < 2 ^ i → j < i → bit (2 ^ i + x) j ≡ bit x j
low_bit x i j h l = rw (above-bit x i h, bit_with x i j, ne_eqb j i (λ (e : j ≡ i). absurd (omega arith))) (or-false (bit x j))

-- ---- double

pub size_is : (i : ℕ) → i < 32 → 1 * 2 ^ i % 18446744073709551616 ≡ 2 ^ i
size_is i h = power_is i (omega arith)

pub size-most : (i : ℕ) → i < 32 → 1 * 2 ^ i % 18446744073709551616 ≤ 2147483648
size-most i h = rw (size_is i (omega arith)) (pow_mono {i = i} {j = 31} (omega arith))

-- the entries that are made have their places
pub size_fits : (i n : ℕ) → i < 32 → 2 ^ (i + 1) ≤ n → 1 * 2 ^ i % 18446744073709551616 + 1 * 2 ^ i % 18446744073709551616 ≤ n
size_fits i n l h = let p = pow-suc 2 i in let q : 2 ^ suc i ≤ n = rw (add-one i) at h in rw (size_is i (omega arith)) (omega arith)

module _ (i row : ℕ) (old : List ℕ) where
  pub doubled_none : Doubled i row old old 0
  doubled_none = record { below = λ x h. refl; above = λ x h. absurd (omega arith) }

  pub doubled_more : (new : List ℕ) (size x : ℕ) → Doubled i row old new x → size ≡ 2 ^ i → x < size → size + size ≤ length new
      → Doubled i row old (set new (size + x) (bit_or (get_or new x 0) row)) (x + 1)
  doubled_more new size x d e h l =
      record {
        below = λ y k. get_or-set_other new (size + x) y (bit_or (get_or new x 0) row) 0 (λ (z : y ≡ size + x). absurd (omega arith)) ∙ d.below y k;
        above = λ y k. ⊎_elim
            (λ (q : y ≡ x). rw (q, ← e) (get_or-set_same new (size + x) (bit_or (get_or new x 0) row) 0 (omega arith) ∙ ap (λ (z : ℕ). bit_or z row) (d.below x (omega arith))))
            (λ (q : y < x). get_or-set_other new (size + x) (2 ^ i + y) (bit_or (get_or new x 0) row) 0 (λ (z : 2 ^ i + y ≡ size + x). absurd (omega arith)) ∙ d.above y q)
            (below_suc y x (omega arith));
      }

  pub doubled_all : (new : List ℕ) (size x : ℕ) → Doubled i row old new x → size ≡ 2 ^ i → x ≤ size → size ≤ x → Doubled i row old new (2 ^ i)
  doubled_all new size x d e h l = let z : x ≡ 2 ^ i = omega arith in subst (Doubled i row old new) z d

-- ---- unite

module _ (rows : List ℕ) (from : ℕ) where
  pub unites_none : (t : List ℕ) → 0 < length t → Unites rows from 0 (set t 0 0)
  unfolding union
  unites_none t n =
      record {
        at = λ x h. let z : x ≡ 0 = omega arith in rw z (get_or-set_same t 0 0 0 (omega arith));
      }

  pub unites_more : (i : ℕ) (old new : List ℕ) → Unites rows from i old → Doubled i (get_or rows (from + i) 0) old new (2 ^ i) → Unites rows from (i + 1) new
  unfolding union
  unites_more i old new u d =
      record {
        at = λ x h. let p = pow-suc 2 i in rw (add-one i) (go x (rw (add-one i) at h) (ltb x (2 ^ i)) refl);
      }
    where
      go : (x : ℕ) → x < 2 ^ suc i → (b : Bool) → ltb x (2 ^ i) ≡ b
          → get_or new x 0 ≡ cond (bit x i) (bit_or (union (rows_on rows from) x i) (rows_on rows from i)) (union (rows_on rows from) x i)
      go x h true t =
          let l : x < 2 ^ i = ltb-true x (2 ^ i) t in
          rw (bit_past x i l) (d.below x l ∙ u.at x l)
      go x h false t =
          let p = pow-suc 2 i in
          let g = ltb-false x (2 ^ i) t in
          let y = x - 2 ^ i in
          let l : y < 2 ^ i = omega arith in
          let z : x ≡ 2 ^ i + y = omega arith in
          rw (z, high_bit y i l, union_ext (rows_on rows from) (2 ^ i + y) y i (λ j k. low_bit y i j l k)) (d.above y l ∙ ap (λ (k : ℕ). bit_or k (get_or rows (from + i) 0)) (u.at y l))

  pub unites_all : (i k : ℕ) (t : List ℕ) → i ≤ k → k ≤ i → Unites rows from i t → Unites rows from k t
  unites_all i k t h l u = let z : i ≡ k = omega arith in subst (λ (k : ℕ). Unites rows from k t) z u

-- a table of 2 ^ k entries has the first, and those that row i makes
pub table_some : (k n : ℕ) → 2 ^ k ≤ n → 0 < n
table_some k n h = let p = pow_pos k in omega arith

pub table_fits : (i k n : ℕ) → i < k → 2 ^ k ≤ n → 2 ^ (i + 1) ≤ n
table_fits i k n h l = let p = pow_mono {i = i + 1} {j = k} (omega arith) in omega arith

pub ruleset uniting = (rules, size_is, size-most, size_fits, doubled_none, doubled_more, doubled_all, unites_none, unites_more, unites_all, table_some, table_fits)

-- the bits of a number below 2 ^ i that has bit i too
pub bit_top : (x i : ℕ) → x < 2 ^ i → bit (2 ^ i + x) i ≡ true
bit_top = high_bit

pub bit-under : (x i j : ℕ) → x < 2 ^ i → j < i → bit (2 ^ i + x) j ≡ bit x j
bit-under = low_bit

-- ---- the numbers that are not in a set

-- a set and the others are together all
pub mask_others : (p : ℕ → Bool) (n : ℕ) → mask_of (λ j. not (p j)) n + mask_of p n + 1 ≡ 2 ^ n
unfolding mask_of
mask_others p zero = refl
mask_others p (suc n) = go (p n) (mask_others p n)
  where
    a : ℕ
    a = mask_of (λ j. not (p j)) n

    b : ℕ
    b = mask_of p n

    go : (t : Bool) → a + b + 1 ≡ 2 ^ n → cond (not t) (with_bit a n) a + cond t (with_bit b n) b + 1 ≡ 2 ^ suc n
    go true h = let e = pow-suc 2 n in rw (← above-bit b n (mask_below p n)) (omega arith)
    go false h = let e = pow-suc 2 n in rw (← above-bit a n (mask_below (λ j. not (p j)) n)) (omega arith)

-- a number is the mask of its bits
pub mask_bits : (s k : ℕ) → s < 2 ^ k → mask_of (bit s) k ≡ s
mask_bits s k h = bits_equal k _ s (mask_below (bit s) k) h (λ j l. bit_mask (bit s) k j ∙ rw (lt-ltb j k l))

pub others_bits : (s k : ℕ) → s < 2 ^ k → 2 ^ k - 1 - s ≡ mask_of (λ j. not (bit s j)) k
others_bits s k h = let a = mask_others (bit s) k in let b = mask_bits s k h in omega arith

pub bit-ones : (k j : ℕ) → j < k → bit (2 ^ k - 1) j ≡ true
bit-ones k j h =
    let a = mask_others (λ j. true) k in let b = mask_false (λ j. false) k (λ j. refl) in
    let e : mask_of (λ j. true) k ≡ 2 ^ k - 1 = omega arith in
    rw (← e, bit_mask (λ j. true) k j, lt-ltb j k h)

-- ---- unions of other rows, and their bits

pub union-rows : (f g : ℕ → ℕ) (x n : ℕ) → ((i : ℕ) → i < n → f i ≡ g i) → union f x n ≡ union g x n
unfolding union
union-rows f g x zero h = refl
union-rows f g x (suc n) h = rw (h n (omega arith), union-rows f g x n (λ i l. h i (omega arith)))

pub union-below : (row : ℕ → ℕ) (x n c : ℕ) → ((i : ℕ) → row i < 2 ^ c) → union row x n < 2 ^ c
unfolding union
union-below row x zero c h = pow_pos c
union-below row x (suc n) c h = go (bit x n) (union-below row x n c h)
  where
    go : (t : Bool) → union row x n < 2 ^ c → cond t (bit_or (union row x n) (row n)) (union row x n) < 2 ^ c
    go true l = or_lt c (union row x n) (row n) l (h n)
    go false l = l

pub bit-union : (row : ℕ → ℕ) (x n c : ℕ) → bit (union row x n) c ≡ any_below (λ i. bit x i && bit (row i) c) n
unfolding union any_below
bit-union row x zero c = bit-zero c
bit-union row x (suc n) c = go (bit x n) (bit-union row x n c)
  where
    rest : Bool
    rest = any_below (λ i. bit x i && bit (row i) c) n

    go : (t : Bool) → bit (union row x n) c ≡ rest → bit (cond t (bit_or (union row x n) (row n)) (union row x n)) c ≡ rest || t && bit (row n) c
    go true h = bit-or (union row x n) (row n) c ∙ ap (λ (b : Bool). b || bit (row n) c) h
    go false h = h ∙ sym (or-false rest)
