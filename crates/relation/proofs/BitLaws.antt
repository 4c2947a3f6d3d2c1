-- The bits of a number: of `bit_or`, `bit_and`, `with_bit` and `mask_of`, and that a number is known by its bits. By halving.
use mathlib.Core.Path.{◌≡◌, refl, sym, ap, ap₂, subst, ◌∙◌}
use mathlib.Core.Logic.{◌⊎◌, inl, inr}
use mathlib.Core.Bool.{Bool, true, false, cond, and-true, and-false, or-false, ◌&&◌, ◌||◌}
use Prim.Native.Nat.{ℕ, zero, suc, ◌+◌, ◌-◌, ◌*◌, ◌/◌, ◌%◌, ◌^◌, ◌≤◌, ◌<◌, max}
use native.Mathlib.Nat.{zero-div, div-one, mul-mod_left, one-mul, add-zero, add-mul, mod-lt, mul-suc, mul-le-mul_left, pow-suc}
use native.Mathlib.Numerals.{add-one, one-add}
use native.Mathlib.Omega.{arith}
use lib.Dec.{eqb, ltb, leb-suc-zero, lit<, eqb-suc-zero, eqb-zero-suc, eqb-suc-suc}
use lib.Bits.{bit_or, bit_and, or_block, or_step, or_zero_r, or_shr, or_mod, or_lt, and_mask, and_shr, and_mod}
use lib.Pow.{pow-add, shl_exact, split, pow_pos, pow-lt, shr_lt, shr-shr, shl-shr, field, mod-mod-pow}
use borrow.Author.Tests.{eqb-true, eqb-false, ltb-true, lt-ltb, le-ltb}
use Rattle.relation.specs.Bits.{bit, with_bit, mask_of}
use Rattle.relation.proofs.ListLaws.{bool_equal}

-- a remainder by 2 is 0 or 1
pub two_cases : (n : ℕ) → (n % 2 ≡ 0) ⊎ (n % 2 ≡ 1)
two_cases n = go (n % 2) (mod-lt n {m = 2} (lit< tt))
  where
    go : (r : ℕ) → r < 2 → (r ≡ 0) ⊎ (r ≡ 1)
    go zero h = inl refl
    go (suc zero) h = inr refl
    go (suc (suc r)) h = absurd (omega arith)

-- the machine's test of a bit
pub test_bit : (n i : ℕ) → eqb (bit_and (n / 2 ^ i) 1) 1 ≡ bit n i
unfolding bit
test_bit n i = ap (λ (k : ℕ). eqb k 1) (and_mask (n / 2 ^ i) 1)

pub bit-zero : (j : ℕ) → bit 0 j ≡ false
unfolding bit
bit-zero j = rw (zero-div (2 ^ j))

pub bit-suc : (n j : ℕ) → bit n (suc j) ≡ bit (n / 2) j
unfolding bit
bit-suc n j =
    let e : n / 2 ^ suc j ≡ n / 2 / 2 ^ j = rw (← one-add j) (sym (shr-shr n 1 j)) in
    ap (λ (k : ℕ). eqb (k % 2) 1) e

-- an operation f of numbers works bit by bit as g where it does so on the numbers 0 and 1
bitwise : (f : ℕ → ℕ → ℕ) (g : Bool → Bool → Bool) → ((a b k : ℕ) → f a b / 2 ^ k ≡ f (a / 2 ^ k) (b / 2 ^ k))
    → ((a b k : ℕ) → f a b % 2 ^ k ≡ f (a % 2 ^ k) (b % 2 ^ k))
    → (eqb (f 0 0) 1 ≡ g false false) × (eqb (f 0 1) 1 ≡ g false true) × (eqb (f 1 0) 1 ≡ g true false) × (eqb (f 1 1) 1 ≡ g true true)
    → (a b j : ℕ) → bit (f a b) j ≡ g (bit a j) (bit b j)
unfolding bit
bitwise f g quotients remainders table a b j =
    ap (λ (k : ℕ). eqb (k % 2) 1) (quotients a b j)
    ∙ ap (λ (k : ℕ). eqb k 1) (remainders (a / 2 ^ j) (b / 2 ^ j) 1)
    ∙ go (a / 2 ^ j % 2) (b / 2 ^ j % 2) (two_cases (a / 2 ^ j)) (two_cases (b / 2 ^ j))
  where
    go : (x y : ℕ) → (x ≡ 0) ⊎ (x ≡ 1) → (y ≡ 0) ⊎ (y ≡ 1) → eqb (f x y) 1 ≡ g (eqb x 1) (eqb y 1)
    go x y (inl p) (inl q) = rw (p, q) table.0
    go x y (inl p) (inr q) = rw (p, q) table.1
    go x y (inr p) (inl q) = rw (p, q) table.2
    go x y (inr p) (inr q) = rw (p, q) table.3

pub bit-or : (a b j : ℕ) → bit (bit_or a b) j ≡ bit a j || bit b j
bit-or = bitwise bit_or ◌||◌ or_shr or_mod (refl, refl, refl, refl)

pub bit-and : (a b j : ℕ) → bit (bit_and a b) j ≡ bit a j && bit b j
bit-and = bitwise bit_and ◌&&◌ and_shr and_mod (refl, refl, refl, refl)

half_pow : (i : ℕ) → 2 ^ suc i / 2 ≡ 2 ^ i
half_pow i = rw (pow-suc 2 i) (shl-shr (2 ^ i) 1)

pub bit_pow : (i j : ℕ) → bit (2 ^ i) j ≡ eqb j i
bit_pow zero zero = unfold bit in refl
bit_pow zero (suc j) = rw (eqb-suc-zero j) (bit-suc 1 j ∙ bit-zero j)
bit_pow (suc i) zero = unfold bit in (rw (div-one (2 ^ suc i), pow-suc 2 i, mul-mod_left (2 ^ i) 2, eqb-zero-suc i))
bit_pow (suc i) (suc j) = bit-suc (2 ^ suc i) j ∙ rw (half_pow i, eqb-suc-suc j i) (bit_pow i j)

-- ---- one bit set

-- setting the lowest bit
or_one : (q : ℕ) → bit_or q 1 ≡ cond (eqb (q % 2) 1) q (q + 1)
or_one q = or_step q 1 ∙ ap (λ (k : ℕ). k * 2 + max (q % 2) 1) (or_zero_r (q / 2)) ∙ go (two_cases q)
  where
    go : (q % 2 ≡ 0) ⊎ (q % 2 ≡ 1) → q / 2 * 2 + max (q % 2) 1 ≡ cond (eqb (q % 2) 1) q (q + 1)
    go (inl e) = rw e (omega arith)
    go (inr e) = rw e (omega arith)

pub or_bit : (n i : ℕ) → bit_or n (1 * 2 ^ i) ≡ with_bit n i
unfolding with_bit bit
or_bit n i =
    ap₂ bit_or (sym (split n i)) (sym (add-zero (1 * 2 ^ i)))
    ∙ or_block i (n / 2 ^ i) 1 (n % 2 ^ i) 0 (mod-lt n (pow_pos i)) (pow_pos i)
    ∙ ap₂ (λ (x y : ℕ). x * 2 ^ i + y) (or_one (n / 2 ^ i)) (or_zero_r (n % 2 ^ i))
    ∙ go (n / 2 ^ i) (split n i) (two_cases (n / 2 ^ i))
  where
    go : (q : ℕ) → q * 2 ^ i + n % 2 ^ i ≡ n → (q % 2 ≡ 0) ⊎ (q % 2 ≡ 1)
        → cond (eqb (q % 2) 1) q (q + 1) * 2 ^ i + n % 2 ^ i ≡ cond (eqb (q % 2) 1) n (n + 2 ^ i)
    go q e (inl even) = rw even (omega (arith, add-mul q 1 (2 ^ i)))
    go q e (inr odd) = rw odd e

-- a power of two in a word of the machine
pub power_is : (i : ℕ) → i < 64 → 1 * 2 ^ i % 18446744073709551616 ≡ 2 ^ i
power_is i h = shl_exact {a = 1} 1 i 64 (lit< tt) (omega arith) ∙ one-mul (2 ^ i)

-- the machine's way to set a bit of 64
pub set-bit : (n i : ℕ) → i < 64 → bit_or n (1 * 2 ^ i % 2 ^ 64) ≡ with_bit n i
set-bit n i h = rw (shl_exact {a = 1} 1 i 64 (lit< tt) (omega arith)) (or_bit n i)

pub bit_with : (n i j : ℕ) → bit (with_bit n i) j ≡ bit n j || eqb j i
bit_with n i j = rw (← or_bit n i, one-mul (2 ^ i), bit-or n (2 ^ i) j, bit_pow i j)

pub with_below : (n i k : ℕ) → n < 2 ^ k → i < k → with_bit n i < 2 ^ k
with_below n i k h l = rw (← or_bit n i, one-mul (2 ^ i)) (or_lt k n (2 ^ i) h (pow-lt l))

-- ---- masks

mask_suc : (p : ℕ → Bool) (n j : ℕ) → bit (mask_of p (suc n)) j ≡ bit (mask_of p n) j || p n && eqb j n
unfolding mask_of
mask_suc p n j = go (p n)
  where
    go : (t : Bool) → bit (cond t (with_bit (mask_of p n) n) (mask_of p n)) j ≡ bit (mask_of p n) j || t && eqb j n
    go true = bit_with (mask_of p n) n j
    go false = sym (or-false (bit (mask_of p n) j))

pub bit_mask : (p : ℕ → Bool) (n j : ℕ) → bit (mask_of p n) j ≡ ltb j n && p j
unfolding mask_of
bit_mask p zero j = rw (bit-zero j, leb-suc-zero j)
bit_mask p (suc n) j = mask_suc p n j ∙ rw (bit_mask p n j) (go (eqb j n) refl)
  where
    below : (j ≡ n → ⊥) → ltb j n ≡ ltb j (suc n)
    below ne = bool_equal _ _
        (λ t. lt-ltb j (suc n) (omega (arith, ltb-true j n t)))
        (λ t. lt-ltb j n (omega (arith, ltb-true j (suc n) t)))

    go : (t : Bool) → eqb j n ≡ t → ltb j n && p j || p n && eqb j n ≡ ltb j (suc n) && p j
    go true e =
        let same : j ≡ n = eqb-true j n e in
        rw (e, same, le-ltb n n (omega arith), lt-ltb n (suc n) (omega arith)) (and-true (p n))
    go false e = rw (e, and-false (p n), or-false (ltb j n && p j)) (ap (λ (t : Bool). t && p j) (below (eqb-false j n e)))

pub mask_below : (p : ℕ → Bool) (n : ℕ) → mask_of p n < 2 ^ n
unfolding mask_of
mask_below p zero = lit< tt
mask_below p (suc n) = go (p n) (mask_below p n)
  where
    go : (t : Bool) → mask_of p n < 2 ^ n → cond t (with_bit (mask_of p n) n) (mask_of p n) < 2 ^ suc n
    go true h = with_below (mask_of p n) n (suc n) (omega (arith, pow-suc 2 n)) (omega arith)
    go false h = omega (arith, pow-suc 2 n)

pub mask_ext : (p q : ℕ → Bool) (n : ℕ) → ((j : ℕ) → j < n → p j ≡ q j) → mask_of p n ≡ mask_of q n
unfolding mask_of
mask_ext p q zero h = refl
mask_ext p q (suc n) h = rw (h n (omega arith), mask_ext p q n (λ j l. h j (omega arith)))

-- the lowest digit, from its bit
digit : (n : ℕ) → n % 2 ≡ cond (bit n 0) 1 0
unfolding bit
digit n = rw (div-one n) (go (two_cases n))
  where
    go : (n % 2 ≡ 0) ⊎ (n % 2 ≡ 1) → n % 2 ≡ cond (eqb (n % 2) 1) 1 0
    go (inl e) = rw e
    go (inr e) = rw e

-- a number below 2 ^ k is known by its lowest k bits
pub bits_equal : (k a b : ℕ) → a < 2 ^ k → b < 2 ^ k → ((j : ℕ) → j < k → bit a j ≡ bit b j) → a ≡ b
bits_equal zero a b ha hb same = omega arith
bits_equal (suc k) a b ha hb same =
    let halves : a / 2 ≡ b / 2 =
    bits_equal k (a / 2) (b / 2) (shr_lt k 1 (rw add-one ha)) (shr_lt k 1 (rw add-one hb))
    (λ j l. sym (bit-suc a j) ∙ same (suc j) (omega arith) ∙ bit-suc b j) in
    let lowest : a % 2 ≡ b % 2 = digit a ∙ ap (λ (t : Bool). cond t 1 0) (same 0 (omega arith)) ∙ sym (digit b) in
    omega arith

-- ---- parts of a number

-- the bits above the lowest k
pub bit_shift : (n k i : ℕ) → bit (n / 2 ^ k) i ≡ bit n (k + i)
unfolding bit
bit_shift n k i = rw (shr-shr n k i)

-- the lowest bits
bit_low : (n j i : ℕ) → bit (n % 2 ^ (suc j + i)) i ≡ bit n i
unfolding bit
bit_low n j i =
    let same : n / 2 ^ i % 2 ^ suc j % 2 ≡ n / 2 ^ i % 2 = rw (← add-one j) (mod-mod-pow (n / 2 ^ i) j 1) in
    ap (λ (m : ℕ). eqb m 1) (ap (λ (m : ℕ). m % 2) (field n (suc j) i) ∙ same)

pub bit_mod : (n k i : ℕ) → i < k → bit (n % 2 ^ k) i ≡ bit n i
bit_mod n k i h =
    let z : suc (k - suc i) + i ≡ k = omega arith in
    subst (λ (m : ℕ). bit (n % 2 ^ m) i ≡ bit n i) z (bit_low n (k - suc i) i)

-- ---- sizes

pub with_most : (n i : ℕ) → n ≤ with_bit n i
unfolding with_bit
with_most n i = go (bit n i)
  where
    go : (t : Bool) → n ≤ cond t n (n + 2 ^ i)
    go true = omega arith
    go false = omega arith

-- a number of two parts: k bits, and m above them
pub parts_below : (k m l h : ℕ) → l < 2 ^ k → h < 2 ^ m → l + 2 ^ k * h < 2 ^ (k + m)
parts_below k m l h a b =
    let p = mul-le-mul_left {m = suc h} {n = 2 ^ m} (2 ^ k) b in
    let q = mul-suc (2 ^ k) h in
    rw (pow-add 2 k m) (omega arith)
