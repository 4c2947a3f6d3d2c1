-- Numbers as sets of small numbers: i is in the set exactly if bit i is set.
use Rattle.std.specs.Prelude.{ℕ, zero, suc, ◌+◌, ◌/◌, ◌%◌, ◌^◌, ◌<◌, ◌≡◌, Bool, true, false, cond, not, ◌&&◌, eqb}

-- bit i of n
unfoldable pub bit : ℕ → ℕ → Bool
bit n i = eqb (n / 2 ^ i % 2) 1

-- n with bit i set
unfoldable pub with_bit : ℕ → ℕ → ℕ
with_bit n i = cond (bit n i) n (n + 2 ^ i)

-- the number with exactly those bits i below n set for which p holds
unfoldable pub mask_of : (ℕ → Bool) → ℕ → ℕ
mask_of p zero = 0
mask_of p (suc n) = cond (p n) (with_bit (mask_of p n) n) (mask_of p n)

-- the members of a mask that another has not
unfoldable pub without : ℕ → ℕ → ℕ
without a b = mask_of (λ j. bit a j && not (bit b j)) 64

-- h is the highest member of m
unfoldable pub Highest : ℕ → ℕ → Type 0
Highest m h = (bit m h ≡ true) × ((j : ℕ) → h < j → bit m j ≡ false)

-- h is the lowest member of m
unfoldable pub Lowest : ℕ → ℕ → Type 0
Lowest m h = (bit m h ≡ true) × ((j : ℕ) → j < h → bit m j ≡ false)
