-- The best of the numbers below a bound that pass a test, in whatever order. The smallest: by the members of a set, then by its number.
use Rattle.std.specs.Prelude.{ℕ, zero, suc, ◌<◌, ◌≡◌, ◌⊎◌, Bool, cond, ltb}
use Rattle.std.proofs.Math.Option.{Option, none, some}
use Rattle.std.specs.Int.Count.{ones}

-- from 0 up: `over m k` says whether m takes the place of k, a smaller number
unfoldable pub taken : (ℕ → ℕ → Bool) → ℕ → Option ℕ → Option ℕ
taken over m none = some m
taken over m (some k) = cond (over m k) (some m) (some k)

unfoldable pub best_below : (ℕ → ℕ → Bool) → (ℕ → Bool) → ℕ → Option ℕ
best_below over p zero = none
best_below over p (suc n) =
    let rest = best_below over p n in
    cond (p n) (taken over n rest) rest

-- ---- fewest members first

-- a set has fewer members than another, or as many and a smaller number
unfoldable pub Smaller : ℕ → ℕ → Type 0
Smaller s k = (ones s < ones k) ⊎ ((ones s ≡ ones k) × (s < k))

-- the smallest number with a property, in this order: every other one comes behind it
unfoldable pub Smallest : (ℕ → Type 0) → ℕ → Type 0
Smallest P s = P s × ((k : ℕ) → P k → (k ≡ s → ⊥) → Smaller s k)

-- m has fewer members than k
unfoldable pub fewer : ℕ → ℕ → Bool
fewer m k = ltb (ones m) (ones k)

-- the same among those below n that pass a test, computed: one with fewer members takes the place of a smaller number
abbrev pub smallest_below : (ℕ → Bool) → ℕ → Option ℕ
smallest_below p n = best_below fewer p n
