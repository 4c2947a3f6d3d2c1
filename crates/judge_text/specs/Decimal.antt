-- Decimal numbers in ASCII.
use Rattle.std.specs.Prelude.{ℕ, zero, suc, ◌+◌, ◌/◌, ◌%◌, ◌^◌, ◌≤◌, ◌<◌, cond, List, [], ◌∷◌, ◌++◌, ltb}

-- at most so many digits
unfoldable pub decimal_with : ℕ → ℕ → List ℕ
decimal_with zero n = []
decimal_with (suc f) n =
    let rest = decimal_with f (n / 10) in
    cond (ltb n 10) ((48 + n) ∷ []) (rest ++ ((48 + n % 10) ∷ []))

unfoldable pub decimal : ℕ → List ℕ
decimal n = decimal_with (suc n) n

-- a number of at most d digits
unfoldable pub Digits : ℕ → ℕ → Type 0
Digits d n = (1 ≤ d) × (n < 10 ^ d)
