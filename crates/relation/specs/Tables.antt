-- Tables of numbers, by what their first entries are.
use Rattle.std.specs.Prelude.{ℕ, ◌<◌, ◌≡◌, List, get_or}

-- the first k entries are those of a function
pub record Filled (f : ℕ → ℕ) (k : ℕ) (table : List ℕ) : Type 0 where
  pub at : (i : ℕ) → i < k → get_or table i 0 ≡ f i

-- they are 0
abbrev pub Blank : ℕ → List ℕ → Type 0
Blank k table = Filled (λ i. 0) k table
