-- Unions of rows: all that the members of a set are related to, and tables of such unions.
use Rattle.std.specs.Prelude.{ℕ, zero, suc, ◌+◌, ◌^◌, ◌<◌, ◌≡◌, Bool, cond, List, eqb, get_or}
use Rattle.std.specs.Int.Bits.{bit_and, bit_or}
use Rattle.relation.specs.Bits.{bit}

-- all members of a are in b
unfoldable pub part_of : ℕ → ℕ → Bool
part_of a b = eqb (bit_and a b) a

-- the union of the rows of the members of x below n
unfoldable pub union : (ℕ → ℕ) → ℕ → ℕ → ℕ
union row x zero = 0
union row x (suc n) = cond (bit x n) (bit_or (union row x n) (row n)) (union row x n)

-- the rows from a place on
abbrev pub rows_on : List ℕ → ℕ → ℕ → ℕ
rows_on rows from i = get_or rows (from + i) 0

-- a table has for each set of numbers below n the union of its rows
pub record Unites (rows : List ℕ) (from n : ℕ) (table : List ℕ) : Type 0 where
  pub at : (x : ℕ) → x < 2 ^ n → get_or table x 0 ≡ union (rows_on rows from) x n

-- the first k of the entries from 2 ^ i on are those below, each joined with a row
pub record Doubled (i row : ℕ) (old new : List ℕ) (k : ℕ) : Type 0 where
  pub below : (x : ℕ) → x < 2 ^ i → get_or new x 0 ≡ get_or old x 0
  pub above : (x : ℕ) → x < k → get_or new (2 ^ i + x) 0 ≡ bit_or (get_or old x 0) row
