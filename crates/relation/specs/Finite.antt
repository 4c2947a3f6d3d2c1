-- Relations on the numbers below n, as tables of rows: bit j of row i says whether i is related to j.
use Rattle.std.specs.Prelude.{ℕ, zero, suc, ◌<◌, ◌≡◌, Bool, true, cond, List, map, get_or}
use Rattle.std.specs.Int.Bits.{bit_or}
use Rattle.relation.specs.Bits.{bit, mask_of}
use Rattle.relation.specs.Lists.{any_below, tabulate}

-- R between numbers below n
abbrev pub Below : ℕ → (ℕ → ℕ → Bool) → ℕ → ℕ → Type 0
Below n R i j = (i < n) × (j < n) × (R i j ≡ true)

-- the relation of a table
unfoldable pub related : List ℕ → ℕ → ℕ → Bool
related rows i j = bit (get_or rows i 0) j

-- the table of a relation
unfoldable pub rows_of : (ℕ → ℕ → Bool) → ℕ → List ℕ
rows_of R n = tabulate (λ i. mask_of (R i) n) n

-- a row that reaches k reaches all that k reaches
unfoldable pub joined : ℕ → ℕ → ℕ → ℕ
joined k through row = cond (bit row k) (bit_or row through) row

unfoldable pub round : ℕ → List ℕ → List ℕ
round k rows = map (joined k (get_or rows k 0)) rows

-- Warshall's closure: by way of numbers below k
unfoldable pub closed : ℕ → List ℕ → List ℕ
closed zero rows = rows
closed (suc k) rows = round k (closed k rows)

-- some number below n reaches itself in a table
unfoldable pub loops : List ℕ → ℕ → Bool
loops rows n = any_below (λ i. related rows i i) n

-- whether R, on the numbers below n, has a ring
unfoldable pub has_ring : (ℕ → ℕ → Bool) → ℕ → Bool
has_ring R n = loops (closed n (rows_of R n)) n

-- whether j is reached from i by R on the numbers below n
unfoldable pub reaches : (ℕ → ℕ → Bool) → ℕ → ℕ → ℕ → Bool
reaches R n i j = related (closed n (rows_of R n)) i j
