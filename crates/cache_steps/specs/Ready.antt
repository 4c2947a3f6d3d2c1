-- The earliest write that is ready, by a table of needs and a mask of stored writes.
use Rattle.std.specs.Prelude.{ℕ, zero, suc, Bool, cond, not, ◌&&◌, List, get_or, Option, None, Some}
use Rattle.relation.specs.Bits.{bit, with_bit}
use Rattle.relation.specs.Union.{part_of}

-- the first of the k numbers from i on that passes a test, counted from 1; 0 if there is none
unfoldable pub first_from : (ℕ → Bool) → ℕ → ℕ → ℕ
first_from p i zero = 0
first_from p i (suc k) = cond (p i) (suc i) (first_from p (suc i) k)

-- write i is not stored, and all that it needs is
abbrev pub ready_by : List ℕ → ℕ → ℕ → Bool
ready_by rows mask i = not (bit mask i) && part_of (get_or rows i 0) mask

unfoldable pub first_ready : List ℕ → ℕ → ℕ → ℕ
first_ready rows mask n = first_from (ready_by rows mask) 0 n

-- a write by its place from 1; 0 is for none
abbrev pub place_of : Option ℕ → ℕ
place_of None = 0
place_of (Some i) = suc i

-- a mask, with that write
unfoldable pub with_stored : ℕ → Option ℕ → ℕ
with_stored mask None = mask
with_stored mask (Some i) = with_bit mask i
