-- Rings by peeling: from a set that is left, each number that is related to none of the set is taken away, again and again.
use Rattle.std.specs.Prelude.{ℕ, zero, suc, ◌^◌, cond, List, eqb, get_or}
use Rattle.std.specs.Int.Bits.{bit_and}
use Rattle.relation.specs.Bits.{without}

-- what is left without i, where its row meets nothing of it
unfoldable pub peeled_one : ℕ → ℕ → ℕ → ℕ
peeled_one row left i = cond (eqb (bit_and row left) 0) (without left (2 ^ i)) left

-- what a pass over the numbers below n leaves, from 0 up
unfoldable pub peeled : List ℕ → ℕ → ℕ → ℕ
peeled rows left zero = left
peeled rows left (suc n) = peeled_one (get_or rows n 0) (peeled rows left n) n

-- and from the highest down
unfoldable pub peeled_back : List ℕ → ℕ → ℕ → ℕ
peeled_back rows left zero = left
peeled_back rows left (suc n) = peeled_back rows (peeled_one (get_or rows n 0) left n) n
