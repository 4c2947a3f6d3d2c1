-- What is reached from a set in a table of 64 rows.
use Rattle.std.specs.Prelude.{ℕ, Bool, not, ◌&&◌, ◌||◌, List, eqb}
use Rattle.std.specs.Int.Bits.{bit_and}
use Rattle.relation.specs.Bits.{bit, mask_of}
use Rattle.relation.specs.Lists.{any_below}
use Rattle.relation.specs.Finite.{related, reaches}

-- i is in the set, or reached from a member of it
unfoldable pub is_reached : List ℕ → ℕ → ℕ → Bool
is_reached rows from i = bit from i || any_below (λ j. bit from j && reaches (related rows) 64 j i) 64

-- all of these
unfoldable pub reached : List ℕ → ℕ → ℕ
reached rows from = mask_of (is_reached rows from) 64

-- some dependent is in what is needed, or reached from a member of it: a number more, which needs the ones and on which the others depend, closes a ring
unfoldable pub closes_ring : List ℕ → ℕ → ℕ → Bool
closes_ring rows needed dependents = not (eqb (bit_and (reached rows needed) dependents) 0)
