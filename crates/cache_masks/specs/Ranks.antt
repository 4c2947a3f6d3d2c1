-- Epochs by their ranks: how many are smaller.
use Rattle.std.specs.Prelude.{ℕ, zero, suc, ◌+◌, ◌<◌, cond, List, ltb, eqb, get_or}
use Rattle.std.specs.Int.Bits.{bit_or}
use Rattle.relation.specs.Bits.{mask_of, without}
use Rattle.model.specs.Limits.{most_held}

-- how many of the first m epochs are below t
unfoldable pub smaller : List ℕ → ℕ → ℕ → ℕ
smaller epochs t zero = 0
smaller epochs t (suc m) = cond (ltb (get_or epochs m 0) t) (smaller epochs t m + 1) (smaller epochs t m)

-- the rank of an epoch; that of entry i
unfoldable pub rank_of : List ℕ → ℕ → ℕ
rank_of epochs t = smaller epochs t most_held

unfoldable pub rank_at : List ℕ → ℕ → ℕ
rank_at epochs i = rank_of epochs (get_or epochs i 0)

-- so many entries has a table with one for each rank and one more
abbrev pub bounds : ℕ
bounds = most_held + 1

-- the first n ranks are below 64
pub record SmallRanks (n : ℕ) (ranks : List ℕ) : Type 0 where
  pub at : (i : ℕ) → i < n → get_or ranks i 0 < most_held

-- which of the first n ranks are one below r; and which are below r
unfoldable pub next_mask : List ℕ → ℕ → ℕ → ℕ
next_mask ranks n r = mask_of (λ j. eqb (get_or ranks j 0 + 1) r) n

unfoldable pub below_mask : List ℕ → ℕ → ℕ → ℕ
below_mask ranks n r = mask_of (λ j. ltb (get_or ranks j 0) r) n

-- the union of a table's entries up to r
unfoldable pub union_to : List ℕ → ℕ → ℕ
union_to table zero = get_or table 0 0
union_to table (suc r) = bit_or (get_or table (suc r) 0) (union_to table r)

-- the writes to whose epochs one of rank r stands as a predicate says, where entry r of a table has those of lower ranks
unfoldable pub standing_in : List ℕ → ℕ → ℕ → ℕ
standing_in belows r zero = without (get_or belows (r + 1) 0) (get_or belows r 0)
standing_in belows r (suc zero) = get_or belows r 0
standing_in belows r (suc (suc zero)) = without (get_or belows most_held 0) (get_or belows (r + 1) 0)
standing_in belows r (suc (suc (suc p))) = 0
