-- The layout as the code tests it, part by part.
use Rattle.std.specs.Prelude.{ℕ, ◌+◌, ◌-◌, Bool, ◌&&◌, List, eqb, leb}
use Rattle.relation.specs.Lists.{all_below}
use Rattle.model.specs.Limits.{most_rules, most_held}
use Rattle.file_format.specs.Bytes.{byte}
use Rattle.cache_model.specs.State.{state_size, writes_start, rule_count, accepted_count, rule_base, write_base, flag_in}

-- the n bytes from a place on are zero
unfoldable pub zeros : List ℕ → ℕ → ℕ → Bool
zeros s from n = all_below (λ k. eqb (byte s (from + k)) 0) n

-- the last byte of write i's place is a flag
unfoldable pub flag_fits : List ℕ → ℕ → Bool
flag_fits s i = leb (flag_in s i) 1

-- of 1,024 bytes: all of the layout within the limits, but that byte 2 counts the flags
unfoldable pub framed : List ℕ → Bool
framed s =
    leb (rule_count s) most_rules && leb (accepted_count s) most_held && eqb (byte s 3) 0
    && zeros s (rule_base (rule_count s)) (writes_start - rule_base (rule_count s))
    && zeros s (write_base (accepted_count s)) (state_size - write_base (accepted_count s))
    && all_below (flag_fits s) (accepted_count s)
