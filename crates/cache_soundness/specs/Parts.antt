-- What the parts of the code compute.
use Rattle.std.specs.Prelude.{ℕ, ◌≤◌, ◌≡◌, Bool, not, ◌||◌, List, get_or, take}
use Rattle.relation.specs.Bits.{bit, mask_of}
use Rattle.relation.specs.Finite.{rows_of}
use Rattle.relation.specs.Union.{part_of}
use Rattle.model.specs.Limits.{most_rules, most_held}
use Rattle.model.specs.Needs.{needs}
use Rattle.rule_match.specs.Held.{rules_of}
use Rattle.cache_model.specs.State.{accepted_count, rules_in, writes_in, stored_in}
use Rattle.cache_masks.specs.declared.Columns.{Columns}
use Rattle.cache_contents.specs.Columns.{InColumns}
use Rattle.cache_soundness.specs.declared.Examined.{Examined}

-- a table's first rows are what a state's writes need
unfoldable pub Tabled : List ℕ → List ℕ → Type 0
Tabled s rows = take (accepted_count s) rows ≡ rows_of (needs (rules_in s) (writes_in s)) (accepted_count s)

-- the row of i, where i is in a mask, is part of the mask
unfoldable pub covered : ℕ → ℕ → ℕ → Bool
covered row mask i = not (bit mask i) || part_of row mask

abbrev pub covered_at : List ℕ → ℕ → ℕ → Bool
covered_at rows mask i = covered (get_or rows i 0) mask i

-- what is decoded of a state: its rules and its stored writes
pub record Decoded (s : List ℕ) (r : Examined) : Type 0 where
  pub most : accepted_count s ≤ most_held
  pub rules : rules_of r.rules ≡ rules_in s
  pub few : r.rules.count ≤ most_rules
  pub stored : r.stored ≡ mask_of (stored_in s) (accepted_count s)

-- what is seen besides: its needs in a table, and its writes in columns
pub record Seen (s rows : List ℕ) (c : Columns) (r : Examined) : Type 0 where
  pub decoded : Decoded s r
  pub tabled : Tabled s rows
  pub columns : InColumns s (accepted_count s) c
