-- What the parts of the search for a ring compute.
use Rattle.std.specs.Prelude.{ℕ, ◌%◌, ◌<◌, ◌≡◌, Bool, true, not, ◌&&◌, ◌||◌, List, eqb, length, get_or}
use Rattle.relation.specs.Bits.{bit, mask_of}
use Rattle.relation.specs.Lists.{any_below}
use Rattle.relation.specs.Finite.{related, rows_of, closed}
use Rattle.model.specs.declared.Rule.{Rule}
use Rattle.model.specs.Cyclic.{rule_at, leads, has, meets}

-- rule j has a name as its first
unfoldable pub starts : List Rule → ℕ → ℕ → Bool
starts rules name j = eqb name (rule_at rules j).first

-- rule i leads to rule j, and both are in a set
unfoldable pub linked : ℕ → List Rule → ℕ → ℕ → Bool
linked among rules i j = bit among i && bit among j && leads rules i j

-- rule j's first name has the lowest six bits b
unfoldable pub in_bucket : List Rule → ℕ → ℕ → Bool
in_bucket rules b j = eqb b ((rule_at rules j).first % 64)

-- a table has for each b the ones of the first k rules
pub record Buckets (rules : List Rule) (k : ℕ) (table : List ℕ) : Type 0 where
  pub at : (b : ℕ) → b < 64 → get_or table b 0 ≡ mask_of (in_bucket rules b) k

-- rule i may lead to rule j, by the lowest six bits of the names, and rule j is in a set; to itself only if it is a = rule
unfoldable pub near : ℕ → List Rule → ℕ → ℕ → Bool
near among rules i j = bit among j && in_bucket rules ((rule_at rules i).second % 64) j && (has rules 0 i || not (eqb j i))

-- all numbers below 64, and so all rules
abbrev pub everything : ℕ
everything = 18446744073709551615

-- a set has the rules that a ring can be made of: the = rules, and all where a > and a < rule reach each other
pub record Suspects (rules : List Rule) (n set : ℕ) : Type 0 where
  pub equal : (i : ℕ) → i < n → has rules 0 i ≡ true → bit set i ≡ true
  pub mixed : meets rules (closed n (rows_of (leads rules) n)) ≡ true → set ≡ everything

-- r is a < rule, and in a table of who reaches whom i and j reach each other
unfoldable pub meets_by : Rule → List ℕ → ℕ → ℕ → Bool
meets_by r rows i j = eqb r.predicate 2 && related rows i j && related rows j i

-- rule i is a > rule, and it and some < rule reach each other
unfoldable pub meets_from : List Rule → List ℕ → ℕ → Bool
meets_from rules rows i = has rules 1 i && any_below (λ j. meets_by (rule_at rules j) rows i j) (length rules)
