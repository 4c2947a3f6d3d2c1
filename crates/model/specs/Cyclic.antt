-- Cyclic rule sets.
use Rattle.std.specs.Prelude.{ℕ, ◌≡◌, ◌⊎◌, Bool, true, ◌&&◌, ◌||◌, eqb, length, get_or}
use mathlib.Core.List.{List, [], ◌∷◌, Memᴰ}
use Rattle.relation.specs.Lists.{any, all, any_below}
use Rattle.relation.specs.Transitive.{Ring}
use Rattle.relation.specs.Finite.{rows_of, related, closed, has_ring}
use Rattle.model.specs.declared.Rule.{Rule}
use Rattle.model.specs.Rules.{DependsOn}

-- *cyclic*: labels, with whole-number epochs, can form a ring of one or more, each depending on the next
unfoldable pub Cyclic : List Rule → Type 0
Cyclic rules = Ring (DependsOn rules)

-- a walk of rules over the names, from name a to name b: each rule is one of the set and goes from its first name to its second
unfoldable pub Walk : List Rule → ℕ → List Rule → ℕ → Type 0
Walk rules a [] b = a ≡ b
Walk rules a (r ∷ rs) b = Memᴰ r rules × (r.first ≡ a) × Walk rules r.second rs b

-- a list of rules uses only =, or uses both a > and a < rule
unfoldable pub only_equal : List Rule → Bool
only_equal rs = all (λ r. eqb r.predicate 0) rs

unfoldable pub both_ways : List Rule → Bool
both_ways rs = any (λ r. eqb r.predicate 1) rs && any (λ r. eqb r.predicate 2) rs

-- some closed walk of one or more rules uses only = rules, or uses both a > and a < rule
unfoldable pub ClosedWalk : List Rule → Type 0
ClosedWalk rules = (a : ℕ) × (r : Rule) × (rs : List Rule) × Walk rules a (r ∷ rs) a × ((only_equal (r ∷ rs) ≡ true) ⊎ (both_ways (r ∷ rs) ≡ true))

-- ---- the same, computed on the numbers of the rules

unfoldable pub no_rule : Rule
no_rule = record { first = 0; predicate = 0; second = 0 }

abbrev pub rule_at : List Rule → ℕ → Rule
rule_at rules i = get_or rules i no_rule

-- rule i leads to rule j
unfoldable pub leads : List Rule → ℕ → ℕ → Bool
leads rules i j = eqb (rule_at rules i).second (rule_at rules j).first

-- rule i has predicate p
unfoldable pub has : List Rule → ℕ → ℕ → Bool
has rules p i = eqb (rule_at rules i).predicate p

-- the same between = rules
unfoldable pub equal_leads : List Rule → ℕ → ℕ → Bool
equal_leads rules i j = has rules 0 i && has rules 0 j && leads rules i j

-- in a table of who reaches whom, some > rule and some < rule reach each other
unfoldable pub meets : List Rule → List ℕ → Bool
meets rules rows =
    any_below (λ i. has rules 1 i && any_below (λ j. has rules 2 j && related rows i j && related rows j i) (length rules)) (length rules)

unfoldable pub cyclic : List Rule → Bool
cyclic rules =
    has_ring (equal_leads rules) (length rules)
    || meets rules (closed (length rules) (rows_of (leads rules) (length rules)))
