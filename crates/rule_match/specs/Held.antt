-- The rules that a `Rules` holds.
use Rattle.std.specs.Prelude.{ℕ, List, get_or, take}
use Rattle.model.specs.declared.Rule.{Rule}
use Rattle.rule_match.specs.declared.Rules.{Rules}

-- the rules that are held
abbrev pub rules_of : Rules → List Rule
rules_of rules = take rules.count rules.items

-- rule i of those that are held, as the code reads it
abbrev pub item_at : Rules → ℕ → Rule
item_at rules i = get_or rules.items i (record { first = 0; predicate = 0; second = 0 })
