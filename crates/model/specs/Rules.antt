-- Labels, rules and dependencies.
use Rattle.std.specs.Prelude.{ℕ, zero, suc, ◌≤◌, ◌≡◌, Bool, true, false, ◌&&◌, eqb, ltb, leb}
use mathlib.Core.List.{List, Memᴰ}
use Rattle.relation.specs.Lists.{any, all}
use Rattle.model.specs.declared.Write.{Write}
use Rattle.model.specs.declared.Rule.{Rule}

-- *label*: a name and an epoch, which may be any whole number here
pub record Label : Type 0 where
  pub name : ℕ
  pub epoch : ℕ

abbrev pub label : ℕ → ℕ → Label
label n t = record { name = n; epoch = t }

-- the label of a write
abbrev pub label_of : Write → Label
label_of w = label w.name w.epoch

-- epochs t and u stand in the relation of a predicate: 0 is =, 1 is >, 2 is <; no rule has another
unfoldable pub stands : ℕ → ℕ → ℕ → Bool
stands zero t u = eqb t u
stands (suc zero) t u = ltb u t
stands (suc (suc zero)) t u = ltb t u
stands (suc (suc (suc p))) t u = false

-- a rule *matches* two labels
unfoldable pub matches : Rule → Label → Label → Bool
matches r l m = eqb l.name r.first && eqb m.name r.second && stands r.predicate l.epoch m.epoch

-- *depends on*: some rule pairs the first label with the second
unfoldable pub DependsOn : List Rule → Label → Label → Type 0
DependsOn rules l m = (r : Rule) × Memᴰ r rules × (matches r l m ≡ true)

-- the same, computed
unfoldable pub depends_on : List Rule → Label → Label → Bool
depends_on rules l m = any (λ r. matches r l m) rules

-- every predicate is one of the three
unfoldable pub Known : List Rule → Type 0
Known rules = (r : Rule) → Memᴰ r rules → r.predicate ≤ 2

unfoldable pub known : List Rule → Bool
known rules = all (λ r. leb r.predicate 2) rules
