-- Rules as the code keeps them: all of them up to the most candidates, and of more only that they are more.
use Rattle.std.specs.Prelude.{ℕ, suc, ◌+◌, ◌≤◌, ◌<◌, ◌≡◌, cond, List, [], ◌∷◌, length}
use Rattle.model.specs.Limits.{most_candidates}
use Rattle.model.specs.declared.Rule.{Rule}
use Rattle.model.specs.Find.{before}
use Rattle.rule_match.specs.declared.Rules.{Rules}
use Rattle.rule_match.specs.Held.{rules_of}

-- how many rules of a list, from the front on, come before a rule
unfoldable pub place_of : Rule → List Rule → ℕ
place_of r [] = 0
place_of r (q ∷ qs) = cond (before q r) (suc (place_of r qs)) 0

-- what is held of a list of rules
pub record Keeps (l : List Rule) (c : Rules) : Type 0 where
  pub few : c.count ≤ most_candidates + 1
  pub count : length l ≤ most_candidates → c.count ≡ length l
  pub same : length l ≤ most_candidates → rules_of c ≡ l
  pub over : most_candidates < length l → c.count ≡ most_candidates + 1

-- what holds l in the one holds f l in the other
pub record Follows (f : List Rule → List Rule) (c d : Rules) : Type 0 where
  pub keeps : (l : List Rule) → Keeps l c → Keeps (f l) d
