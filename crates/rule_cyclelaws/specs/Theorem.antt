-- The theorem of cyclic rule sets, and the rule sets of which document 01 says whether they are cyclic.
use Rattle.std.specs.Prelude.{ℕ, ◌≡◌, ◌↔◌, true, List}
use Rattle.model.specs.declared.Rule.{Rule}
use Rattle.model.specs.Rules.{Known}
use Rattle.model.specs.Cyclic.{Cyclic, ClosedWalk, cyclic}
use Rattle.rule_cyclelaws.specs.Examples.{equal_alone, greater_alone, K5, K6}

-- labels can form a ring exactly if some closed walk of rules uses only =, or both a > and a <; and exactly if `cyclic` computes to true
abbrev pub CyclicExactly : Type 0
CyclicExactly = (rules : List Rule) → Known rules → (Cyclic rules ↔ ClosedWalk rules) × (Cyclic rules ↔ cyclic rules ≡ true)

-- the worked lines. The names form a ring in all four, labels in two
pub record Worked : Type 0 where
  -- the rule (a,=,a) is cyclic
  pub equal-cyclic : (a : ℕ) → Cyclic (equal_alone a)
  -- (a,>,a) alone isn't
  pub greater_not-cyclic : (a : ℕ) → Cyclic (greater_alone a) → ⊥
  -- {(1,=,2),(2,>,1)} isn't cyclic
  pub K5-not-cyclic : Cyclic K5 → ⊥
  -- {(1,>,2),(2,<,1)} is
  pub K6-cyclic : Cyclic K6
