-- Rule sets of the bench sheet and of document 01.
use Rattle.std.specs.Prelude.{List, [], ◌∷◌, ℕ}
use Rattle.model.specs.declared.Rule.{Rule}

abbrev pub rule : ℕ → ℕ → ℕ → Rule
rule first predicate second = record { first = first; predicate = predicate; second = second }

-- {(1,=,2),(2,>,1)}
abbrev pub K5 : List Rule
K5 = rule 1 0 2 ∷ rule 2 1 1 ∷ []

-- {(1,>,2),(2,<,1)}
abbrev pub K6 : List Rule
K6 = rule 1 1 2 ∷ rule 2 2 1 ∷ []

-- (a,=,a) alone, and (a,>,a) alone
abbrev pub equal_alone : ℕ → List Rule
equal_alone a = rule a 0 a ∷ []

abbrev pub greater_alone : ℕ → List Rule
greater_alone a = rule a 1 a ∷ []
