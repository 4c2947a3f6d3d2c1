-- The theorems of finding: what the computed definitions say of all rule sets.
use Rattle.std.specs.Prelude.{ℕ, ◌^◌, ◌≤◌, ◌<◌, ◌≡◌, ◌↔◌, List, length}
use Rattle.std.proofs.Math.Option.{none, some}
use Rattle.std.specs.Int.Count.{ones}
use Rattle.model.specs.declared.Rule.{Rule}
use Rattle.model.specs.Test.{Test}
use Rattle.model.specs.Find.{Candidates, Suffices, NoneSuffices, Fewest, picked, Chosen, candidates_of, chosen}

-- `candidates_of` computes the candidates, sorted
abbrev pub Collected : Type 0
Collected = (tests : List Test) → Candidates tests (candidates_of tests)

-- a set has as many rules as its number has ones
abbrev pub Counted : Type 0
Counted = (candidates : List Rule) (m : ℕ) → m < 2 ^ length candidates → length (picked candidates m) ≡ ones m

-- any sufficient set of any rules, cut down to its candidates, is still sufficient and no larger
abbrev pub CutDown : Type 0
CutDown =
    (tests : List Test) (rules : List Rule) → Suffices tests rules
    → (m : ℕ)
    × (m < 2 ^ length (candidates_of tests))
    × Suffices tests (picked (candidates_of tests) m)
    × (length (picked (candidates_of tests) m) ≤ length rules)

-- a set that is chosen is sufficient, is the one that the finder is to take, and no sufficient set of any rules is smaller
abbrev pub Given : Type 0
Given =
    (tests : List Test) (m : ℕ) → chosen tests (candidates_of tests) ≡ some m
    → Suffices tests (picked (candidates_of tests) m)
    × Chosen tests (candidates_of tests) m
    × Fewest tests (picked (candidates_of tests) m)

-- none is chosen exactly if no acyclic set of any rules makes all tests hold
abbrev pub Refused : Type 0
Refused = (tests : List Test) → chosen tests (candidates_of tests) ≡ none ↔ NoneSuffices tests
