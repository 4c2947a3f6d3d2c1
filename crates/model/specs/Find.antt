-- Candidates, and the choice among sets of them.
use Rattle.std.specs.Prelude.{ℕ, zero, suc, ◌/◌, ◌%◌, ◌^◌, ◌≤◌, ◌<◌, ◌≡◌, ◌↔◌, Bool, true, cond, not, ◌&&◌, ◌||◌, eqb, leb, ltb, length}
use mathlib.Core.List.{List, [], ◌∷◌, Memᴰ}
use Rattle.std.proofs.Math.Option.{Option}
use Rattle.std.specs.Int.Count.{ones}
use Rattle.relation.specs.Best.{best_below}
use Rattle.relation.specs.Lists.{all}
use Rattle.model.specs.declared.Rule.{Rule}
use Rattle.model.specs.declared.Write.{Write}
use Rattle.model.specs.Rules.{Label, matches}
use Rattle.model.specs.Cyclic.{Cyclic, cyclic}
use Rattle.model.specs.Schedule.{label_at}
use Rattle.model.specs.Test.{Test, TestHolds, test_holds}

-- *candidate*: a rule that matches an ordered pair of two different main writes of one test
unfoldable pub Candidate : List Test → Rule → Type 0
Candidate tests r =
    (t : Test) × Memᴰ t tests
    × (i : ℕ) × (j : ℕ) × (i < length t.main) × (j < length t.main) × (i ≡ j → ⊥)
    × (matches r (label_at t.main i) (label_at t.main j) ≡ true)

-- the order of candidates: by first name, second name, predicate
unfoldable pub before : Rule → Rule → Bool
before r q =
    ltb r.first q.first
    || eqb r.first q.first && (ltb r.second q.second || eqb r.second q.second && ltb r.predicate q.predicate)

-- a list in that order, without repeats
unfoldable pub Ordered : List Rule → Type 0
Ordered [] = Unit {0}
Ordered (r ∷ rs) = ((q : Rule) → Memᴰ q rs → before r q ≡ true) × Ordered rs

-- *the candidates*, sorted: exactly these rules, in order
unfoldable pub Candidates : List Test → List Rule → Type 0
Candidates tests rs = Ordered rs × ((r : Rule) → Memᴰ r rs ↔ Candidate tests r)

-- all tests hold, and the rules are acyclic
unfoldable pub Suffices : List Test → List Rule → Type 0
Suffices tests rules = (Cyclic rules → ⊥) × ((t : Test) → Memᴰ t tests → TestHolds rules t)

-- no acyclic set of any rules makes all tests hold
unfoldable pub NoneSuffices : List Test → Type 0
NoneSuffices tests = (rules : List Rule) → Suffices tests rules → ⊥

-- no sufficient set of any rules has fewer rules
unfoldable pub Fewest : List Test → List Rule → Type 0
Fewest tests rules = (others : List Rule) → Suffices tests others → length rules ≤ length others

-- the set of a number: bit i is candidate i, from 0
unfoldable pub picked : List Rule → ℕ → List Rule
picked [] m = []
picked (r ∷ rs) m = cond (eqb (m % 2) 1) (r ∷ picked rs (m / 2)) (picked rs (m / 2))

-- the set of candidates that the finder takes: sufficient, with the fewest ones in its number, and of those the largest number
unfoldable pub Chosen : List Test → List Rule → ℕ → Type 0
Chosen tests candidates m =
    (m < 2 ^ length candidates) × Suffices tests (picked candidates m)
    × ((k : ℕ) → k < 2 ^ length candidates → Suffices tests (picked candidates k) → (ones m ≤ ones k) × (ones k ≡ ones m → k ≤ m))

-- ---- the same, computed

-- the one rule with a known predicate that matches two labels
unfoldable pub pairing : Label → Label → Rule
pairing l m =
    record { first = l.name; predicate = cond (eqb l.epoch m.epoch) 0 (cond (ltb m.epoch l.epoch) 1 2); second = m.name }

-- a rule put in its place of an ordered list, once
unfoldable pub inserted : Rule → List Rule → List Rule
inserted r [] = r ∷ []
inserted r (q ∷ qs) = cond (before r q) (r ∷ q ∷ qs) (cond (before q r) (q ∷ inserted r qs) (q ∷ qs))

-- the candidates from write i of a trace to the writes below n
unfoldable pub from_write : List Write → ℕ → ℕ → List Rule → List Rule
from_write ws i zero found = found
from_write ws i (suc n) found =
    let rest = from_write ws i n found in
    cond (eqb i n) rest (inserted (pairing (label_at ws i) (label_at ws n)) rest)

unfoldable pub from_trace : List Write → ℕ → List Rule → List Rule
from_trace ws zero found = found
from_trace ws (suc n) found = from_write ws n (length ws) (from_trace ws n found)

unfoldable pub candidates_of : List Test → List Rule
candidates_of [] = []
candidates_of (t ∷ ts) = from_trace t.main (length t.main) (candidates_of ts)

unfoldable pub suffices : List Test → List Rule → Bool
suffices tests rules = not (cyclic rules) && all (test_holds rules) tests

-- m has no more ones than k
unfoldable pub preferred : ℕ → ℕ → Bool
preferred m k = leb (ones m) (ones k)

-- the number below n that passes a test and is preferred to the others, or none: one with no more ones takes the place of a smaller number
abbrev pub chosen_below : (ℕ → Bool) → ℕ → Option ℕ
chosen_below p n = best_below preferred p n

unfoldable pub chosen : List Test → List Rule → Option ℕ
chosen tests candidates = chosen_below (λ m. suffices tests (picked candidates m)) (2 ^ length candidates)
