-- Sound states.
use Rattle.std.specs.Prelude.{ℕ, ◌≡◌, Bool, true, false, not, ◌&&◌, ◌||◌, List, [], ◌∷◌, eqb, leb}
use Rattle.relation.specs.Lists.{all_below}
use Rattle.model.specs.Limits.{most_rules, most_held}
use Rattle.model.specs.Rules.{known}
use Rattle.model.specs.Cyclic.{cyclic}
use Rattle.model.specs.Needs.{needs_ring, met}
use Rattle.cache_model.specs.Entries.{Holdable}
use Rattle.cache_model.specs.State.{rule_count, accepted_count, rules_in, writes_in, stored_in, entries_in, state_of}

-- *sound*: this layout, in which byte 2 counts the flags, and what it holds is within the limits, with known predicates, acyclic rules, stored
-- writes that need only stored ones, and no ring of needs. A state has the layout if it is the bytes of what it holds. (For lists of bytes within
-- the limits this is, byte by byte, `cache_statelaws/specs/Theorem.antt: Clauses`)
pub record Sound (s : List ℕ) : Type 0 where
  pub layout : s ≡ state_of (rules_in s) (entries_in s)
  pub holds : Holdable (rules_in s) (entries_in s)

-- ---- the same, computed

-- two lists of bytes are equal
unfoldable pub same : List ℕ → List ℕ → Bool
same [] [] = true
same [] (y ∷ ys) = false
same (x ∷ xs) [] = false
same (x ∷ xs) (y ∷ ys) = eqb x y && same xs ys

-- this layout, within the limits
unfoldable pub layout : List ℕ → Bool
layout s = leb (rule_count s) most_rules && leb (accepted_count s) most_held && same s (state_of (rules_in s) (entries_in s))

-- .., with rules that are known and not cyclic
unfoldable pub ruled : List ℕ → Bool
ruled s = layout s && known (rules_in s) && not (cyclic (rules_in s))

-- stored writes need only stored ones, and there is no ring of needs
unfoldable pub needs_hold : List ℕ → Bool
needs_hold s =
    all_below (λ i. not (stored_in s i) || met (rules_in s) (writes_in s) (stored_in s) i) (accepted_count s)
    && not (needs_ring (rules_in s) (writes_in s))

unfoldable pub sound : List ℕ → Bool
sound s = ruled s && needs_hold s
