-- What an accepted write needs before it may be stored.
use Rattle.std.specs.Prelude.{ℕ, zero, suc, ◌<◌, ◌≡◌, ◌⊎◌, Bool, true, false, not, cond, ◌&&◌, ◌||◌, List, eqb, ltb, length}
use Rattle.relation.specs.Lists.{all_below, any_below}
use Rattle.relation.specs.Finite.{has_ring}
use Rattle.relation.specs.Transitive.{Ring}
use Rattle.model.specs.declared.Write.{Write}
use Rattle.model.specs.declared.Rule.{Rule}
use Rattle.model.specs.Rules.{label_of, DependsOn, depends_on}
use Rattle.model.specs.Schedule.{write_at, label_at}

-- *needs*: a write needs what it depends on and every earlier accepted write to its address
unfoldable pub Needs : List Rule → List Write → ℕ → ℕ → Type 0
Needs rules ws i j =
    (i < length ws) × (j < length ws)
    × (DependsOn rules (label_at ws i) (label_at ws j) ⊎ ((j < i) × ((write_at ws j).address ≡ (write_at ws i).address)))

-- a *ring of needs*
unfoldable pub NeedsRing : List Rule → List Write → Type 0
NeedsRing rules ws = Ring (Needs rules ws)

-- write i is *the earliest* that waits and whose needs are all stored
pub record Earliest (rules : List Rule) (ws : List Write) (stored : ℕ → Bool) (i : ℕ) : Type 0 where
  pub accepted : i < length ws
  pub waits : stored i ≡ false
  pub met : (j : ℕ) → Needs rules ws i j → stored j ≡ true
  pub first : (k : ℕ) → k < i → stored k ≡ false → ((j : ℕ) → Needs rules ws k j → stored j ≡ true) → ⊥

-- *late*: a stored write depends on it
unfoldable pub Late : List Rule → List Write → (ℕ → Bool) → Write → Type 0
Late rules ws stored w = (i : ℕ) × (i < length ws) × (stored i ≡ true) × DependsOn rules (label_at ws i) (label_of w)

-- ---- the same, computed; `needs` speaks of writes below the list's length only

unfoldable pub needs : List Rule → List Write → ℕ → ℕ → Bool
needs rules ws i j = depends_on rules (label_at ws i) (label_at ws j) || ltb j i && eqb (write_at ws j).address (write_at ws i).address

unfoldable pub needs_ring : List Rule → List Write → Bool
needs_ring rules ws = has_ring (needs rules ws) (length ws)

-- all that write i needs is stored
unfoldable pub met : List Rule → List Write → (ℕ → Bool) → ℕ → Bool
met rules ws stored i = all_below (λ j. not (needs rules ws i j) || stored j) (length ws)

-- the earliest of the n writes from i on that waits and whose needs are all stored, counted from 1; 0 if there is none
unfoldable pub ready_from : List Rule → List Write → (ℕ → Bool) → ℕ → ℕ → ℕ
ready_from rules ws stored i zero = 0
ready_from rules ws stored i (suc n) =
    let rest = ready_from rules ws stored (suc i) n in
    cond (not (stored i) && met rules ws stored i) (suc i) rest

unfoldable pub ready : List Rule → List Write → (ℕ → Bool) → ℕ
ready rules ws stored = ready_from rules ws stored 0 (length ws)

unfoldable pub late : List Rule → List Write → (ℕ → Bool) → Write → Bool
late rules ws stored w = any_below (λ i. stored i && depends_on rules (label_at ws i) (label_of w)) (length ws)
