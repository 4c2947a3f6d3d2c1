-- Accepted writes with their flags, in the order they came: what a state holds of them, and what a run's book is.
use Rattle.std.specs.Prelude.{ℕ, zero, suc, ◌≤◌, ◌≡◌, Bool, true, false, not, List, [], ◌∷◌, ◌++◌, map, length, get_or, set}
use Rattle.model.specs.declared.Write.{Write}
use Rattle.model.specs.declared.Rule.{Rule}
use Rattle.model.specs.Limits.{most_rules, most_held}
use Rattle.model.specs.Rules.{Known}
use Rattle.model.specs.Cyclic.{Cyclic}
use Rattle.model.specs.Schedule.{no_write}
use Rattle.model.specs.Test.{count_below}
use Rattle.model.specs.Needs.{Needs, NeedsRing}

-- a write that is *accepted*; *stored* if flagged, *waiting* if not
pub record Entry : Type 0 where
  pub write : Write
  pub flag : Bool

abbrev pub entry : Write → Bool → Entry
entry w f = record { write = w; flag = f }

-- the accepted writes
abbrev pub accepted : List Entry → List Write
accepted es = map (λ e. e.write) es

unfoldable pub flag_at : List Entry → ℕ → Bool
flag_at es i = (get_or es i (entry no_write false)).flag

-- how many are stored, and how many wait
unfoldable pub flag_count : List Entry → ℕ
flag_count es = count_below (flag_at es) (length es)

unfoldable pub waiting_in : List Entry → ℕ
waiting_in es = count_below (λ i. not (flag_at es i)) (length es)

-- a hand-in appends its write, unflagged
unfoldable pub appended : List Entry → Write → List Entry
appended es w = es ++ (entry w false ∷ [])

-- the write at a place, counted from 1, flagged; at place 0 there is none
unfoldable pub flagging : ℕ → List Entry → List Entry
flagging zero es = es
flagging (suc i) es = set es i (entry (get_or es i (entry no_write false)).write true)

-- rules and entries that a cache can hold: within the limits, known predicates, acyclic rules, stored writes that need only stored ones, and no
-- ring of needs
pub record Holdable (rules : List Rule) (es : List Entry) : Type 0 where
  pub rules-most : length rules ≤ most_rules
  pub most : length es ≤ most_held
  pub known : Known rules
  pub acyclic : Cyclic rules → ⊥
  pub closed : (i j : ℕ) → flag_at es i ≡ true → Needs rules (accepted es) i j → flag_at es j ≡ true
  pub ringless : NeedsRing rules (accepted es) → ⊥
