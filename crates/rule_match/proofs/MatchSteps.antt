-- Rules that are held, and a dependency by one rule more.
use mathlib.Core.Path.{◌≡◌, sym, ap, ◌∙◌}
use mathlib.Core.Bool.{Bool, or-false, ◌||◌}
use mathlib.Core.List.{List, [], ◌∷◌, map}
use Prim.Native.Nat.{ℕ, suc, ◌≤◌, ◌<◌}
use native.Mathlib.Omega.{arith}
use lib.ListN.{length, length-map, take}
use lib.Seq.{length-take-le, get_or-take, take-suc}
use Rattle.relation.specs.Lists.{any}
use Rattle.relation.proofs.ListLaws.{any_append, index_mem}
use Rattle.model.specs.Limits.{most_rules}
use Rattle.model.specs.Rules.{Label, matches, depends_on, Known}
use Rattle.model.specs.Cyclic.{no_rule, rule_at}
use Rattle.rule_match.specs.declared.Rules.{Rules}
use Rattle.rule_match.specs.Held.{item_at, rules_of}

-- ---- the rules that are held

-- what owning an array of structs in a struct tells of its length
pub length_mapped : (X Y : Type 0) (f : X → Y) (l : List X) (n : ℕ) → length (map f l) ≡ n → length l ≡ n
length_mapped X Y f l n e = sym (length-map l f) ∙ e

module _ (rules : Rules) where
  pub held-length : length rules.items ≡ most_rules → rules.count ≤ most_rules → length (rules_of rules) ≡ rules.count
  held-length all few = length-take-le rules.count rules.items (omega arith)

  -- a known predicate is of one byte
  pub known_at : (i : ℕ) → Known (rules_of rules) → length rules.items ≡ most_rules → rules.count ≤ most_rules → i < rules.count → (item_at rules i).predicate < 256
  unfolding Known
  known_at i known whole few h =
      let l = known (item_at rules i) (index_mem (rules_of rules) i (record { first = 0; predicate = 0; second = 0 }) (rw (held-length whole few) h) (get_or-take rules.count rules.items i (record { first = 0; predicate = 0; second = 0 }) h)) in
      omega arith

  pub held_at : (i : ℕ) → i < rules.count → rule_at (rules_of rules) i ≡ item_at rules i
  unfolding no_rule
  held_at i h = get_or-take rules.count rules.items i no_rule h

-- ---- dependencies

module _ (rules : Rules) (l m : Label) where
  -- one rule more
  pub depends_next : (i : ℕ) → i < length rules.items
      → depends_on (take (suc i) rules.items) l m ≡ depends_on (take i rules.items) l m || matches (item_at rules i) l m
  unfolding depends_on any
  depends_next i h =
      ap (any (λ r. matches r l m)) (take-suc rules.items i _ h)
      ∙ any_append (λ r. matches r l m) (take i rules.items) (item_at rules i ∷ [])
      ∙ ap (λ (b : Bool). depends_on (take i rules.items) l m || b) (or-false (matches (item_at rules i) l m))
