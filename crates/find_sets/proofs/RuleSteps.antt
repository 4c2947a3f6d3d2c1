-- The steps of rules held in order, in the terms of the code.
use mathlib.Core.Path.{◌≡◌, refl, sym, ap, ◌∙◌}
use mathlib.Core.Bool.{Bool, true, false, cond}
use mathlib.Core.List.{List, [], ◌∷◌, ◌++◌, append-nil, append_assoc}
use Prim.Native.Nat.{ℕ, suc, ◌+◌, ◌-◌, ◌≤◌, ◌<◌}
use native.Mathlib.Nat.{add-zero}
use native.Mathlib.Numerals.{add-one}
use native.Mathlib.Omega.{arith}
use lib.ListN.{length, length-append, get_or, take, drop, set, drop_of_length-le}
use Rattle.std.specs.List.{prefix_len, take_while}
use Rattle.std.proofs.lemmas.List.Folds.{length-prefix_len}
use Rattle.std.proofs.Common.{length-drop}
use Rattle.std.proofs.lemmas.List.{drop-take}
use Rattle.std.specs.Int.{from_bool}
use lib.Seq.{length-take-le, take_all, take-append-le, get_or-take, take-suc, take-set-le, take-suc-set, take-take, drop-cons}
use borrow.Author.Rules.{rules}
use Rattle.relation.specs.Bits.{bit}
use Rattle.model.specs.Limits.{most_rules, most_candidates}
use Rattle.model.specs.declared.Rule.{Rule}
use Rattle.model.specs.Find.{before, inserted, picked}
use Rattle.rule_match.specs.declared.Rules.{Rules}
use Rattle.rule_match.specs.Held.{rules_of}
use Rattle.rule_match.proofs.MatchSteps.{length_mapped}
use Rattle.rule_match.specs.Held.{item_at}
use Rattle.find_laws.proofs.PickedLaws.{picked_snoc}
use Rattle.find_sets.specs.Kept.{place_of, Follows}
use Rattle.find_sets.proofs.KeepLaws.{follows-over, follows_new, follows_same}

-- ---- the rules that are held

abbrev blank : Rule
blank = record { first = 0; predicate = 0; second = 0 }

module _ (c : Rules) (all : length c.items ≡ most_rules) (few : c.count ≤ most_rules) where
  held-length : length (rules_of c) ≡ c.count
  held-length = length-take-le c.count c.items (omega arith)

  held_at : (i : ℕ) → i < c.count → get_or (rules_of c) i blank ≡ item_at c i
  held_at i h = get_or-take c.count c.items i blank h

  held-from : (i : ℕ) → i < c.count → drop i (rules_of c) ≡ item_at c i ∷ drop (suc i) (rules_of c)
  held-from i h =
      drop-cons (rules_of c) i blank (rw held-length h)
      ∙ ap (λ (r : Rule). r ∷ drop (suc i) (rules_of c)) (held_at i h)

  held_end : (i : ℕ) → c.count ≤ i → drop i (rules_of c) ≡ []
  held_end i h = drop_of_length-le (rules_of c) {i = i} (rw held-length h)

pushed : (l : List Rule) (n : ℕ) (rule : Rule) → length l ≡ most_rules → n < most_rules → take (n + 1) (set l n rule) ≡ take n l ++ (rule ∷ [])
pushed l n rule all h = rw (add-one n) (take-suc-set l n rule (omega arith))

-- ---- place

place-is : (r : Rule) (l : List Rule) → prefix_len (λ q. before q r) l ≡ place_of r l
unfolding place_of
place-is r [] = refl
place-is r (q ∷ qs) = go (before q r) (place-is r qs)
  where
    go : (b : Bool) → prefix_len (λ q. before q r) qs ≡ place_of r qs → cond b (1 + prefix_len (λ q. before q r) qs) 0 ≡ cond b (suc (place_of r qs)) 0
    go true e = omega arith
    go false e = refl

pub place-counted : (r : Rule) (l : List Rule) (k : ℕ) → k ≡ length (take_while (λ q. before q r) l) → k ≡ place_of r l
place-counted r l k e = e ∙ length-prefix_len (λ q. before q r) l ∙ place-is r l

-- ---- splice

abbrev pub behind : Rules → ℕ → Rule → List Rule
behind c k rule = take k (rules_of c) ++ (rule ∷ drop k (rules_of c))

module _ (c : Rules) (k : ℕ) (rule : Rule) where
  behind-length : length c.items ≡ most_rules → c.count < most_rules → k ≤ c.count → length (behind c k rule) ≡ c.count + 1
  behind-length all few h =
      let n = held-length c all (omega arith) in
      let a = length-append (take k (rules_of c)) (rule ∷ drop k (rules_of c)) in
      let t : length (take k (rules_of c)) ≡ k = length-take-le k (rules_of c) (omega arith) in
      let d = length-drop k (rules_of c) in
      omega arith

  -- a rule put at place k, and those from there on copied behind it
  pub spliced : (copied rest : List Rule) → length c.items ≡ most_rules → c.count < most_rules → k ≤ c.count
      → copied ≡ take (c.count - k) (drop k c.items)
      → take (c.count + 1) (take (k + 1) (set c.items k rule) ++ (copied ++ rest)) ≡ behind c k rule
  spliced copied rest all few h e =
      let held = rules_of c in
      let n = behind-length all few h in
      let tail = drop k held in
      let copied-is : copied ≡ tail = e ∙ sym (drop-take k (c.count - k) c.items) ∙ ap (λ (n : ℕ). drop k (take n c.items)) (omega arith) in
      let front : take (k + 1) (set c.items k rule) ≡ take k held ++ (rule ∷ [])
      = pushed c.items k rule all (omega arith) ∙ ap (λ (l : List Rule). l ++ (rule ∷ [])) (sym (take-take k c.count c.items h)) in
      let whole : take (k + 1) (set c.items k rule) ++ (copied ++ rest) ≡ behind c k rule ++ rest
      = rw (front, copied-is, append_assoc (take k held) (rule ∷ []) (tail ++ rest), append_assoc (take k held) (rule ∷ tail) rest) refl in
      rw (whole, take-append-le (c.count + 1) (behind c k rule) rest (omega arith)) (take_all (c.count + 1) (behind c k rule) (omega arith))

-- ---- insert

module _ (rule : Rule) (c : Rules) (k : ℕ) (short : c.count ≤ most_candidates) (p : k ≡ place_of rule (rules_of c)) where
  pub insert-last : (d : Rules) → c.count ≤ k → rules_of d ≡ behind c k rule → d.count ≡ c.count + 1 → Follows (inserted rule) c d
  insert-last d h e n = follows_new rule blank c short k p d (λ l. absurd (omega arith)) e n

  module _ (b : Bool) (all : length c.items ≡ most_rules) (h : k < c.count) (q : b ≡ before rule (item_at c k)) where
    pub insert-between : (d : Rules) → b ≡ true → rules_of d ≡ behind c k rule → d.count ≡ c.count + 1 → Follows (inserted rule) c d
    insert-between d t e n =
        follows_new rule blank c short k p d (λ l. ap (before rule) (held_at c all (omega arith) k h) ∙ sym q ∙ t) e n

    pub insert-none : b ≡ false → Follows (inserted rule) c c
    insert-none f = follows_same rule blank c short k p h (ap (before rule) (held_at c all (omega arith) k h) ∙ sym q ∙ f)

-- ---- pick

-- a rule written behind the first n, and counted or not
written : (items : List Rule) (n : ℕ) (rule : Rule) (b : Bool) → length items ≡ most_rules → n < most_rules
    → take (n + from_bool b) (set items n rule) ≡ take n items ++ cond b (rule ∷ []) []
written items n rule true all h = pushed items n rule all h
written items n rule false all h = rw (add-zero n, append-nil (take n items)) (take-set-le n items n rule (omega arith))

module _ (c : Rules) (m : ℕ) where
  pub pick-begun : (items : List Rule) → take 0 items ≡ picked (take 0 c.items) m
  unfolding picked
  pick-begun items = refl

  pub pick_more : (items : List Rule) (n i d : ℕ) (b : Bool) → length c.items ≡ most_rules → length items ≡ most_rules → c.count ≤ most_rules → i < length (take c.count c.items) → n ≤ i
      → take n items ≡ picked (take i c.items) m → b ≡ bit m i → d ≡ from_bool b → take (n + d) (set items n (get_or (take c.count c.items) i blank)) ≡ picked (take (i + 1) c.items) m
  pick_more items n i d b all long few h l p e q =
      let h : i < c.count = omega (arith, held-length c all few) in
      let z : length (take i c.items) ≡ i = length-take-le i c.items (omega arith) in
      rw (held_at c all few i h, q, e, written items n (item_at c i) (bit m i) long (omega arith), add-one i, take-suc c.items i blank (omega arith), picked_snoc (take i c.items) (item_at c i) m, z, p)

  pub pick-done : (items : List Rule) (n i : ℕ) → length c.items ≡ most_rules → c.count ≤ most_rules → i ≤ length (take c.count c.items) → length (take c.count c.items) ≤ i
      → take n items ≡ picked (take i c.items) m → take n items ≡ picked (rules_of c) m
  pick-done items n i all few h l e = let z : i ≡ c.count = omega (arith, held-length c all few) in rw z at e

pub ruleset ordering = (rules, length_mapped, follows-over, place-counted, spliced, insert-last, insert-between, insert-none, pick-begun, pick_more, pick-done)
