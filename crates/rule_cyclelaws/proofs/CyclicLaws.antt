-- Labels can form a ring exactly if some closed walk of rules uses only =, or both > and <, and exactly if `cyclic` computes to true.
-- The rules of a ring are a walk whose epochs return (`EpochLaws`); on the numbers of the rules any two rules of a closed walk reach each other.
use mathlib.Core.Path.{◌≡◌, refl, sym, ap, subst, subst⁻¹, ◌∙◌}
use mathlib.Core.Logic.{inl, inr, ⊎_elim}
use mathlib.Core.Bool.{Bool, true, ◌&&◌}
use mathlib.Core.List.Memᴰ
use mathlib.Core.List.{List, [], ◌∷◌, ◌++◌, Memᴰ}
use Prim.Native.Nat.{ℕ, ◌<◌}
use lib.Dec.{eqb}
use lib.ListN.{length}
use borrow.Author.Tests.{eqb-true, eq-eqb}
use Rattle.relation.specs.Lists.{any, all}
use Rattle.relation.specs.Transitive.{Plus, one, more}
use Rattle.relation.specs.Finite.{Below, related, rows_of, closed, reaches, has_ring}
use Rattle.relation.proofs.ListLaws.{or_cases, or_left, or_right, and_left, and_right, and_intro, any-true, any_intro, all_intro, any_below-true, any_below_intro, mem_index, index_mem}
use Rattle.relation.proofs.FiniteLaws.{reaches_plus, plus_reaches, has_ring-ring, ring-has_ring}
use Rattle.model.specs.declared.Rule.{Rule}
use Rattle.model.specs.Rules.{Label, label, stands, matches, DependsOn, Known}
use Rattle.model.specs.Cyclic.{Cyclic, Walk, only_equal, both_ways, ClosedWalk, no_rule, rule_at, leads, has, equal_leads, meets, cyclic}
use Rattle.rule_cyclelaws.specs.Theorem.{CyclicExactly}
use Rattle.rule_cyclelaws.proofs.EpochLaws.{Epochs, epochs_mixed, mixed_epochs}

-- ---- rings of labels and walks of rules

module _ (a b c : Bool) where
  and_parts : a && b && c ≡ true → (a ≡ true) × (b ≡ true) × (c ≡ true)
  and_parts e =
      let front = and_left (a && b) c e in
      (and_left a b front, and_right a b front, and_right (a && b) c e)

  and-all : a ≡ true → b ≡ true → c ≡ true → a && b && c ≡ true
  and-all p q r = rw (p, q, r)

module _ (r : Rule) (l m : Label) where
  matches_parts : matches r l m ≡ true → (l.name ≡ r.first) × (m.name ≡ r.second) × (stands r.predicate l.epoch m.epoch ≡ true)
  unfolding matches
  matches_parts e =
      let p = and_parts (eqb l.name r.first) (eqb m.name r.second) _ e in
      (eqb-true _ _ p.0, eqb-true _ _ p.1, p.2)

  matches_intro : l.name ≡ r.first → m.name ≡ r.second → stands r.predicate l.epoch m.epoch ≡ true → matches r l m ≡ true
  unfolding matches
  matches_intro f s e = and-all _ _ _ (eq-eqb _ _ f) (eq-eqb _ _ s) e

module _ (rules : List Rule) where
  -- a walk of one or more rules, with epochs
  abbrev Timed : Label → Label → Type 0
  Timed l m = (r : Rule) × (rs : List Rule) × Walk rules l.name (r ∷ rs) m.name × Epochs l.epoch (r ∷ rs) m.epoch

  timed_one : (l m : Label) → DependsOn rules l m → Timed l m
  unfolding DependsOn Walk Epochs
  timed_one l m d =
      let p = matches_parts d.0 l m d.2 in
      (d.0, [], (d.1, sym p.0, sym p.1), (m.epoch, p.2, refl))

  timed_more : (l m n : Label) → DependsOn rules l m → Timed m n → Timed l n
  unfolding DependsOn Walk Epochs
  timed_more l m n d w =
      let p = matches_parts d.0 l m d.2 in
      (d.0, w.0 ∷ w.1, (d.1, sym p.0, subst (λ (a : ℕ). Walk rules a (w.0 ∷ w.1) n.name) p.1 w.2), (m.epoch, p.2, w.3))

  plus_timed : {l m : Label} → Plus (DependsOn rules) l m → Timed l m
  plus_timed (one {x = l} {y = m} d) = timed_one l m d
  plus_timed (more {x = l} {y = m} {z = n} d w) = timed_more l m n d (plus_timed w)

  timed_plus : (r : Rule) (rs : List Rule) (a t b u : ℕ) → Walk rules a (r ∷ rs) b → Epochs t (r ∷ rs) u → Plus (DependsOn rules) (label a t) (label b u)
  unfolding DependsOn Walk Epochs
  timed_plus r [] a t b u w e = one (r, w.0, matches_intro r _ _ (sym w.1) (sym w.2) (rw e.2 at e.1))
  timed_plus r (s ∷ rs) a t b u w e =
      more (r, w.0, matches_intro r _ _ (sym w.1) refl e.1) (timed_plus s rs r.second e.0 b u w.2 e.2)

  walk_member : (a : ℕ) (rs : List Rule) (b : ℕ) → Walk rules a rs b → (x : Rule) → Memᴰ x rs → Memᴰ x rules
  unfolding Walk
  walk_member a [] b w x m = absurd (Memᴰ.not-nil m)
  walk_member a (r ∷ rs) b w x m = ⊎_elim (λ e. rw e w.0) (walk_member r.second rs b w.2 x) (Memᴰ.cases_cons m)

pub cyclic-walk : (rules : List Rule) → Cyclic rules → ClosedWalk rules
unfolding Cyclic ClosedWalk
cyclic-walk rules c =
    let w = plus_timed rules c.1 in
    (c.0.name, w.0, w.1, w.2, epochs_mixed c.0.epoch (w.0 ∷ w.1) w.3)

pub walk-cyclic : (rules : List Rule) → Known rules → ClosedWalk rules → Cyclic rules
unfolding Cyclic ClosedWalk Known
walk-cyclic rules known c =
    let (a, r, rs, w, mixed) = c in
    let e = mixed_epochs (r ∷ rs) (λ x m. known x (walk_member rules a (r ∷ rs) a w x m)) mixed in
    (label a e.0, timed_plus rules r rs a e.0 a e.0 w e.1)

-- ---- walks of rules and of their numbers

module _ (rules : List Rule) where
  walk-append : (a : ℕ) (rs : List Rule) (b : ℕ) (ss : List Rule) (c : ℕ) → Walk rules a rs b → Walk rules b ss c → Walk rules a (rs ++ ss) c
  unfolding Walk
  walk-append a [] b ss c v w = rw v w
  walk-append a (r ∷ rs) b ss c v w = (v.0, v.1, walk-append r.second rs b ss c v.2 w)

  -- a walk up to one of its rules, and from there on
  abbrev Split : ℕ → Rule → ℕ → Type 0
  Split a x b = (ps : List Rule) × (qs : List Rule) × Walk rules a ps x.first × Walk rules x.second qs b

  walk_split : (a : ℕ) (rs : List Rule) (b : ℕ) (x : Rule) → Walk rules a rs b → Memᴰ x rs → Split a x b
  unfolding Walk
  walk_split a [] b x w m = absurd (Memᴰ.not-nil m)
  walk_split a (r ∷ rs) b x w m = ⊎_elim
      (λ e. ([], rs, rw e (sym w.1), rw e w.2))
      (λ m. let s = walk_split r.second rs b x w.2 m in (r ∷ s.0, s.1, (w.0, w.1, s.2), s.3))
      (Memᴰ.cases_cons m)

  -- any two rules of a closed walk are joined by a walk
  walk-between : (a : ℕ) (rs : List Rule) (x y : Rule) → Walk rules a rs a → Memᴰ x rs → Memᴰ y rs
      → (ms : List Rule) × Walk rules x.second ms y.first
  walk-between a rs x y w m n =
      let s = walk_split a rs a x w m in
      let t = walk_split a rs a y w n in
      (s.1 ++ t.0, walk-append x.second s.1 a t.0 y.first s.3 t.2)

  module _ (Q : Rule → Bool) where
    -- rule i leads to rule j, and Q holds of both
    abbrev Linked : ℕ → ℕ → Type 0
    Linked = Below (length rules) (λ i j. Q (rule_at rules i) && Q (rule_at rules j) && leads rules i j)

    -- from the name where rule i begins to the name where rule j begins
    abbrev Walked : ℕ → ℕ → Type 0
    Walked i j =
        (rs : List Rule) × Walk rules (rule_at rules i).first (rule_at rules i ∷ rs) (rule_at rules j).first × (all Q (rule_at rules i ∷ rs) ≡ true)

    linked_parts : (i j : ℕ) → Linked i j → Memᴰ (rule_at rules i) rules × (Q (rule_at rules i) ≡ true) × ((rule_at rules i).second ≡ (rule_at rules j).first)
    unfolding leads
    linked_parts i j l =
        let p = and_parts (Q (rule_at rules i)) (Q (rule_at rules j)) _ l.2 in
        (index_mem rules i no_rule l.0 refl, p.0, eqb-true _ _ p.2)

    linked_intro : (i j : ℕ) → i < length rules → j < length rules → Q (rule_at rules i) ≡ true → Q (rule_at rules j) ≡ true
        → (rule_at rules i).second ≡ (rule_at rules j).first → Linked i j
    unfolding leads
    linked_intro i j hi hj p q e = (hi, hj, and-all _ _ _ p q (eq-eqb _ _ e))

    walked_one : (i j : ℕ) → Linked i j → Walked i j
    unfolding Walk all
    walked_one i j l =
        let p = linked_parts i j l in
        ([], (p.0, refl, p.2), and_intro _ _ p.1 refl)

    walked_more : (i j k : ℕ) → Linked i j → Walked j k → Walked i k
    unfolding Walk all
    walked_more i j k l w =
        let p = linked_parts i j l in
        let rest = rule_at rules j ∷ w.0 in
        (rest, (p.0, refl, subst⁻¹ (λ (a : ℕ). Walk rules a rest (rule_at rules k).first) p.2 w.1), and_intro _ _ p.1 w.2)

    plus_walked : {i j : ℕ} → Plus Linked i j → Walked i j
    plus_walked (one {x = i} {y = j} l) = walked_one i j l
    plus_walked (more {x = i} {y = j} {z = k} l w) = walked_more i j k l (plus_walked w)

    -- a walk from where rule i ends to where rule k begins
    walk_plus : (a : ℕ) (rs : List Rule) (b i k : ℕ) → i < length rules → k < length rules → Q (rule_at rules i) ≡ true → Q (rule_at rules k) ≡ true
        → (rule_at rules i).second ≡ a → (rule_at rules k).first ≡ b → Walk rules a rs b → all Q rs ≡ true → Plus Linked i k
    unfolding Walk all
    walk_plus a [] b i k hi hk p q s f w t = one (linked_intro i k hi hk p q (s ∙ w ∙ sym f))
    walk_plus a (r ∷ rs) b i k hi hk p q s f w t =
        let (j, hj, e) = mem_index w.0 no_rule in
        let h : Q (rule_at rules j) ≡ true = ap Q e ∙ and_left (Q r) _ t in
        more (linked_intro i j hi hj p h (s ∙ sym w.1 ∙ ap (λ x. x.first) (sym e)))
        (walk_plus r.second rs b j k hj hk h q (ap (λ x. x.second) e) f w.2 (and_right (Q r) _ t))

-- ---- the computed definition

abbrev equal : Rule → Bool
equal r = eqb r.predicate 0

abbrev every : Rule → Bool
every r = true

module _ (rules : List Rule) where
  -- a > rule i and a < rule j reach each other
  abbrev Meeting : Type 0
  Meeting =
      (i : ℕ) × (j : ℕ) × (i < length rules) × (j < length rules) × (has rules 1 i ≡ true) × (has rules 2 j ≡ true)
      × Plus (Linked rules every) i j × Plus (Linked rules every) j i

  -- the table that `cyclic` asks
  abbrev table : List ℕ
  table = closed (length rules) (rows_of (leads rules) (length rules))

  meets_meeting : meets rules table ≡ true → Meeting
  unfolding meets reaches
  meets_meeting e =
      let n = length rules in
      let (i, hi, p) = any_below-true _ n e in
      let (j, hj, q) = any_below-true _ n (and_right (has rules 1 i) _ p) in
      let r = and_parts (has rules 2 j) (related table i j) (related table j i) q in
      (i, j, hi, hj, and_left (has rules 1 i) _ p, r.0, reaches_plus (leads rules) n i j hi hj r.1, reaches_plus (leads rules) n j i hj hi r.2)

  meeting_meets : Meeting → meets rules table ≡ true
  unfolding meets reaches
  meeting_meets (i, j, hi, hj, p, q, v, w) =
      let n = length rules in
      let inner = and-all (has rules 2 j) (related table i j) (related table j i) q (plus_reaches (leads rules) n i j v) (plus_reaches (leads rules) n j i w) in
      any_below_intro _ n i hi (and_intro (has rules 1 i) _ p (any_below_intro _ n j hj inner))

  meeting_walk : Meeting → ClosedWalk rules
  unfolding ClosedWalk both_ways has
  meeting_walk (i, j, hi, hj, p, q, v, w) =
      let r = rule_at rules i in
      let s = rule_at rules j in
      let out = plus_walked rules every v in
      let back = plus_walked rules every w in
      let rest = out.0 ++ (s ∷ back.0) in
      let greater : any (λ x. eqb x.predicate 1) (r ∷ rest) ≡ true = any_intro _ (Memᴰ.head refl) p in
      let less : any (λ x. eqb x.predicate 2) (r ∷ rest) ≡ true = any_intro _ (Memᴰ.append_right (r ∷ out.0) (Memᴰ.head refl)) q in
      (r.first, r, rest, walk-append rules r.first (r ∷ out.0) s.first (s ∷ back.0) r.first out.1 back.1, inr (and_intro _ _ greater less))

  ring-walk : has_ring (equal_leads rules) (length rules) ≡ true → ClosedWalk rules
  unfolding ClosedWalk only_equal equal_leads has
  ring-walk e =
      let (i, v) = has_ring-ring (equal_leads rules) (length rules) e in
      let w = plus_walked rules equal v in
      ((rule_at rules i).first, rule_at rules i, w.0, w.1, inl w.2)

  walk-ring : (a : ℕ) (r : Rule) (rs : List Rule) → Walk rules a (r ∷ rs) a → only_equal (r ∷ rs) ≡ true → has_ring (equal_leads rules) (length rules) ≡ true
  unfolding Walk only_equal all equal_leads has
  walk-ring a r rs w e =
      let (i, h, q) = mem_index w.0 no_rule in
      let p : equal (rule_at rules i) ≡ true = ap equal q ∙ and_left (equal r) _ e in
      ring-has_ring (equal_leads rules) (length rules)
      (i, walk_plus rules equal r.second rs a i i h h p p (ap (λ x. x.second) q) (ap (λ x. x.first) q ∙ w.1) w.2 (and_right (equal r) _ e))

  walk-reach : (a : ℕ) (rs : List Rule) (i j : ℕ) → i < length rules → j < length rules → Walk rules a rs a
      → Memᴰ (rule_at rules i) rs → Memᴰ (rule_at rules j) rs → Plus (Linked rules every) i j
  walk-reach a rs i j hi hj w m n =
      let (ms, v) = walk-between rules a rs (rule_at rules i) (rule_at rules j) w m n in
      walk_plus rules every _ ms _ i j hi hj refl refl refl refl v (all_intro every ms (λ x m. refl))

  -- a rule of predicate p on a walk, by its number
  walk-has : (p a : ℕ) (rs : List Rule) (b : ℕ) → Walk rules a rs b → any (λ r. eqb r.predicate p) rs ≡ true
      → (i : ℕ) × (i < length rules) × (has rules p i ≡ true) × Memᴰ (rule_at rules i) rs
  unfolding has
  walk-has p a rs b w e =
      let (x, m, q) = any-true (λ r. eqb r.predicate p) rs e in
      let (i, h, s) = mem_index (walk_member rules a rs b w x m) no_rule in
      (i, h, rw s q, rw s m)

  walk_meeting : (a : ℕ) (rs : List Rule) → Walk rules a rs a → both_ways rs ≡ true → Meeting
  unfolding both_ways
  walk_meeting a rs w e =
      let (i, hi, p, m) = walk-has 1 a rs a w (and_left _ _ e) in
      let (j, hj, q, n) = walk-has 2 a rs a w (and_right (any (λ r. eqb r.predicate 1) rs) _ e) in
      (i, j, hi, hj, p, q, walk-reach a rs i j hi hj w m n, walk-reach a rs j i hj hi w n m)

pub true-walk : (rules : List Rule) → cyclic rules ≡ true → ClosedWalk rules
unfolding cyclic
true-walk rules e = ⊎_elim (ring-walk rules) (λ m. meeting_walk rules (meets_meeting rules m)) (or_cases _ _ e)

pub walk-true : (rules : List Rule) → ClosedWalk rules → cyclic rules ≡ true
unfolding cyclic ClosedWalk
walk-true rules (a, r, rs, w, mixed) = ⊎_elim
    (λ e. or_left _ _ (walk-ring rules a r rs w e))
    (λ b. or_right (has_ring (equal_leads rules) (length rules)) _ (meeting_meets rules (walk_meeting rules a (r ∷ rs) w b)))
    mixed

pub cyclic-true : (rules : List Rule) → Known rules → cyclic rules ≡ true → Cyclic rules
cyclic-true rules known e = walk-cyclic rules known (true-walk rules e)

pub true-cyclic : (rules : List Rule) → Cyclic rules → cyclic rules ≡ true
true-cyclic rules c = walk-true rules (cyclic-walk rules c)

pub cyclic_exactly : CyclicExactly
cyclic_exactly rules known = ((cyclic-walk rules, walk-cyclic rules known), (true-cyclic rules, cyclic-true rules known))
