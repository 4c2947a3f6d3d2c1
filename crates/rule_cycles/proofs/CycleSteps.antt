-- The code's steps: one law for each return and each turn of a loop, whose premises are what is known at that place.
use mathlib.Core.Path.{◌≡◌, refl, sym, ap, ◌∙◌}
use mathlib.Core.Bool.{Bool, true, false, cond, not, ◌&&◌, ◌||◌, and-true}
use mathlib.Core.Logic.{◌⊎◌, inl, inr}
use mathlib.Core.List.{List}
use Prim.Native.Nat.{ℕ, ◌+◌, ◌*◌, ◌%◌, ◌^◌, ◌≤◌, ◌<◌}
use native.Mathlib.Numerals.{add-one}
use native.Mathlib.Omega.{arith}
use lib.Bits.{bit_and}
use lib.Dec.{eqb}
use lib.ListN.{length, get_or, take, set}
use lib.Pow.{pow_mono}
use lib.Seq.{take-suc-set, get_or-set_same, get_or-set_other}
use borrow.Author.Rules.{rules}
use borrow.Author.Tests.{eq-eqb, eqb-true, eqb-false, ne_eqb, lt-ltb, not-true, not-false}
use Rattle.relation.specs.Bits.{bit, with_bit, mask_of, without}
use Rattle.relation.specs.Tables.{Blank}
use Rattle.relation.specs.Lists.{any_below, tabulate}
use Rattle.relation.specs.Transitive.{Ring}
use Rattle.relation.specs.Finite.{Below, related, rows_of, closed, has_ring, reaches}
use Rattle.relation.proofs.BitLaws.{bit-zero, power_is, with_below, bit_mask, mask_below, mask_ext}
use Rattle.relation.proofs.FiniteLaws.{Agree, table_related, table_ring, related-first, related-closed, reaches_plus, has_ring_ext, has_ring-ring, ring-has_ring}
use Rattle.relation.proofs.ListLaws.{clash, untrue, and_left, and_right, and_intro, or_left, or_right, any_below-true, any_below_intro, any_below_ext}
use Rattle.relation.proofs.MaskLaws.{member_mask, mask_cut, mask_false, mask_begun, mask_more, mask_all}
use Rattle.relation.proofs.TableLaws.{blank_made}
use Rattle.relation.proofs.SetLaws.{mask_without}
use Rattle.relation.proofs.TransitiveLaws.{Moves, plus_trans, plus_first, plus_map, plus_moves}
use Rattle.relation.proofs.UnionLaws.{bit-ones}
use Rattle.model.specs.Limits.{most_rules}
use Rattle.model.specs.declared.Rule.{Rule}
use Rattle.model.specs.Cyclic.{no_rule, rule_at, leads, has, equal_leads, meets, cyclic}
use Rattle.rule_cycles.specs.Links.{starts, linked, in_bucket, Buckets, near, everything, Suspects, meets_by, meets_from}
use Rattle.rule_match.proofs.MatchSteps.{length_mapped}
use Rattle.std.proofs.Common.{length-take}

-- ---- the rules, as they are read

abbrev pub item : List Rule → ℕ → Rule
item rules i = get_or rules i (record { first = 0; predicate = 0; second = 0 })

held_at : (rules : List Rule) (i : ℕ) → rule_at rules i ≡ item rules i
unfolding no_rule
held_at rules i = refl

pub held_few : (rules : List Rule) (n : ℕ) → n ≤ most_rules → length (take n rules) ≤ most_rules
held_few rules n h = omega (arith, length-take n rules)

-- ---- having, and what a rule leads to: a mask made rule by rule

pub having-more : (rules : List Rule) (p i mask next : ℕ) → i < length rules → mask ≡ mask_of (has rules p) i
    → next ≡ cond (eqb (item rules i).predicate p) (with_bit mask i) mask → next ≡ mask_of (has rules p) (i + 1)
unfolding has
having-more rules p i mask next h e f = mask_more (has rules p) i mask next (eqb (item rules i).predicate p) e (rw (held_at rules i)) f

pub starting_more : (rules : List Rule) (name j mask next : ℕ) → j < length rules → mask ≡ mask_of (starts rules name) j
    → next ≡ cond (eqb name (item rules j).first) (with_bit mask j) mask → next ≡ mask_of (starts rules name) (j + 1)
unfolding starts
starting_more rules name j mask next h e f = mask_more (starts rules name) j mask next (eqb name (item rules j).first) e (rw (held_at rules j)) f

-- ---- row

module _ (among i led : ℕ) (b : Bool) (e : b ≡ bit among i) where
  pub row_out : not b ≡ true → 0 ≡ cond (bit among i) (bit_and led among) 0
  row_out f = rw (← e, not-true b f)

  pub row_in : not b ≡ false → bit_and led among ≡ cond (bit among i) (bit_and led among) 0
  row_in f = rw (← e, not-false b f)

pub linked-row : (rules : List Rule) (among i led r : ℕ) → led ≡ mask_of (starts rules (item rules i).second) (length rules)
    → r ≡ cond (bit among i) (bit_and led among) 0 → r ≡ mask_of (linked among rules i) (length rules)
unfolding linked starts leads
linked-row rules among i led r e q = q ∙ go (bit among i) refl
  where
    go : (b : Bool) → bit among i ≡ b → cond b (bit_and led among) 0 ≡ mask_of (linked among rules i) (length rules)
    go true t =
        let n = length rules in
        let p = starts rules (item rules i).second in
        rw e (mask_cut p n among ∙ mask_ext _ _ n (λ j k. rw (t, held_at rules i)))
    go false f = sym (mask_false (linked among rules i) (length rules) (λ j. rw f))

-- ---- fill, fill_near: tables of a relation

-- the first i rows
pub filled : (ℕ → ℕ → Bool) → ℕ → ℕ → List ℕ
filled R n i = tabulate (λ k. mask_of (R k) n) i

module _ (R : ℕ → ℕ → Bool) (n : ℕ) (rows : List ℕ) where
  pub fill-begun : take 0 rows ≡ filled R n 0
  unfolding filled tabulate
  fill-begun = refl

  pub fill_more : (i mask : ℕ) → length rows ≡ most_rules → n ≤ most_rules → i < n → take i rows ≡ filled R n i → mask ≡ mask_of (R i) n
      → take (i + 1) (set rows i mask) ≡ filled R n (i + 1)
  unfolding filled tabulate
  fill_more i mask h few l e f =
      let inside : i < length rows = omega arith in
      rw (add-one i, take-suc-set rows i mask inside, e, f)

  pub fill_done : (i : ℕ) → i ≤ n → n ≤ i → take i rows ≡ filled R n i → take n rows ≡ rows_of R n
  unfolding filled rows_of
  fill_done i a b e =
      let q : i ≡ n = omega arith in
      rw q at e

-- ---- fill_buckets

pub buckets_none : (rules : List Rule) (table : List ℕ) → Blank 64 table → Buckets rules 0 table
buckets_none rules table h = record { at = λ b l. h.at b l ∙ mask_begun (in_bucket rules b) }

pub buckets_more : (rules : List Rule) (table : List ℕ) (j b next : ℕ) → length table ≡ 64 → j < length rules → Buckets rules j table
    → b ≡ (item rules j).first % 64 → b < 64 → next ≡ with_bit (get_or table b 0) j → Buckets rules (j + 1) (set table b next)
unfolding in_bucket
buckets_more rules table j b next size h t e l q = record { at = λ c k. go c k (eqb c b) refl }
  where
    go : (c : ℕ) → c < 64 → (u : Bool) → eqb c b ≡ u → get_or (set table b next) c 0 ≡ mask_of (in_bucket rules c) (j + 1)
    go c k u z =
        mask_more (in_bucket rules c) j (get_or table c 0) (get_or (set table b next) c 0) u (t.at c k)
        (sym z ∙ rw (held_at rules j, ← e)) (each u z)
      where
        each : (u : Bool) → eqb c b ≡ u → get_or (set table b next) c 0 ≡ cond u (with_bit (get_or table c 0) j) (get_or table c 0)
        each true z = rw (eqb-true c b z) (get_or-set_same table b next 0 (omega arith) ∙ q)
        each false z = get_or-set_other table b c next 0 (eqb-false c b z)

-- a bucket, read and written, fits its word
pub bucket-small : (rules : List Rule) (table : List ℕ) (k b : ℕ) → Buckets rules k table → k ≤ most_rules → b < 64 → get_or table b 0 < 2 ^ 64
bucket-small rules table k b t few l =
    let m = mask_below (in_bucket rules b) k in
    let p = pow_mono {i = k} {j = 64} (omega arith) in
    rw (t.at b l) (omega (arith, m, p))

pub bucket-small_yet : (rules : List Rule) (table : List ℕ) (k b n : ℕ) → k ≤ n → n ≤ most_rules → Buckets rules k table → b < 64 → get_or table b 0 < 2 ^ 64
bucket-small_yet rules table k b n h few t l = bucket-small rules table k b t (omega arith) l

pub bucket-fits : (rules : List Rule) (table : List ℕ) (j b next n : ℕ) → Buckets rules j table → j < n → n ≤ most_rules → b < 64 → next ≡ with_bit (get_or table b 0) j
    → next < 4294967296
bucket-fits rules table j b next n t h few l q =
    let m = mask_below (in_bucket rules b) j in
    let p = pow_mono {i = j} {j = 32} (omega arith) in
    rw (q, t.at b l) (with_below (mask_of (in_bucket rules b) j) j 32 (omega (arith, m, p)) (omega arith))

pub buckets_all : (rules : List Rule) (table : List ℕ) (k n : ℕ) → Buckets rules k table → k ≤ n → n ≤ k → Buckets rules n table
buckets_all rules table k n t a b = let q : k ≡ n = omega arith in rw (← q) t

-- ---- fill_near

module _ (row i predicate : ℕ) where
  pub apart-equal : predicate ≡ 0 → row ≡ cond (eqb predicate 0) row (without row (2 ^ i))
  apart-equal e = rw e

  pub apart_other : (r : ℕ) → (predicate ≡ 0 → ⊥) → i < 64 → r ≡ without row (1 * 2 ^ i % 18446744073709551616) → r ≡ cond (eqb predicate 0) row (without row (2 ^ i))
  apart_other r f h e = rw (ne_eqb predicate 0 f, ← power_is i h) e

pub near-row : (rules : List Rule) (buckets : List ℕ) (among i b r : ℕ) → i < length rules → length rules ≤ most_rules → Buckets rules (length rules) buckets
    → b ≡ (item rules i).second % 64 → b < 64
    → r ≡ cond (eqb (item rules i).predicate 0) (bit_and (get_or buckets b 0) among) (without (bit_and (get_or buckets b 0) among) (2 ^ i))
    → r ≡ mask_of (near among rules i) (length rules)
unfolding near has
near-row rules buckets among i b r h few t e l q =
    let n = length rules in
    let p : ℕ → Bool = λ j. bit among j && in_bucket rules b j in
    let base : bit_and (get_or buckets b 0) among ≡ mask_of p n = rw (t.at b l) (mask_cut (in_bucket rules b) n among) in
    let c = eqb (item rules i).predicate 0 in
    q ∙ ap (λ (m : ℕ). cond c m (without m (2 ^ i))) base ∙ go p c ∙ mask_ext (λ j. p j && (c || not (eqb j i))) _ n (λ j k. rw (held_at rules i, ← e))
  where
    go : (p : ℕ → Bool) (c : Bool) → cond c (mask_of p (length rules)) (without (mask_of p (length rules)) (2 ^ i)) ≡ mask_of (λ j. p j && (c || not (eqb j i))) (length rules)
    go p true = mask_ext p _ (length rules) (λ j k. sym (and-true (p j)))
    go p false = mask_without p (length rules) i (omega arith)

-- ---- may_ring

pub may-ring : (R : ℕ → ℕ → Bool) (n : ℕ) (rows : List ℕ) (b : Bool) → take n rows ≡ rows_of R n → b ≡ has_ring (related rows) n → b ≡ has_ring R n
may-ring R n rows b e f = f ∙ table_ring R n rows e

pub may_none : (rules : List Rule) (among n : ℕ) → among ≡ 0 → false ≡ has_ring (near among rules) n
unfolding near
may_none rules among n z =
    sym (untrue (has_ring (near among rules) n) (λ t.
    let s = plus_first (has_ring-ring (near among rules) n t).1 in
    clash (bit among s.0) (and_left (bit among s.0) _ (and_left (bit among s.0 && _) _ s.1.2)) (ap (λ (x : ℕ). bit x s.0) z ∙ bit-zero s.0)))

-- a relation that goes with leading, into the set, and of a > or < rule to another one, has no ring where rules do not seem to lead round
straight : (rules : List Rule) (among n : ℕ) (b : Bool) (S : ℕ → ℕ → Type 0) → b ≡ has_ring (near among rules) n → not b ≡ true
    → ((i j : ℕ) → S i j → (i < n) × (j < n) × (bit among j ≡ true) × (leads rules i j ≡ true) × (has rules 0 i || not (eqb j i) ≡ true)) → Ring S → ⊥
unfolding near leads in_bucket
straight rules among n b S e f g r =
    clash (has_ring (near among rules) n)
    (ring-has_ring (near among rules) n (r.0, plus_map (λ x. x) (λ i j s. let h = g i j s in (h.0, h.1, seems i j h.2 h.3 h.4)) r.1))
    (sym e ∙ not-true b f)
  where
    seems : (i j : ℕ) → bit among j ≡ true → eqb (rule_at rules i).second (rule_at rules j).first ≡ true → has rules 0 i || not (eqb j i) ≡ true
        → bit among j && eqb ((rule_at rules i).second % 64) ((rule_at rules j).first % 64) && (has rules 0 i || not (eqb j i)) ≡ true
    seems i j t l d =
        and_intro (bit among j && eqb ((rule_at rules i).second % 64) ((rule_at rules j).first % 64)) _
        (and_intro (bit among j) _ t
        (eq-eqb ((rule_at rules i).second % 64) ((rule_at rules j).first % 64) (ap (λ (x : ℕ). x % 64) (eqb-true (rule_at rules i).second (rule_at rules j).first l))))
        d

-- ---- meets_at

module _ (rule : Rule) (rows : List ℕ) (i j : ℕ) where
  pub at_other : (rule.predicate ≡ 2 → ⊥) → false ≡ meets_by rule rows i j
  unfolding meets_by
  at_other f = rw (ne_eqb rule.predicate 2 f)

  pub at_both : (a b : Bool) → rule.predicate ≡ 2 → a ≡ bit (get_or rows i 0) j → a ≡ true → b ≡ bit (get_or rows j 0) i → b ≡ meets_by rule rows i j
  unfolding meets_by related
  at_both a b p e t f = rw (eq-eqb rule.predicate 2 p, ← e, t) f

  pub at_none : (a : Bool) → rule.predicate ≡ 2 → a ≡ bit (get_or rows i 0) j → a ≡ false → false ≡ meets_by rule rows i j
  unfolding meets_by related
  at_none a p e f = rw (eq-eqb rule.predicate 2 p, ← e, f)

-- ---- searches of the numbers below a bound

module _ (p : ℕ → Bool) where
  pub none-begun : any_below p 0 ≡ false
  unfolding any_below
  none-begun = refl

  none_more : (i : ℕ) (b : Bool) → any_below p i ≡ false → b ≡ p i → b ≡ false → any_below p (i + 1) ≡ false
  unfolding any_below
  none_more i b none e f = rw (add-one i, none) (sym e ∙ f)

-- ---- rules_meet: from one > rule

abbrev pub meeting : List Rule → List ℕ → ℕ → ℕ → Bool
meeting rules rows i j = meets_by (rule_at rules j) rows i j

module _ (rules : List Rule) (rows : List ℕ) where
  from_other : (i : ℕ) → i < length rules → ((item rules i).predicate ≡ 1 → ⊥) → false ≡ meets_from rules rows i
  unfolding meets_from has
  from_other i h f = rw (held_at rules i, ne_eqb (item rules i).predicate 1 f)

  pub from_more : (i j : ℕ) (b : Bool) → j < length rules → any_below (meeting rules rows i) j ≡ false
      → b ≡ meets_by (item rules j) rows i j → b ≡ false → any_below (meeting rules rows i) (j + 1) ≡ false
  from_more i j b h none e f = none_more (meeting rules rows i) j b none (rw (held_at rules j) e) f

  -- of a > rule it is the search
  from_greater : (i : ℕ) → length rules ≤ most_rules → i < length rules → (item rules i).predicate ≡ 1
      → meets_from rules rows i ≡ any_below (meeting rules rows i) (length rules)
  unfolding meets_from has
  from_greater i few h e = rw (held_at rules i, eq-eqb (item rules i).predicate 1 e)

  from_found : (i j : ℕ) (b : Bool) → length rules ≤ most_rules → i < length rules → (item rules i).predicate ≡ 1
      → j < length rules → b ≡ meets_by (item rules j) rows i j → b ≡ true → true ≡ meets_from rules rows i
  from_found i j b few hi p hj e t =
      sym (from_greater i few hi p ∙ any_below_intro (meeting rules rows i) (length rules) j hj (rw (held_at rules j) (sym e ∙ t)))

  from_done : (i j : ℕ) → length rules ≤ most_rules → i < length rules → (item rules i).predicate ≡ 1
      → j ≤ length rules → length rules ≤ j → any_below (meeting rules rows i) j ≡ false → false ≡ meets_from rules rows i
  from_done i j few hi p a b none =
      let q : j ≡ length rules = omega arith in
      sym (from_greater i few hi p ∙ (rw q at none))

-- and from all

module _ (rules : List Rule) (rows : List ℕ) where
  pub meet_other : (i : ℕ) → i < length rules → ((item rules i).predicate ≡ 1 → ⊥) → any_below (meets_from rules rows) i ≡ false
      → any_below (meets_from rules rows) (i + 1) ≡ false
  meet_other i h f none = none_more (meets_from rules rows) i false none (from_other rules rows i h f) refl

  module _ (few : length rules ≤ most_rules) where
    pub meet_more : (i j : ℕ) → i < length rules → (item rules i).predicate ≡ 1 → j ≤ length rules → length rules ≤ j → any_below (meeting rules rows i) j ≡ false
        → any_below (meets_from rules rows) i ≡ false → any_below (meets_from rules rows) (i + 1) ≡ false
    meet_more i j h p a b met none = none_more (meets_from rules rows) i false none (from_done rules rows i j few h p a b met) refl

    meet_count : meets rules rows ≡ any_below (meets_from rules rows) (length rules)
    unfolding meets meets_from meets_by has
    meet_count = refl

    pub meet_found : (i j : ℕ) (b : Bool) → i < length rules → (item rules i).predicate ≡ 1 → j < length rules → b ≡ meets_by (item rules j) rows i j → b ≡ true
        → true ≡ meets rules rows
    meet_found i j b hi p hj e t =
        sym (meet_count ∙ any_below_intro (meets_from rules rows) (length rules) i hi (sym (from_found rules rows i j b few hi p hj e t)))

    pub meet_done : (i : ℕ) → i ≤ length rules → length rules ≤ i → any_below (meets_from rules rows) i ≡ false → false ≡ meets rules rows
    meet_done i a b none =
        let q : i ≡ length rules = omega arith in
        sym (meet_count ∙ (rw q at none))

-- ---- equal_ring

module _ (rules : List Rule) (among : ℕ) (c : among ≡ mask_of (has rules 0) (length rules)) where
  equal_agrees : Agree (length rules) (linked among rules) (equal_leads rules)
  unfolding linked equal_leads
  equal_agrees i j hi hj =
      let p = has rules 0 in
      let n = length rules in
      rw (c, bit_mask p n i, bit_mask p n j, lt-ltb i n hi, lt-ltb j n hj)

  pub equal-ring : (rows : List ℕ) (b : Bool) → take (length rules) rows ≡ rows_of (linked among rules) (length rules)
      → b ≡ has_ring (related rows) (length rules) → b ≡ has_ring (equal_leads rules) (length rules)
  equal-ring rows b e f =
      let n = length rules in
      f ∙ table_ring (linked among rules) n rows e ∙ has_ring_ext (linked among rules) (equal_leads rules) n equal_agrees

-- ---- mixed_ring

equal_or_not : (x y : ℕ) → (x ≡ y) ⊎ (x ≡ y → ⊥)
equal_or_not x y = go (eqb x y) refl
  where
    go : (t : Bool) → eqb x y ≡ t → (x ≡ y) ⊎ (x ≡ y → ⊥)
    go true e = inl (eqb-true x y e)
    go false e = inr (eqb-false x y e)

-- what two rules that meet are, and that they reach each other
module _ (rules : List Rule) (rows : List ℕ) where
  meets-by : meets rules rows ≡ true
      → (i : ℕ) × (i < length rules) × (has rules 1 i ≡ true) × (j : ℕ) × (j < length rules) × (has rules 2 j ≡ true) × (related rows i j ≡ true) × (related rows j i ≡ true)
  unfolding meets
  meets-by t =
      let (i, hi, e) = any_below-true _ (length rules) t in
      let (j, hj, f) = any_below-true _ (length rules) (and_right (has rules 1 i) _ e) in
      let g = and_left (has rules 2 j && related rows i j) (related rows j i) f in
      (i, hi, and_left (has rules 1 i) _ e, j, hj, and_left (has rules 2 j) (related rows i j) g, and_right (has rules 2 j) (related rows i j) g, and_right (has rules 2 j && related rows i j) (related rows j i) f)

module _ (rules : List Rule) (few : length rules ≤ most_rules) where
  abbrev ends : List ℕ
  ends = closed (length rules) (rows_of (leads rules) (length rules))

  none-having : (p mask i : ℕ) → mask ≡ mask_of (has rules p) (length rules) → mask ≡ 0 → i < length rules → has rules p i ≡ true → ⊥
  none-having p mask i c z h e =
      let l = h in
      clash (bit mask i) (rw c (member_mask (has rules p) (length rules) i l e)) (rw z (bit-zero i))

  no_greater : (mask : ℕ) → mask ≡ mask_of (has rules 1) (length rules) → mask ≡ 0 → meets rules ends ≡ true → ⊥
  no_greater mask c z t = let m = meets-by rules ends t in none-having 1 mask m.0 c z m.1 m.2

  no_less : (mask : ℕ) → mask ≡ mask_of (has rules 2) (length rules) → mask ≡ 0 → meets rules ends ≡ true → ⊥
  no_less mask c z t = let m = meets-by rules ends t in none-having 2 mask m.3 c z m.4 m.5

  -- rules that meet are two, and on a ring that goes from rule to other rule
  meets_moves : meets rules ends ≡ true → Ring (Moves (Below (length rules) (leads rules)))
  unfolding reaches has
  meets_moves t =
      let n = length rules in
      let R = leads rules in
      let m = meets-by rules ends t in
      let hi : m.0 < n = m.1 in
      let hj : m.3 < n = m.4 in
      let greater = eqb-true (rule_at rules m.0).predicate 1 m.2 in
      let less = eqb-true (rule_at rules m.3).predicate 2 m.5 in
      let two : m.0 ≡ m.3 → ⊥ = λ e. let q = sym greater ∙ ap (λ (i : ℕ). (rule_at rules i).predicate) e ∙ less in omega (arith, q) in
      (m.0, plus_trans (plus_moves equal_or_not (reaches_plus R n m.0 m.3 hi hj m.6) two) (plus_moves equal_or_not (reaches_plus R n m.3 m.0 hj hi m.7) (λ e. two (sym e))))

  -- and so on a ring
  meets-ring : meets rules ends ≡ true → has_ring (leads rules) (length rules) ≡ true
  meets-ring t = let r = meets_moves t in ring-has_ring (leads rules) (length rules) (r.0, plus_map (λ x. x) (λ i j s. s.0) r.1)

  all_agrees : (rows : List ℕ) → take (length rules) rows ≡ rows_of (linked everything rules) (length rules)
      → Agree (length rules) (related rows) (leads rules)
  unfolding linked
  all_agrees rows e i j hi hj =
      table_related (linked everything rules) (length rules) rows e i j hi hj
      ∙ rw (bit-ones 64 i (omega arith), bit-ones 64 j (omega arith))

  module _ (rows : List ℕ) (b : Bool) (e : take (length rules) rows ≡ rows_of (linked everything rules) (length rules)) where
    pub mixed-none : b ≡ has_ring (related rows) (length rules) → not b ≡ true
        → false ≡ meets rules (closed (length rules) (rows_of (leads rules) (length rules)))
    mixed-none f g =
        let n = length rules in
        let R = leads rules in
        sym (untrue (meets rules ends) (λ t. clash (has_ring R n) (meets-ring t) (sym (has_ring_ext (related rows) R n (all_agrees rows e)) ∙ sym f ∙ not-true b g)))

    -- the search asks a table about rules that are held only
    pub mixed-ring : (reached : List ℕ) → take (length rules) reached ≡ take (length rules) (closed (length rules) rows) → b ≡ meets rules reached
        → b ≡ meets rules (closed (length rules) (rows_of (leads rules) (length rules)))
    unfolding meets reaches
    mixed-ring reached q f =
        let n = length rules in
        let same : (i j : ℕ) → i < n → j < n → related reached i j ≡ reaches (leads rules) n i j
        = λ i j hi hj. related-first n reached (closed n rows) q i j hi ∙ related-closed rows (leads rules) n (all_agrees rows e) i j hi hj in
        f ∙
        (any_below_ext _ _ n (λ i hi. ap (λ (b : Bool). has rules 1 i && b)
        (any_below_ext _ _ n (λ j hj. rw (same i j hi hj, same j i hj hi)))))

  -- ---- suspects

  pub suspects-all : Suspects rules (length rules) everything
  suspects-all = record { equal = λ i h e. bit-ones 64 i (omega arith); mixed = λ t. refl }

  module _ (equals mask : ℕ) (c : equals ≡ mask_of (has rules 0) (length rules)) (z : mask ≡ 0) where
    pub suspects_no_greater : mask ≡ mask_of (has rules 1) (length rules) → Suspects rules (length rules) equals
    suspects_no_greater d = record {
      equal = λ i h e. rw c (member_mask (has rules 0) (length rules) i h e);
      mixed = λ t. absurd (no_greater mask d z t);
    }

    pub suspects_no_less : mask ≡ mask_of (has rules 2) (length rules) → Suspects rules (length rules) equals
    suspects_no_less d = record {
      equal = λ i h e. rw c (member_mask (has rules 0) (length rules) i h e);
      mixed = λ t. absurd (no_less mask d z t);
    }

  -- ---- is_cyclic

  module _ (among : ℕ) (s : Suspects rules (length rules) among) (b : Bool) where
    cyclic-by : has_ring (equal_leads rules) (length rules) ≡ false → meets rules ends ≡ false → false ≡ cyclic rules
    unfolding cyclic
    cyclic-by e f = rw (e, f)

    pub cyclic_straight : b ≡ has_ring (near among rules) (length rules) → not b ≡ true → false ≡ cyclic rules
    unfolding equal_leads
    cyclic_straight e f =
        let n = length rules in
        let rs = rules in
        cyclic-by
        (untrue (has_ring (equal_leads rs) n) (λ t.
        straight rs among n b (Below n (equal_leads rs)) e f
        (λ i j q.
        let front = and_left (has rs 0 i && has rs 0 j) (leads rs i j) q.2 in
        (q.0, q.1, s.equal j q.1 (and_right (has rs 0 i) (has rs 0 j) front), and_right (has rs 0 i && has rs 0 j) (leads rs i j) q.2, or_left (has rs 0 i) _ (and_left (has rs 0 i) (has rs 0 j) front)))
        (has_ring-ring (equal_leads rs) n t)))
        (untrue (meets rs ends) (λ t.
        straight rs among n b (Moves (Below n (leads rs))) e f
        (λ i j q.
        let h = q.0.1 in
        (q.0.0, h, rw (s.mixed t) (bit-ones 64 j (omega arith)), q.0.2, or_right (has rs 0 i) _ (ap not (ne_eqb j i (λ z. q.1 (sym z))))))
        (meets_moves t)))

    pub cyclic_plain : b ≡ has_ring (equal_leads rules) (length rules) → b ≡ false → (among ≡ everything → ⊥) → false ≡ cyclic rules
    cyclic_plain e f d = cyclic-by (sym e ∙ f) (untrue (meets rules ends) (λ t. d (s.mixed t)))

module _ (rules : List Rule) (b : Bool) where
  pub cyclic-equal : length rules ≤ most_rules → b ≡ has_ring (equal_leads rules) (length rules) → b ≡ true
      → true ≡ cyclic rules
  unfolding cyclic
  cyclic-equal few e t = rw (← e, t)

  pub cyclic-mixed : (d : Bool) → length rules ≤ most_rules → b ≡ has_ring (equal_leads rules) (length rules) → b ≡ false
      → d ≡ meets rules (closed (length rules) (rows_of (leads rules) (length rules))) → d ≡ cyclic rules
  unfolding cyclic
  cyclic-mixed d few e n f = rw (← e, n) f

pub ruleset steps = (rules, length_mapped, held_few, blank_made, mask_begun, mask_all, having-more, starting_more, row_out, row_in, linked-row, fill-begun, fill_more, fill_done, buckets_none, buckets_more, bucket-small, bucket-small_yet, bucket-fits, buckets_all, near-row, may-ring, may_none, apart-equal, apart_other, at_other, at_both, at_none, none-begun, from_more, meet_other, meet_more, meet_found, meet_done, equal-ring, mixed-none, mixed-ring, suspects-all, suspects_no_greater, suspects_no_less, cyclic_straight, cyclic-equal, cyclic_plain, cyclic-mixed)
