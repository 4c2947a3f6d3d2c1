-- The needs of all writes, run by run of the rules, and of one behind them, rule by rule: one law for each return and each turn of a loop.
use mathlib.Core.Path.{◌≡◌, sym, ap, subst, ◌∙◌}
use mathlib.Core.Bool.{Bool, true, cond, and-true, ◌&&◌}
use mathlib.Core.List.{List}
use Prim.Native.Nat.{ℕ, ◌+◌, ◌≤◌, ◌<◌}
use native.Mathlib.Numerals.{add-one}
use native.Mathlib.Omega.{arith}
use lib.Bits.{bit_and, bit_or}
use lib.Dec.{eqb, ltb}
use lib.ListN.{length, get_or, take}
use borrow.Author.Rules.{rules}
use borrow.Author.Tests.{lt-ltb, ltb-true}
use Rattle.relation.specs.Bits.{bit}
use Rattle.relation.specs.Tables.{Filled}
use Rattle.relation.specs.Finite.{rows_of}
use Rattle.relation.proofs.BitLaws.{bit-zero, bit_mask}
use Rattle.relation.proofs.ListLaws.{and_left}
use Rattle.relation.proofs.TableLaws.{blank_made}
use Rattle.model.specs.Limits.{most_rules, most_held}
use Rattle.model.specs.declared.Rule.{Rule}
use Rattle.model.specs.declared.Write.{Write}
use Rattle.model.specs.Needs as model
use Rattle.rule_match.specs.declared.Rules.{Rules}
use Rattle.rule_match.specs.Held.{item_at, rules_of}
use Rattle.rule_match.proofs.MatchSteps.{length_mapped}
use Rattle.cache_masks.specs.Columns.{columned}
use Rattle.cache_masks.specs.declared.Epochs.{Epochs}
use Rattle.cache_masks.specs.Masks.{equal_mask, same_mask, same_at, epoch_mask, Compared, standing_by, turned_round}
use Rattle.cache_masks.specs.Ranks.{rank_at, bounds, SmallRanks, below_mask}
use Rattle.cache_masks.proofs.MaskSteps.{same_numbers}
use Rattle.cache_masks.proofs.MaskLaws.{standing_mask, back-mask}
use Rattle.cache_masks.proofs.RankLaws.{standing-ranks}
use Rattle.cache_needs.specs.declared.Tables.{Tables}
use Rattle.cache_needs.specs.Needed.{needs_row, needed_mask, dependent_mask}
use Rattle.cache_needs.specs.Tables.{earlier_at, SmallOf, added_to, Added, Prepared, Joins, Adds}
use Rattle.cache_needs.proofs.NeedLaws.{added_both, filled-take, row-none, needed-none, dependents-none, row_next, needed-next, dependents-next}

-- ---- with_named

pub named_on : (on : Bool) (names : List ℕ) (mask x standing name n : ℕ) → on ≡ true → n ≤ length names → x ≡ equal_mask eqb names name n
    → bit_or mask (bit_and x standing) ≡ cond on (bit_or mask (bit_and (same_mask names name n) standing)) mask
named_on on names mask x standing name n e few q = rw (e, q, same_numbers names name n few)

-- ---- run_from

module _ (names : List ℕ) (n : ℕ) (rules : Rules) (k : ℕ) (all : length rules.items ≡ most_rules) (few : rules.count ≤ most_rules) where
  pub run-begun : (s : ℕ) → k < rules.count → s ≡ same_mask names (item_at rules k).second n → Joins names n rules k (k + 1) s
  run-begun s h q = rw (add-one k, q) (record { at = λ addresses epochs i l. row_next addresses names epochs n rules k (omega arith) i l })

  pub run_more : (e s t : ℕ) → e < rules.count → (item_at rules e).first ≡ (item_at rules k).first → (item_at rules e).predicate ≡ (item_at rules k).predicate
      → t ≡ same_mask names (item_at rules e).second n → Joins names n rules k e s → Joins names n rules k (e + 1) (bit_or s t)
  run_more e s t h f p q joins = rw (add-one e) (record {
    at = λ addresses epochs i l.
        added_both (eqb (get_or names i 0) (item_at rules k).first) (needs_row (take k rules.items) (columned addresses names epochs n) n i) s t (epoch_mask epochs (item_at rules k).predicate (get_or epochs i 0) n)
        ∙ rw (joins.at addresses epochs i l, q) (rw (f, p) at (row_next addresses names epochs n rules e (omega arith) i l));
  })

pub ruleset runs = (rules, length_mapped, run-begun, run_more)

-- ---- add_run

same_bit : (names : List ℕ) (x n i : ℕ) → bit (same_mask names x n) i ≡ ltb i n && eqb (get_or names i 0) x
unfolding same_mask
same_bit names x n i = bit_mask (λ j. eqb (get_or names j 0) x) n i

module _ (names : List ℕ) (n : ℕ) (t : Tables) where
  pub firsts_small : (x firsts : ℕ) → Prepared names n t → firsts ≡ same_mask names x n → SmallOf firsts t.ranks
  firsts_small x firsts ready e = record {
    at = λ i b. ready.ranks-small.at i
        (ltb-true i n (and_left (ltb i n) (eqb (get_or names i 0) x) (sym (same_bit names x n i) ∙ ap (λ (m : ℕ). bit m i) (sym e) ∙ b)));
  }

  pub tables_ready : Filled (same_at names) n t.alike → SmallRanks n t.ranks → Prepared names n t
  tables_ready d e = record { alike-filled = d; ranks-small = e }

module _ (names : List ℕ) (n : ℕ) (rules : Rules) (ranks belows old : List ℕ) where
  pub adds_begun : Adds (take 0 rules.items) names n ranks belows old old
  adds_begun = record { at = λ addresses epochs ranked table filled. filled }

  pub adds_more : (k e firsts seconds : ℕ) (rows next : List ℕ) → n ≤ most_held → Adds (take k rules.items) names n ranks belows old rows
      → Joins names n rules k e seconds → firsts ≡ same_mask names (item_at rules k).first n → Added rows firsts seconds (item_at rules k).predicate ranks belows 0 next
      → Adds (take e rules.items) names n ranks belows old next
  unfolding added_to
  adds_more k e firsts seconds rows next held adds joins f added = record {
    at = λ addresses epochs ranked table filled. record {
      at = λ i l. added.at i
          ∙ rw (f, same_bit names (item_at rules k).first n i, lt-ltb i n l, bit-zero i, and-true (eqb (get_or names i 0) (item_at rules k).first), (adds.at addresses epochs ranked table filled).at i l, standing-ranks epochs ranks belows n held ranked table i l (item_at rules k).predicate)
          (joins.at addresses epochs i l);
    };
  }

  pub run_adds : (head : Rule) (k e firsts seconds : ℕ) (rows next : List ℕ) → n ≤ most_held → head ≡ item_at rules k → Joins names n rules k e seconds
      → firsts ≡ same_mask names head.first n → Added rows firsts seconds head.predicate ranks belows 0 next
      → Adds (take k rules.items) names n ranks belows old rows → Adds (take e rules.items) names n ranks belows old next
  run_adds head k e firsts seconds rows next held q joins f added adds =
      adds_more k e firsts seconds rows next held adds joins (f ∙ ap (λ (r : Rule). same_mask names r.first n) q)
      (subst (λ (r : Rule). Added rows firsts seconds r.predicate ranks belows 0 next) q added)

  pub adds_done : (k : ℕ) (rows : List ℕ) → k ≤ rules.count → rules.count ≤ k → Adds (take k rules.items) names n ranks belows old rows
      → Adds (rules_of rules) names n ranks belows old rows
  adds_done k rows a b adds =
      let q : k ≡ rules.count = omega arith in
      rw q at adds

pub ruleset all-rules = (rules, length_mapped, firsts_small, adds_begun, adds_more, run_adds, adds_done)

-- ---- prepare, and all rules

pub needs-filled : (addresses names epochs : List ℕ) (n : ℕ) (rules : List Rule) (ranks belows old rows : List ℕ) → n ≤ most_held → length rows ≡ most_held
    → Filled (earlier_at addresses) n old → Filled (rank_at epochs) n ranks → Filled (below_mask ranks n) bounds belows
    → Adds rules names n ranks belows old rows → take n rows ≡ rows_of (model.needs rules (columned addresses names epochs n)) n
unfolding rows_of needs_row
needs-filled addresses names epochs n rules ranks belows old rows few all earlier ranked table adds =
    filled-take (needs_row rules (columned addresses names epochs n) n) rows n (omega arith)
    (adds.at addresses epochs ranked table (record { at = λ i h. earlier.at i h ∙ row-none addresses names epochs n i h }))

pub ruleset filling = (rules, blank_made, tables_ready, needs-filled)

-- ---- needed, dependents

module _ (addresses names epochs : List ℕ) (n : ℕ) (rules : Rules) (w : Write) where
  pub needed-begun : (m : ℕ) → n ≤ length addresses → m ≡ equal_mask eqb addresses w.address n → m ≡ needed_mask (take 0 rules.items) (columned addresses names epochs n) w n
  needed-begun m few e = e ∙ same_numbers addresses w.address n few ∙ needed-none addresses names epochs n w

  pub needed-done : (k m : ℕ) → k ≤ rules.count → rules.count ≤ k → m ≡ needed_mask (take k rules.items) (columned addresses names epochs n) w n
      → m ≡ needed_mask (rules_of rules) (columned addresses names epochs n) w n
  needed-done k m a b e =
      let q : k ≡ rules.count = omega arith in
      rw q at e

  pub dependents-begun : 0 ≡ dependent_mask (take 0 rules.items) (columned addresses names epochs n) w n
  dependents-begun = dependents-none addresses names epochs n w

  pub dependents-done : (k m : ℕ) → k ≤ rules.count → rules.count ≤ k → m ≡ dependent_mask (take k rules.items) (columned addresses names epochs n) w n
      → m ≡ dependent_mask (rules_of rules) (columned addresses names epochs n) w n
  dependents-done k m a b e =
      let q : k ≡ rules.count = omega arith in
      rw q at e

  module _ (k mask s next : ℕ) (e : Epochs) (all : length rules.items ≡ most_rules) (few : rules.count ≤ most_rules) (h : k < rules.count)
      (compared : Compared epochs w.epoch n e) where
    pub needed-more : mask ≡ needed_mask (take k rules.items) (columned addresses names epochs n) w n → s ≡ standing_by e (item_at rules k).predicate
        → next ≡ cond (eqb w.name (item_at rules k).first) (bit_or mask (bit_and (same_mask names (item_at rules k).second n) s)) mask
        → next ≡ needed_mask (take (k + 1) rules.items) (columned addresses names epochs n) w n
    needed-more p q f =
        f ∙ rw (add-one k, p, q, standing_mask epochs w.epoch n e compared (item_at rules k).predicate)
        (needed-next addresses names epochs n rules k (omega arith) w)

    pub dependents-more : (b : Epochs) → b ≡ turned_round e → mask ≡ dependent_mask (take k rules.items) (columned addresses names epochs n) w n → s ≡ standing_by b (item_at rules k).predicate
        → next ≡ cond (eqb w.name (item_at rules k).second) (bit_or mask (bit_and (same_mask names (item_at rules k).first n) s)) mask
        → next ≡ dependent_mask (take (k + 1) rules.items) (columned addresses names epochs n) w n
    dependents-more b t p q f =
        f ∙ rw (add-one k, p, q, t, back-mask epochs w.epoch n e compared (item_at rules k).predicate)
        (dependents-next addresses names epochs n rules k (omega arith) w)

pub ruleset needing = (rules, length_mapped, needed-begun, needed-more, needed-done, dependents-begun, dependents-more, dependents-done)
