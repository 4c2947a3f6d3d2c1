-- What writes of three columns need, by masks: without rules, and one rule more.
use mathlib.Core.Path.{◌≡◌, refl, sym, ap, ◌∙◌}
use mathlib.Core.Bool.{Bool, true, false, cond, or-false, ◌&&◌, ◌||◌}
use mathlib.Core.List.{List, [], ◌∷◌, ◌++◌}
use Prim.Native.Nat.{ℕ, zero, suc, ◌≤◌, ◌<◌}
use native.Mathlib.Omega.{arith}
use lib.Bits.{bit_and, bit_or}
use lib.Dec.{eqb, ltb}
use lib.ListN.{length, get_or, take}
use lib.Seq.{take-suc}
use borrow.Author.Tests.{lt-ltb}
use Rattle.relation.specs.Bits.{bit, mask_of}
use Rattle.relation.specs.Lists.{tabulate, any}
use Rattle.relation.specs.Tables.{Filled}
use Rattle.relation.proofs.BitLaws.{bit-or, bit-and, mask_ext}
use Rattle.relation.proofs.UnionLaws.{bits_same}
use Rattle.relation.proofs.MaskLaws.{mask_none, mask_or, mask_and, mask_short}
use Rattle.model.specs.declared.Rule.{Rule}
use Rattle.model.specs.declared.Write.{Write}
use Rattle.model.specs.Rules.{label_of, stands, matches, depends_on}
use Rattle.model.specs.Schedule.{write_at, label_at}
use Rattle.model.specs.Needs as model
use Rattle.rule_match.specs.declared.Rules.{Rules}
use Rattle.rule_match.specs.Held.{item_at}
use Rattle.rule_match.proofs.MatchSteps.{depends_next}
use Rattle.cache_masks.specs.Columns.{columned}
use Rattle.cache_masks.specs.Masks.{same_mask, epoch_mask, back_mask}
use Rattle.cache_masks.proofs.ColumnLaws.{entry, columned-at, front_at, last-at}
use Rattle.cache_needs.specs.Needed.{needs_row, needed_mask, dependent_mask}
use Rattle.cache_needs.specs.Tables.{earlier_at}

-- ---- masks and tables

-- a mask, with those of two others in common if asked for
mask_joined : (b : Bool) (p q s : ℕ → Bool) (n : ℕ) → cond b (bit_or (mask_of p n) (bit_and (mask_of q n) (mask_of s n))) (mask_of p n) ≡ mask_of (λ j. p j || (b && q j && s j)) n
mask_joined true p q s n = rw (mask_and q s n) (mask_or p (λ j. q j && s j) n)
mask_joined false p q s n = mask_ext _ _ n (λ j h. sym (or-false (p j)))

-- what two masks add to a third, if asked for, the first adds, and then the second
pub added_both : (on : Bool) (x s t m : ℕ)
    → cond on (bit_or x (bit_and (bit_or s t) m)) x ≡ cond on (bit_or (cond on (bit_or x (bit_and s m)) x) (bit_and t m)) (cond on (bit_or x (bit_and s m)) x)
added_both true x s t m =
    bits_same _ _ (λ j. rw (bit-or x (bit_and (bit_or s t) m) j, bit-and (bit_or s t) m j, bit-or s t j, bit-or (bit_or x (bit_and s m)) (bit_and t m) j, bit-or x (bit_and s m) j, bit-and s m j, bit-and t m j) (both (bit x j) (bit s j) (bit t j) (bit m j)))
  where
    both : (a b c d : Bool) → a || ((b || c) && d) ≡ (a || (b && d)) || (c && d)
    both true b c d = refl
    both false true true true = refl
    both false true true false = refl
    both false true false true = refl
    both false true false false = refl
    both false false c d = refl
added_both false x s t m = refl

pub filled-take : (f : ℕ → ℕ) (table : List ℕ) (n : ℕ) → n ≤ length table → Filled f n table → take n table ≡ tabulate f n
unfolding tabulate
filled-take f table zero l filled = refl
filled-take f table (suc n) l filled =
    take-suc table n 0 l ∙ rw (filled-take f table n (omega arith) (record { at = λ i h. filled.at i (omega arith) }), filled.at n (omega arith))

or_turned : (a b c : Bool) → (a || b) || c ≡ (a || c) || b
or_turned true b c = refl
or_turned false true true = refl
or_turned false true false = refl
or_turned false false c = sym (or-false c)

-- ---- the writes of columns

module _ (addresses names epochs : List ℕ) (n : ℕ) where
  abbrev ws : List Write
  ws = columned addresses names epochs n

  -- ---- without rules

  pub row-none : (i : ℕ) → i < n → earlier_at addresses i ≡ needs_row [] ws n i
  unfolding earlier_at needs_row same_mask model.needs depends_on any
  row-none i h =
      mask_short (λ j. eqb (get_or addresses j 0) (get_or addresses i 0)) i n (omega arith)
      ∙ mask_ext _ _ n (λ j k. rw (columned-at addresses names epochs n i h, columned-at addresses names epochs n j k))

  pub needed-none : (w : Write) → same_mask addresses w.address n ≡ needed_mask [] ws w n
  unfolding needed_mask same_mask model.needs depends_on any
  needed-none w = mask_ext _ _ n (λ j k. rw (front_at addresses names epochs n w j k, last-at addresses names epochs n w, lt-ltb j n k))

  pub dependents-none : (w : Write) → 0 ≡ dependent_mask [] ws w n
  unfolding dependent_mask depends_on any
  dependents-none w = mask_none n

  -- ---- one rule more

  module _ (rules : Rules) (k : ℕ) (inside : k < length rules.items) where
    abbrev rule : Rule
    rule = item_at rules k

    abbrev some : List Rule
    some = take k rules.items

    abbrev more : List Rule
    more = take (suc k) rules.items

    needs-next : (vs : List Write) (i j : ℕ) → model.needs more vs i j ≡ model.needs some vs i j || matches rule (label_at vs i) (label_at vs j)
    unfolding model.needs
    needs-next vs i j = rw (depends_next rules (label_at vs i) (label_at vs j) k inside) (or_turned (depends_on some (label_at vs i) (label_at vs j)) (matches rule (label_at vs i) (label_at vs j)) (ltb j i && eqb (write_at vs j).address (write_at vs i).address))

    pub row_next : (i : ℕ) → i < n
        → cond (eqb (get_or names i 0) rule.first) (bit_or (needs_row some ws n i) (bit_and (same_mask names rule.second n) (epoch_mask epochs rule.predicate (get_or epochs i 0) n))) (needs_row some ws n i)
        ≡ needs_row more ws n i
    unfolding needs_row same_mask epoch_mask
    row_next i h =
        mask_joined (eqb (get_or names i 0) rule.first) (model.needs some ws i) (λ j. eqb (get_or names j 0) rule.second) (λ j. stands rule.predicate (get_or epochs i 0) (get_or epochs j 0)) n
        ∙ mask_ext _ _ n (λ j l. sym (needs-next ws i j ∙ rw (columned-at addresses names epochs n i h, columned-at addresses names epochs n j l) (unfold matches in refl)))

    pub needed-next : (w : Write)
        → cond (eqb w.name rule.first) (bit_or (needed_mask some ws w n) (bit_and (same_mask names rule.second n) (epoch_mask epochs rule.predicate w.epoch n))) (needed_mask some ws w n)
        ≡ needed_mask more ws w n
    unfolding needed_mask same_mask epoch_mask
    needed-next w =
        mask_joined (eqb w.name rule.first) (model.needs some (ws ++ (w ∷ [])) n) (λ j. eqb (get_or names j 0) rule.second) (λ j. stands rule.predicate w.epoch (get_or epochs j 0)) n
        ∙ mask_ext _ _ n (λ j l. sym (needs-next (ws ++ (w ∷ [])) n j ∙ rw (last-at addresses names epochs n w, front_at addresses names epochs n w j l) (unfold matches in refl)))

    pub dependents-next : (w : Write)
        → cond (eqb w.name rule.second) (bit_or (dependent_mask some ws w n) (bit_and (same_mask names rule.first n) (back_mask epochs rule.predicate w.epoch n))) (dependent_mask some ws w n)
        ≡ dependent_mask more ws w n
    unfolding dependent_mask same_mask back_mask
    dependents-next w =
        mask_joined (eqb w.name rule.second) (λ j. depends_on some (label_at ws j) (label_of w)) (λ j. eqb (get_or names j 0) rule.first) (λ j. stands rule.predicate (get_or epochs j 0) w.epoch) n
        ∙ mask_ext _ _ n (λ j l. sym (depends_next rules (label_at ws j) (label_of w) k inside ∙ rw (columned-at addresses names epochs n j l) (unfold matches in (ap (λ (b : Bool). depends_on some (label_of (entry addresses names epochs n j)) (label_of w) || b) (turned (eqb (get_or names j 0) rule.first) (eqb w.name rule.second) (stands rule.predicate (get_or epochs j 0) w.epoch))))))
      where
        turned : (a b c : Bool) → a && b && c ≡ b && a && c
        turned true true c = refl
        turned true false c = refl
        turned false true c = refl
        turned false false c = refl

-- ---- other addresses

-- the labels are the same whatever the addresses are
pub dependents-any : (rules : List Rule) (addresses others names epochs : List ℕ) (n : ℕ) (w : Write)
    → dependent_mask rules (columned addresses names epochs n) w n ≡ dependent_mask rules (columned others names epochs n) w n
unfolding dependent_mask
dependents-any rules addresses others names epochs n w =
    mask_ext _ _ n (λ j h. rw (columned-at addresses names epochs n j h, columned-at others names epochs n j h))
