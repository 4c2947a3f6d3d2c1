-- Rows, one label, one rule and one write more at a time.
use mathlib.Core.Path.{◌≡◌, refl, sym, ◌∙◌}
use mathlib.Core.Bool.{Bool, true, false, cond}
use mathlib.Core.List.{List}
use Prim.Native.Nat.{ℕ, ◌+◌, ◌≤◌, ◌<◌}
use native.Mathlib.Numerals.{add-one}
use native.Mathlib.Omega.{arith}
use lib.Bits.{bit_or}
use lib.ListN.{length, get_or, take, set}
use lib.Seq.{take-suc-set}
use borrow.Author.Rules.{rules}
use borrow.Author.Tests.{ne_eqb}
use Rattle.relation.specs.Bits.{with_bit, mask_of}
use Rattle.relation.specs.Lists.{any, tabulate}
use Rattle.relation.proofs.BitLaws.{mask_ext}
use Rattle.relation.proofs.MaskLaws.{mask_or, mask_false}
use Rattle.model.specs.declared.Rule.{Rule}
use Rattle.model.specs.Limits.{most_rules}
use Rattle.model.specs.Rules.{Label, label, matches, depends_on}
use Rattle.rule_match.specs.declared.Rules.{Rules}
use Rattle.rule_match.specs.Held.{rules_of, item_at}
use Rattle.rule_match.proofs.MatchSteps.{length_mapped, depends_next}
use Rattle.judge_disks.specs.Packed.{labelled}
use Rattle.judge_rows.specs.Rows.{rule_row, row_of, rows_from}

-- ---- a match of two labels taken apart

module _ (rule : Rule) (one other n t m u mask r j : ℕ) (b : Bool) (en : n ≡ (labelled one).name) (et : t ≡ (labelled one).epoch)
    (em : m ≡ (labelled other).name) (eu : u ≡ (labelled other).epoch) (e : b ≡ matches rule (label n t) (label m u)) where
  same : b ≡ matches rule (labelled one) (labelled other)
  unfolding labelled
  same = e ∙ rw (en, et, em, eu)

  pub matched_yes : b ≡ true → r ≡ with_bit mask j → r ≡ cond (matches rule (labelled one) (labelled other)) (with_bit mask j) mask
  matched_yes h q = rw (sym same ∙ h) q

  pub matched_no : b ≡ false → mask ≡ cond (matches rule (labelled one) (labelled other)) (with_bit mask j) mask
  matched_no h = rw (sym same ∙ h)

-- ---- rows

module _ (rule : Rule) (l : Label) (s : List ℕ) where
  pub row-none : 0 ≡ rule_row rule l s 0
  unfolding rule_row mask_of
  row-none = refl

  pub row_more : (mask next j : ℕ) → mask ≡ rule_row rule l s j → next ≡ cond (matches rule l (labelled (get_or s j 0))) (with_bit mask j) mask
      → next ≡ rule_row rule l s (j + 1)
  unfolding rule_row mask_of
  row_more mask next j e h = h ∙ rw (add-one j, e)

  pub row-all : (mask j n : ℕ) → j ≤ n → n ≤ j → mask ≡ rule_row rule l s j → mask ≡ rule_row rule l s n
  row-all mask j n h k e = let z : j ≡ n = omega arith in rw z at e

  -- a rule of another name pairs nothing
  pub row_other : (n name : ℕ) → name ≡ l.name → (name ≡ rule.first → ⊥) → 0 ≡ rule_row rule l s n
  unfolding rule_row matches
  row_other n name q k = let h : l.name ≡ rule.first → ⊥ = λ e. k (q ∙ e) in sym (mask_false _ n (λ j. rw (ne_eqb l.name rule.first h)))

module _ (rules : Rules) (l : Label) (s : List ℕ) (n : ℕ) where
  pub rules-none : 0 ≡ row_of (take 0 rules.items) l s n
  unfolding row_of depends_on any
  rules-none = sym (mask_false _ n (λ j. refl))

  pub rules-more : (mask r k : ℕ) → length rules.items ≡ most_rules → rules.count ≤ most_rules → k < rules.count → mask ≡ row_of (take k rules.items) l s n
      → r ≡ rule_row (item_at rules k) l s n → bit_or mask r ≡ row_of (take (k + 1) rules.items) l s n
  unfolding row_of rule_row
  rules-more mask r k all few h e q =
      rw (e, q, add-one k)
      (mask_or (λ j. depends_on (take k rules.items) l (labelled (get_or s j 0))) (λ j. matches (item_at rules k) l (labelled (get_or s j 0))) n
      ∙ mask_ext _ _ n (λ j i. sym (depends_next rules l (labelled (get_or s j 0)) k (omega arith))))

  pub rules-all : (mask k : ℕ) → k ≤ rules.count → rules.count ≤ k → mask ≡ row_of (take k rules.items) l s n → mask ≡ row_of (rules_of rules) l s n
  rules-all mask k h i e = let z : k ≡ rules.count = omega arith in rw z at e

module _ (rules : List Rule) (s : List ℕ) (n : ℕ) where
  pub rows_none : (rows : List ℕ) → take 0 rows ≡ rows_from rules s n 0
  unfolding rows_from tabulate
  rows_none rows = refl

  pub rows_more : (rows : List ℕ) (i r : ℕ) → length rows ≡ 64 → i < n → n ≤ 64 → take i rows ≡ rows_from rules s n i
      → r ≡ row_of rules (labelled (get_or s i 0)) s n → take (i + 1) (set rows i r) ≡ rows_from rules s n (i + 1)
  unfolding rows_from tabulate
  rows_more rows i r h lt le e p = rw (add-one i, take-suc-set rows i r (omega arith), e, p)

  pub rows_all : (rows : List ℕ) (i : ℕ) → i ≤ n → n ≤ i → take i rows ≡ rows_from rules s n i → take n rows ≡ rows_from rules s n n
  rows_all rows i h k e = let z : i ≡ n = omega arith in rw z at e

pub ruleset steps = (rules, length_mapped, matched_yes, matched_no, row-none, row_more, row-all, row_other, rules-none, rules-more, rules-all, rows_none, rows_more, rows_all)
