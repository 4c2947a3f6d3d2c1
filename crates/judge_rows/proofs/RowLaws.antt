-- The rows of a trace's labels decide which of its schedules are valid.
use mathlib.Core.Path.{◌≡◌, sym, ap, ◌∙◌}
use mathlib.Core.Bool.{Bool, not, ◌||◌}
use mathlib.Core.List.{List}
use Prim.Native.Nat.{ℕ, ◌<◌}
use native.Mathlib.Omega.{arith}
use lib.ListN.{length, get_or, take}
use lib.Seq.{get_or-take}
use Rattle.relation.specs.Bits.{bit, mask_of}
use Rattle.relation.specs.Lists.{all_below}
use Rattle.relation.specs.Union.{part_of}
use Rattle.relation.proofs.ListLaws.{all_below_ext, get_or_tabulate}
use Rattle.relation.proofs.MaskLaws.{mask_part}
use Rattle.model.specs.declared.Rule.{Rule}
use Rattle.model.specs.declared.Write.{Write}
use Rattle.model.specs.Rules.{depends_on}
use Rattle.model.specs.Schedule.{label_at, valid}
use Rattle.judge_disks.specs.Packed.{labelled, Labels}
use Rattle.judge_schedules.specs.Valid.{valid_rows}
use Rattle.judge_rows.specs.Rows.{row_of, rows_from}

module _ (rules : List Rule) (ws : List Write) (column rows : List ℕ) (n : ℕ) (size : length ws ≡ n) (ls : Labels ws column)
    (e : take n rows ≡ rows_from rules column n n) where
  -- write i depends on write j
  abbrev on : ℕ → ℕ → Bool
  on i j = depends_on rules (labelled (get_or column i 0)) (labelled (get_or column j 0))

  row_at : (i : ℕ) → i < n → get_or rows i 0 ≡ mask_of (on i) n
  unfolding rows_from row_of
  row_at i h =
      sym (get_or-take n rows i 0 h) ∙ ap (λ (l : List ℕ). get_or l i 0) e ∙ get_or_tabulate (λ k. mask_of (on k) n) n i 0 h

  same-on : (i j : ℕ) → i < n → j < n → on i j ≡ depends_on rules (label_at ws i) (label_at ws j)
  unfolding Labels
  same-on i j h l = rw (ls i (omega arith), ls j (omega arith))

  pub valid-rows : (s : ℕ) → valid_rows rows n s ≡ valid rules ws s
  unfolding valid valid_rows part_of
  valid-rows s =
      rw size
      (all_below_ext
      (λ i. not (bit s i) || part_of (get_or rows i 0) s)
      (λ i. not (bit s i) || all_below (λ j. not (depends_on rules (label_at ws i) (label_at ws j)) || bit s j) n)
      n
      (λ i h. ap (λ (b : Bool). not (bit s i) || b)
      (rw (row_at i h) (mask_part (on i) n s)
      ∙ all_below_ext
      (λ j. not (on i j) || bit s j)
      (λ j. not (depends_on rules (label_at ws i) (label_at ws j)) || bit s j)
      n
      (λ j l. rw (same-on i j h l)))))
