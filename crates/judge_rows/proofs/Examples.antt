-- Test K's rows decide its schedules: computed, and then by the theorem.
use mathlib.Core.Path.{◌≡◌, refl, sym, ◌∙◌}
use mathlib.Core.Logic.{◌↔◌}
use mathlib.Core.Bool.{true, false, false≢true}
use Prim.Native.Nat.{ℕ, zero, suc}
use native.Mathlib.Omega.{arith}
use lib.ListN.{take}
use Rattle.relation.specs.Bits.{bit, with_bit, mask_of}
use Rattle.relation.specs.Lists.{all_below, tabulate}
use Rattle.relation.specs.Union.{part_of}
use Rattle.relation.specs.Lists.{any}
use Rattle.model.specs.Rules.{stands, matches, depends_on}
use Rattle.model.specs.Schedule.{Valid}
use Rattle.judge_disks.specs.Packed.{labelled, Labels}
use Rattle.judge_schedules.specs.Valid.{valid_rows}
use Rattle.judge_rows.specs.Rows.{row_of, rows_from}
use Rattle.judge_rows.specs.Examples.{log-rules, K-main, K_column, K-rows, TestedK}
use Rattle.judge_rows.proofs.Theorems.{validity_tested}

K-labels : Labels K-main K_column
unfolding Labels K-main K_column labelled
K-labels zero h = refl
K-labels (suc zero) h = refl
K-labels (suc (suc zero)) h = refl
K-labels (suc (suc (suc zero))) h = refl
K-labels (suc (suc (suc (suc i)))) h = absurd (omega arith)

K_made : take 4 K-rows ≡ rows_from log-rules K_column 4 4
unfolding K-rows log-rules K_column rows_from row_of labelled tabulate mask_of with_bit bit depends_on matches stands any
K_made = refl

K_3 : valid_rows K-rows 4 3 ≡ true
unfolding K-rows valid_rows all_below part_of bit
K_3 = refl

K_12 : valid_rows K-rows 4 12 ≡ false
unfolding K-rows valid_rows all_below part_of bit
K_12 = refl

-- what the theorem says of K's schedules
tested : (s : ℕ) → (valid_rows K-rows 4 s ≡ true) ↔ Valid log-rules K-main s
unfolding K-main
tested s = validity_tested log-rules K-main K_column K-rows K-labels K_made s

pub tested_K : TestedK
tested_K =
    record {
      labels = K-labels;
      rows = K_made;
      one-put = (tested 3).0 K_3;
      K3-schedule = λ v. absurd (false≢true (sym K_12 ∙ (tested 12).1 v));
    }
