-- The validity test by the meaning of document 01: of any trace, and every schedule number.
use Rattle.std.specs.Prelude.{ℕ, ◌≡◌, ◌↔◌, true, List, length, take}
use Rattle.model.specs.declared.Rule.{Rule}
use Rattle.model.specs.declared.Write.{Write}
use Rattle.model.specs.Schedule.{Valid}
use Rattle.judge_disks.specs.Packed.{Labels}
use Rattle.judge_schedules.specs.Valid.{valid_rows}
use Rattle.judge_rows.specs.Rows.{rows_from}

-- with rows made of the trace's labels (`fill`), what the test computes says of every schedule number whether the schedule is valid: each flagged
-- write's dependencies in the trace are flagged. `judge_schedules::is_valid` is that test, for every number below 2^n, of up to 20 writes (02, [8])
abbrev pub ValidityTested : Type 0
ValidityTested =
    (rules : List Rule) (ws : List Write) (column rows : List ℕ)
    → Labels ws column
    → take (length ws) rows ≡ rows_from rules column (length ws) (length ws)
    → (s : ℕ) → (valid_rows rows (length ws) s ≡ true) ↔ Valid rules ws s
