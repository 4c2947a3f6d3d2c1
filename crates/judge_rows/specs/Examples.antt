-- The main writes of test K under both rules of the log: what the theorem of the validity test asks for, and what it then says.
use Rattle.std.specs.Prelude.{ℕ, ◌+◌, ◌*◌, ◌≡◌, List, [], ◌∷◌, take}
use Rattle.model.specs.declared.Rule.{Rule}
use Rattle.model.specs.declared.Write.{Write}
use Rattle.model.specs.Limits.{words}
use Rattle.model.specs.Disk.{block}
use Rattle.model.specs.Schedule.{Valid}
use Rattle.judge_disks.specs.Packed.{Labels}
use Rattle.judge_rows.specs.Rows.{rows_from}

abbrev pub write : ℕ → ℕ → ℕ → ℕ → ℕ → Write
write address name epoch first second = record { address = address; name = name; epoch = epoch; block = block first second }

-- (2,=,1) and (2,>,2)
unfoldable pub log-rules : List Rule
log-rules = record { first = 2; predicate = 0; second = 1 } ∷ record { first = 2; predicate = 1; second = 2 } ∷ []

-- puts (1,81) and (2,37) behind (0,42)
unfoldable pub K-main : List Write
K-main = write 2 1 1 1 81 ∷ write 0 2 1 1 3 ∷ write 3 1 2 2 37 ∷ write 0 2 2 1 4 ∷ []

-- their labels; their rows: the first superblock depends on its log block, the second on its own and on the first
unfoldable pub K_column : List ℕ
K_column = (words + 1) ∷ (2 * words + 1) ∷ (words + 2) ∷ (2 * words + 2) ∷ []

unfoldable pub K-rows : List ℕ
K-rows = 0 ∷ 1 ∷ 0 ∷ 6 ∷ []

-- the first put alone is valid; K3's schedule 12, the second put without the first superblock, is not
pub record TestedK : Type 0 where
  pub labels : Labels K-main K_column
  pub rows : take 4 K-rows ≡ rows_from log-rules K_column 4 4
  pub one-put : Valid log-rules K-main 3
  pub K3-schedule : Valid log-rules K-main 12 → ⊥
