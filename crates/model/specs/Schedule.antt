-- Crash schedules of a trace, and the disks they leave.
use Rattle.std.specs.Prelude.{ℕ, ◌/◌, ◌%◌, ◌<◌, ◌≡◌, Bool, true, cond, not, ◌||◌, List, [], ◌∷◌, eqb, length, get_or, set}
use Rattle.relation.specs.Bits.{bit}
use Rattle.relation.specs.Lists.{all_below}
use Rattle.model.specs.declared.Write.{Write}
use Rattle.model.specs.declared.Rule.{Rule}
use Rattle.model.specs.Rules.{Label, label_of, DependsOn, depends_on}

-- *schedule*: a flag for each write, given by its *number*: bit i, from 0, is set exactly if write i + 1 is flagged
abbrev pub flagged : ℕ → ℕ → Bool
flagged s i = bit s i

-- one write to a disk
unfoldable pub store : Write → List ℕ → List ℕ
store w disk = set disk w.address w.block

-- the disk of a schedule: the first write if its flag is set, then the remaining writes to the result
unfoldable pub run : List Write → ℕ → List ℕ → List ℕ
run [] s disk = disk
run (w ∷ ws) s disk = run ws (s / 2) (cond (eqb (s % 2) 1) (store w disk) disk)

-- all writes
unfoldable pub written : List Write → List ℕ → List ℕ
written [] disk = disk
written (w ∷ ws) disk = written ws (store w disk)

unfoldable pub no_write : Write
no_write = record { address = 0; name = 0; epoch = 0; block = 0 }

-- write number i + 1 of a trace, and its label
abbrev pub write_at : List Write → ℕ → Write
write_at ws i = get_or ws i no_write

abbrev pub label_at : List Write → ℕ → Label
label_at ws i = label_of (write_at ws i)

-- *valid*: each flagged write's dependencies in the trace are flagged
unfoldable pub Valid : List Rule → List Write → ℕ → Type 0
Valid rules ws s =
    (i j : ℕ) → i < length ws → j < length ws → flagged s i ≡ true → DependsOn rules (label_at ws i) (label_at ws j) → flagged s j ≡ true

-- the same, computed
unfoldable pub valid : List Rule → List Write → ℕ → Bool
valid rules ws s =
    all_below (λ i. not (flagged s i) || all_below (λ j. not (depends_on rules (label_at ws i) (label_at ws j)) || flagged s j) (length ws)) (length ws)
