-- Writes as columns of numbers: what a disk takes of each, its address and its block, and what rules ask of it, its label.
use Rattle.std.specs.Prelude.{ℕ, zero, suc, ◌+◌, ◌-◌, ◌/◌, ◌%◌, ◌^◌, ◌<◌, ◌≡◌, List, [], ◌∷◌, length, get_or, set}
use Rattle.model.specs.declared.Write.{Write}
use Rattle.model.specs.Limits.{names, words, disk_blocks}
use Rattle.model.specs.Rules.{Label, label}
use Rattle.model.specs.Schedule.{write_at, label_at}

-- ---- stores

-- the write of a number; its label is lost
unfoldable pub unpacked : ℕ → Write
unpacked p = record { address = p / words % disk_blocks; name = 0; epoch = 0; block = p % words }

-- a number stands for what a disk takes of a write
unfoldable pub Packs : Write → ℕ → Type 0
Packs w p = ((unpacked p).address ≡ w.address) × ((unpacked p).block ≡ w.block)

-- a column does so for each of some writes
unfoldable pub Stores : List Write → List ℕ → Type 0
Stores ws column = (i : ℕ) → i < length ws → Packs (write_at ws i) (get_or column i 0)

-- the n writes from place i of a column on
unfoldable pub held_from : List ℕ → ℕ → ℕ → List Write
held_from column i zero = []
held_from column i (suc n) = unpacked (get_or column i 0) ∷ held_from column (i + 1) n

-- the schedule that flags every write of a column
abbrev pub all_flags : ℕ
all_flags = 2 ^ 64 - 1

-- ---- labels

-- the label of a number
unfoldable pub labelled : ℕ → Label
labelled p = label (p / words % names) (p % words)

-- a column has the label of each of some writes
unfoldable pub Labels : List Write → List ℕ → Type 0
Labels ws column = (i : ℕ) → i < length ws → labelled (get_or column i 0) ≡ label_at ws i

-- ---- disks

-- a disk with the blocks at the addresses of some writes as they are on another disk
unfoldable pub restored : List Write → List ℕ → List ℕ → List ℕ
restored [] base disk = disk
restored (w ∷ ws) base disk = restored ws base (set disk w.address (get_or base w.address 0))
