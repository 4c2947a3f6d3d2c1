-- Columns as masks: where an entry stands, and which epochs stand to one as a predicate says.
use Rattle.std.specs.Prelude.{ℕ, zero, suc, ◌≡◌, Bool, List, eqb, get_or}
use Rattle.relation.specs.Bits.{mask_of}
use Rattle.model.specs.Rules.{stands}
use Rattle.cache_masks.specs.declared.Epochs.{Epochs}

-- which of the first n entries of a column are x, by an equality of its entries
unfoldable pub equal_mask : {A : Type 0} → (A → A → Bool) → List A → A → ℕ → ℕ
equal_mask eq column x n = mask_of (λ j. eq (get_or column j x) x) n

-- .., of numbers
unfoldable pub same_mask : List ℕ → ℕ → ℕ → ℕ
same_mask column x n = mask_of (λ j. eqb (get_or column j 0) x) n

-- which of the entries up to i are as entry i
unfoldable pub same_at : List ℕ → ℕ → ℕ
same_at column i = same_mask column (get_or column i 0) (suc i)

-- to which of the first n epochs t stands as a predicate says, and which of them stand so to t
unfoldable pub epoch_mask : List ℕ → ℕ → ℕ → ℕ → ℕ
epoch_mask epochs p t n = mask_of (λ j. stands p t (get_or epochs j 0)) n

unfoldable pub back_mask : List ℕ → ℕ → ℕ → ℕ → ℕ
back_mask epochs p t n = mask_of (λ j. stands p (get_or epochs j 0) t) n

-- e says how the first n epochs stand to t
unfoldable pub Compared : List ℕ → ℕ → ℕ → Epochs → Type 0
Compared epochs t n e = (e.equal ≡ epoch_mask epochs 0 t n) × (e.less ≡ epoch_mask epochs 1 t n) × (e.greater ≡ epoch_mask epochs 2 t n)

-- the mask of a predicate, which is empty where it is none of the three
unfoldable pub standing_by : Epochs → ℕ → ℕ
standing_by e zero = e.equal
standing_by e (suc zero) = e.less
standing_by e (suc (suc zero)) = e.greater
standing_by e (suc (suc (suc p))) = 0

-- the same turned round: the mask of a predicate is then of those that stand so to t
abbrev pub turned_round : Epochs → Epochs
turned_round e = record { equal = e.equal; less = e.greater; greater = e.less }
