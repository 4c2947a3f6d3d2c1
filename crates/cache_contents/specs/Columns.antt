-- A state's accepted writes in columns.
use Rattle.std.specs.Prelude.{ℕ, ◌<◌, ◌≡◌, List, get_or}
use Rattle.cache_masks.specs.declared.Columns.{Columns}
use Rattle.cache_model.specs.State.{write_in}

-- columns have the addresses, the names and the epochs of a state's first n writes
pub record InColumns (s : List ℕ) (n : ℕ) (c : Columns) : Type 0 where
  pub address : (i : ℕ) → i < n → get_or c.addresses i 0 ≡ (write_in s i).address
  pub name : (i : ℕ) → i < n → get_or c.names i 0 ≡ (write_in s i).name
  pub epoch : (i : ℕ) → i < n → get_or c.epochs i 0 ≡ (write_in s i).epoch
