-- With the block that a schedule leaves at an address known, a question that begins with it is one of that block.
use Rattle.std.specs.Prelude.{ℕ, ◌≡◌, List, eqb}
use Rattle.std.proofs.Common.{ap}
use lib.Seq.{set-get_or}
use Rattle.model.specs.declared.Check.{Check}
use Rattle.judge_settled.specs.Settled.{disk_of, laid, is_block, holds_in, own_block, holds_by}

pub block_known : (column base : List ℕ) (n a v own s : ℕ) → laid column base n a s ≡ own → is_block column base n a v s ≡ eqb own v
unfolding is_block
block_known column base n a v own s e = ap (λ (b : ℕ). eqb b v) e

-- with the block put where it is already the disk is the same
pub check_known : (column base : List ℕ) (n : ℕ) (c : Check) (own s : ℕ) → laid column base n (own_block c) s ≡ own → holds_in column base n c s ≡ holds_by column base n c own s
unfolding holds_in holds_by laid
check_known column base n c own s e = rw (← e, set-get_or (disk_of column base n s) (own_block c) 0)
