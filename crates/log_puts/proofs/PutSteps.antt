-- The steps of puts, in the terms of the code.
use mathlib.Core.Path.{◌≡◌}
use mathlib.Core.List.{List, [], ◌∷◌}
use Prim.Native.Nat.{ℕ, ◌+◌, ◌*◌, ◌≤◌}
use native.Mathlib.Numerals.{add-one}
use native.Mathlib.Omega.{arith}
use borrow.Author.Rules.{rules}
use Rattle.model.specs.declared.Write.{Write}
use Rattle.file_format.specs.File.{narrow_write_length}
use Rattle.file_format.specs.Bytes.{word, bytes4, block_length, narrow_write_bytes}
use Rattle.file_format.specs.Encode.{field_bytes}
use Rattle.file_writing.specs.Writing.{Wrote}
use Rattle.file_writing.proofs.WroteLaws.{wrote_then, wrote_none}
use Rattle.log_puts.specs.Fields.{put_field, put_fields, program_fields}

pub write-wrote : (l : List ℕ) (at : ℕ) (l₁ l₂ l₃ : List ℕ) (r₁ r₂ r₃ tag : ℕ) (w : Write)
    → Wrote l at (tag ∷ 0 ∷ narrow_write_length ∷ w.address ∷ w.name ∷ []) l₁ r₁ → Wrote l₁ r₁ (bytes4 w.epoch) l₂ r₂ → Wrote l₂ r₂ (bytes4 w.block) l₃ r₃
    → Wrote l at (field_bytes tag (narrow_write_bytes w)) l₃ r₃
unfolding field_bytes narrow_write_bytes
write-wrote l at l₁ l₂ l₃ r₁ r₂ r₃ tag w a b c = wrote_then _ _ _ _ _ _ _ _ a (wrote_then _ _ _ _ _ _ _ _ b c)

pub put-wrote : (l : List ℕ) (at : ℕ) (l₁ l₂ : List ℕ) (r₁ r₂ tag tail epoch block : ℕ)
    → Wrote l at (put_field tag tail 1 epoch block) l₁ r₁ → Wrote l₁ r₁ (put_field tag 0 2 epoch (65537 + tail)) l₂ r₂
    → Wrote l at (put_fields tag tail epoch block) l₂ r₂
unfolding put_fields
put-wrote l at l₁ l₂ r₁ r₂ tag tail epoch block a b = wrote_then _ _ _ _ _ _ _ _ a b

module _ (tag tail epoch : ℕ) (s l : List ℕ) (from : ℕ) where
  pub program_none : Wrote l from (program_fields tag tail epoch s 0) l from
  unfolding program_fields
  program_none = wrote_none l from

  pub program_more : (i at r b : ℕ) (l₁ l₂ : List ℕ) → Wrote l from (program_fields tag tail epoch s i) l₁ at → b ≡ word s (block_length * i) → Wrote l₁ at (put_fields tag (tail + i) (epoch + i) b) l₂ r
      → Wrote l from (program_fields tag tail epoch s (i + 1)) l₂ r
  unfolding program_fields
  program_more i at r b l₁ l₂ w e v = rw (add-one i) (wrote_then _ _ _ _ _ _ _ _ w (rw e at v))

  pub program_all : (i n at : ℕ) (l₁ : List ℕ) → i ≤ n → n ≤ i → Wrote l from (program_fields tag tail epoch s i) l₁ at → Wrote l from (program_fields tag tail epoch s n) l₁ at
  program_all i n at l₁ h k w = let z : i ≡ n = omega arith in rw z at w

pub ruleset putting = (rules, put-wrote, program_none, program_more, program_all)
