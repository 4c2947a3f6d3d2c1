-- Bytes written at a place of a buffer.
use Rattle.std.specs.Prelude.{ℕ, ◌+◌, ◌≡◌, List, length}
use Rattle.std.proofs.lemmas.List.Edits.{sets}

-- the buffer with the bytes in place of as many from a place on, and where they end
pub record Wrote (before : List ℕ) (at : ℕ) (bytes after : List ℕ) (next : ℕ) : Type 0 where
  pub buffer : after ≡ sets before at bytes
  pub place : next ≡ at + length bytes
  pub size : length after ≡ length before
