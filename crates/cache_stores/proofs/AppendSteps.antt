-- The steps of a write's bytes behind those accepted, in the terms of the code.
use mathlib.Core.Path.{◌≡◌, refl}
use mathlib.Core.Bool.{false}
use mathlib.Core.List.{List, [], ◌∷◌}
use Prim.Native.Nat.{ℕ, ◌+◌, ◌≤◌, ◌<◌}
use native.Mathlib.Omega.{arith}
use lib.ListN.{length, set}
use lib.Seq.{sets}
use borrow.Author.Rules.{rules}
use Rattle.model.specs.declared.Write.{Write}
use Rattle.file_format.specs.Bytes.{bytes2, bytes4, wide_write_bytes}
use Rattle.file_writing.specs.Writing.{Wrote}
use Rattle.file_writing.proofs.WroteLaws.{wrote_then}
use Rattle.cache_model.specs.Entries.{entry}
use Rattle.cache_model.specs.State.{entry_length, accepted_count, write_base, entry_bytes, handed}

-- ---- append

pub write-put : (l l₁ l₂ l₃ l₄ : List ℕ) (at r₁ r₂ r₃ r₄ : ℕ) (w : Write) → Wrote l at (w.address ∷ []) l₁ r₁ → Wrote l₁ r₁ (bytes2 w.name) l₂ r₂
    → Wrote l₂ r₂ (bytes4 w.epoch) l₃ r₃ → Wrote l₃ r₃ (bytes4 w.block) l₄ r₄ → Wrote l at (wide_write_bytes w) l₄ r₄
unfolding wide_write_bytes
write-put l l₁ l₂ l₃ l₄ at r₁ r₂ r₃ r₄ w a b c d = wrote_then _ _ _ _ _ _ _ _ a (wrote_then _ _ _ _ _ _ _ _ b (wrote_then _ _ _ _ _ _ _ _ c d))

-- the flag's place is inside
pub flag-inside : (l l₁ : List ℕ) (at r : ℕ) (w : Write) → at + entry_length ≤ length l → Wrote l at (wide_write_bytes w) l₁ r → r < length l₁
unfolding wide_write_bytes
flag-inside l l₁ at r w h p =
    let z : length (wide_write_bytes w) ≡ 11 = refl in
    let e = p.place in
    let f = p.size in
    omega (arith, z, e, f)

pub entry-put : (l l₁ l₂ : List ℕ) (at r₁ r₂ : ℕ) (w : Write) → Wrote l at (wide_write_bytes w) l₁ r₁ → Wrote l₁ r₁ (0 ∷ []) l₂ r₂ → l₂ ≡ sets l at (entry_bytes (entry w false))
unfolding entry_bytes
entry-put l l₁ l₂ at r₁ r₂ w a b = (wrote_then _ _ _ _ _ _ _ _ a b).buffer

pub appended : (s s' : List ℕ) (w : Write) (n at : ℕ) → n ≡ accepted_count s → at ≡ write_base n → s' ≡ sets s at (entry_bytes (entry w false))
    → set s' 1 (accepted_count s + 1) ≡ handed s w
unfolding handed
appended s s' w n at c p e = rw (e, p, c)

pub ruleset appending = (rules, write-put, flag-inside, entry-put, appended)
