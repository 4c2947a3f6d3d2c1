-- Texts written one behind the other are one text.
use mathlib.Core.Path.{◌≡◌, refl, sym, ap, ◌∙◌}
use mathlib.Core.List.{List, [], ◌∷◌, ◌++◌, append_assoc}
use Prim.Native.Nat.{ℕ, suc, ◌+◌, ◌-◌, ◌≤◌}
use native.Mathlib.Nat.{add-zero}
use native.Mathlib.Omega.{arith}
use lib.ListN.{length, set, take, drop, length-append}
use lib.Seq.{sets, sets-eq, length-sets, drop-drop}
use borrow.Rule.Slice.PartMut.{put_mid}
use Rattle.file_writing.specs.Writing.{Wrote}

pub sets-append : (l : List ℕ) (i : ℕ) (vs ws : List ℕ) → sets l i (vs ++ ws) ≡ sets (sets l i vs) (i + length vs) ws
sets-append l i [] ws = rw add-zero
sets-append l i (v ∷ vs) ws =
    sets-append (set l i v) (suc i) vs ws
    ∙ ap (λ (k : ℕ). sets (sets (set l i v) (suc i) vs) k ws) (omega arith)

pub wrote_then : (l : List ℕ) (at : ℕ) (a l₁ : List ℕ) (r₁ : ℕ) (b l₂ : List ℕ) (r₂ : ℕ) → Wrote l at a l₁ r₁ → Wrote l₁ r₁ b l₂ r₂ → Wrote l at (a ++ b) l₂ r₂
wrote_then l at a l₁ r₁ b l₂ r₂ p q =
    record {
      buffer = q.buffer ∙ rw (p.buffer, p.place) (sym (sets-append l at a b));
      place = q.place ∙ rw (p.place, length-append a b) (omega arith);
      size = q.size ∙ p.size;
    }

pub wrote_none : (l : List ℕ) (at : ℕ) → Wrote l at [] l at
wrote_none l at = record { buffer = refl; place = omega arith; size = refl }

pub bytes-wrote : (l : List ℕ) (at : ℕ) (bytes part : List ℕ) → at + length bytes ≤ length l → part ≡ bytes
    → Wrote l at bytes (put_mid at (at + length bytes - at) l part) (at + length bytes)
bytes-wrote l at bytes part h e =
    record { buffer = put; place = refl; size = ap length put ∙ length-sets l at bytes }
  where
    k : at + length bytes - at ≡ length bytes
    k = omega arith

    put : put_mid at (at + length bytes - at) l part ≡ sets l at bytes
    put = rw (e, k, drop-drop (length bytes) at l) (sym (append_assoc (take at l) bytes (drop (at + length bytes) l)) ∙ sym (sets-eq bytes l at h))
