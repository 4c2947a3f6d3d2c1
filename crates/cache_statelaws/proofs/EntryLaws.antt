-- Entries: one appended, one flagged; what their flags, their count and their writes are then.
use mathlib.Core.Path.{◌≡◌, refl, sym, ap, ◌∙◌}
use mathlib.Core.Logic.{◌≢◌}
use mathlib.Core.Bool.{true, false, false≢true}
use mathlib.Core.List.{List, [], ◌∷◌, ◌++◌}
use Prim.Native.Nat.{ℕ, zero, suc, ◌+◌, ◌≤◌, ◌<◌}
use native.Mathlib.Nat.{zero-add}
use native.Mathlib.Numerals.{add-one}
use native.Mathlib.Omega.{arith}
use lib.ListN.{length, get_or, length-append, length-set, length-map, get_or-append, get_or-map}
use lib.Seq.{get_or_at, get_or-set_same, get_or-set_other, map-set_same}
use Rattle.model.specs.declared.Write.{Write}
use Rattle.model.specs.Schedule.{no_write, write_at}
use Rattle.model.specs.Test.{count_below}
use Rattle.model.proofs.CountLaws.{count_ext}
use Rattle.cache_model.specs.Entries.{Entry, entry, accepted, flag_at, flag_count, appended, flagging}
use Rattle.cache_statelaws.proofs.GeneralLaws.{count-one-more}

pub length-accepted : (b : List Entry) → length (accepted b) ≡ length b
length-accepted b = length-map b (λ e. e.write)

-- write i of the entries
pub accepted-at : (b : List Entry) (i : ℕ) → write_at (accepted b) i ≡ (get_or b i (entry no_write false)).write
accepted-at b i = get_or-map (λ e. e.write) b i (entry no_write false)

-- a flagged write is one of the entries
pub flag-below : (b : List Entry) (i : ℕ) → flag_at b i ≡ true → i < length b
unfolding flag_at
flag-below [] i e = absurd (false≢true e)
flag-below (x ∷ b) zero e = omega arith
flag-below (x ∷ b) (suc i) e = let h = flag-below b i e in omega arith

pub flag_beyond : (b : List Entry) (i : ℕ) → length b ≤ i → flag_at b i ≡ false
unfolding flag_at
flag_beyond [] i h = refl
flag_beyond (e ∷ b) zero h = absurd (omega arith)
flag_beyond (e ∷ b) (suc i) h = flag_beyond b i (omega arith)

-- ---- one appended

-- a flag below the length is the same after an append
pub flag-appended : (b : List Entry) (w : Write) (i : ℕ) → i < length b → flag_at (appended b w) i ≡ flag_at b i
unfolding flag_at appended
flag-appended b w i h = ap (λ (e : Entry). e.flag) (get_or-append b (entry w false ∷ []) (entry no_write false) i h)

pub flag_new : (b : List Entry) (w : Write) → flag_at (appended b w) (length b) ≡ false
unfolding flag_at appended
flag_new b w = ap (λ (e : Entry). e.flag) (get_or_at b (entry w false) [] (entry no_write false) (length b) refl)

pub length-appended : (b : List Entry) (w : Write) → length (appended b w) ≡ suc (length b)
unfolding appended
length-appended b w = length-append b (entry w false ∷ []) ∙ add-one (length b)

pub count-appended : (b : List Entry) (w : Write) → flag_count (appended b w) ≡ flag_count b
unfolding flag_count count_below
count-appended b w =
    rw (length-appended b w)
    (rw (flag_new b w, zero-add) (count_ext (flag_at (appended b w)) (flag_at b) (length b) (flag-appended b w)))

pub accepted-appended : (b : List Entry) (w : Write) → accepted (appended b w) ≡ accepted b ++ (w ∷ [])
unfolding appended
accepted-appended [] w = refl
accepted-appended (e ∷ b) w = ap (λ (l : List Write). e.write ∷ l) (accepted-appended b w)

-- ---- one flagged

pub length-flagging : (b : List Entry) (i : ℕ) → length (flagging i b) ≡ length b
unfolding flagging
length-flagging b zero = refl
length-flagging b (suc i) = length-set b i (entry (get_or b i (entry no_write false)).write true)

pub flag-here : (b : List Entry) (i : ℕ) → i < length b → flag_at (flagging (suc i) b) i ≡ true
unfolding flag_at flagging
flag-here b i h = ap (λ (e : Entry). e.flag) (get_or-set_same b i (entry (get_or b i (entry no_write false)).write true) (entry no_write false) h)

pub flag_else : (b : List Entry) (i j : ℕ) → j ≢ i → flag_at (flagging (suc i) b) j ≡ flag_at b j
unfolding flag_at flagging
flag_else b i j n = ap (λ (e : Entry). e.flag) (get_or-set_other b i j (entry (get_or b i (entry no_write false)).write true) (entry no_write false) n)

pub accepted-flagging : (b : List Entry) (i : ℕ) → accepted (flagging i b) ≡ accepted b
unfolding flagging
accepted-flagging b zero = refl
accepted-flagging b (suc i) = map-set_same (λ e. e.write) b i (entry (get_or b i (entry no_write false)).write true) (entry no_write false) refl

pub write-flagging : (b : List Entry) (i j : ℕ) → (get_or (flagging i b) j (entry no_write false)).write ≡ (get_or b j (entry no_write false)).write
write-flagging b i j = sym (accepted-at (flagging i b) j) ∙ ap (λ (l : List Write). get_or l j no_write) (accepted-flagging b i) ∙ accepted-at b j

-- one more passes
pub count-flagging : (b : List Entry) (i : ℕ) → i < length b → flag_at b i ≡ false → flag_count (flagging (suc i) b) ≡ flag_count b + 1
unfolding flag_count
count-flagging b i h e = rw (length-flagging b (suc i)) (count-one-more (flag_at b) (flag_at (flagging (suc i) b)) i (length b) h e (flag-here b i h) (flag_else b i))
