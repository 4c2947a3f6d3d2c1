-- The block that a schedule leaves at an address: that of the last flagged write there, or what was there. By induction on the writes.
use mathlib.Core.Path.{◌≡◌, refl, sym, ap, ◌∙◌}
use mathlib.Core.Bool.{Bool, true, false, cond}
use mathlib.Core.List.{List, [], ◌∷◌}
use Prim.Native.Nat.{ℕ, zero, suc, ◌+◌, ◌/◌, ◌%◌, ◌<◌}
use native.Mathlib.Nat.{div-one, zero-add}
use native.Mathlib.Omega.{arith}
use lib.Dec.{eqb}
use lib.ListN.{length, get_or, length-set}
use lib.Seq.{get_or-set_same, get_or-set_other}
use Rattle.relation.specs.Bits.{bit}
use Rattle.relation.proofs.BitLaws.{bit-suc}
use Rattle.model.specs.declared.Write.{Write}
use Rattle.model.specs.Disk.{block_at}
use Rattle.model.specs.Schedule.{write_at, store, run}
use Rattle.judge_disks.specs.Packed.{unpacked, held_from}

bit-lowest : (s : ℕ) → bit s 0 ≡ eqb (s % 2) 1
unfolding bit
bit-lowest s = rw (div-one s)

-- no flagged write there
run_none : (ws : List Write) (s : ℕ) (d : List ℕ) (x : ℕ) → ((j : ℕ) → j < length ws → bit s j ≡ true → (write_at ws j).address ≡ x → ⊥) → block_at (run ws s d) x ≡ block_at d x
unfolding run
run_none [] s d x f = refl
run_none (w ∷ ws) s d x f =
    run_none ws (s / 2) (cond (eqb (s % 2) 1) (store w d) d) x (λ j l e q. f (suc j) (omega arith) (bit-suc s j ∙ e) q)
    ∙ go (eqb (s % 2) 1) refl
  where
    go : (t : Bool) → eqb (s % 2) 1 ≡ t → block_at (cond t (store w d) d) x ≡ block_at d x
    go true e = unfold store in get_or-set_other d w.address x w.block 0 (λ z. f 0 (omega arith) (bit-lowest s ∙ e) (sym z))
    go false e = refl

-- the last flagged write there
run-last : (ws : List Write) (s : ℕ) (d : List ℕ) (x h : ℕ) → h < length ws → x < length d → bit s h ≡ true → (write_at ws h).address ≡ x
    → ((j : ℕ) → h < j → j < length ws → bit s j ≡ true → (write_at ws j).address ≡ x → ⊥) → block_at (run ws s d) x ≡ (write_at ws h).block
unfolding run
run-last [] s d x h l m e q f = absurd (omega arith)
run-last (w ∷ ws) s d x zero l m e q f =
    run_none ws (s / 2) (cond (eqb (s % 2) 1) (store w d) d) x (λ j k b z. f (suc j) (omega arith) (omega arith) (bit-suc s j ∙ b) z)
    ∙ rw (sym (bit-lowest s) ∙ e, ← q) (unfold store in get_or-set_same d w.address w.block 0 (rw (← q) at m))
run-last (w ∷ ws) s d x (suc h) l m e q f =
    run-last ws (s / 2) (cond (eqb (s % 2) 1) (store w d) d) x h (omega arith) (rw (same (eqb (s % 2) 1)) m) (sym (bit-suc s h) ∙ e) q
    (λ j k i b z. f (suc j) (omega arith) (omega arith) (bit-suc s j ∙ b) z)
  where
    same : (t : Bool) → length (cond t (store w d) d) ≡ length d
    same true = unfold store in length-set d w.address w.block
    same false = refl

-- ---- of a column

held-length : (t : List ℕ) (i n : ℕ) → length (held_from t i n) ≡ n
unfolding held_from
held-length t i zero = refl
held-length t i (suc n) = ap suc (held-length t (i + 1) n)

held_at : (t : List ℕ) (i n j : ℕ) → j < n → write_at (held_from t i n) j ≡ unpacked (get_or t (i + j) 0)
unfolding held_from
held_at t i zero j h = absurd (omega arith)
held_at t i (suc n) zero h = ap (λ (k : ℕ). unpacked (get_or t k 0)) {x = i} {y = i + 0} (omega arith)
held_at t i (suc n) (suc j) h = held_at t (i + 1) n j (omega arith) ∙ ap (λ (k : ℕ). unpacked (get_or t k 0)) {x = i + 1 + j} {y = i + suc j} (omega arith)

module _ (t base : List ℕ) (n s a : ℕ) where
  first-at : (j : ℕ) → j < n → write_at (held_from t 0 n) j ≡ unpacked (get_or t j 0)
  first-at j h = held_at t 0 n j h ∙ ap (λ (k : ℕ). unpacked (get_or t k 0)) (zero-add j)

  inside : (j : ℕ) → j < length (held_from t 0 n) → j < n
  inside j h = rw (held-length t 0 n) at h

  pub column_none : ((j : ℕ) → j < n → bit s j ≡ true → (unpacked (get_or t j 0)).address ≡ a → ⊥) → block_at (run (held_from t 0 n) s base) a ≡ block_at base a
  column_none f = run_none (held_from t 0 n) s base a (λ j h e q. f j (inside j h) e (ap (λ (w : Write). w.address) (sym (first-at j (inside j h))) ∙ q))

  pub column_last : (h : ℕ) → h < n → a < length base → bit s h ≡ true → (unpacked (get_or t h 0)).address ≡ a
      → ((j : ℕ) → h < j → j < n → bit s j ≡ true → (unpacked (get_or t j 0)).address ≡ a → ⊥) → block_at (run (held_from t 0 n) s base) a ≡ (unpacked (get_or t h 0)).block
  column_last h l m e q f =
      run-last (held_from t 0 n) s base a h (rw (held-length t 0 n) l) m e (ap (λ (w : Write). w.address) (first-at h l) ∙ q)
      (λ j k i b z. f j k (inside j i) b (ap (λ (w : Write). w.address) (sym (first-at j (inside j i))) ∙ z))
      ∙ ap (λ (w : Write). w.block) (first-at h l)
