-- The steps of the code, in its terms: a write packed, one more applied.
use mathlib.Core.Path.{◌≡◌, refl, ap, ap₂, ◌∙◌}
use mathlib.Core.Bool.{Bool, true, false, cond}
use mathlib.Core.List.{List, [], ◌∷◌}
use Prim.Native.Nat.{ℕ, zero, suc, ◌+◌, ◌-◌, ◌*◌, ◌/◌, ◌%◌, ◌^◌, ◌≤◌, ◌<◌}
use native.Mathlib.Nat.{add-zero, zero-add, suc-add, mul_comm, mul_assoc, pow-suc}
use native.Mathlib.Omega.{arith}
use lib.Bits.{bit_and, and_mask}
use lib.Dec.{eqb}
use lib.ListN.{length, get_or, set}
use borrow.Author.Rules.{rules}
use Rattle.model.specs.declared.Write.{Write}
use Rattle.model.specs.Limits.{names, words, disk_blocks}
use Rattle.model.specs.Rules.{label_of}
use Rattle.model.specs.Schedule.{write_at, store, run}
use Rattle.judge_disks.specs.Packed.{unpacked, Packs, Stores, held_from, labelled}

-- ---- the disk of a schedule

pub pack-is : (w : Write) (p : ℕ) → w.address < disk_blocks → w.block < words → p ≡ w.address * words + w.block → Packs w p
unfolding Packs unpacked
pack-is w p h k e = (omega arith, omega arith)

pub label_is : (w : Write) (p : ℕ) → w.name < names → w.epoch < words → p ≡ w.name * words + w.epoch → labelled p ≡ label_of w
unfolding labelled
label_is w p h k e =
    let a : p / words % names ≡ w.name = omega arith in
    let b : p % words ≡ w.epoch = omega arith in
    rw (a, b)

pub name-is : (p : ℕ) → p / words % names ≡ (labelled p).name
unfolding labelled
name-is p = refl

pub epoch-is : (p : ℕ) → p % words ≡ (labelled p).epoch
unfolding labelled
epoch-is p = refl

pub block-is : (p : ℕ) → p % words ≡ (unpacked p).block
unfolding unpacked
block-is p = refl

pub stored_yes : (on : Bool) (p a b : ℕ) (d : List ℕ) → on ≡ true → a ≡ (unpacked p).address → b ≡ (unpacked p).block → set d a b ≡ cond on (store (unpacked p) d) d
unfolding store unpacked
stored_yes on p a b d h e q = rw (h, e, q)

pub stored_no : (on : Bool) (p : ℕ) (d : List ℕ) → on ≡ false → d ≡ cond on (store (unpacked p) d) d
stored_no on p d h = rw h

-- a write and the number that stands for it store the same
packed_store : (w : Write) (p : ℕ) (d : List ℕ) → Packs w p → store (unpacked p) d ≡ store w d
unfolding Packs store
packed_store w p d h = rw (h.0, h.1)

-- the column's writes leave what the writes do
held-run : (t : List ℕ) (ws : List Write) (i m : ℕ) (d : List ℕ) → ((j : ℕ) → j < length ws → Packs (write_at ws j) (get_or t (i + j) 0))
    → run (held_from t i (length ws)) m d ≡ run ws m d
unfolding run held_from
held-run t [] i m d h = refl
held-run t (w ∷ ws) i m d h =
    ap (λ (x : List ℕ). run (held_from t (i + 1) (length ws)) (m / 2) (cond (eqb (m % 2) 1) x d))
    (packed_store w (get_or t i 0) d (rw (add-zero i) at (h 0 (omega arith))))
    ∙ held-run t ws (i + 1) (m / 2) (cond (eqb (m % 2) 1) (store w d) d)
    (λ j l. let z : i + suc j ≡ i + 1 + j = omega arith in rw z at (h (suc j) (omega arith)))

pub stores_run : (t : List ℕ) (ws : List Write) (n m : ℕ) (d : List ℕ) → Stores ws t → length ws ≡ n → run (held_from t 0 n) m d ≡ run ws m d
unfolding Stores
stores_run t ws n m d h e = rw (← e) (held-run t ws 0 m d (λ j l. rw (zero-add j) (h j l)))

pub apply-more : (t : List ℕ) (i left n : ℕ) (d d₁ d₂ : List ℕ) → 0 < left
    → d₁ ≡ cond (eqb (bit_and n 1) 1) (store (unpacked (get_or t i 0)) d) d → d₂ ≡ run (held_from t (i + 1) (left - 1)) (n / 2 ^ 1) d₁
    → d₂ ≡ run (held_from t i left) n d
unfolding run held_from
apply-more t i zero n d d₁ d₂ h p q = absurd (omega arith)
apply-more t i (suc left) n d d₁ d₂ h p q =
    let z : suc left - 1 ≡ left = omega arith in
    let m : bit_and n 1 ≡ n % 2 = and_mask n 1 in
    (rw z at q) ∙ ap (run (held_from t (i + 1) left) (n / 2)) (rw m at p)

pub apply-none : (t : List ℕ) (i left n : ℕ) (d : List ℕ) → left ≤ 0 → d ≡ run (held_from t i left) n d
unfolding run held_from
apply-none t i zero n d h = refl
apply-none t i (suc left) n d h = absurd (omega arith)

pub ruleset steps = (rules, pack-is, label_is, name-is, epoch-is, block-is, stored_yes, stored_no, apply-more, apply-none)

-- ---- the disk of a schedule in two parts

-- the first k writes, flagged by the lowest k bits, and the m behind them
pub run_parts : (t : List ℕ) (k i m l h : ℕ) (d : List ℕ) → l < 2 ^ k → run (held_from t i (k + m)) (l + 2 ^ k * h) d ≡ run (held_from t (i + k) m) h (run (held_from t i k) l d)
unfolding run held_from
run_parts t zero i m l h d b =
    let z : l + 2 ^ 0 * h ≡ h = omega arith in
    rw (z, zero-add m, add-zero i)
run_parts t (suc k) i m l h d b =
    let p = pow-suc 2 k in
    let g : 2 ^ suc k * h ≡ 2 * (2 ^ k * h) = ap (λ (x : ℕ). x * h) (p ∙ mul_comm (2 ^ k) 2) ∙ mul_assoc 2 (2 ^ k) h in
    let w = unpacked (get_or t i 0) in
    ap (λ (x : ℕ). run (held_from t i x) (l + 2 ^ suc k * h) d) (suc-add k m)
    ∙ ap₂ (λ (x y : ℕ). run (held_from t (i + 1) (k + m)) x (cond (eqb y 1) (store w d) d)) {x = (l + 2 ^ suc k * h) / 2} {y = l / 2 + 2 ^ k * h} {u = (l + 2 ^ suc k * h) % 2} {v = l % 2} (omega arith) (omega arith)
    ∙ run_parts t k (i + 1) m (l / 2) h (cond (eqb (l % 2) 1) (store w d) d) (omega arith)
    ∙ ap (λ (x : ℕ). run (held_from t x m) h (run (held_from t (i + 1) k) (l / 2) (cond (eqb (l % 2) 1) (store w d) d))) {x = i + 1 + k} {y = i + suc k} (omega arith)
