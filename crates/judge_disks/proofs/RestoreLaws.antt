-- What a schedule's writes changed is put back: only their addresses differ, and these are restored.
use mathlib.Core.Path.{◌≡◌, refl, sym, ap, ◌∙◌}
use mathlib.Core.Bool.{Bool, true, false, cond}
use mathlib.Core.List.{List, [], ◌∷◌}
use Prim.Native.Nat.{ℕ, zero, suc, ◌+◌, ◌-◌, ◌/◌, ◌%◌, ◌≤◌, ◌<◌}
use native.Mathlib.Nat.{mod-lt, add-zero}
use native.Mathlib.Omega.{arith}
use lib.Dec.{eqb, lit<}
use lib.ListN.{length, get_or, set, length-set}
use lib.Seq.{ext_get_or, get_or-set_same, get_or-set_other}
use borrow.Author.Rules.{rules}
use borrow.Author.Tests.{eqb-true, eqb-false}
use Rattle.relation.specs.Lists.{any}
use Rattle.relation.proofs.ListLaws.{or_none-left, or_none_right}
use Rattle.model.specs.declared.Write.{Write}
use Rattle.model.specs.Limits.{words, disk_blocks}
use Rattle.model.specs.Schedule.{store, run}
use Rattle.judge_disks.specs.Packed.{unpacked, held_from, restored}

-- some write is to an address
abbrev touches : List Write → ℕ → Bool
touches ws x = any (λ w. eqb w.address x) ws

-- other addresses are left alone
run_elsewhere : (ws : List Write) (m : ℕ) (d : List ℕ) (x : ℕ) → touches ws x ≡ false → get_or (run ws m d) x 0 ≡ get_or d x 0
unfolding run any store
run_elsewhere [] m d x h = refl
run_elsewhere (w ∷ ws) m d x h =
    run_elsewhere ws (m / 2) (cond (eqb (m % 2) 1) (set d w.address w.block) d) x (or_none_right (eqb w.address x) (touches ws x) h)
    ∙ go (eqb (m % 2) 1)
  where
    go : (b : Bool) → get_or (cond b (set d w.address w.block) d) x 0 ≡ get_or d x 0
    go true = get_or-set_other d w.address x w.block 0 (λ (e : x ≡ w.address). eqb-false w.address x (or_none-left (eqb w.address x) (touches ws x) h) (sym e))
    go false = refl

length_run : (ws : List Write) (m : ℕ) (d : List ℕ) → length (run ws m d) ≡ length d
unfolding run store
length_run [] m d = refl
length_run (w ∷ ws) m d = length_run ws (m / 2) (cond (eqb (m % 2) 1) (set d w.address w.block) d) ∙ go (eqb (m % 2) 1)
  where
    go : (b : Bool) → length (cond b (set d w.address w.block) d) ≡ length d
    go true = length-set d w.address w.block
    go false = refl

-- so the disk that a schedule leaves is as long as the one it starts from
pub mid_length : (ws : List Write) (x : ℕ) (base mid : List ℕ) → length base ≡ disk_blocks → mid ≡ run ws x base → length mid ≡ disk_blocks
mid_length ws x base mid h e = ap length e ∙ length_run ws x base ∙ h

-- a schedule run on the base, which the disk at hand equals
pub ran : (ws : List Write) (s : ℕ) (base d r : List ℕ) → d ≡ base → r ≡ run ws s d → r ≡ run ws s base
ran ws s base d r e q = rw (← e) q

length-restored : (ws : List Write) (base d : List ℕ) → length (restored ws base d) ≡ length d
unfolding restored
length-restored [] base d = refl
length-restored (w ∷ ws) base d = length-restored ws base (set d w.address (get_or base w.address 0)) ∙ length-set d w.address (get_or base w.address 0)

module _ (t base : List ℕ) where
  -- a block that differs at most where the writes go is as it was
  restored_at : (i n : ℕ) (d : List ℕ) (x : ℕ) → length d ≡ disk_blocks → (touches (held_from t i n) x ≡ false → get_or d x 0 ≡ get_or base x 0)
      → get_or (restored (held_from t i n) base d) x 0 ≡ get_or base x 0
  unfolding restored held_from any
  restored_at i zero d x l h = h refl
  restored_at i (suc n) d x l h =
      restored_at (i + 1) n (set d a (get_or base a 0)) x (length-set d a (get_or base a 0) ∙ l) (λ e. go (eqb a x) refl e)
    where
      a : ℕ
      a = (unpacked (get_or t i 0)).address

      inside : a < disk_blocks
      inside = unfold unpacked in mod-lt (get_or t i 0 / words) {m = disk_blocks} (lit< tt)

      go : (b : Bool) → eqb a x ≡ b → touches (held_from t (i + 1) n) x ≡ false → get_or (set d a (get_or base a 0)) x 0 ≡ get_or base x 0
      go true e f = let z : a ≡ x = eqb-true a x e in rw (← z) (get_or-set_same d a (get_or base a 0) 0 (omega (arith, inside)))
      go false e f = get_or-set_other d a x (get_or base a 0) 0 (λ (z : x ≡ a). eqb-false a x e (sym z)) ∙ h (rw (e, f))

  pub restored-run : (i n m : ℕ) (d : List ℕ) → length base ≡ disk_blocks → d ≡ run (held_from t i n) m base → restored (held_from t i n) base d ≡ base
  restored-run i n m d l e =
      let k : length d ≡ disk_blocks = ap length e ∙ length_run (held_from t i n) m base ∙ l in
      ext_get_or 0 (restored (held_from t i n) base d) base (length-restored (held_from t i n) base d ∙ k ∙ sym l)
      (λ x h. restored_at i n d x k (λ f. ap (λ (y : List ℕ). get_or y x 0) e ∙ run_elsewhere (held_from t i n) m base x f))

-- ---- the loop: what is left to restore gives the whole

module _ (t base d₀ : List ℕ) (from n : ℕ) where
  -- the writes from i on still have to be put back
  abbrev pub Restoring : ℕ → List ℕ → Type 0
  Restoring i d = restored (held_from t (from + i) (n - i)) base d ≡ restored (held_from t from n) base d₀

  pub restoring_none : Restoring 0 d₀
  restoring_none = let z : n - 0 ≡ n = omega arith in rw (z, add-zero from)

  pub restoring_more : (i a : ℕ) (d : List ℕ) → i < n → a ≡ (unpacked (get_or t (from + i) 0)).address → Restoring i d → Restoring (i + 1) (set d a (get_or base a 0))
  unfolding restored held_from
  restoring_more i a d h e q =
      let z : n - i ≡ suc (n - (i + 1)) = omega arith in
      let y : from + (i + 1) ≡ from + i + 1 = omega arith in
      rw (e, y) (rw z at q)

  pub restoring_all : (i : ℕ) (d : List ℕ) → i ≤ n → n ≤ i → Restoring i d → d ≡ restored (held_from t from n) base d₀
  unfolding restored held_from
  restoring_all i d h k q =
      let z : n - i ≡ 0 = omega arith in
      rw z at q

pub ruleset restoring = (rules, restoring_none, restoring_more, restoring_all)
