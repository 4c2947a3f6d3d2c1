-- Reached in one or more steps: joined, prolonged at the end, taken apart at the beginning, mapped, and without steps on the spot. By induction on the
-- first walk.
use mathlib.Core.Path.{◌≡◌, refl, sym, subst, ◌∙◌}
use mathlib.Core.Logic.{◌⊎◌, inl, inr}
use Rattle.relation.specs.Transitive.{Plus, one, more}

module _ {A : Type 0} {R : A → A → Type 0} where
  pub plus_trans : {x y z : A} → Plus R x y → Plus R y z → Plus R x z
  plus_trans (one r) w = more r w
  plus_trans (more r v) w = more r (plus_trans v w)

  pub plus_snoc : {x y z : A} → Plus R x y → R y z → Plus R x z
  plus_snoc w r = plus_trans w (one r)

  -- the first step leads there, or goes on
  pub plus_first : {x z : A} → Plus R x z → (y : A) × R x y × ((y ≡ z) ⊎ Plus R y z)
  plus_first (one {y = y} r) = (y, r, inl refl)
  plus_first (more {y = y} r w) = (y, r, inr w)

  pub plus_map : {B : Type 0} {S : B → B → Type 0} (f : A → B) → ((x y : A) → R x y → S (f x) (f y))
      → {x y : A} → Plus R x y → Plus S (f x) (f y)
  plus_map f h (one {x = x} {y = y} r) = one (h x y r)
  plus_map f h (more {x = x} {y = y} r w) = more (h x y r) (plus_map f h w)

-- a step from something to something else
abbrev pub Moves : {A : Type 0} → (A → A → Type 0) → A → A → Type 0
Moves R x y = R x y × (x ≡ y → ⊥)

-- what is reached from something else is reached by such steps
module _ {A : Type 0} {R : A → A → Type 0} (same : (x y : A) → (x ≡ y) ⊎ (x ≡ y → ⊥)) where
  pub plus_moves : {x z : A} → Plus R x z → (x ≡ z → ⊥) → Plus (Moves R) x z
  plus_moves (one r) d = one (r, d)
  plus_moves (more {x = x} {y = y} {z = z} r w) d = go (same x y) (same y z) (λ n. plus_moves w n)
    where
      go : (x ≡ y) ⊎ (x ≡ y → ⊥) → (y ≡ z) ⊎ (y ≡ z → ⊥) → ((y ≡ z → ⊥) → Plus (Moves R) y z) → Plus (Moves R) x z
      go (inl e) _ rest = subst (λ (v : A). Plus (Moves R) v z) (sym e) (rest (λ q. d (e ∙ q)))
      go (inr n) (inl q) rest = subst (λ (v : A). Plus (Moves R) x v) q (one (r, n))
      go (inr n) (inr m) rest = more (r, n) (rest m)
