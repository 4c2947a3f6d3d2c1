-- What writes need with one write behind the others: among themselves what they needed before, and of the new one only what depends on it.
use mathlib.Core.Path.{◌≡◌, refl}
use mathlib.Core.Logic.{◌≢◌, ⊎_elim}
use mathlib.Core.Bool.{Bool, true}
use mathlib.Core.List.{List, [], ◌∷◌, ◌++◌}
use Prim.Native.Nat.{ℕ, ◌<◌}
use native.Mathlib.Decide.{ℕ_discrete}
use native.Mathlib.Omega.{arith}
use lib.ListN.{length, length-append, get_or-append}
use lib.Seq.{get_or_at}
use Rattle.model.specs.declared.Write.{Write}
use Rattle.model.specs.declared.Rule.{Rule}
use Rattle.model.specs.Rules.{DependsOn, label_of}
use Rattle.model.specs.Schedule.{no_write, write_at, label_at}
use Rattle.model.specs.Needs.{Needs, Late}
use Rattle.model.proofs.ReadyLaws.{needs-left, needs_right}

module _ (rules : List Rule) (ws : List Write) (w : Write) where
  label-old : (i : ℕ) → i < length ws → write_at (ws ++ (w ∷ [])) i ≡ write_at ws i
  label-old i h = get_or-append ws (w ∷ []) no_write i h

  label_new : write_at (ws ++ (w ∷ [])) (length ws) ≡ w
  label_new = get_or_at ws w [] no_write (length ws) refl

  needs-old : (i j : ℕ) → i < length ws → j < length ws → Needs rules (ws ++ (w ∷ [])) i j → Needs rules ws i j
  unfolding Needs
  needs-old i j hi hj n = (hi, hj, rw (label-old i hi, label-old j hj) at n.2)

  needs_new : (i : ℕ) → i < length ws → Needs rules (ws ++ (w ∷ [])) i (length ws) → DependsOn rules (label_at ws i) (label_of w)
  unfolding Needs
  needs_new i hi n = ⊎_elim
      (λ d. rw (label-old i hi, label_new) at d)
      (λ a. let l = a.0 in absurd (omega arith))
      n.2

  -- stored writes need only stored ones among the longer list, if the new one is not late
  pub closed_with : (stored : ℕ → Bool) → ((i j : ℕ) → stored i ≡ true → Needs rules ws i j → stored j ≡ true) → (Late rules ws stored w → ⊥)
      → (i j : ℕ) → i ≢ length ws → stored i ≡ true → Needs rules (ws ++ (w ∷ [])) i j → (j ≢ length ws) × (stored j ≡ true)
  unfolding Late
  closed_with stored closed late i j ne p n =
      let d : i ≢ length ws = ne in
      let a = length-append ws (w ∷ []) in
      let x = needs-left rules (ws ++ (w ∷ [])) i j n in
      let y = needs_right rules (ws ++ (w ∷ [])) i j n in
      let hi : i < length ws = omega arith in
      elim (ℕ_discrete j (length ws)) [
        | yes z ↦ absurd (late (i, hi, p, needs_new i hi (rw z at n)))
        | no e ↦ (let e' : j ≢ length ws = e in (e, closed i j p (needs-old i j hi (omega arith) n)))
      ]
