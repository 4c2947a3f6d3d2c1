-- An opening and a hand-in leave the disk, and no disk changes what they do: each branch of their definitions is so.
use mathlib.Core.Path.{◌≡◌, refl}
use mathlib.Core.Bool.{Bool, true, false, cond, not}
use mathlib.Core.List.{List, [], ◌∷◌, ◌++◌}
use Prim.Native.Nat.{ℕ}
use lib.Dec.{eqb, leb, ltb}
use lib.ListN.{length}
use Rattle.model.specs.Limits.{most_held}
use Rattle.model.specs.declared.Write.{Write}
use Rattle.model.specs.Answer.{Outcome, answer, refused}
use Rattle.model.specs.Cyclic.{cyclic}
use Rattle.model.specs.Test.{File}
use Rattle.file_format.specs.File.{read_of}
use Rattle.model.specs.Needs.{needs_ring, late}
use Rattle.cache_model.specs.State.{accepted_count, rules_in, writes_in, stored_in}
use Rattle.cache_model.specs.Sound.{sound}
use Rattle.cache_model.specs.Calls.{Left, open_with, open_of, hand_in_of}
use Rattle.cache_steps.specs.Given.{call_leaves, coded_left, coded_kept}

-- answer and state are those with no disk, and the disk is as it was
abbrev pub Apart : (List ℕ → Left) → Type 0
Apart f = (d : List ℕ) → coded_left (f d) ≡ call_leaves (coded_kept (f [])).answer (coded_kept (f [])).state d

branch : (b : Bool) (f g : List ℕ → Left) → Apart f → Apart g → Apart (λ d. cond b (f d) (g d))
branch true f g p q = p
branch false f g p q = q

module _ (file s : List ℕ) where
  apart_with : (read : Outcome File) → Apart (open_with read s)
  unfolding open_with coded_left coded_kept
  apart_with (refused number place) = λ d. refl
  apart_with (answer f) =
      branch (ltb 0 (length f.tests)) _ _ (λ d. refl) (branch (cyclic f.rules) _ _ (λ d. refl) (λ d. refl))

  pub open_apart : Apart (open_of file s)
  unfolding open_of coded_left coded_kept
  open_apart = branch (eqb (length s) 1024) _ _ (apart_with (read_of file)) (λ d. refl)

pub hand_apart : (w : Write) (s : List ℕ) → Apart (hand_in_of w s)
unfolding hand_in_of coded_left coded_kept
hand_apart w s =
    branch (not (eqb (length s) 1024)) _ _ (λ d. refl)
    (branch (not (sound s)) _ _ (λ d. refl)
    (branch (leb most_held (accepted_count s)) _ _ (λ d. refl)
    (branch (late (rules_in s) (writes_in s) (stored_in s) w) _ _ (λ d. refl)
    (branch (needs_ring (rules_in s) (writes_in s ++ (w ∷ []))) _ _ (λ d. refl) (λ d. refl)))))
