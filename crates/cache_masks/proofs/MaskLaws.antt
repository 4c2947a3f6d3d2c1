-- What compared epochs tell: the masks of the predicates.
use mathlib.Core.Path.{◌≡◌, refl, sym, ◌∙◌}
use mathlib.Core.Bool.{Bool, true, false}
use mathlib.Core.List.{List}
use Prim.Native.Nat.{ℕ, zero, suc}
use lib.Dec.{eqb}
use lib.ListN.{get_or}
use borrow.Author.Tests.{eqb-true, eqb-false, eq-eqb, ne_eqb}
use Rattle.relation.proofs.BitLaws.{mask_ext}
use Rattle.relation.proofs.MaskLaws.{mask_none}
use Rattle.model.specs.Rules.{stands}
use Rattle.cache_masks.specs.declared.Epochs.{Epochs}
use Rattle.cache_masks.specs.Masks.{epoch_mask, back_mask, Compared, standing_by, turned_round}

eqb-turned : (a b : ℕ) → eqb a b ≡ eqb b a
eqb-turned a b = go (eqb b a) refl
  where
    go : (t : Bool) → eqb b a ≡ t → eqb a b ≡ t
    go true e = eq-eqb a b (sym (eqb-true b a e))
    go false e = ne_eqb a b (λ z. eqb-false b a e (sym z))

module _ (epochs : List ℕ) (t n : ℕ) (e : Epochs) (compared : Compared epochs t n e) where
  pub standing_mask : (p : ℕ) → standing_by e p ≡ epoch_mask epochs p t n
  unfolding Compared standing_by epoch_mask stands
  standing_mask zero = compared.0
  standing_mask (suc zero) = compared.1
  standing_mask (suc (suc zero)) = compared.2
  standing_mask (suc (suc (suc p))) = mask_none n

  pub back-mask : (p : ℕ) → standing_by (turned_round e) p ≡ back_mask epochs p t n
  unfolding Compared standing_by epoch_mask back_mask stands
  back-mask zero = compared.0 ∙ mask_ext _ _ n (λ j h. eqb-turned t (get_or epochs j 0))
  back-mask (suc zero) = compared.2
  back-mask (suc (suc zero)) = compared.1
  back-mask (suc (suc (suc p))) = mask_none n
