-- The set of a number, candidate by candidate from the front. By halving the number along the list.
use mathlib.Core.Path.{◌≡◌, refl}
use mathlib.Core.Bool.{Bool, true, false, cond}
use mathlib.Core.List.{List, [], ◌∷◌, ◌++◌}
use Prim.Native.Nat.{ℕ, ◌/◌, ◌%◌}
use native.Mathlib.Nat.{div-one}
use lib.Dec.{eqb}
use lib.ListN.{length}
use Rattle.relation.specs.Bits.{bit}
use Rattle.relation.proofs.BitLaws.{bit-suc}
use Rattle.model.specs.declared.Rule.{Rule}
use Rattle.model.specs.Find.{picked}

-- the lowest bit
pub bit-lowest : (m : ℕ) → bit m 0 ≡ eqb (m % 2) 1
unfolding bit
bit-lowest m = rw (div-one m)

pub picked_snoc : (l : List Rule) (x : Rule) (m : ℕ) → picked (l ++ (x ∷ [])) m ≡ picked l m ++ cond (bit m (length l)) (x ∷ []) []
unfolding picked
picked_snoc [] x m = rw (bit-lowest m)
picked_snoc (y ∷ ys) x m = rw (bit-suc m (length ys), picked_snoc ys x (m / 2)) (go (eqb (m % 2) 1))
  where
    rest : List Rule
    rest = picked ys (m / 2)

    more : List Rule
    more = cond (bit (m / 2) (length ys)) (x ∷ []) []

    go : (b : Bool) → cond b (y ∷ (rest ++ more)) (rest ++ more) ≡ cond b (y ∷ rest) rest ++ more
    go true = refl
    go false = refl
