-- Sufficiency as a question of sets: which candidates leave an inconsistent schedule valid.
use Rattle.std.specs.Prelude.{ℕ, zero, suc, ◌^◌, ◌<◌, ◌≡◌, Bool, not, ◌&&◌, ◌||◌, List, [], ◌∷◌, eqb, length}
use Rattle.relation.specs.Bits.{with_bit, mask_of}
use Rattle.relation.specs.Lists.{all, any, any_below}
use Rattle.model.specs.declared.Rule.{Rule}
use Rattle.model.specs.declared.Write.{Write}
use Rattle.model.specs.Cyclic.{rule_at}
use Rattle.model.specs.Schedule.{valid}
use Rattle.model.specs.Check.{consistent}
use Rattle.model.specs.Test.{Test, schedules, disk_after, test_holds}
use Rattle.model.specs.Find.{picked}

-- candidate i alone leaves a schedule valid
unfoldable pub allows : List Rule → List Write → ℕ → ℕ → Bool
allows cs ws s i = valid (rule_at cs i ∷ []) ws s

-- the set of those candidates
unfoldable pub allowed : List Rule → List Write → ℕ → ℕ
allowed cs ws s = mask_of (allows cs ws s) (length cs)

-- a set is marked by a test: it is all that leaves some inconsistent schedule valid
unfoldable pub marks : List Rule → Test → ℕ → Bool
marks cs t x = any_below (λ s. not (consistent t.checks (disk_after t s)) && eqb (allowed cs t.main s) x) (schedules t)

unfoldable pub marked : List Rule → List Test → ℕ → Bool
marked cs tests x = any (λ t. marks cs t x) tests

-- marks handed down to the parts of marked sets, by the candidates below b
unfoldable pub spread : (ℕ → Bool) → ℕ → ℕ → Bool
spread f zero x = f x
spread f (suc b) x = spread f b x || spread f b (with_bit x b)

-- a set makes all tests hold exactly if it is no part of a marked one
abbrev pub Hits : Type 0
Hits =
    (tests : List Test) (cs : List Rule) (m : ℕ) → m < 2 ^ length cs
    → all (test_holds (picked cs m)) tests ≡ not (spread (marked cs tests) (length cs) m)
