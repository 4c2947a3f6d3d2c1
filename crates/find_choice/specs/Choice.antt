-- The choice from a table of marked sets.
use Rattle.std.specs.Prelude.{ℕ, ◌-◌, ◌/◌, ◌^◌, ◌≡◌, ◌⊎◌, Option, Some, None, Bool, true, false, cond, not, ◌&&◌, List, leb}
use Rattle.std.proofs.Math.Option as math
use Rattle.std.proofs.Math.Option.{none, some}
use Rattle.std.specs.Int.Count.{ones}
use Rattle.relation.specs.Bits.{bit}
use Rattle.model.specs.declared.Rule.{Rule}
use Rattle.model.specs.Cyclic.{cyclic}
use Rattle.model.specs.Find.{picked}
use Rattle.find_table.specs.Table.{mark_at}

-- a set is acyclic and not marked
unfoldable pub passing : List ℕ → List Rule → ℕ → Bool
passing table cs m = not (cyclic (picked cs m)) && not (mark_at table m)

-- a set has candidate i, and is not marked without it
unfoldable pub spare : List ℕ → ℕ → ℕ → Bool
spare table m i = bit m i && not (mark_at table (m - 2 ^ i))

-- a set has no more rules than the best so far
unfoldable pub rivals : Option ℕ → ℕ → Bool
rivals None m = true
rivals (Some k) m = leb (ones m) (ones k)

unfoldable pub better : (ℕ → Bool) → ℕ → Option ℕ → Option ℕ
better p m best = cond (rivals best m && p m) (Some m) best

-- a choice as the code has it
unfoldable pub choice_code : math.Option ℕ → Option ℕ
choice_code none = None
choice_code (some m) = Some m

-- an answer is true only if each set of a word has more rules than the best so far or is marked
pub record Hopeless (table : List ℕ) (word : ℕ) (best : Option ℕ) (answer : Bool) : Type 0 where
  pub each : answer ≡ true → (m : ℕ) → m / 64 ≡ word → (rivals best m ≡ false) ⊎ (mark_at table m ≡ true)
