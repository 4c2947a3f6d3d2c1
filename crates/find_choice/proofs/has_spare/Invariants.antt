-- `find_choice::has_spare` meets its contract. The invariant: no candidate below i is spare.
use mathlib.Core.Path.{◌≡◌}
use mathlib.Core.Bool.{false}
use Rattle.relation.specs.Lists.{any_below}
use Rattle.find_choice.specs.Choice.{spare}
use Rattle.find_choice.proofs.has_spare.Given as goal

abbrev pub invariant-loop-i : goal.invariant-loop-i
invariant-loop-i l = any_below (spare l.table l.m) l.i ≡ false
