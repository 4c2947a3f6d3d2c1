-- `find_sets::pick` meets its contract. The invariant: the first n rules written are the set of the first i candidates.
use mathlib.Core.Path.{◌≡◌}
use Prim.Native.Nat.{◌≤◌}
use lib.ListN.{length, take}
use Rattle.model.specs.Limits.{most_rules}
use Rattle.model.specs.Find.{picked}
use Rattle.find_sets.proofs.pick.Given as goal

abbrev pub invariant-loop-i : goal.invariant-loop-i
invariant-loop-i l = (l.n ≤ l.i) × (length l.items ≡ most_rules) × (take l.n l.items ≡ picked (take l.i l.fn.c.items) l.m)
