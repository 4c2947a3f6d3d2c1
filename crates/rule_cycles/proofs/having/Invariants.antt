-- `rule_cycles::having` meets its contract. The invariant: the mask has the rules below i.
use mathlib.Core.Path.{◌≡◌}
use Rattle.relation.specs.Bits.{mask_of}
use Rattle.model.specs.Cyclic.{has}
use Rattle.rule_cycles.proofs.having.Given as goal

abbrev pub invariant-loop-i : goal.invariant-loop-i
invariant-loop-i l = l.mask ≡ mask_of (has l.rules l.predicate) l.i
