-- `rule_cycles::starting` meets its contract. The invariant: the mask has the rules below j.
use mathlib.Core.Path.{◌≡◌}
use Rattle.relation.specs.Bits.{mask_of}
use Rattle.rule_cycles.specs.Links.{starts}
use Rattle.rule_cycles.proofs.starting.Given as goal

abbrev pub invariant-loop-j : goal.invariant-loop-j
invariant-loop-j l = l.mask ≡ mask_of (starts l.rules l.name) l.j
