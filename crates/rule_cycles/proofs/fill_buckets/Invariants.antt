-- `rule_cycles::fill_buckets` meets its contract. The invariant: the buckets have the rules below j.
use Rattle.rule_cycles.specs.Links.{Buckets}
use Rattle.rule_cycles.proofs.fill_buckets.Given as goal

abbrev pub invariant-loop-j : goal.invariant-loop-j
invariant-loop-j l = Buckets l.rules l.j l.buckets
