-- `find_call::too_long` meets its contract. The invariant: none of the tests before is too long.
use mathlib.Core.Path.{◌≡◌}
use mathlib.Core.Bool.{false}
use Rattle.find_call.specs.Finder.{long_below}
use Rattle.find_call.proofs.too_long.Given as goal

abbrev pub invariant-loop-test : goal.invariant-loop-test
invariant-loop-test l = long_below l.fn.tests l.test-index ≡ false
