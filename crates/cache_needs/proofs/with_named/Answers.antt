-- `cache_needs::with_named` meets its contract.
use native.Mathlib.Omega.{arith}
use Rattle.cache_needs.proofs.NeedSteps.{named_on}
use Rattle.cache_needs.proofs.with_named.Goals as goal

pub returns : goal.returns
returns c = named_on _ c.args.names.now _ _ _ _ _ c.if-not-on.false (omega arith) c.same.ensures
