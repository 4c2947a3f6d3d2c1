-- `cache_needs::needed` meets its contract. The invariant: the mask has what w needs by the first k rules.
use native.Mathlib.Omega.{arith}
use Rattle.cache_needs.proofs.NeedSteps.{needing, needed-begun}
use Rattle.cache_needs.proofs.needed.Goals as goal

pub loop-k-init : goal.loop-k-init
loop-k-init c =
    (omega arith, needed-begun c.args.columns.now.addresses c.args.columns.now.names c.args.columns.now.epochs c.args.n c.args.rules c.args.w _ (omega arith) c.same-mask.ensures)

pub loop-k-preserved : goal.loop-k-preserved
loop-k-preserved c = search needing
