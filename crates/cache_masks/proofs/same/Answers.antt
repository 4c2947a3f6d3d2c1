-- `cache_masks::same` meets its contract.
use native.Mathlib.Omega.{arith}
use Rattle.cache_masks.proofs.MaskSteps.{same-begun, same_more}
use Rattle.cache_masks.proofs.same.Goals as goal

pub loop-j-init : goal.loop-j-init
loop-j-init g c = same-begun g.T.PartialEq.eq c.args.column.now c.args.x

pub loop-j-preserved : goal.loop-j-preserved
loop-j-preserved g c =
    same_more g.T.PartialEq.eq c.args.column.now c.args.x _ _ _ _ _ (omega arith) c.index-column-j.is c.eq.ensures c.loop-j.invariant c.with_if-mask.ensures
