-- `cache_masks::rank` meets its contract.
use Rattle.cache_masks.proofs.RankSteps.{ranking, smaller-more}
use Rattle.cache_masks.proofs.rank.Goals as goal

pub loop-u-init : goal.loop-u-init
loop-u-init c = search ranking

pub loop-u-preserved : goal.loop-u-preserved
loop-u-preserved c = smaller-more c.args.epochs.now c.args.t _ _ _ c.loop-u.invariant.0 c.loop-u.invariant.1 c.from-count.ensures

pub returns : goal.returns
returns c = search ranking
