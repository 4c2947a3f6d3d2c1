-- `cache_masks::fill_ranks` meets its contract. The invariant: r is the rank of t, and the first i ranks are filled in.
use Rattle.cache_masks.proofs.RankSteps.{ranking}
use Rattle.cache_masks.proofs.RankLaws.{ranks-done}
use Rattle.cache_masks.proofs.fill_ranks.Goals as goal

pub loop-i-init : goal.loop-i-init
loop-i-init c = search ranking

pub loop-i-preserved : goal.loop-i-preserved
loop-i-preserved c = (search ranking, search ranking, search ranking, search ranking)

pub returns : goal.returns
returns c = (search ranking, search (ranking, ranks-done))
