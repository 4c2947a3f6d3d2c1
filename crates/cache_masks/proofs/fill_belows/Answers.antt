-- `cache_masks::fill_belows` meets its contract: marked, then joined (`belows_filled`).
use Rattle.cache_masks.proofs.RankSteps.{filling}
use Rattle.cache_masks.proofs.fill_belows.Goals as goal

pub returns : goal.returns
returns c = search filling
