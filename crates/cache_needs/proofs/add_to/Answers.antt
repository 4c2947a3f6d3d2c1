-- `cache_needs::add_to` meets its contract. The invariant: the rows of firsts have what is added, but for those left.
use Rattle.cache_needs.proofs.TableSteps.{adding}
use Rattle.cache_needs.proofs.add_to.Goals as goal

pub standing_in-requires : goal.standing_in-requires
standing_in-requires c = search adding

pub loop-left-smaller : goal.loop-left-smaller
loop-left-smaller c = search adding

pub loop-left-preserved : goal.loop-left-preserved
loop-left-preserved c = search adding
