-- `find_candidates::from_trace` meets its contract. The invariant: the rules from the writes below i are inserted.
use Rattle.find_candidates.proofs.CandidateSteps.{steps}
use Rattle.find_candidates.proofs.from_trace.Goals as goal

pub loop-i-init : goal.loop-i-init
loop-i-init c = search steps

pub loop-i-preserved : goal.loop-i-preserved
loop-i-preserved c = search steps
