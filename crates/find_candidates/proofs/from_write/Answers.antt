-- `find_candidates::from_write` meets its contract. The invariant: the rules to the writes below j are inserted.
use Rattle.find_candidates.proofs.CandidateSteps.{steps}
use Rattle.find_candidates.proofs.from_write.Goals as goal

pub loop-j-init : goal.loop-j-init
loop-j-init c = search steps

pub loop-j-preserved-then-i-j : goal.loop-j-preserved-then-i-j
loop-j-preserved-then-i-j c = search steps

pub loop-j-preserved : goal.loop-j-preserved
loop-j-preserved c = search steps
