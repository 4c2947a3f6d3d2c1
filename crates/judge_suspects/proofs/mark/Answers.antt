-- `judge_suspects::mark` meets its contract. The invariant: the masks of the checks so far.
use Rattle.judge_suspects.proofs.MarkLaws.{checking}
use Rattle.judge_suspects.proofs.mark.Goals as goal

pub loop-c-init : goal.loop-c-init
loop-c-init c = search checking

pub loop-c-preserved : goal.loop-c-preserved
loop-c-preserved c = search checking
