-- `judge_settled::fill_runs` meets its contract. The invariant: the runs of the blocks from k on, and the one at k.
use Rattle.judge_settled.proofs.RunLaws.{running}
use Rattle.judge_settled.proofs.fill_runs.Goals as goal

pub loop-k-preserved : goal.loop-k-preserved
loop-k-preserved c = search running
