-- `judge_settled::fill_runs` meets its contract. The invariant: the runs of the blocks from k on, and the one at k.
use mathlib.Core.Path.{◌≡◌}
use Prim.Native.Nat.{◌≤◌}
use lib.ListN.{length}
use Rattle.model.specs.Limits.{disk_blocks}
use Rattle.judge_settled.specs.Settled.{Run, Runs}
use Rattle.judge_settled.proofs.fill_runs.Given as goal

abbrev pub invariant-loop-k : goal.invariant-loop-k
invariant-loop-k l = (l.k ≤ disk_blocks) × (length l.runs ≡ disk_blocks) × (Run l.base l.writers l.k l.to × Runs l.base l.writers l.k l.runs)
