-- `rule_cycles::may_ring` meets its contract. By the table, which agrees with the relation below the count.
use Rattle.rule_cycles.proofs.CycleSteps.{steps}
use Rattle.rule_cycles.proofs.may_ring.Goals as goal

pub returns-then-among-eq0 : goal.returns-then-among-eq0
returns-then-among-eq0 c = search steps

pub fill_buckets-requires : goal.fill_buckets-requires
fill_buckets-requires c = search steps

pub returns : goal.returns
returns c = search steps
