-- `find_candidates::collect` meets its contract. The invariant: the candidates of the tests from t on are held.
use Rattle.find_candidates.proofs.CandidateSteps.{steps, collect-more}
use Rattle.std.proofs.Common.{rules}
use Rattle.find_candidates.proofs.collect.Goals as goal

pub loop-t-init : goal.loop-t-init
loop-t-init c = search steps

pub loop-t-preserved : goal.loop-t-preserved
loop-t-preserved c =
    let l = c.loop-t in (
      search steps,
      search steps,
      collect-more _ _ _ c.requires _ l.t c.load_test-test.result l.out _ l.invariant.2 (search rules) (search rules) c.load_test-test.ensures c.from_trace.ensures.1,
    )
