-- `log_trace::has_empty` meets its contract. The invariant: none of the first i puts is (0,0).
use Rattle.log_trace.proofs.TraceSteps.{traces}
use Rattle.log_trace.proofs.has_empty.Goals as goal

pub loop-i-init : goal.loop-i-init
loop-i-init c = search traces

pub returns-then-word_at-eq0 : goal.returns-then-word_at-eq0
returns-then-word_at-eq0 c = search traces

pub loop-i-preserved : goal.loop-i-preserved
loop-i-preserved c = search traces

pub returns : goal.returns
returns c = search traces
