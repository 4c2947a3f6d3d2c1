-- `cache_layout::is_framed` meets its contract: one law for each of its returns.
use Rattle.cache_layout.proofs.FramedSteps.{framing}
use Rattle.cache_layout.proofs.is_framed.Goals as goal

pub returns-then-rules-gt-MOST_RULES : goal.returns-then-rules-gt-MOST_RULES
returns-then-rules-gt-MOST_RULES c = search framing

pub returns-then-writes-gt-MOST_HELD : goal.returns-then-writes-gt-MOST_HELD
returns-then-writes-gt-MOST_HELD c = search framing

pub returns-then-state-ne0 : goal.returns-then-state-ne0
returns-then-state-ne0 c = search framing

pub returns-then-not-are_zero : goal.returns-then-not-are_zero
returns-then-not-are_zero c = search framing

pub returns-then-not-are_zero-2 : goal.returns-then-not-are_zero-2
returns-then-not-are_zero-2 c = search framing

pub returns : goal.returns
returns c = search framing
