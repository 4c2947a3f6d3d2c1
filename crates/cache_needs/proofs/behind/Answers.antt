-- `cache_needs::behind` meets its contract: one law for each of its returns.
use Rattle.cache_needs.proofs.TableSteps.{behinds}
use Rattle.cache_needs.proofs.behind.Goals as goal

pub returns-then-place-eq0 : goal.returns-then-place-eq0
returns-then-place-eq0 c = search behinds

pub returns : goal.returns
returns c = search behinds
