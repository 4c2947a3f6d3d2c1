-- `judge_search::is_repeated` meets its contract.
use Rattle.judge_search.proofs.SearchLaws.{searching}
use Rattle.judge_search.proofs.is_repeated.Goals as goal

pub returns-then-k-eq0 : goal.returns-then-k-eq0
returns-then-k-eq0 c = search searching

pub returns : goal.returns
returns c = search searching
