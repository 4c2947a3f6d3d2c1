-- `judge_search::smallest_bad` meets its contract: the first of the suspects that is bad is the smallest bad schedule.
use Rattle.judge_search.proofs.SearchLaws.{deciding}
use Rattle.judge_search.proofs.smallest_bad.Goals as goal

pub returns : goal.returns
returns c = search deciding
