-- `judge_loading::load_checks` meets its contract: past the writes stand the checks.
use Rattle.judge_loading.proofs.TestLaws.{tests}
use Rattle.judge_loading.proofs.load_checks.Goals as goal

pub returns : goal.returns
returns c = search tests
