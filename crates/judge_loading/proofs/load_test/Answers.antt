-- `judge_loading::load_test` meets its contract: the columns of the main writes, and the disk of the initial ones.
use Rattle.judge_loading.proofs.TestLaws.{tests}
use Rattle.judge_loading.proofs.load_test.Goals as goal

pub returns : goal.returns
returns c = search tests
