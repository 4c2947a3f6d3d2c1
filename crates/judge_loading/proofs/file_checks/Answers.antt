-- `judge_loading::file_checks` meets its contract. The invariant: the first i checks are loaded, and the next field's place is known.
use Rattle.judge_loading.proofs.TestLaws.{checks}
use Rattle.judge_loading.proofs.file_checks.Goals as goal

pub loop-i-init : goal.loop-i-init
loop-i-init c = search checks

pub loop-i-preserved : goal.loop-i-preserved
loop-i-preserved c = search checks
