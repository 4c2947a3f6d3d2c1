-- `file_loading::file_rules` meets its contract. The invariant: the first i rules are loaded, and the next field's place is known.
use Rattle.file_loading.proofs.LoadSteps.{rules_loaded}
use Rattle.file_loading.proofs.file_rules.Goals as goal

pub loop-i-init : goal.loop-i-init
loop-i-init c = search rules_loaded

pub loop-i-preserved : goal.loop-i-preserved
loop-i-preserved c = search rules_loaded
