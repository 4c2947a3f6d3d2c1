-- `find_table::lacking` meets its contract. By the power.
use Rattle.find_table.proofs.TableSteps.{lowering}
use Rattle.find_table.proofs.lacking.Goals as goal

pub overflow_shl-result-2 : goal.overflow_shl-result-2
overflow_shl-result-2 c = search lowering

pub overflow_add-result : goal.overflow_add-result
overflow_add-result c = search lowering

pub returns : goal.returns
returns c = search lowering
