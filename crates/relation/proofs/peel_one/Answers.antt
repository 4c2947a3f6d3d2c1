-- `relation::peel_one` meets its contract: one law for each of its two returns.
use Rattle.relation.proofs.PeelLaws.{peeling}
use Rattle.relation.proofs.peel_one.Goals as goal

pub returns-then-row-left-ne0 : goal.returns-then-row-left-ne0
returns-then-row-left-ne0 c = search peeling

pub returns : goal.returns
returns c = search peeling
