-- `find_call::choice` meets its contract. The sets that are not marked in the end are those that make all tests hold.
use Rattle.relation.proofs.TableLaws.{blank_made}
use Rattle.find_table.specs.Table.{set_words}
use Rattle.find_choice.proofs.ChoiceSteps.{choosing}
use Rattle.find_call.proofs.choice.Goals as goal

pub mark_all-requires : goal.mark_all-requires
mark_all-requires c = (search choosing, (search choosing, (search choosing, blank_made set_words)))

pub returns : goal.returns
returns c = search choosing
