-- `cache_masks::no_columns` meets its contract.
use Rattle.relation.proofs.TableLaws.{blank_made}
use Rattle.model.specs.Limits.{most_held}
use Rattle.cache_masks.proofs.no_columns.Goals as goal

pub returns : goal.returns
returns c = (blank_made most_held, (blank_made most_held, blank_made most_held))
