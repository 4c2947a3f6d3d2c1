-- `cache_needs::no_tables` meets its contract.
use Rattle.relation.proofs.TableLaws.{blank_made}
use Rattle.cache_masks.specs.Ranks.{bounds}
use Rattle.cache_needs.proofs.no_tables.Goals as goal

pub returns : goal.returns
returns c = blank_made bounds
