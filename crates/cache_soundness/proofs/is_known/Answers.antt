-- `cache_soundness::is_known` meets its contract.
use Rattle.std.proofs.Common.{◌∙◌, take, rules, tests}
use lib.Dec.{leb}
use Rattle.std.proofs.lemmas.Iterator.{YieldsList-from_slice}
use Rattle.std.proofs.lemmas.Iterator.Search.{all_from_yields_List}
use Rattle.model.specs.declared.Rule.{Rule}
use Rattle.cache_soundness.proofs.PartSteps.{known_all}
use Rattle.cache_soundness.proofs.is_known.Goals as goal

pub returns : goal.returns
returns c =
    all_from_yields_List (λ (r : Rule). leb r.predicate 2) _ _ c.all.result c.all.ensures.ran (YieldsList-from_slice (take c.args.rules.count c.args.rules.items) cc) (λ x b q k. search (rules, tests))
    ∙ known_all (take c.args.rules.count c.args.rules.items)
