-- `find_call::put_narrow_rule` meets its contract: its bytes are the field.
use Rattle.find_call.proofs.FoundLaws.{narrow_wrote}
use Rattle.find_call.proofs.put_narrow_rule.Goals as goal

pub returns : goal.returns
returns c = narrow_wrote _ _ _ _ c.args.rule c.put_bytes.ensures
