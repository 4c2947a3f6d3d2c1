-- `find_call::put_wide_rule` meets its contract: its bytes, written one behind the other, are the field.
use Rattle.find_call.proofs.FoundLaws.{wide-wrote}
use Rattle.find_call.proofs.put_wide_rule.Goals as goal

pub returns : goal.returns
returns c = wide-wrote _ _ _ _ _ _ _ _ _ _ _ c.put_bytes-a.ensures c.put_half-b.ensures c.put-c.ensures c.put_half.ensures
