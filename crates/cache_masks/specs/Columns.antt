-- Writes as columns: the addresses, the names and the epochs.
use Rattle.std.specs.Prelude.{ℕ, List, get_or}
use Rattle.relation.specs.Lists.{tabulate}
use Rattle.model.specs.declared.Write.{Write}
use Rattle.cache_masks.specs.declared.Columns.{Columns}

-- the writes of three columns, without their blocks
unfoldable pub columned : List ℕ → List ℕ → List ℕ → ℕ → List Write
columned addresses names epochs n =
    tabulate (λ i. record { address = get_or addresses i 0; name = get_or names i 0; epoch = get_or epochs i 0; block = 0 }) n

abbrev pub writes_of : Columns → ℕ → List Write
writes_of c n = columned c.addresses c.names c.epochs n
