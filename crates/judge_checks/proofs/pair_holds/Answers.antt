-- `judge_checks::pair_holds` meets its contract, by the cases of its definition.
use Rattle.std.proofs.Common.{◌≡◌}
use Rattle.model.specs.Check.{holds}
use Rattle.relation.proofs.Cases.{cases}
use Rattle.judge_checks.proofs.pair_holds.Goals as goal

pub returns-then-disk-from : goal.returns-then-disk-from
unfolding holds
returns-then-disk-from c =
    let first : c.from.result ≡ c.args.a = c.from.ensures in
    search cases

pub returns-else-disk-from : goal.returns-else-disk-from
unfolding holds
returns-else-disk-from c =
    let first : c.from.result ≡ c.args.a = c.from.ensures in
    search cases
