-- `cache_opening::open_with` meets its contract: one law for each of its returns.
use Rattle.std.proofs.Common.{ℕ, ◌∙◌, ap, replicate, rules}
use Rattle.cache_opening.proofs.OpenSteps.{beginning}
use Rattle.cache_opening.proofs.open_with.Goals as goal

pub returns-then-is_cyclic : goal.returns-then-is_cyclic
returns-then-is_cyclic c = search beginning

pub put_rules-requires : goal.put_rules-requires
put_rules-requires c =
    (c.requires.1, c.fill.ensures.after (λ y e. search rules) ∙ ap (λ (n : ℕ). replicate n 0) c.requires.0)

pub returns : goal.returns
returns c = search beginning
