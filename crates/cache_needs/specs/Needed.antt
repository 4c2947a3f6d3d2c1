-- What writes need, as masks.
use Rattle.std.specs.Prelude.{ℕ, List, [], ◌∷◌, ◌++◌}
use Rattle.relation.specs.Bits.{mask_of}
use Rattle.model.specs.declared.Rule.{Rule}
use Rattle.model.specs.declared.Write.{Write}
use Rattle.model.specs.Rules.{label_of, depends_on}
use Rattle.model.specs.Schedule.{label_at}
use Rattle.model.specs.Needs.{needs}

-- which of the first n writes write i needs
unfoldable pub needs_row : List Rule → List Write → ℕ → ℕ → ℕ
needs_row rules ws n i = mask_of (needs rules ws i) n

-- which of n writes w, behind them, needs
unfoldable pub needed_mask : List Rule → List Write → Write → ℕ → ℕ
needed_mask rules ws w n = mask_of (λ j. needs rules (ws ++ (w ∷ [])) n j) n

-- which of the first n writes depend on w
unfoldable pub dependent_mask : List Rule → List Write → Write → ℕ → ℕ
dependent_mask rules ws w n = mask_of (λ j. depends_on rules (label_at ws j) (label_of w)) n
