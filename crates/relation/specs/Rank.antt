-- The order of sets by their members and then by number as an order of numbers, for sets of numbers below 32.
use Rattle.std.specs.Prelude.{ℕ, ◌+◌, ◌*◌, ◌^◌}
use Rattle.std.specs.Int.Count.{ones}

abbrev pub small_sets : ℕ
small_sets = 2 ^ 32

unfoldable pub rank : ℕ → ℕ
rank s = ones s * small_sets + s
