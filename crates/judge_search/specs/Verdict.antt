-- The verdict on a test: the smallest bad schedule, if there is one. A test without one holds.
use Rattle.std.specs.Prelude.{ℕ, Option, None, Some}
use Rattle.std.proofs.Math.Option.{none, some}
use Rattle.std.proofs.Math.Option as maybe

-- none: holds; else fails with it
unfoldable pub verdict_by : maybe.Option ℕ → Option ℕ
verdict_by none = None
verdict_by (some s) = Some s
