-- A test as the judge holds it.
use Rattle.std.specs.Prelude.{◌≤◌, ◌≡◌, List, length, take}
use Rattle.model.specs.declared.Check.{Check}
use Rattle.model.specs.Limits.{most_main, most_checks}
use Rattle.model.specs.Test.{Test, initial_disk}
use Rattle.judge_disks.specs.Packed.{Stores, Labels}
use Rattle.judge_loading.specs.declared.Loaded.{Loaded}

-- the initial disk, the main writes by two columns, and how many main writes and checks there are
pub record LoadsTest (t : Test) (r : Loaded) : Type 0 where
  pub base : r.base ≡ initial_disk t
  pub stores : Stores t.main r.stores
  pub labels : Labels t.main r.labels
  pub main : length t.main ≡ r.main
  pub checks : length t.checks ≡ r.checks
  pub main-most : r.main ≤ most_main
  pub checks-most : r.checks ≤ most_checks

-- the checks, as the first ones of an array
unfoldable pub LoadsChecks : Test → List Check → Type 0
LoadsChecks t checks = take (length t.checks) checks ≡ t.checks
