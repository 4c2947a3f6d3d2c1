-- The limits of a file, and the longest file within them.
use Rattle.std.specs.Prelude.{ℕ, ◌+◌, ◌*◌, ◌≤◌, ◌<◌, ◌≡◌, true, false, length}
use mathlib.Core.List.{List, Memᴰ}
use Rattle.model.specs.Limits.{most_rules, most_tests, most_initial, most_main, most_checks}
use Rattle.model.specs.Rules.{Known}
use Rattle.model.specs.Test.{Test, File}
use Rattle.file_format.specs.declared.Counts.{Counts}
use Rattle.file_format.specs.File.{head_length, wide_rule_length, wide_write_length, pair_length}
use Rattle.model.specs.Answer.{Outcome, answer, refused}

-- counts that a file read without refusal can have
pub record Within (c : Counts) : Type 0 where
  pub rules : c.rules ≤ most_rules
  pub tests : c.tests ≤ most_tests
  pub begun : c.begun ≡ true → c.tests < most_tests
  pub initial : c.initial ≤ most_initial
  pub main : c.main ≤ most_main
  pub checks : c.checks ≤ most_checks
  pub none : c.begun ≡ false → (c.initial ≡ 0) × (c.main ≡ 0) × (c.checks ≡ 0)

-- no field is longer than a write's with a name of two bytes, and no check's than a pair's
abbrev pub longest_field : ℕ
longest_field = head_length + wide_write_length

abbrev pub longest_check : ℕ
longest_check = head_length + pair_length

abbrev pub longest_rule : ℕ
longest_rule = head_length + wide_rule_length

-- nor is a test longer: all its fields, and its end
abbrev pub longest_test : ℕ
longest_test = (most_initial + most_main) * longest_field + most_checks * longest_check + head_length

-- the longest file that is accepted: rules and tests
abbrev pub longest : ℕ
longest = most_rules * longest_rule + most_tests * longest_test

-- *most*, of a test and of a file
pub record TestLimits (t : Test) : Type 0 where
  pub initial : length t.initial ≤ most_initial
  pub main : length t.main ≤ most_main
  pub checks : length t.checks ≤ most_checks

pub record FileLimits (f : File) : Type 0 where
  pub rules : length f.rules ≤ most_rules
  pub tests : length f.tests ≤ most_tests
  pub known : Known f.rules
  pub each : (t : Test) → Memᴰ t f.tests → TestLimits t

-- what is read is within the limits, and so is the file's length; a refusal has a number from 1 to 7, and a place at which an accepted file could end
unfoldable pub Limited : List ℕ → Outcome File → Type 0
Limited s (answer f) = FileLimits f × (length s ≤ longest)
Limited s (refused number place) = (1 ≤ number) × (number ≤ 7) × (place ≤ longest)
