-- The tests of a file, and the candidate of two writes.
use Rattle.std.specs.Prelude.{ℕ, Bool, cond, ◌≡◌, List, [], eqb, ltb, length}
use Rattle.relation.specs.Lists.{any}
use Rattle.model.specs.Limits.{most_found}
use Rattle.model.specs.declared.Rule.{Rule}
use Rattle.model.specs.declared.Write.{Write}
use Rattle.model.specs.Answer.{Outcome, answer, refused}
use Rattle.model.specs.Rules.{Label}
use Rattle.model.specs.Test.{Test, File}
use Rattle.model.specs.Find.{pairing, inserted, from_write, from_trace}
use Rattle.file_format.specs.File.{read_of}
use Rattle.rule_match.specs.declared.Rules.{Rules}
use Rattle.judge_disks.specs.Packed.{Labels}
use Rattle.find_sets.specs.Kept.{Follows}

-- the candidate of writes i and j, if these are two
unfoldable pub paired : ℕ → ℕ → Label → Label → List Rule → List Rule
paired i j l m found = cond (eqb i j) found (inserted (pairing l m) found)

-- what the labels of a column add to the candidates: those from write i to the writes below j, and those from the writes below k,
-- of any trace of n writes with these labels
pub record Pairs (column : List ℕ) (n i j : ℕ) (c d : Rules) : Type 0 where
  pub follows : (ws : List Write) → length ws ≡ n → Labels ws column → Follows (from_write ws i j) c d

pub record Traces (column : List ℕ) (n k : ℕ) (c d : Rules) : Type 0 where
  pub follows : (ws : List Write) → length ws ≡ n → Labels ws column → Follows (from_trace ws k) c d

-- the tests of a file
unfoldable pub tests_of : Outcome File → List Test
tests_of (answer f) = f.tests
tests_of (refused number place) = []

unfoldable pub tests_in : List ℕ → List Test
tests_in s = tests_of (read_of s)

-- one of them has more main writes than finding takes (02, [8])
unfoldable pub too_long : List Test → Bool
too_long tests = any (λ t. ltb most_found (length t.main)) tests
