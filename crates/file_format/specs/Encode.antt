-- The bytes of a file, field by field: what the reader reads back. Names that fit stand in one byte or in two; what we write ourselves is the
-- shortest of these spellings.
use Rattle.std.specs.Prelude.{ℕ, ◌+◌, ◌/◌, ◌%◌, ◌<◌, ◌≤◌, ◌≡◌, ◌⊎◌, cond, ◌&&◌, ltb, length}
use mathlib.Core.List.{List, [], ◌∷◌, ◌++◌, Memᴰ}
use Rattle.model.specs.Limits.{names, narrow_names, words, disk_blocks}
use Rattle.model.specs.declared.Write.{Write}
use Rattle.model.specs.declared.Rule.{Rule}
use Rattle.model.specs.declared.Check.{Check}
use Rattle.model.specs.declared.Check.TheVariants.{Range, Pair, Pointer}
use Rattle.model.specs.Test.{Test, File}
use Rattle.file_format.specs.Bytes.{bytes4, narrow_write_bytes, wide_write_bytes, narrow_rule_bytes, wide_rule_bytes}
use Rattle.file_format.specs.File.{end_tag}

-- *field*: one-byte tag, two-byte length, body
unfoldable pub field_bytes : ℕ → List ℕ → List ℕ
field_bytes tag body = tag ∷ length body / 256 ∷ length body % 256 ∷ body

-- a rule's field: tag 03, or 0A where a name exceeds 255 (02, [2])
unfoldable pub rule_field_bytes : Rule → List ℕ
rule_field_bytes r =
    cond (ltb r.first narrow_names && ltb r.second narrow_names) (field_bytes 3 (narrow_rule_bytes r)) (field_bytes 10 (wide_rule_bytes r))

unfoldable pub rule_fields : List Rule → List ℕ
rule_fields [] = []
rule_fields (r ∷ rs) = rule_field_bytes r ++ rule_fields rs

-- a write's: tag 01 or 02, its kind, or 08 or 09 where the name exceeds 255
unfoldable pub write_field_bytes : ℕ → Write → List ℕ
write_field_bytes kind w = cond (ltb w.name narrow_names) (field_bytes kind (narrow_write_bytes w)) (field_bytes (kind + end_tag) (wide_write_bytes w))

-- initial writes are of kind 1, main writes of kind 2
unfoldable pub write_fields : ℕ → List Write → List ℕ
write_fields kind [] = []
write_fields kind (w ∷ ws) = write_field_bytes kind w ++ write_fields kind ws

unfoldable pub check_field_bytes : Check → List ℕ
check_field_bytes (Range a) = field_bytes 4 (a ∷ [])
check_field_bytes (Pair a v b w) = field_bytes 5 (a ∷ (bytes4 v ++ (b ∷ bytes4 w)))
check_field_bytes (Pointer a) = field_bytes 6 (a ∷ [])

unfoldable pub check_fields : List Check → List ℕ
check_fields [] = []
check_fields (c ∷ cs) = check_field_bytes c ++ check_fields cs

-- a test: its 01s, its 02s, its checks, one 07
unfoldable pub test_bytes : Test → List ℕ
test_bytes t = write_fields 1 t.initial ++ (write_fields 2 t.main ++ (check_fields t.checks ++ field_bytes 7 []))

unfoldable pub tests_bytes : List Test → List ℕ
tests_bytes [] = []
tests_bytes (t ∷ ts) = test_bytes t ++ tests_bytes ts

-- rules come first, then the tests
unfoldable pub file_bytes : File → List ℕ
file_bytes f = rule_fields f.rules ++ tests_bytes f.tests

-- ---- all spellings (02, [2]): names that fit one byte may stand in one byte or in two, field by field

-- these bytes are a rule's field
unfoldable pub SpellsRule : Rule → List ℕ → Type 0
SpellsRule r s = ((r.first < narrow_names) × (r.second < narrow_names) × (s ≡ field_bytes 3 (narrow_rule_bytes r))) ⊎ (s ≡ field_bytes 10 (wide_rule_bytes r))

-- .., a write's, of kind 1 or 2
unfoldable pub SpellsWrite : ℕ → Write → List ℕ → Type 0
SpellsWrite kind w s = ((w.name < narrow_names) × (s ≡ field_bytes kind (narrow_write_bytes w))) ⊎ (s ≡ field_bytes (kind + end_tag) (wide_write_bytes w))

-- .., a check's
unfoldable pub SpellsCheck : Check → List ℕ → Type 0
SpellsCheck c s = s ≡ check_field_bytes c

-- .., those of a list, one after the other
unfoldable pub SpellsEach : {A : Type 0} → (A → List ℕ → Type 0) → List A → List ℕ → Type 0
SpellsEach Spells [] s = s ≡ []
SpellsEach Spells (x ∷ xs) s = (one : List ℕ) × (others : List ℕ) × Spells x one × SpellsEach Spells xs others × (s ≡ one ++ others)

-- .., a test's: its 01s and 08s, its 02s and 09s, its checks, one 07
pub record SpellsTest (t : Test) (s : List ℕ) : Type 0 where
  pub initial : List ℕ
  pub main : List ℕ
  pub checks : List ℕ
  pub spells_initial : SpellsEach (SpellsWrite 1) t.initial initial
  pub spells_main : SpellsEach (SpellsWrite 2) t.main main
  pub spells_checks : SpellsEach SpellsCheck t.checks checks
  pub whole : s ≡ initial ++ (main ++ (checks ++ field_bytes 7 []))

-- .., a file's: rules come first, then the tests
pub record SpellsFile (f : File) (s : List ℕ) : Type 0 where
  pub rules : List ℕ
  pub tests : List ℕ
  pub spells_rules : SpellsEach SpellsRule f.rules rules
  pub spells_tests : SpellsEach SpellsTest f.tests tests
  pub whole : s ≡ rules ++ tests

-- ---- the widths of the parts

pub record RuleFits (r : Rule) : Type 0 where
  pub first : r.first < names
  pub predicate : r.predicate ≤ 2
  pub second : r.second < names

pub record WriteFits (w : Write) : Type 0 where
  pub address : w.address < disk_blocks
  pub name : w.name < names
  pub epoch : w.epoch < words
  pub block : w.block < words

unfoldable pub CheckFits : Check → Type 0
CheckFits (Range a) = a < disk_blocks
CheckFits (Pair a v b w) = (a < disk_blocks) × (v < words) × (b < disk_blocks) × (w < words)
CheckFits (Pointer a) = a < disk_blocks

pub record TestFits (t : Test) : Type 0 where
  pub initial : (w : Write) → Memᴰ w t.initial → WriteFits w
  pub main : (w : Write) → Memᴰ w t.main → WriteFits w
  pub checks : (c : Check) → Memᴰ c t.checks → CheckFits c

pub record FileFits (f : File) : Type 0 where
  pub rules : (r : Rule) → Memᴰ r f.rules → RuleFits r
  pub tests : (t : Test) → Memᴰ t f.tests → TestFits t
