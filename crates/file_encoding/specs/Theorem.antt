-- What is shown: reading accepts exactly the bytes of files, in any spelling of their names; and old files keep their meaning, as they stand and
-- rewritten with names of two bytes.
use Rattle.std.specs.Prelude.{ℕ, ◌≤◌, ◌≡◌, ◌↔◌, ◌⊎◌, Bool, true, List, length}
use Rattle.model.specs.Answer.{answer, refused}
use Rattle.model.specs.Test.{File}
use Rattle.file_format.specs.Bytes.{byte, Small}
use Rattle.file_format.specs.File.{is_tag, is_wide, read_of}
use Rattle.file_reader.specs.Limits.{FileLimits}
use Rattle.file_format.specs.Encode.{file_bytes, SpellsFile, FileFits}
use Rattle.file_encoding.specs.Before.{old_read_of}
use Rattle.file_encoding.specs.Rewrite.{widened}

-- the bytes of a file within the limits, whose parts are within their widths
pub record Encodes (s : List ℕ) (f : File) : Type 0 where
  pub limits : FileLimits f
  pub fits : FileFits f
  pub spelled : SpellsFile f s

-- a file is read from exactly its own bytes
unfoldable pub ReadsExactly : Type 0
ReadsExactly = (s : List ℕ) (f : File) → Small s → (read_of s ≡ answer f) ↔ Encodes s f

-- what we write ourselves is one of these, and none is shorter
abbrev pub ShortestSpelled : Type 0
ShortestSpelled = (f : File) → SpellsFile f (file_bytes f) × ((s : List ℕ) → SpellsFile f s → length (file_bytes f) ≤ length s)

-- one of the new tags
abbrev pub NewTag : ℕ → Type 0
NewTag tag = (is_tag tag ≡ true) × (is_wide tag ≡ true)

-- *old files keep their verdicts* (02, [2]): every file is read as it was before [2], unless that reading refused one of the new tags as unknown
abbrev pub OldFilesRead : Type 0
OldFilesRead = (s : List ℕ) → (read_of s ≡ old_read_of s) ⊎ ((at : ℕ) × (old_read_of s ≡ refused 2 at) × NewTag (byte s at))

-- so what was accepted before is accepted, as the same file
abbrev pub OldFilesKept : Type 0
OldFilesKept = (s : List ℕ) (f : File) → old_read_of s ≡ answer f → read_of s ≡ answer f

-- *an old name n is the new name n*: an accepted file is read as the same file if any of its 01s, 02s and 03s are rewritten as 08s, 09s and 0As
abbrev pub RewrittenFiles : Type 0
RewrittenFiles = (which : ℕ → Bool) (s : List ℕ) (f : File) → read_of s ≡ answer f → read_of (widened which s) ≡ answer f
