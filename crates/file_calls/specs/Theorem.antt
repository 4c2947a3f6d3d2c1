-- The theorem of the question whether a file's rules are cyclic, by labels and not by the computed test.
use Rattle.std.specs.Prelude.{ℕ, ◌≡◌, ◌↔◌, ◌⊎◌, List}
use Rattle.model.specs.Answer.{answer}
use Rattle.model.specs.Cyclic.{Cyclic}
use Rattle.model.specs.Test.{File}
use Rattle.file_format.specs.File.{read_of}
use Rattle.file_calls.specs.File.{cyclic_answer}

-- a file that is read answers 1 exactly if labels can form a ring under its rules, and else 0
abbrev pub CyclicAsMeant : Type 0
CyclicAsMeant =
    (s : List ℕ) (f : File) → read_of s ≡ answer f
    → (cyclic_answer s ≡ answer 1 ↔ Cyclic f.rules) × ((cyclic_answer s ≡ answer 1) ⊎ (cyclic_answer s ≡ answer 0))
