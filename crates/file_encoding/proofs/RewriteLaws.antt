-- A file whose fields are rewritten with names of two bytes is read as the same file: each rewritten field is refused no more than the field was, and adds what it did.
use mathlib.Core.Path.{◌≡◌, refl, ap, ◌∙◌}
use mathlib.Core.Bool.{Bool, true, false, cond}
use mathlib.Core.List.{List, [], ◌∷◌, ◌++◌}
use Prim.Native.Nat.{ℕ, zero, suc, ◌+◌}
use native.Mathlib.Nat.{zero-add}
use native.Mathlib.Omega.{arith}
use lib.ListN.{length, drop, length-drop}
use lib.Seq.{get_or-drop, length-take-le}
use lib.Dec.{eqb, ltb}
use borrow.Author.Tests.{le-ltb, eqb-true}
use Rattle.model.specs.Answer.{answer, refused}
use Rattle.model.specs.Test.{File, file}
use Rattle.file_format.specs.Bytes.{byte, half, word}
use Rattle.file_format.specs.Encode.{field_bytes}
use Rattle.file_format.specs.File.{narrow_write_length, wide_write_length, is_tag, is_wide, kind_of, is_rule, body_length, body_at, field_end, narrow_rule, wide_rule, rule_of, narrow_write, wide_write, write_of, body_fault, fault_of, Progress, counts_of, grown, finished, read_from, read_of, nothing}
use Rattle.file_reader.proofs.LimitLaws.{Clean, clean, by_tag}
use Rattle.file_encoding.specs.Rewrite.{widened_tag, widened_body, widened_from, widened}
use Rattle.file_encoding.specs.Theorem.{RewrittenFiles}
use Rattle.file_encoding.proofs.ReadLaws.{Gives, gives-field}

-- ---- one field

module _ (b : List ℕ) where
  byte-behind : (i : ℕ) → byte (drop 1 b) i ≡ byte b (1 + i)
  byte-behind i = get_or-drop 1 b i 0

  -- an old name n is the new name n
  write-widened : wide_write (widened_body 1 b) ≡ narrow_write b
  unfolding widened_body wide_write narrow_write word half
  write-widened = simp (byte-behind, zero-add)

  rule-widened : wide_rule (widened_body 3 b) ≡ narrow_rule b
  unfolding widened_body wide_rule narrow_rule half
  rule-widened = simp zero-add

-- what a tag and a body are rewritten as
record Rewritten (tag : ℕ) (b : List ℕ) (tag' : ℕ) (b' : List ℕ) : Type 0 where
  known : is_tag tag' ≡ true
  size : length b' ≡ body_length tag'
  kind : kind_of tag' ≡ kind_of tag
  fault : body_fault tag' b' ≡ body_fault tag b
  adds : (p : Progress) → grown tag' b' p ≡ grown tag b p

rewrites : (tag : ℕ) → is_tag tag ≡ true → (b : List ℕ) → length b ≡ body_length tag → Rewritten tag b (widened_tag tag) (widened_body tag b)
unfolding is_tag is_wide kind_of is_rule body_length widened_tag widened_body body_fault rule_of grown write_of
rewrites =
    by_tag (λ tag. (b : List ℕ) → length b ≡ body_length tag → Rewritten tag b (widened_tag tag) (widened_body tag b))
    (λ b e. record { known = refl; size = longer b e; kind = refl; fault = refl; adds = λ p. rw (write-widened b) })
    (λ b e. record { known = refl; size = longer b e; kind = refl; fault = refl; adds = λ p. rw (write-widened b) })
    (λ b e. record { known = refl; size = refl; kind = refl; fault = rw (rule-widened b); adds = λ p. rw (rule-widened b) })
    (λ b e. record { known = refl; size = e; kind = refl; fault = refl; adds = λ p. refl })
    (λ b e. record { known = refl; size = e; kind = refl; fault = refl; adds = λ p. refl })
    (λ b e. record { known = refl; size = e; kind = refl; fault = refl; adds = λ p. refl })
    (λ b e. record { known = refl; size = e; kind = refl; fault = refl; adds = λ p. refl })
    (λ b e. record { known = refl; size = e; kind = refl; fault = refl; adds = λ p. refl })
    (λ b e. record { known = refl; size = e; kind = refl; fault = refl; adds = λ p. refl })
    (λ b e. record { known = refl; size = e; kind = refl; fault = refl; adds = λ p. refl })
  where
    longer : (b : List ℕ) → length b ≡ narrow_write_length → length (byte b 0 ∷ 0 ∷ drop 1 b) ≡ wide_write_length
    longer b e = let l = length-drop 1 b in omega arith

-- ---- the file

gives-finished : (s : List ℕ) (p : Progress) (f : File) → finished s p ≡ answer f → Gives [] p f
unfolding read_from finished
gives-finished s p f e zero t at d l = absurd (omega arith)
gives-finished s p f e (suc fuel) t at d l =
    let n = rw length-drop at (ap length d) in
    rw (le-ltb at (length t) (omega arith)) (go p.begun e)
  where
    go : (b : Bool) → cond b (refused 7 (length s)) (answer (file p.rules p.tests)) ≡ answer f → cond b (refused 7 (length t)) (answer (file p.rules p.tests)) ≡ answer f
    go true q = let z : ◌≡◌ {A = ℕ} 0 1 = cc in absurd (omega arith)
    go false q = q

module _ (which : ℕ → Bool) (s : List ℕ) where
  -- the field at a place, rewritten or not
  gives_either : (at : ℕ) (p : Progress) (f : File) (rest : List ℕ) → Clean s at (counts_of p) → Gives rest (grown (byte s at) (body_at s at) p) f → (b : Bool)
      → Gives (cond b (field_bytes (widened_tag (byte s at)) (widened_body (byte s at) (body_at s at))) (field_bytes (byte s at) (body_at s at)) ++ rest) p f
  gives_either at p f rest k g true =
      let w = rewrites (byte s at) k.tag (body_at s at) (length-take-le _ _ (rw length-drop k.room)) in
      gives-field (widened_tag (byte s at)) (widened_body (byte s at) (body_at s at)) rest p f
      (record { known = w.known; size = w.size; order = rw w.kind k.order; limit = rw w.kind k.limit; fault = w.fault ∙ k.body })
      (rw (w.adds p) g)
  gives_either at p f rest k g false =
      gives-field (byte s at) (body_at s at) rest p f
      (record { known = k.tag; size = length-take-le _ _ (rw length-drop k.room); order = k.order; limit = k.limit; fault = k.body })
      g

  gives_from : (fuel at : ℕ) (p : Progress) (f : File) → read_from fuel s at p ≡ answer f → Gives (widened_from which fuel s at) p f
  unfolding read_from widened_from
  gives_from zero at p f e = let z : ◌≡◌ {A = ℕ} 0 1 = cc in absurd (omega arith)
  gives_from (suc fuel) at p f e =
      go (ltb at (length s)) (eqb (fault_of s at (counts_of p)) 0) refl e (gives_from fuel (field_end s at) (grown (byte s at) (body_at s at) p) f)
    where
      go : (b d : Bool) → eqb (fault_of s at (counts_of p)) 0 ≡ d
          → cond b (cond d (read_from fuel s (field_end s at) (grown (byte s at) (body_at s at) p)) (refused (fault_of s at (counts_of p)) at)) (finished s p) ≡ answer f
          → (read_from fuel s (field_end s at) (grown (byte s at) (body_at s at) p) ≡ answer f → Gives (widened_from which fuel s (field_end s at)) (grown (byte s at) (body_at s at) p) f)
          → Gives (cond b (cond (which at) (field_bytes (widened_tag (byte s at)) (widened_body (byte s at) (body_at s at))) (field_bytes (byte s at) (body_at s at)) ++ widened_from which fuel s (field_end s at)) []) p f
      go false d q h rest = gives-finished s p f h
      go true false q h rest = let z : ◌≡◌ {A = ℕ} 0 1 = cc in absurd (omega arith)
      go true true q h rest = gives_either at p f _ (clean s at (counts_of p) (eqb-true _ _ q)) (rest h) (which at)

pub rewritten_files : RewrittenFiles
unfolding read_of widened
rewritten_files which s f e = gives_from which s (suc (length s)) 0 nothing f e (suc (length (widened which s))) (widened which s) 0 refl (omega arith)
