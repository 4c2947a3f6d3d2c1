-- Old files are read as document 01 reads them: of a field with an old tag both readings ask the same, and take the same from it.
use mathlib.Core.Path.{◌≡◌, refl, sym, ◌∙◌}
use mathlib.Core.Logic.{◌⊎◌, inl, inr}
use mathlib.Core.Bool.{Bool, true, false, cond, not, true≢false}
use mathlib.Core.List.{List}
use Prim.Native.Nat.{ℕ, zero, suc, ◌+◌, ◌-◌, ◌≤◌}
use native.Mathlib.Omega.{arith}
use lib.ListN.{length, take, drop}
use lib.Dec.{eqb, leb, ltb}
use borrow.Author.Tests.{leb-true, leb-false, le-leb, lt-ltb, eqb-true}
use Rattle.relation.proofs.ListLaws.{and_left, and_right}
use Rattle.model.specs.Answer.{Outcome, answer, refused}
use Rattle.model.specs.Test.{File}
use Rattle.file_format.specs.declared.Counts.{Counts}
use Rattle.file_format.specs.Bytes.{byte, half}
use Rattle.file_format.specs.File.{end_tag, head_length, is_tag, is_wide, kind_of, is_rule, body_length, rule_of, narrow_rule, write_of, out_of_order, over_limit, rule_fault, body_fault, fault_of, Progress, counts_of, grown, finished, read_from, read_of, nothing}
use Rattle.file_reader.proofs.LimitLaws.{by_tag}
use Rattle.file_encoding.specs.Before.{is_old_tag, old_length, old_body, old_body_fault, old_fault, old_grown, old_read_from, old_read_of}
use Rattle.file_encoding.specs.Theorem.{NewTag, OldFilesRead, OldFilesKept}

-- ---- one tag

-- an old tag is read alike
record Alike (tag : ℕ) : Type 0 where
  known : is_tag tag ≡ true
  kind : kind_of tag ≡ tag
  size : body_length tag ≡ old_length tag
  fault : (b : List ℕ) → body_fault tag b ≡ old_body_fault tag b
  adds : (b : List ℕ) (p : Progress) → grown tag b p ≡ old_grown tag b p

old-known : (tag : ℕ) → is_old_tag tag ≡ true → (is_tag tag ≡ true) × (tag ≤ end_tag)
unfolding is_old_tag is_tag
old-known tag e =
    let l = leb-true 1 tag (and_left (leb 1 tag) (leb tag 7) e) in
    let m = leb-true tag 7 (and_right (leb 1 tag) (leb tag 7) e) in
    (rw (le-leb 1 tag l, le-leb tag 10 (omega arith)), m)

alike : (tag : ℕ) → is_old_tag tag ≡ true → Alike tag
unfolding is_tag is_wide kind_of body_length old_length body_fault is_rule rule_fault rule_of narrow_rule old_body_fault grown write_of old_grown
alike tag e =
    let k = old-known tag e in
    by_tag (λ t. t ≤ end_tag → Alike t)
    (λ l. record { known = refl; kind = refl; size = refl; fault = λ b. refl; adds = λ b p. refl })
    (λ l. record { known = refl; kind = refl; size = refl; fault = λ b. refl; adds = λ b p. refl })
    (λ l. record { known = refl; kind = refl; size = refl; fault = λ b. refl; adds = λ b p. refl })
    (λ l. record { known = refl; kind = refl; size = refl; fault = λ b. refl; adds = λ b p. refl })
    (λ l. record { known = refl; kind = refl; size = refl; fault = λ b. refl; adds = λ b p. refl })
    (λ l. record { known = refl; kind = refl; size = refl; fault = λ b. refl; adds = λ b p. refl })
    (λ l. record { known = refl; kind = refl; size = refl; fault = λ b. refl; adds = λ b p. refl })
    (λ l. absurd (omega arith)) (λ l. absurd (omega arith)) (λ l. absurd (omega arith))
    tag k.0 k.1

-- a tag that is not old, and known, is new
new_tag : (tag : ℕ) → is_old_tag tag ≡ false → is_tag tag ≡ true → is_wide tag ≡ true
unfolding is_old_tag is_tag is_wide
new_tag tag o k = go (leb tag 7) refl
  where
    go : (b : Bool) → leb tag 7 ≡ b → ltb end_tag tag ≡ true
    go true q = absurd (true≢false (sym (rw (and_left (leb 1 tag) (leb tag 10) k, q)) ∙ o))
    go false q = lt-ltb end_tag tag (leb-false tag 7 q)

-- ---- one field

module _ (s : List ℕ) (at : ℕ) (c : Counts) where
  fault-alike : is_old_tag (byte s at) ≡ true → fault_of s at c ≡ old_fault s at c
  unfolding fault_of old_fault
  fault-alike e = let k = alike (byte s at) e in rw (k.known, e, k.kind, k.size, k.fault (take (old_length (byte s at)) (drop (at + head_length) s)))

  -- of a tag that is not old the one says 1 or 2; the other says the same, or knows the tag
  fault-other : is_old_tag (byte s at) ≡ false → (fault_of s at c ≡ old_fault s at c) ⊎ ((old_fault s at c ≡ 2) × NewTag (byte s at))
  unfolding fault_of old_fault
  fault-other e = go (ltb (length s - at) head_length) (is_tag (byte s at)) refl refl
    where
      go : (short known : Bool) → ltb (length s - at) head_length ≡ short → is_tag (byte s at) ≡ known
          → (fault_of s at c ≡ old_fault s at c) ⊎ ((old_fault s at c ≡ 2) × NewTag (byte s at))
      go true known q r = inl (unfold fault_of old_fault in rw q)
      go false false q r = inl (unfold fault_of old_fault in rw (q, e, r))
      go false true q r = inr (unfold old_fault in rw (q, e), (r, new_tag (byte s at) e r))

  -- a field that the older reading does not refuse has an old tag
  old_tagged : old_fault s at c ≡ 0 → is_old_tag (byte s at) ≡ true
  unfolding old_fault
  old_tagged = go (ltb (length s - at) head_length) (is_old_tag (byte s at)) refl
    where
      go : (short old : Bool) → is_old_tag (byte s at) ≡ old
          → ◌≡◌ {A = ℕ} (cond short 1 (cond (not old) 2 (cond (out_of_order (byte s at) c) 4 (cond (over_limit (byte s at) c) 6 (cond (not (eqb (half s (at + 1)) (old_length (byte s at)))) 3 (cond (ltb (length s - (at + head_length)) (old_length (byte s at))) 1 (old_body_fault (byte s at) (old_body s at)))))))) 0
          → is_old_tag (byte s at) ≡ true
      go true old q z = absurd (omega arith)
      go false true q z = q
      go false false q z = absurd (omega arith)

-- ---- all fields

-- the two readings from a place on agree, or the older one refuses a new tag
abbrev Kept : List ℕ → Outcome File → Outcome File → Type 0
Kept s new old = (new ≡ old) ⊎ ((at : ℕ) × (old ≡ refused 2 at) × NewTag (byte s at))

module _ (s : List ℕ) (at : ℕ) (c : Counts) (new old : Outcome File) where
  -- both refuse alike, or both go on
  same-fault : (x y : ℕ) → x ≡ y → (eqb y 0 ≡ true → Kept s new old) → Kept s (cond (eqb x 0) new (refused x at)) (cond (eqb y 0) old (refused y at))
  same-fault x y e rest = rw e (by (eqb y 0) refl)
    where
      by : (b : Bool) → eqb y 0 ≡ b → Kept s (cond b new (refused y at)) (cond b old (refused y at))
      by true q = rest q
      by false q = inl refl

  kept_field : (is_old_tag (byte s at) ≡ true → Kept s new old)
      → Kept s (cond (eqb (fault_of s at c) 0) new (refused (fault_of s at c) at)) (cond (eqb (old_fault s at c) 0) old (refused (old_fault s at c) at))
  kept_field rest = go (is_old_tag (byte s at)) refl
    where
      other : is_old_tag (byte s at) ≡ false → (fault_of s at c ≡ old_fault s at c) ⊎ ((old_fault s at c ≡ 2) × NewTag (byte s at))
          → Kept s (cond (eqb (fault_of s at c) 0) new (refused (fault_of s at c) at)) (cond (eqb (old_fault s at c) 0) old (refused (old_fault s at c) at))
      other r (inl e) = same-fault _ _ e (λ z. absurd (true≢false (sym (old_tagged s at c (eqb-true _ _ z)) ∙ r)))
      other r (inr (e, k)) = inr (at, rw e, k)

      go : (o : Bool) → is_old_tag (byte s at) ≡ o
          → Kept s (cond (eqb (fault_of s at c) 0) new (refused (fault_of s at c) at)) (cond (eqb (old_fault s at c) 0) old (refused (old_fault s at c) at))
      go true r = same-fault _ _ (fault-alike s at c r) (λ z. rest r)
      go false r = other r (fault-other s at c r)

kept_either : (s : List ℕ) (x y end : Outcome File) → Kept s x y → (b : Bool) → Kept s (cond b x end) (cond b y end)
kept_either s x y end k true = k
kept_either s x y end k false = inl refl

kept_from : (fuel : ℕ) (s : List ℕ) (at : ℕ) (p : Progress) → Kept s (read_from fuel s at p) (old_read_from fuel s at p)
unfolding read_from old_read_from
kept_from zero s at p = inl refl
kept_from (suc fuel) s at p =
    kept_either s _ _ (finished s p)
    (kept_field s at (counts_of p) _ _
    (λ e.
    let k = alike (byte s at) e in
    rw (k.size, k.adds (take (old_length (byte s at)) (drop (at + head_length) s))) (kept_from fuel s (at + head_length + old_length (byte s at)) (old_grown (byte s at) (old_body s at) p))))
    (ltb at (length s))

pub old_files_read : OldFilesRead
unfolding read_of old_read_of
old_files_read s = kept_from (suc (length s)) s 0 nothing

pub old_files_kept : OldFilesKept
old_files_kept s f e = go (old_files_read s)
  where
    go : Kept s (read_of s) (old_read_of s) → read_of s ≡ answer f
    go (inl q) = q ∙ e
    go (inr (at, q, k)) = let z : refused 2 at ≡ answer f = sym q ∙ e in let y : ◌≡◌ {A = ℕ} 0 1 = cc in absurd (omega arith)
