-- A rule put at its place is `inserted`; what is held of a list goes on being held of the longer one, all of it up to 16.
use mathlib.Core.Path.{◌≡◌, refl, sym, ap, subst, ◌∙◌}
use mathlib.Core.Bool.{Bool, true, false, cond, false≢true}
use mathlib.Core.List.{List, [], ◌∷◌, ◌++◌}
use Prim.Native.Nat.{ℕ, suc, ◌+◌, ◌≤◌, ◌<◌}
use native.Mathlib.Omega.{arith}
use lib.Dec.{leb}
use borrow.Author.Tests.{leb-true, leb-false}
use lib.ListN.{length, length-append, take-append-drop, get_or, take, drop}
use Rattle.model.specs.Limits.{most_candidates}
use Rattle.model.specs.declared.Rule.{Rule}
use Rattle.model.specs.Find.{before, inserted}
use Rattle.rule_match.specs.declared.Rules.{Rules}
use Rattle.rule_match.specs.Held.{rules_of}
use Rattle.find_laws.proofs.OrderLaws.{before_trans, before_self}
use Rattle.find_sets.specs.Kept.{place_of, Keeps, Follows}

-- ---- inserted, by the place

module _ (r z : Rule) where
  abbrev spliced : ℕ → List Rule → List Rule
  spliced k l = take k l ++ (r ∷ drop k l)

  -- nothing stands at the place, or something that comes later
  inserted-there : (l : List Rule) → (place_of r l < length l → before r (get_or l (place_of r l) z) ≡ true) → inserted r l ≡ spliced (place_of r l) l
  unfolding inserted place_of
  inserted-there [] h = refl
  inserted-there (q ∷ qs) h = go (before q r) (before r q) refl refl h (inserted-there qs)
    where
      go : (a b : Bool) → before q r ≡ a → before r q ≡ b
          → (cond a (suc (place_of r qs)) 0 < suc (length qs) → before r (get_or (q ∷ qs) (cond a (suc (place_of r qs)) 0) z) ≡ true)
          → ((place_of r qs < length qs → before r (get_or qs (place_of r qs) z) ≡ true) → inserted r qs ≡ spliced (place_of r qs) qs)
          → cond b (r ∷ q ∷ qs) (cond a (q ∷ inserted r qs) (q ∷ qs)) ≡ spliced (cond a (suc (place_of r qs)) 0) (q ∷ qs)
      go true true e f h below = absurd (before_self r (before_trans r q r f e))
      go true false e f h below = ap (λ (l : List Rule). q ∷ l) (below (λ l. h (omega arith)))
      go false true e f h below = refl
      go false false e f h below = absurd (false≢true (sym f ∙ h (omega arith)))

  -- the rule itself stands at the place
  inserted_same : (l : List Rule) → place_of r l < length l → before r (get_or l (place_of r l) z) ≡ false → inserted r l ≡ l
  unfolding inserted place_of
  inserted_same [] h n = absurd (omega arith)
  inserted_same (q ∷ qs) h n = go (before q r) (before r q) refl refl h n (inserted_same qs)
    where
      go : (a b : Bool) → before q r ≡ a → before r q ≡ b
          → cond a (suc (place_of r qs)) 0 < suc (length qs)
          → before r (get_or (q ∷ qs) (cond a (suc (place_of r qs)) 0) z) ≡ false
          → (place_of r qs < length qs → before r (get_or qs (place_of r qs) z) ≡ false → inserted r qs ≡ qs)
          → cond b (r ∷ q ∷ qs) (cond a (q ∷ inserted r qs) (q ∷ qs)) ≡ q ∷ qs
      go true true e f h n below = absurd (before_self r (before_trans r q r f e))
      go true false e f h n below = ap (λ (l : List Rule). q ∷ l) (below (omega arith) n)
      go false true e f h n below = absurd (false≢true (sym n ∙ f))
      go false false e f h n below = refl

inserted_longer : (r : Rule) (l : List Rule) → length l ≤ length (inserted r l)
unfolding inserted
inserted_longer r [] = omega arith
inserted_longer r (q ∷ qs) = go (before r q) (before q r) (inserted_longer r qs)
  where
    go : (a b : Bool) → length qs ≤ length (inserted r qs) → suc (length qs) ≤ length (cond a (r ∷ q ∷ qs) (cond b (q ∷ inserted r qs) (q ∷ qs)))
    go true b h = omega arith
    go false true h = omega arith
    go false false h = omega arith

-- ---- what is held

pub keeps-all : (l : List Rule) (c : Rules) → rules_of c ≡ l → c.count ≡ length l → c.count ≤ most_candidates + 1 → Keeps l c
keeps-all l c e n h = record { few = h; count = λ s. n; same = λ s. e; over = λ s. omega arith }

-- up to 16 rules all are held
module _ (l : List Rule) (c : Rules) (k : Keeps l c) (h : c.count ≤ most_candidates) where
  pub keeps_short : length l ≤ most_candidates
  keeps_short = go (leb (length l) most_candidates) refl
    where
      go : (b : Bool) → leb (length l) most_candidates ≡ b → length l ≤ most_candidates
      go true e = leb-true (length l) most_candidates e
      go false e = let o = k.over (leb-false (length l) most_candidates e) in absurd (omega arith)

  pub keeps_same : rules_of c ≡ l
  keeps_same = k.same keeps_short

  pub keeps-count : c.count ≡ length l
  keeps-count = k.count keeps_short

-- more than 16 are more than 16
pub keeps-long : (l : List Rule) (c : Rules) → Keeps l c → most_candidates < c.count → most_candidates < length l
keeps-long l c k h = go (leb (length l) most_candidates) refl
  where
    go : (b : Bool) → leb (length l) most_candidates ≡ b → most_candidates < length l
    go true e =
        let s = leb-true (length l) most_candidates e in
        let n = k.count s in
        absurd (omega arith)
    go false e = leb-false (length l) most_candidates e

-- past 16 rules nothing changes
pub follows-over : (r : Rule) (c : Rules) → c.count ≤ most_candidates + 1 → most_candidates < c.count → Follows (inserted r) c c
follows-over r c h o =
    record {
      keeps =
          λ l k. let b = keeps-long l c k o in
          let n = inserted_longer r l in
          record { few = h; count = λ s. absurd (omega arith); same = λ s. absurd (omega arith); over = λ s. k.over b };
    }

-- the length of a list with one more
spliced_length : (r : Rule) (k : ℕ) (l : List Rule) → length (take k l ++ (r ∷ drop k l)) ≡ suc (length l)
spliced_length r k l =
    let e = ap length (take-append-drop k l) in
    let f = length-append (take k l) (drop k l) in
    rw (length-append (take k l) (r ∷ drop k l)) (omega arith)

module _ (r z : Rule) (c : Rules) (h : c.count ≤ most_candidates) (k : ℕ) (p : k ≡ place_of r (rules_of c)) where
  -- it is enough to see to the rules that are held, if these are all
  follows-held : (d : Rules) → (length (rules_of c) ≡ c.count → Keeps (inserted r (rules_of c)) d) → Follows (inserted r) c d
  follows-held d f =
      record {
        keeps =
            λ l q. let s = keeps_same l c q h in
            let m = keeps-count l c q h in
            subst (λ (x : List Rule). Keeps (inserted r x) d) s (f (ap length s ∙ sym m));
      }

  -- the rule's place is the end, or before a later rule
  pub follows_new : (d : Rules) → (k < c.count → before r (get_or (rules_of c) k z) ≡ true)
      → rules_of d ≡ take k (rules_of c) ++ (r ∷ drop k (rules_of c)) → d.count ≡ c.count + 1 → Follows (inserted r) c d
  follows_new d later e n = follows-held d go
    where
      go : length (rules_of c) ≡ c.count → Keeps (inserted r (rules_of c)) d
      go m =
          let w = inserted-there r z (rules_of c) (λ (l : place_of r (rules_of c) < length (rules_of c)). rw (← p) (later (omega arith))) in
          let v = spliced_length r k (rules_of c) in
          rw (w, ← p) (keeps-all (take k (rules_of c) ++ (r ∷ drop k (rules_of c))) d e (omega arith) (omega arith))

  pub follows_same : k < c.count → before r (get_or (rules_of c) k z) ≡ false → Follows (inserted r) c c
  follows_same l n = follows-held c go
    where
      go : length (rules_of c) ≡ c.count → Keeps (inserted r (rules_of c)) c
      go m =
          let w = inserted_same r z (rules_of c) (rw (← p, m) l) (rw (← p) n) in
          rw w (keeps-all (rules_of c) c refl (sym m) (omega arith))
