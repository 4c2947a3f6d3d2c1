-- Answers by their cases, and the table of the writes to each address.
use mathlib.Core.Path.{subst, ◌≡◌, refl, sym, ap, ◌∙◌}
use mathlib.Core.Bool.{Bool, true, false}
use mathlib.Core.List.{List}
use Prim.Native.Nat.{ℕ, suc, ◌+◌, ◌≤◌, ◌<◌}
use native.Mathlib.Numerals.{add-one}
use native.Mathlib.Omega.{arith}
use lib.Dec.{eqb}
use lib.ListN.{length, get_or, set}
use lib.Seq.{get_or-set_same, get_or-set_other}
use borrow.Author.Rules.{rules}
use borrow.Author.Tests.{eq-eqb, ne_eqb, eqb-true, eqb-false}
use Rattle.relation.specs.Bits.{with_bit, mask_of}
use Rattle.relation.specs.Tables.{Filled, Blank}
use Rattle.model.specs.declared.Check.{Check}
use Rattle.model.specs.declared.Check.TheVariants.{Range, Pair, Pointer}
use Rattle.model.specs.Limits.{disk_blocks}
use Rattle.judge_disks.specs.Packed.{unpacked}
use Rattle.judge_settled.specs.declared.Answer.{Answer}
use Rattle.judge_settled.specs.declared.Answer.TheVariants.{Yes, No, Open}
use Rattle.judge_settled.specs.Settled.{opposed, definite, own_block, valued, writers_of}

module _ (a : Answer) where
  pub definite_yes : a ≡ Yes → true ≡ definite a
  unfolding definite
  definite_yes e = rw e

  pub definite_no : a ≡ No → true ≡ definite a
  unfolding definite
  definite_no e = rw e

  pub definite_open : (h : ℕ) → a ≡ Open h → false ≡ definite a
  unfolding definite
  definite_open h e = rw e

  pub opposed_yes : a ≡ Yes → No ≡ opposed a
  unfolding opposed
  opposed_yes e = rw e

  pub opposed_no : a ≡ No → Yes ≡ opposed a
  unfolding opposed
  opposed_no e = rw e

  pub opposed_open : (h : ℕ) → a ≡ Open h → Open h ≡ opposed a
  unfolding opposed
  opposed_open h e = rw e

pub valued_yes : (own v : ℕ) → own ≡ v → Yes ≡ valued own v
unfolding valued
valued_yes own v e = rw (eq-eqb own v e)

pub valued_no : (own v : ℕ) → (own ≡ v → ⊥) → No ≡ valued own v
unfolding valued
valued_no own v d = rw (ne_eqb own v d)

module _ (c : Check) where
  pub own_range : (a : ℕ) → c ≡ Range a → a ≡ own_block c
  unfolding own_block
  own_range a e = rw e

  pub own_pair : (a v b w : ℕ) → c ≡ Pair a v b w → a ≡ own_block c
  unfolding own_block
  own_pair a v b w e = rw e

  pub own_pointer : (a : ℕ) → c ≡ Pointer a → a ≡ own_block c
  unfolding own_block
  own_pointer a e = rw e

-- ---- the writes to each address

module _ (column : List ℕ) where
  pub writers_none : (writers : List ℕ) → Blank disk_blocks writers → Filled (writers_of column 0) disk_blocks writers
  unfolding writers_of mask_of
  writers_none writers b = record { at = b.at }

  pub writers_more : (i a v : ℕ) (writers : List ℕ) → Filled (writers_of column i) disk_blocks writers → length writers ≡ disk_blocks → a < disk_blocks
      → a ≡ (unpacked (get_or column i 0)).address → v ≡ with_bit (get_or writers a 0) i → Filled (writers_of column (i + 1)) disk_blocks (set writers a v)
  unfolding writers_of mask_of
  writers_more i a v writers g size inside e q = record { at = λ b l. rw (add-one i) (go b l (eqb a b) refl) }
    where
      go : (b : ℕ) → b < disk_blocks → (t : Bool) → eqb a b ≡ t
          → get_or (set writers a v) b 0 ≡ mask_of (λ i. eqb (unpacked (get_or column i 0)).address b) (suc i)
      go b l true z =
          let w : a ≡ b = eqb-true a b z in
          subst
          (λ (b : ℕ). get_or (set writers a v) b 0 ≡ mask_of (λ i. eqb (unpacked (get_or column i 0)).address b) (suc i))
          w
          (rw (get_or-set_same writers a v 0 (omega (arith, size, inside)), ← e, eq-eqb a a refl) (q ∙ ap (λ (m : ℕ). with_bit m i) (g.at a inside)))
      go b l false z =
          let d : a ≡ b → ⊥ = eqb-false a b z in
          get_or-set_other writers a b v 0 (λ (w : b ≡ a). d (sym w)) ∙ rw (← e, z) (g.at b l)

  pub writers_all : (i n : ℕ) (writers : List ℕ) → Filled (writers_of column i) disk_blocks writers → i ≤ n → n ≤ i → Filled (writers_of column n) disk_blocks writers
  writers_all i n writers g a b = let z : i ≡ n = omega arith in rw z at g

pub ruleset answering = (rules, definite_yes, definite_no, definite_open, opposed_yes, opposed_no, opposed_open, valued_yes, valued_no, own_range, own_pair, own_pointer, writers_none, writers_more, writers_all)
