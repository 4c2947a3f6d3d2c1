-- Epochs by ranks: one law for each return and each turn of a loop.
use mathlib.Core.Path.{◌≡◌, refl, sym, ap, ap₂, ◌∙◌}
use mathlib.Core.Logic.{⊎_elim}
use mathlib.Core.Bool.{Bool, true, false, cond, ◌||◌}
use mathlib.Core.List.{List}
use Prim.Native.Nat.{ℕ, zero, suc, ◌+◌, ◌-◌, ◌^◌, ◌≤◌, ◌<◌}
use native.Mathlib.Numerals.{add-one}
use native.Mathlib.Omega.{arith}
use lib.Bits.{bit_or}
use lib.Dec.{eqb, ltb}
use mir.Val.{bool_byte}
use lib.ListN.{length, get_or, set}
use lib.Seq.{get_or-set_same, get_or-set_other}
use borrow.Author.Rules.{rules}
use borrow.Author.Tests.{eq-eqb, ne_eqb, eqb-true, eqb-false, lt-ltb, le-ltb, ltb-true}
use Rattle.relation.specs.Bits.{with_bit, mask_of}
use Rattle.relation.specs.Tables.{Filled, Blank}
use Rattle.relation.proofs.BitLaws.{mask_ext}
use Rattle.relation.proofs.MaskLaws.{mask_or}
use Rattle.relation.proofs.ListLaws.{bool_equal, or_cases, or_left, or_right, below_suc}
use Rattle.relation.proofs.TableLaws.{filled_none, filled_more, filled-all}
use Rattle.model.specs.Limits.{most_held}
use Rattle.cache_masks.specs.Ranks.{smaller, rank_of, rank_at, bounds, SmallRanks, next_mask, below_mask, union_to}

-- ---- rank, next_rank, fill_ranks

-- a test counts one, or nothing
pub counted_one : (more : Bool) (count : ℕ) → count + bool_byte more ≡ cond more (count + 1) count
counted_one true count = refl
counted_one false count = omega arith

count_most : (more : Bool) (count next j : ℕ) → count ≤ j → next ≡ cond more (count + 1) count → next ≤ j + 1
count_most true count next j l e = omega arith
count_most false count next j l e = omega arith

module _ (epochs : List ℕ) (t : ℕ) where
  pub smaller-begun : 0 ≡ smaller epochs t 0
  unfolding smaller
  smaller-begun = refl

  pub smaller-suc : (j : ℕ) → smaller epochs t (suc j) ≡ cond (ltb (get_or epochs j 0) t) (smaller epochs t j + 1) (smaller epochs t j)
  unfolding smaller
  smaller-suc j = refl

  pub smaller-more : (j count one : ℕ) → count ≤ j → count ≡ smaller epochs t j → one ≡ bool_byte (ltb (get_or epochs j 0) t)
      → (count + one ≤ j + 1) × (count + one ≡ smaller epochs t (j + 1))
  smaller-more j count one l p e =
      let f : count + one ≡ cond (ltb (get_or epochs j 0) t) (count + 1) count = rw e (counted_one (ltb (get_or epochs j 0) t) count) in
      (count_most (ltb (get_or epochs j 0) t) count (count + one) j l f, f ∙ rw (add-one j, p) (sym (smaller-suc j)))

  pub smaller-done : (j count : ℕ) → j ≤ most_held → most_held ≤ j → count ≡ smaller epochs t j → count ≡ rank_of epochs t
  unfolding rank_of
  smaller-done j count a b e =
      let q : j ≡ most_held = omega arith in
      rw q at e

  pub rank-kept : (u r : ℕ) → t ≡ u → r ≡ rank_of epochs t → r ≡ rank_of epochs u
  rank-kept u r q e = rw q at e

  smaller-most : (m : ℕ) → smaller epochs t m ≤ m
  smaller-most zero = rw (← smaller-begun) (omega arith)
  smaller-most (suc m) =
      let l = smaller-most m in
      let q = count_most (ltb (get_or epochs m 0) t) (smaller epochs t m) (smaller epochs t (suc m)) m l (smaller-suc m) in
      omega (arith, q)

pub rank-zero : (epochs : List ℕ) → 0 ≡ rank_of epochs 0
unfolding rank_of
rank-zero epochs = sym (go most_held)
  where
    go : (m : ℕ) → smaller epochs 0 m ≡ 0
    go zero = sym (smaller-begun epochs 0)
    go (suc m) = smaller-suc epochs 0 m ∙ rw (le-ltb (get_or epochs m 0) 0 (omega arith)) (go m)

pub ranks-more : (epochs ranks : List ℕ) (i n r : ℕ) → i < n → n ≤ most_held → length ranks ≡ most_held → Filled (rank_at epochs) i ranks
    → r ≡ rank_of epochs (get_or epochs i 0) → Filled (rank_at epochs) (i + 1) (set ranks i r)
unfolding rank_at
ranks-more epochs ranks i n r h few all filled e = filled_more (rank_at epochs) i ranks r filled (omega arith) e

pub ruleset ranking = (rules, smaller-begun, smaller-more, smaller-done, rank-kept, rank-zero, ranks-more, filled_none, filled-all)

-- ---- mark_ranks

module _ (ranks : List ℕ) where
  pub marks-begun : (belows : List ℕ) → Blank bounds belows → Filled (next_mask ranks 0) bounds belows
  unfolding next_mask mask_of
  marks-begun belows b = record { at = λ r h. b.at r h }

  next-suc : (i r : ℕ) → next_mask ranks (suc i) r ≡ cond (eqb (get_or ranks i 0 + 1) r) (with_bit (next_mask ranks i r) i) (next_mask ranks i r)
  unfolding next_mask mask_of
  next-suc i r = refl

  module _ (n i : ℕ) (h : i < n) (small : SmallRanks n ranks) where
    pub mark-fits : get_or ranks i 0 < most_held
    mark-fits = small.at i h

    pub mark-wide : get_or ranks i 0 < 2 ^ 64
    mark-wide = let l = mark-fits in omega (arith, l)

    pub mark-next : get_or ranks i 0 + 1 < 2 ^ 64
    mark-next = let l = mark-fits in omega (arith, l)

    pub mark-inside : (belows : List ℕ) → length belows ≡ bounds → get_or ranks i 0 + 1 < length belows
    mark-inside belows all = let l = mark-fits in omega (arith, l, all)

    pub marks-more : (belows : List ℕ) (v : ℕ) → length belows ≡ bounds → Filled (next_mask ranks i) bounds belows
        → v ≡ with_bit (get_or belows (get_or ranks i 0 + 1) 0) i → Filled (next_mask ranks (i + 1)) bounds (set belows (get_or ranks i 0 + 1) v)
    marks-more belows v all filled e = rw (add-one i) (record { at = λ r l. go r l (eqb (get_or ranks i 0 + 1) r) refl })
      where
        go : (r : ℕ) → r < bounds → (b : Bool) → eqb (get_or ranks i 0 + 1) r ≡ b → get_or (set belows (get_or ranks i 0 + 1) v) r 0 ≡ next_mask ranks (suc i) r
        go r l true q =
            let z : get_or ranks i 0 + 1 ≡ r = eqb-true (get_or ranks i 0 + 1) r q in
            rw (next-suc i r, q, ← filled.at r l, ← z) (get_or-set_same belows (get_or ranks i 0 + 1) v 0 (mark-inside belows all) ∙ e)
        go r l false q =
            rw (next-suc i r, q)
            (get_or-set_other belows (get_or ranks i 0 + 1) r v 0 (λ z. eqb-false (get_or ranks i 0 + 1) r q (sym z)) ∙ filled.at r l)

  pub marks-done : (belows : List ℕ) (i n : ℕ) → i ≤ n → n ≤ i → Filled (next_mask ranks i) bounds belows → Filled (next_mask ranks n) bounds belows
  marks-done belows i n a b f =
      let q : i ≡ n = omega arith in
      rw q at f

pub ruleset marking = (rules, marks-begun, mark-fits, mark-wide, mark-next, mark-inside, marks-more, marks-done)

-- ---- join_up

-- the entries below r are joined, the others as they were
pub record Joined (old : List ℕ) (r : ℕ) (table : List ℕ) : Type 0 where
  pub done : (i : ℕ) → i < r → get_or table i 0 ≡ union_to old i
  pub rest : (i : ℕ) → r ≤ i → get_or table i 0 ≡ get_or old i 0

module _ (old : List ℕ) where
  union-suc : (r : ℕ) → union_to old (suc r) ≡ bit_or (get_or old (suc r) 0) (union_to old r)
  unfolding union_to
  union-suc r = refl

  union-zero : get_or old 0 0 ≡ union_to old 0
  unfolding union_to
  union-zero = refl

  pub join-begun : Joined old 1 old
  join-begun = record {
    done = λ i h. let z : i ≡ 0 = omega arith in rw z union-zero;
    rest = λ i h. refl;
  }

  pub join_more : (r : ℕ) (table : List ℕ) → 1 ≤ r → r < bounds → length table ≡ bounds → Joined old r table
      → Joined old (r + 1) (set table r (bit_or (get_or table r 0) (get_or table (r - 1) 0)))
  join_more r table some h all j = record {
    done = λ i l. ⊎_elim
        (λ (z : i ≡ r). rw z (get_or-set_same table r v 0 (omega arith) ∙ joined))
        (λ (m : i < r). get_or-set_other table r i v 0 (λ (z : i ≡ r). absurd (omega (arith, z, m))) ∙ j.done i m)
        (below_suc i r (omega arith));
    rest = λ i l. get_or-set_other table r i v 0 (λ (z : i ≡ r). absurd (omega (arith, z, l))) ∙ j.rest i (omega arith);
  }
    where
      v : ℕ
      v = bit_or (get_or table r 0) (get_or table (r - 1) 0)

      joined : v ≡ union_to old r
      joined =
          let z : suc (r - 1) ≡ r = omega arith in
          ap₂ bit_or (j.rest r (omega arith)) (j.done (r - 1) (omega arith)) ∙ ap (λ (k : ℕ). bit_or (get_or old k 0) (union_to old (r - 1))) (sym z)
          ∙ sym (union-suc (r - 1)) ∙ ap (union_to old) z

  pub join-done : (r : ℕ) (table : List ℕ) → bounds ≤ r → Joined old r table → Filled (union_to old) bounds table
  join-done r table b j = record { at = λ i h. j.done i (omega arith) }

pub ruleset joining = (rules, join-begun, join_more, join-done)

-- ---- fill_belows

below-suc-is : (x r : ℕ) → eqb (x + 1) (suc r) || ltb x r ≡ ltb x (suc r)
below-suc-is x r = bool_equal _ _
    (λ e. lt-ltb x (suc r) (⊎_elim
    (λ (a : eqb (x + 1) (suc r) ≡ true). let z = eqb-true (x + 1) (suc r) a in omega (arith, z))
    (λ (a : ltb x r ≡ true). let z = ltb-true x r a in omega (arith, z))
    (or_cases (eqb (x + 1) (suc r)) (ltb x r) e)))
    (λ e. ⊎_elim
    (λ (z : x ≡ r). or_left (eqb (x + 1) (suc r)) (ltb x r) (eq-eqb (x + 1) (suc r) (omega arith)))
    (λ (z : x < r). or_right (eqb (x + 1) (suc r)) (ltb x r) (lt-ltb x r z))
    (below_suc x r (ltb-true x (suc r) e)))

pub belows_filled : (ranks old table : List ℕ) (n : ℕ) → Filled (next_mask ranks n) bounds old → Filled (union_to old) bounds table
    → Filled (below_mask ranks n) bounds table
unfolding next_mask below_mask
belows_filled ranks old table n marks joins = record { at = λ r h. joins.at r h ∙ go r h }
  where
    go : (r : ℕ) → r < bounds → union_to old r ≡ mask_of (λ j. ltb (get_or ranks j 0) r) n
    go zero h =
        sym (union-zero old) ∙ marks.at 0 h
        ∙ mask_ext _ _ n (λ j l. rw (ne_eqb (get_or ranks j 0 + 1) 0 (λ z. absurd (omega arith)), le-ltb (get_or ranks j 0) 0 (omega arith)))
    go (suc r) h =
        union-suc old r ∙ rw (marks.at (suc r) h, go r (omega arith))
        (mask_or _ _ n ∙ mask_ext _ _ n (λ j l. below-suc-is (get_or ranks j 0) r))

pub ruleset filling = (rules, belows_filled)
