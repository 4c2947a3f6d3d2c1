-- The search: no schedule before a place of the list leaves an inconsistent disk. So the first that does has the least rank of the bad ones.
use mathlib.Core.Path.{◌≡◌, refl, sym, ap, ◌∙◌}
use mathlib.Core.Bool.{Bool, true, false, not}
use mathlib.Core.List.{List, [], ◌∷◌}
use Prim.Native.Nat.{ℕ, zero, suc, ◌+◌, ◌-◌, ◌%◌, ◌^◌, ◌≤◌, ◌<◌}
use native.Mathlib.Numerals.{add-one}
use native.Mathlib.Decide.{dec_lt}
use native.Mathlib.Omega.{arith}
use lib.Dec.{eqb, ltb}
use lib.ListN.{length, get_or, take}
use lib.Pow.{pow_mono}
use borrow.Author.Rules.{rules}
use Rattle.std.specs.Prelude.{Option, None, Some}
use Rattle.std.proofs.Common.{get_or-take, length-take-le}
use lib.Seq.{take-suc, take_all}
use borrow.Author.Tests.{eqb-true, lt-ltb, ltb-true, not-true, not-false}
use Rattle.relation.specs.Best.{smallest_below}
use Rattle.relation.specs.Rank.{small_sets, rank}
use Rattle.relation.specs.Lists.{all}
use Rattle.relation.proofs.BestLaws.{rank-set, least_smallest, passes_none}
use Rattle.relation.proofs.ListLaws.{clash, untrue, below_extend, and_left, and_right, and_intro, all_true, all_append, index_mem}
use Rattle.model.specs.declared.Write.{Write}
use Rattle.model.specs.declared.Check.{Check}
use Rattle.model.specs.Limits.{disk_blocks, most_main}
use Rattle.model.specs.Schedule.{run}
use Rattle.model.specs.Check.{consistent, holds}
use Rattle.judge_disks.specs.Packed.{held_from}
use Rattle.judge_schedules.specs.Valid.{valid_rows, bad_rows}
use Rattle.judge_suspects.specs.Suspects.{most_listed, Has, Rising, Suspects}
use Rattle.judge_search.specs.Verdict.{verdict_by}
use Rattle.judge_search.specs.Search.{verdict_below, repeated, leaves_inconsistent, listed, StopsAt}

-- ---- is_repeated

pub repeated-first : (list : List ℕ) (k : ℕ) → k ≡ 0 → false ≡ repeated list k
unfolding repeated
repeated-first list k e = rw e

pub repeated-next : (list : List ℕ) (k : ℕ) → (k ≡ 0 → ⊥) → eqb (get_or list (k - 1) 0) (get_or list k 0) ≡ repeated list k
unfolding repeated
repeated-next list k d = rw (lt-ltb 0 k (some k d))
  where
    some : (k : ℕ) → (k ≡ 0 → ⊥) → 0 < k
    some k d = elim (dec_lt 0 k) [ yes l ↦ l | no l ↦ absurd (d (omega (arith, l))) ]

-- ---- the loop

-- no schedule before place k passes
pub record Clear (p : ℕ → Bool) (list : List ℕ) (k : ℕ) : Type 0 where
  pub none : (i : ℕ) → i < k → p (listed list i) ≡ false

pub clear_none : (p : ℕ → Bool) (list : List ℕ) → Clear p list 0
clear_none p list = record { none = λ i h. absurd (omega (arith, h)) }

module _ (p : ℕ → Bool) (list : List ℕ) (k : ℕ) (c : Clear p list k) where
  clear-suc : p (listed list k) ≡ false → Clear p list (k + 1)
  clear-suc e = record { none = rw (add-one k) (below_extend (λ i. p (listed list i) ≡ false) k c.none e) }

  -- the one before it did not pass
  pub clear_again : (b : Bool) → b ≡ repeated list k → b ≡ true → Clear p list (k + 1)
  unfolding repeated
  clear_again b e t =
      let r = sym e ∙ t in
      let same = eqb-true (get_or list (k - 1) 0) (get_or list k 0) (and_right (ltb 0 k) _ r) in
      clear-suc (rw (← same) (c.none (k - 1) (before (and_left (ltb 0 k) _ r))))
    where
      before : ltb 0 k ≡ true → k - 1 < k
      before q = let l = ltb-true 0 k q in omega (arith, l)

module _ (base : List ℕ) (ws : List Write) (cs : List Check) (list : List ℕ) (k s : ℕ) (d : List ℕ) (b : Bool) (q : s ≡ listed list k) (e : d ≡ run ws s base) (h : b ≡ consistent cs d) where
  pub clear_pass : Clear (leaves_inconsistent base ws cs) list k → b ≡ true → Clear (leaves_inconsistent base ws cs) list (k + 1)
  unfolding leaves_inconsistent
  clear_pass c t = clear-suc _ list k c (rw (← q, ← e, ← h, t) refl)

  pub stops_here : (many : ℕ) → Clear (leaves_inconsistent base ws cs) list k → k < many → b ≡ false → StopsAt (leaves_inconsistent base ws cs) list many (Some s)
  unfolding StopsAt leaves_inconsistent
  stops_here many c l t = (k, l, q, rw (← e, ← h, t) refl, λ j l. c.none j l)

pub stops_never : (p : ℕ → Bool) (list : List ℕ) (k many : ℕ) → Clear p list k → many ≤ k → StopsAt p list many None
unfolding StopsAt
stops_never p list k many c l i b = c.none i (omega (arith, l, b))

pub ruleset searching = (rules, repeated-first, repeated-next, clear_none, clear_again, stops_never)

-- ---- the checks of a schedule

module _ (d : List ℕ) (cs : List Check) (z : Check) (i : ℕ) where
  pub checks_more : (b : Bool) → i < length cs → consistent (take i cs) d ≡ true → b ≡ holds d (get_or cs i z) → not b ≡ false → consistent (take (i + 1) cs) d ≡ true
  unfolding consistent
  checks_more b h p e q =
      rw (add-one i, take-suc cs i z h, all_append (holds d) (take i cs) (get_or cs i z ∷ []))
      (and_intro (all (holds d) (take i cs)) _ p (unfold all in and_intro (holds d (get_or cs i z)) true (sym e ∙ not-false b q) refl))

  pub checks_passed : length cs ≤ i → consistent (take i cs) d ≡ true → true ≡ consistent cs d
  checks_passed h p = sym p ∙ ap (λ (l : List Check). consistent l d) (take_all i cs h)

  pub checks_failed : (b : Bool) → i < length cs → b ≡ holds d (get_or cs i z) → not b ≡ true → false ≡ consistent cs d
  unfolding consistent
  checks_failed b h e q = go (all (holds d) cs) refl
    where
      go : (t : Bool) → all (holds d) cs ≡ t → false ≡ t
      go true p = sym (not-true b q) ∙ e ∙ all_true (holds d) p (get_or cs i z) (index_mem cs i z h refl)
      go false p = refl

-- ---- the first ones of an array

pub stops_taken : (p : ℕ → Bool) (list : List ℕ) (many : ℕ) (v : Option ℕ) → many ≤ length list → StopsAt p (take many list) (length (take many list)) v → StopsAt p list many v
unfolding StopsAt
stops_taken p list many None h t =
    let n = length-take-le many list h in
    λ i l. rw (← get_or-take many list i 0 l) (t i (omega arith))
stops_taken p list many (Some s) h (i, l, e, q, before) =
    let n = length-take-le many list h in
    let m : i < many = omega arith in
    (i, m, rw (← get_or-take many list i 0 m) e, q, λ j g. rw (← get_or-take many list j 0 (omega arith)) (before j g))

-- ---- from the list to all schedules

module _ (rows column base : List ℕ) (n : ℕ) (cs : List Check) (list : List ℕ) (many : ℕ) (few : n ≤ most_main) (size : length base ≡ disk_blocks) (g : Suspects rows column n cs list many) where
  abbrev bad : ℕ → Bool
  bad = bad_rows rows n base (held_from column 0 n) cs

  abbrev spoilt : ℕ → Bool
  spoilt = leaves_inconsistent base (held_from column 0 n) cs

  words : 2 ^ n ≤ small_sets
  words = let p = pow_mono {i = n} {j = 20} few in omega (arith, p)

  bad_spoilt : (s : ℕ) → bad s ≡ true → spoilt s ≡ true
  unfolding bad_rows leaves_inconsistent
  bad_spoilt s e = and_right (valid_rows rows n s) _ e

  -- the schedule of a rank that is listed
  of_rank : (t i : ℕ) → t < 2 ^ n → get_or list i 0 ≡ rank t → listed list i ≡ t
  of_rank t i h e = let w = words in ap (λ (x : ℕ). x % small_sets) e ∙ rank-set t (omega (arith, h, w))

  found : (v : Option ℕ) → StopsAt spoilt list many v → v ≡ verdict_by (smallest_below bad (2 ^ n))
  unfolding StopsAt verdict_by bad_rows leaves_inconsistent Rising
  found None stops =
      rw (passes_none bad (2 ^ n) (λ s h. untrue (bad s) (λ e.
      let (t, l, (i, b, q), f, r) = g.every base size s h e in
      clash (spoilt t) (bad_spoilt t f) (rw (of_rank t i l q) at (stops i b)))))
  found (Some s) (i, b, z, p, before) =
      let r = g.ranks.each (get_or list i 0) (i, b, refl) in
      let same : s ≡ r.set = z ∙ of_rank r.set i r.most r.is in
      let first : get_or list i 0 ≡ rank s = r.is ∙ ap rank (sym same) in
      rw (least_smallest bad (2 ^ n) s words (rw same r.most) (and_intro (valid_rows rows n s) _ (rw same r.valid) p) (λ k h e. least k first (g.every base size k h e)))
    where
      least : (k : ℕ) → get_or list i 0 ≡ rank s → (t : ℕ) × (t < 2 ^ n) × Has many list (rank t) × (bad t ≡ true) × (rank t ≤ rank k) → rank s ≤ rank k
      least k first (t, l, (j, c, q), f, w) = elim (dec_lt j i) [
        | yes a ↦ clash (spoilt t) (bad_spoilt t f) (rw (of_rank t j l q) at (before j a))
        | no a ↦ let o = g.ranks.rising i j (omega (arith, a)) c in omega (arith, o, first, q, w)
      ]

pub verdict-is : (rows column base : List ℕ) (n : ℕ) (cs : List Check) (list : List ℕ) (many : ℕ) (v : Option ℕ) → n ≤ most_main → length base ≡ disk_blocks → many ≤ length list → Suspects rows column n cs list many
    → StopsAt (leaves_inconsistent base (held_from column 0 n) cs) (take many list) (length (take many list)) v → v ≡ verdict_below (bad_rows rows n base (held_from column 0 n) cs) (2 ^ n)
unfolding verdict_below
verdict-is rows column base n cs list many v few size room g stops = found rows column base n cs list many few size g v (stops_taken _ list many v room stops)

pub suspects-most : (rows column : List ℕ) (n : ℕ) (cs : List Check) (list : List ℕ) (many : ℕ) → Suspects rows column n cs list many → many ≤ most_listed
suspects-most rows column n cs list many g = g.most

pub ruleset deciding = (rules, suspects-most, verdict-is)
