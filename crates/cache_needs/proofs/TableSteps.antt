-- Filling a table of needs: one law for each return and each turn of a loop.
use mathlib.Core.Path.{◌≡◌, refl, sym, ap, ◌∙◌}
use mathlib.Core.Bool.{Bool, true, false, cond, not, ◌&&◌, and-true, and-false}
use mathlib.Core.List.{List}
use Prim.Native.Nat.{ℕ, zero, suc, ◌+◌, ◌-◌, ◌*◌, ◌%◌, ◌^◌, ◌≤◌, ◌<◌}
use native.Mathlib.Numerals.{add-one}
use native.Mathlib.Omega.{arith}
use lib.Bits.{bit_and, bit_or}
use lib.Dec.{eqb}
use lib.ListN.{length, get_or, set, replicate, get_or-replicate}
use lib.Seq.{get_or-set_same, get_or-set_other}
use borrow.Author.Rules.{rules}
use borrow.Author.Tests.{eq-eqb, ne_eqb, eqb-true, eqb-false}
use Rattle.relation.specs.Bits.{bit, with_bit, without, Lowest}
use Rattle.relation.specs.Tables.{Filled}
use Rattle.relation.proofs.BitLaws.{bit_pow, power_is}
use Rattle.relation.proofs.SetLaws.{bit-without, without-below}
use Rattle.relation.proofs.MemberLaws.{left-fewer}
use Rattle.relation.proofs.TableLaws.{filled_none, filled_more, filled-all}
use Rattle.model.specs.Limits.{most_held, disk_blocks}
use Rattle.cache_masks.specs.Masks.{same_mask}
use Rattle.cache_masks.specs.Ranks.{standing_in}
use Rattle.cache_masks.proofs.MaskSteps.{mask-begun, same-suc}
use Rattle.cache_needs.specs.Tables.{behind_of, earlier_at, Lasts, SmallOf, added_to, Added}

-- ---- behind

pub behind-none : (rows : List ℕ) (p : ℕ) → p ≡ 0 → 0 ≡ behind_of rows p
unfolding behind_of
behind-none rows p e = rw e

pub behind-some : (rows : List ℕ) (p r : ℕ) → (p ≡ 0 → ⊥) → r ≡ with_bit (get_or rows (p - 1) 0) (p - 1) → r ≡ behind_of rows p
unfolding behind_of
behind-some rows zero r d e = absurd (d refl)
behind-some rows (suc p) r d e =
    let z : suc p - 1 ≡ p = omega arith in
    rw z at e

pub ruleset behinds = (rules, behind-none, behind-some)

-- ---- fill_earlier

pub lasts_begun : (addresses rows : List ℕ) → Lasts addresses 0 rows (replicate disk_blocks 0)
lasts_begun addresses rows = record {
  place = λ a h. let z = get_or-replicate {A = ℕ} disk_blocks a 0 0 h in omega (arith, z);
  tells = λ a h. rw (get_or-replicate {A = ℕ} disk_blocks a 0 0 h) (sym (mask-begun addresses a) ∙ unfold behind_of in refl);
}

-- a row that is filled later changes nothing
behind-kept : (rows : List ℕ) (i r p : ℕ) → p ≤ i → behind_of (set rows i r) p ≡ behind_of rows p
unfolding behind_of
behind-kept rows i r zero l = refl
behind-kept rows i r (suc p) l = ap (λ (x : ℕ). with_bit x p) (get_or-set_other rows i p r 0 (λ (z : p ≡ i). absurd (omega (arith, z, l))))

module _ (addresses rows last : List ℕ) (i n a p : ℕ) (h : i < n) (few : n ≤ most_held) (lasts : Lasts addresses i rows last) (small : a < disk_blocks)
    (e : p ≡ get_or last a 0) where
  pub last_fits : p ≤ most_held
  last_fits = let l = lasts.place a small in omega (arith, l, e)

  module _ (r : ℕ) (q : a ≡ get_or addresses i 0) (all : length rows ≡ most_held) (f : r ≡ behind_of rows p) where
    is_row : r ≡ same_mask addresses a i
    is_row = f ∙ rw e (sym (lasts.tells a small))

    pub earlier_more : Filled (earlier_at addresses) i rows → Filled (earlier_at addresses) (i + 1) (set rows i r)
    unfolding earlier_at
    earlier_more filled = filled_more (earlier_at addresses) i rows r filled (omega arith) (rw (← q) is_row)

    pub lasts_more : length last ≡ disk_blocks → Lasts addresses (i + 1) (set rows i r) (set last a (i + 1))
    lasts_more full = record { place = λ b l. place b l (eqb b a) refl; tells = λ b l. rw (add-one i) (tells b l (eqb b a) refl) }
      where
        same : get_or (set last a (i + 1)) a 0 ≡ i + 1
        same = get_or-set_same last a (i + 1) 0 (omega arith)

        place : (b : ℕ) → b < disk_blocks → (t : Bool) → eqb b a ≡ t → get_or (set last a (i + 1)) b 0 ≤ i + 1
        place b l true z = rw (eqb-true b a z) (let k = same in omega (arith, k))
        place b l false z = rw (get_or-set_other last a b (i + 1) 0 (eqb-false b a z)) (let k = lasts.place b l in omega (arith, k))

        tells : (b : ℕ) → b < disk_blocks → (t : Bool) → eqb b a ≡ t → same_mask addresses b (suc i) ≡ behind_of (set rows i r) (get_or (set last a (suc i)) b 0)
        tells b l true z =
            rw (eqb-true b a z, get_or-set_same last a (suc i) 0 (omega arith), same-suc addresses a i, eq-eqb (get_or addresses i 0) a (sym q))
            (unfold behind_of in (rw (get_or-set_same rows i r 0 (omega arith), is_row)))
        tells b l false z =
            rw (get_or-set_other last a b (suc i) 0 (eqb-false b a z), behind-kept rows i r (get_or last b 0) (lasts.place b l), same-suc addresses b i, ne_eqb (get_or addresses i 0) b (λ y. eqb-false b a z (sym y ∙ sym q)))
            (lasts.tells b l)

pub ruleset earlier = (rules, lasts_begun, last_fits, earlier_more, lasts_more, filled_none, filled-all)

-- ---- add_to

-- what is left are firsts, and the others of them have what is added
pub record Adding (old : List ℕ) (firsts seconds p : ℕ) (ranks belows : List ℕ) (left : ℕ) (rows : List ℕ) : Type 0 where
  pub part : (j : ℕ) → bit left j ≡ true → bit firsts j ≡ true
  pub fits : left < 2 ^ 64
  pub added : Added old firsts seconds p ranks belows left rows

module _ (old : List ℕ) (firsts seconds p : ℕ) (ranks belows : List ℕ) where
  pub add_begun : firsts < 2 ^ 64 → Adding old firsts seconds p ranks belows firsts old
  add_begun l = record { part = λ j e. e; fits = l; added = record { at = λ i. none (bit firsts i) (bit_or (get_or old i 0) (added_to seconds p ranks belows i)) (get_or old i 0) } }
    where
      none : (b : Bool) (x y : ℕ) → y ≡ cond (b && not b) x y
      none true x y = refl
      none false x y = refl

  pub add_small : (left h q : ℕ) (rows : List ℕ) → Adding old firsts seconds p ranks belows left rows → SmallOf firsts ranks → Lowest left h → q ≡ get_or ranks h 0
      → q < most_held
  unfolding Lowest
  add_small left h q rows a small low e = let l = small.at h (a.part h low.0) in omega (arith, l, e)

  module _ (left h next : ℕ) (rows : List ℕ) (adding : Adding old firsts seconds p ranks belows left rows) (low : Lowest left h) (b : h < 64)
      (e : next ≡ without left (1 * 2 ^ h % 18446744073709551616)) where
    next_bit : (j : ℕ) → bit next j ≡ bit left j && not (eqb j h)
    next_bit j = rw (e, bit-without left (1 * 2 ^ h % 18446744073709551616) j adding.fits, power_is h b, bit_pow h j)

    pub add_more : (q s : ℕ) → length rows ≡ most_held → q ≡ get_or ranks h 0 → s ≡ standing_in belows q p
        → Adding old firsts seconds p ranks belows next (set rows h (bit_or (get_or rows h 0) (bit_and seconds s)))
    unfolding Lowest added_to
    add_more q s all f g = record {
      part = λ j k. adding.part j (first (bit left j) (not (eqb j h)) (sym (next_bit j) ∙ k));
      fits = rw e (without-below left (1 * 2 ^ h % 18446744073709551616));
      added = record { at = λ i. go i (eqb i h) refl };
    }
      where
        first : (x y : Bool) → x && y ≡ true → x ≡ true
        first true y k = refl
        first false y k = k

        x : ℕ
        x = bit_or (get_or rows h 0) (bit_and seconds s)

        old_row : get_or rows h 0 ≡ get_or old h 0
        old_row = adding.added.at h ∙ rw (low.0, and-false (bit firsts h))

        go : (i : ℕ) (t : Bool) → eqb i h ≡ t
            → get_or (set rows h x) i 0 ≡ cond (bit firsts i && not (bit next i)) (bit_or (get_or old i 0) (bit_and seconds (standing_in belows (get_or ranks i 0) p))) (get_or old i 0)
        go i true z =
            rw (next_bit i, z, eqb-true i h z, low.0, adding.part h low.0, get_or-set_same rows h x 0 (omega arith), old_row, g, f)
        go i false z =
            rw (next_bit i, z, and-true (bit left i), get_or-set_other rows h i x 0 (eqb-false i h z)) (adding.added.at i)

  pub add_done : (left : ℕ) (rows : List ℕ) → left ≡ 0 → Adding old firsts seconds p ranks belows left rows → Added old firsts seconds p ranks belows 0 rows
  add_done left rows z a = rw z at a.added

pub ruleset adding = (rules, add_begun, add_small, add_more, add_done, left-fewer)
