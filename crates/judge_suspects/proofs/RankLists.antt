-- A list of ranks in rising order: a number put in its place, and what single writes and two of them bring, one after the other.
use mathlib.Core.Path.{◌≡◌, refl, sym, ap, subst, ◌∙◌}
use mathlib.Core.Logic.{◌⊎◌, inl, inr, ⊎_elim}
use mathlib.Core.Bool.{Bool, true, false, not}
use mathlib.Core.List.{List}
use Prim.Native.Nat.{ℕ, zero, suc, ◌+◌, ◌-◌, ◌≤◌, ◌<◌}
use native.Mathlib.Numerals.{add-one}
use native.Mathlib.Decide.{dec_lt}
use native.Mathlib.Omega.{arith}
use lib.Bits.{bit_or, or_lt}
use lib.Count.{ones_in, ones}
use lib.ListN.{length, get_or, set, length-set}
use lib.Pow.{pow_mono, pow_pos}
use lib.Seq.{get_or-set_same, get_or-set_other}
use borrow.Author.Rules.{rules}
use borrow.Author.Tests.{not-true}
use Rattle.relation.specs.Rank.{small_sets, rank}
use Rattle.relation.specs.Bits.{bit}
use Rattle.relation.proofs.BitLaws.{bit-zero, bit-or}
use Rattle.relation.proofs.ListLaws.{clash, below_suc, or_left, or_right, or_cases}
use Rattle.relation.proofs.UnionLaws.{part-true, part_intro}
use Rattle.model.specs.Limits.{most_main}
use Rattle.judge_schedules.specs.Valid.{valid_rows, Completes}
use Rattle.judge_schedules.proofs.ValidLaws.{valid-row, row-valid}
use Rattle.judge_suspects.specs.Suspects.{pairs_below, most_listed, Rising, Kept, MakesRoom, Inserts, RankOf, Ranks, OnesListed, RowListed, mates_of, TwosListed}

-- ---- a number put in its place

module _ (old : List ℕ) (many x : ℕ) where
  -- those before place k are where they were; those from there on are above x, and stand one place further
  pub record Shifting (k : ℕ) (list : List ℕ) : Type 0 where
    pub size : length list ≡ length old
    pub room : many < length old
    pub most : k ≤ many
    pub before : (i : ℕ) → i < k → get_or list i 0 ≡ get_or old i 0
    pub behind : (i : ℕ) → k ≤ i → i < many → get_or list (i + 1) 0 ≡ get_or old i 0
    pub above : (i : ℕ) → k ≤ i → i < many → x < get_or old i 0

  pub shifting_none : many < length old → Shifting many old
  shifting_none h = record {
    size = refl;
    room = h;
    most = omega arith;
    before = λ i l. refl;
    behind = λ i l b. absurd (omega (arith, l, b));
    above = λ i l b. absurd (omega (arith, l, b));
  }

  module _ (k y next : ℕ) (list : List ℕ) (g : Shifting k list) (some : 0 < k) (e : y ≡ get_or list (k - 1) 0) (q : next ≡ k - 1) where
    last : get_or list (k - 1) 0 ≡ get_or old (k - 1) 0
    last = g.before (k - 1) (omega (arith, some))

    pub shifting_more : x < y → Shifting next (set list k y)
    shifting_more b =
        rw q
        (record {
          size = length-set list k y ∙ g.size;
          room = g.room;
          most = let m = g.most in omega (arith, m);
          before = λ i l. get_or-set_other list k i y 0 (λ z. absurd (omega (arith, l, z, some))) ∙ g.before i (omega (arith, l, some));
          behind = moved;
          above = greater;
        })
      where
        inside : k < length list
        inside = let s = g.size in let r = g.room in let m = g.most in omega (arith, s, r, m)

        moved : (i : ℕ) → k - 1 ≤ i → i < many → get_or (set list k y) (i + 1) 0 ≡ get_or old i 0
        moved i l h = elim (dec_lt i k) [
          | yes b ↦
              let a : i ≡ k - 1 = omega (arith, l, b) in
              let n : i + 1 ≡ k = omega (arith, a, some) in
              rw (n, a) (get_or-set_same list k y 0 inside ∙ e ∙ last)
          | no b ↦ get_or-set_other list k (i + 1) y 0 (λ z. absurd (omega (arith, z, b))) ∙ g.behind i (omega (arith, b)) h
        ]

        greater : (i : ℕ) → k - 1 ≤ i → i < many → x < get_or old i 0
        greater i l h = elim (dec_lt i k) [
          | yes c ↦ let a : i ≡ k - 1 = omega (arith, l, c) in rw (a, ← last, ← e) b
          | no c ↦ g.above i (omega (arith, c)) h
        ]

  pub room-first : (k : ℕ) (list : List ℕ) → Shifting k list → k ≤ 0 → MakesRoom many x old k list
  room-first k list g z =
      record { most = g.most; before = g.before; last = λ b. absurd (omega (arith, z, b)); behind = g.behind; above = g.above }

  pub room-behind : (k y : ℕ) (list : List ℕ) → Shifting k list → 0 < k → y ≡ get_or list (k - 1) 0 → y ≤ x → MakesRoom many x old k list
  room-behind k y list g some e b =
      record {
        most = g.most;
        before = g.before;
        last = λ h. let c = sym (e ∙ g.before (k - 1) (omega (arith, some))) in omega (arith, b, c);
        behind = g.behind;
        above = g.above;
      }

  pub room-inside : (k : ℕ) (list : List ℕ) → MakesRoom many x old k list → many < length old → length list ≡ length old → k < length list
  room-inside k list g h e = let m = g.most in omega (arith, m, h, e)

  module _ (k : ℕ) (list : List ℕ) (g : MakesRoom many x old k list) (inside : k < length list) where
    abbrev new : List ℕ
    new = set list k x

    here : get_or new k 0 ≡ x
    here = get_or-set_same list k x 0 inside

    below : (i : ℕ) → i < k → get_or new i 0 ≡ get_or old i 0
    below i h = get_or-set_other list k i x 0 (λ z. absurd (omega (arith, z, h))) ∙ g.before i h

    beyond : (i : ℕ) → k ≤ i → i < many → get_or new (i + 1) 0 ≡ get_or old i 0
    beyond i h l = get_or-set_other list k (i + 1) x 0 (λ z. absurd (omega (arith, z, h))) ∙ g.behind i h l

    -- what stands at place j: one of those before, x, or one of those behind
    placed : (P : ℕ → ℕ → Type 0) → ((i : ℕ) → i < k → P i (get_or old i 0)) → P k x → ((i : ℕ) → k ≤ i → i < many → P (i + 1) (get_or old i 0)) → (j : ℕ) → j < many + 1 → P j (get_or new j 0)
    placed P a b c j h = elim (dec_lt j k) [
      | yes l ↦ rw (below j l) (a j l)
      | no l ↦ elim (dec_lt k j) [
        | yes m ↦
            let z : j ≡ j - 1 + 1 = omega (arith, m) in
            rw (ap (λ (i : ℕ). get_or new i 0) z ∙ beyond (j - 1) (omega (arith, m)) (omega (arith, m, h))) (subst (λ (i : ℕ). P i (get_or old (j - 1) 0)) (sym z) (c (j - 1) (omega (arith, m)) (omega (arith, m, h))))
        | no m ↦ let z : j ≡ k = omega (arith, l, m) in rw (z, here) b
      ]
    ]

    kept : Kept many old (many + 1) new
    unfolding Kept
    kept y (i, h, e) = elim (dec_lt i k) [
      | yes l ↦ (i, omega (arith, h), below i l ∙ e)
      | no l ↦ (i + 1, omega (arith, h), beyond i (omega (arith, l)) h ∙ e)
    ]

    low : (i : ℕ) → Rising many old → i < k → get_or old i 0 ≤ x
    unfolding Rising
    low i r h =
        let m = g.most in
        let a = r i (k - 1) (omega (arith, h)) (omega (arith, m, h)) in
        let b = g.last (omega (arith, h)) in
        omega (arith, a, b)

    rising : Rising many old → Rising (many + 1) new
    unfolding Rising
    rising r i j h l =
        placed (λ j v. (i : ℕ) → i ≤ j → get_or new i 0 ≤ v)
        (λ j b i a. rw (below i (omega (arith, a, b))) (let m = g.most in r i j a (omega (arith, b, m))))
        (λ i a. placed (λ i u. i ≤ k → u ≤ x) (λ i b c. low i r b) (λ c. omega arith) (λ i b d c. absurd (omega (arith, b, c))) i (let m = g.most in omega (arith, a, m)) a)
        (λ j b c i a.
        placed (λ i u. i ≤ j + 1 → u ≤ get_or old j 0)
        (λ i d f. r i j (omega (arith, d, b)) c)
        (λ f. let y = g.above j b c in omega (arith, y))
        (λ i d e f. r i j (omega (arith, f)) c)
        i (omega (arith, a, c)) a)
        j l i h

    pub inserted : Inserts many x old (set list k x)
    inserted = record {
      rising = rising;
      here = (k, (let m = g.most in omega (arith, m)), here);
      kept = kept;
      only = λ y (j, h, e). ⊎_elim (λ z. inl (sym e ∙ z)) (λ z. inr (z.0, z.1, z.2 ∙ e)) (placed (λ j v. (v ≡ x) ⊎ ((i : ℕ) × (i < many) × (get_or old i 0 ≡ v))) (λ i b. inr (i, (let m = g.most in omega (arith, m, b)), refl)) (inl refl) (λ i b c. inr (i, c, refl)) j h);
    }

pub ruleset inserting = (rules, shifting_none, shifting_more, room-first, room-behind, room-inside, inserted)

-- ---- ranks of valid schedules

-- two valid schedules in one
pub valid_or : (rows : List ℕ) (n a b : ℕ) → valid_rows rows n a ≡ true → valid_rows rows n b ≡ true → valid_rows rows n (bit_or a b) ≡ true
valid_or rows n a b v w =
    row-valid rows n (bit_or a b)
    (λ i h e. ⊎_elim
    (λ z. part_intro (get_or rows i 0) (bit_or a b) (λ j q. bit-or a b j ∙ or_left (bit a j) _ (part-true _ a j (valid-row rows n a v i h z) q)))
    (λ z. part_intro (get_or rows i 0) (bit_or a b) (λ j q. bit-or a b j ∙ or_right (bit a j) _ (part-true _ b j (valid-row rows n b w i h z) q)))
    (or_cases (bit a i) _ (sym (bit-or a b i) ∙ e)))

rank-zero : rank 0 ≡ 0
unfolding rank ones ones_in
rank-zero = refl

module _ (brought : List ℕ) (n : ℕ) (c : Completes brought n brought) where
  -- what one write brings, and what two do
  rank-one : (i x : ℕ) → i < n → x ≡ rank (get_or brought i 0) → RankOf brought n x
  rank-one i x h e = let b = c.at i h in record { set = get_or brought i 0; most = b.most; valid = b.valid; is = e }

  rank_two : (h l x : ℕ) → h < n → l < n → x ≡ rank (bit_or (get_or brought h 0) (get_or brought l 0)) → RankOf brought n x
  rank_two h l x a b e =
      let p = c.at h a in
      let q = c.at l b in
      record { set = bit_or (get_or brought h 0) (get_or brought l 0); most = or_lt n _ _ p.most q.most; valid = valid_or brought n _ _ p.valid q.valid; is = e }

  pub brought_word : n ≤ most_main → (i : ℕ) → i < n → get_or brought i 0 < small_sets
  brought_word few i h = let b = (c.at i h).most in let p = pow_mono {i = n} {j = 20} few in omega (arith, b, p)

  pub brought_words : n ≤ most_main → (h l : ℕ) → h < n → l < h → bit_or (get_or brought h 0) (get_or brought l 0) < small_sets
  brought_words few h l a b = or_lt 32 _ _ (brought_word few h a) (brought_word few l (omega (arith, a, b)))

  zero_ranked : (list : List ℕ) → 0 < length list → Ranks brought n 1 (set list 0 0)
  zero_ranked list some = record {
    rising = unfold Rising in λ i j h l. let a : i ≡ j = omega (arith, h, l) in rw a (omega arith);
    each = λ x (i, h, e).
        let z : i ≡ 0 = omega (arith, h) in
        record {
          set = 0;
          most = pow_pos n;
          valid = row-valid brought n 0 (λ j l b. clash (bit 0 j) b (bit-zero j));
          is = sym e ∙ ap (λ (k : ℕ). get_or (set list 0 0) k 0) z ∙ get_or-set_same list 0 0 0 some ∙ sym rank-zero;
        };
  }

-- one rank more
module _ (rows : List ℕ) (n many x : ℕ) (list new : List ℕ) (i : Inserts many x list new) where
  ranks-more : Ranks rows n many list → RankOf rows n x → Ranks rows n (many + 1) new
  ranks-more r o =
      record { rising = i.rising r.rising; each = λ y h. ⊎_elim (λ (e : y ≡ x). rw e o) (λ k. r.each y k) (i.only y h) }

  kept_more : (m : ℕ) (old : List ℕ) → Kept m old many list → Kept m old (many + 1) new
  unfolding Kept
  kept_more m old k y h = i.kept y (k y h)

kept_self : (many : ℕ) (list : List ℕ) → Kept many list many list
unfolding Kept
kept_self many list x h = h

-- ---- what single writes bring

module _ (brought : List ℕ) (n mask : ℕ) where
  pub ones_none : (list : List ℕ) → length list ≡ most_listed → Completes brought n brought → OnesListed brought n mask 0 1 (set list 0 0)
  ones_none list size c =
      let some : 0 < length list = omega (arith, size) in
      record {
        most = omega arith;
        ranks = zero_ranked brought n c list some;
        none = (0, omega arith, get_or-set_same list 0 0 0 some ∙ sym rank-zero);
        all = λ i h e. absurd (omega (arith, h));
      }

  pub ones-all : (k many : ℕ) (list : List ℕ) → OnesListed brought n mask k many list → k ≤ n → n ≤ k → OnesListed brought n mask n many list
  ones-all k many list g h l = subst (λ (k : ℕ). OnesListed brought n mask k many list) (omega (arith, h, l)) g

  pub ones-room : (k many size : ℕ) (list : List ℕ) → OnesListed brought n mask k many list → k < n → n ≤ most_main → size ≡ most_listed → many < size
  ones-room k many size list g h few e = let m = g.most in omega (arith, m, h, few, e)

  module _ (k many : ℕ) (list : List ℕ) (b : Bool) (g : OnesListed brought n mask k many list) (q : b ≡ bit mask k) where
    pub ones_skip : not b ≡ true → OnesListed brought n mask (k + 1) many list
    ones_skip e = record {
      most = let m = g.most in omega (arith, m);
      ranks = g.ranks;
      none = g.none;
      all = λ i h f. ⊎_elim (λ (z : i ≡ k). clash (bit mask k) (rw z at f) (sym q ∙ not-true b e)) (λ (l : i < k). g.all i l f) (below_suc i k (rw (add-one k) at h));
    }

    pub ones-more : (x : ℕ) (new : List ℕ) → not b ≡ false → k < n → Completes brought n brought → x ≡ rank (get_or brought k 0) → Inserts many x list new → OnesListed brought n mask (k + 1) (many + 1) new
    unfolding Kept
    ones-more x new e h c z i = record {
      most = let m = g.most in omega (arith, m);
      ranks = ranks-more brought n many x list new i g.ranks (rank-one brought n c k x h z);
      none = i.kept _ g.none;
      all = λ j l f. ⊎_elim (λ (a : j ≡ k). rw (a, ← z) i.here) (λ (a : j < k). i.kept _ (g.all j a f)) (below_suc j k (rw (add-one k) at l));
    }

pub ruleset singles = (rules, ones_none, ones_skip, ones-more, ones-all, ones-room, brought_word)

-- ---- what a write brings with each one before it

module _ (brought : List ℕ) (n h mask many : ℕ) (old : List ℕ) where
  pub row-none : Ranks brought n many old → RowListed brought n h mask 0 many old many old
  row-none r = record { most = omega arith; ranks = r; kept = kept_self many old; all = λ i h e. absurd (omega (arith, h)) }

  pub row-empty : Ranks brought n many old → mask ≡ 0 → RowListed brought n h mask h many old many old
  row-empty r z = record { most = omega arith; ranks = r; kept = kept_self many old; all = λ l b e. clash (bit mask l) e (rw z (bit-zero l)) }

  pub row-all : (k more : ℕ) (list : List ℕ) → RowListed brought n h mask k many old more list → k ≤ h → h ≤ k → RowListed brought n h mask h many old more list
  row-all k more list g a l = subst (λ (k : ℕ). RowListed brought n h mask k many old more list) (omega (arith, a, l)) g

  pub row_room : (k more size : ℕ) (list : List ℕ) → RowListed brought n h mask k many old more list → k < h → many + h ≤ most_listed → size ≡ most_listed → more < size
  row_room k more size list g a few e = let m = g.most in omega (arith, m, a, few, e)

  module _ (k more : ℕ) (list : List ℕ) (b : Bool) (g : RowListed brought n h mask k many old more list) (q : b ≡ bit mask k) where
    pub row_skip : not b ≡ true → RowListed brought n h mask (k + 1) many old more list
    row_skip e = record {
      most = let m = g.most in omega (arith, m);
      ranks = g.ranks;
      kept = g.kept;
      all = λ i a f. ⊎_elim (λ (z : i ≡ k). clash (bit mask k) (rw z at f) (sym q ∙ not-true b e)) (λ (l : i < k). g.all i l f) (below_suc i k (rw (add-one k) at a));
    }

    pub row_more : (x : ℕ) (new : List ℕ) → not b ≡ false → k < h → h < n → Completes brought n brought → x ≡ rank (bit_or (get_or brought h 0) (get_or brought k 0)) → Inserts more x list new
        → RowListed brought n h mask (k + 1) many old (more + 1) new
    row_more x new e a d c z i = record {
      most = let m = g.most in omega (arith, m);
      ranks = ranks-more brought n more x list new i g.ranks (rank_two brought n c h k x d (omega (arith, a, d)) z);
      kept = kept_more brought n more x list new i many old g.kept;
      all = λ j l f.
          ⊎_elim (λ (a : j ≡ k). rw (a, ← z) i.here) (λ (a : j < k). unfold Kept in i.kept _ (g.all j a f)) (below_suc j k (rw (add-one k) at l));
    }

pub ruleset rowing = (rules, row-none, row-empty, row_skip, row_more, row-all, row_room, brought_words)

-- ---- what two writes bring

pairs_rise : (a b : ℕ) → a ≤ b → pairs_below a ≤ pairs_below b
unfolding pairs_below
pairs_rise a zero h = let z : a ≡ 0 = omega (arith, h) in rw z (omega arith)
pairs_rise a (suc b) h = elim (dec_lt a (suc b)) [
  | yes l ↦ let r = pairs_rise a b (omega (arith, l)) in omega (arith, r)
  | no l ↦ let z : a ≡ suc b = omega (arith, h, l) in rw z (omega arith)
]

pub pairs_total : (n : ℕ) → n ≤ most_main → pairs_below n ≤ 190
unfolding pairs_below
pairs_total n h = pairs_rise n most_main h

pairs-most : (h : ℕ) → h < most_main → pairs_below h + h ≤ 190
unfolding pairs_below
pairs-most h l = pairs_rise (suc h) most_main (omega (arith, l))

module _ (brought : List ℕ) (n own other many : ℕ) (old : List ℕ) where
  pub twos_none : Ranks brought n many old → TwosListed brought n own other 0 many old many old
  unfolding pairs_below
  twos_none r = record { most = omega arith; ranks = r; kept = kept_self many old; all = λ h l b e. absurd (omega (arith, b)) }

  pub twos_all : (k more : ℕ) (list : List ℕ) → TwosListed brought n own other k many old more list → k ≤ n → n ≤ k → TwosListed brought n own other n many old more list
  twos_all k more list g a l = subst (λ (k : ℕ). TwosListed brought n own other k many old more list) (omega (arith, a, l)) g

  module _ (k more : ℕ) (list : List ℕ) (g : TwosListed brought n own other k many old more list) where
    pub twos_room : k < n → n ≤ most_main → many ≤ 1 + n → more + k ≤ most_listed
    twos_room h few m = let a = g.most in let b = pairs-most k (omega (arith, h, few)) in omega (arith, a, b, m, few)

    pub twos_ranks : Ranks brought n more list
    twos_ranks = g.ranks

    pub twos_more : (mask next : ℕ) (new : List ℕ) → mask ≡ mates_of own other k → RowListed brought n k mask k more list next new → TwosListed brought n own other (k + 1) many old next new
    unfolding Kept pairs_below
    twos_more mask next new e r = record {
      most = let a = g.most in let b = r.most in rw (add-one k) (omega (arith, a, b));
      ranks = r.ranks;
      kept = λ x h. r.kept x (g.kept x h);
      all = λ h l a b f.
          ⊎_elim (λ (z : h ≡ k). rw z (r.all l (rw z at b) (rw (e, ← z) f))) (λ (z : h < k). r.kept _ (g.all h l z b f)) (below_suc h k (rw (add-one k) at a));
    }

pub ruleset pairing = (rules, twos_none, twos_room, twos_ranks, twos_more, twos_all)
