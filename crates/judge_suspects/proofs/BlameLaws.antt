-- A check that fails of a disk fails by two of its blocks at most: of every disk that agrees on these. So of a bad schedule the last flagged
-- writes to these two, with all that they bring, are a bad schedule too, and a part of it.
use mathlib.Core.Path.{◌≡◌, refl, sym, ◌∙◌}
use mathlib.Core.Logic.{◌⊎◌, inl, inr, ⊎_elim}
use mathlib.Core.Bool.{Bool, true, false, cond, not, ◌&&◌, false≢true, and-true}
use mathlib.Core.List.{List, Memᴰ}
use Prim.Native.Nat.{ℕ, zero, suc, ◌+◌, ◌-◌, ◌/◌, ◌^◌, ◌≤◌, ◌<◌}
use native.Mathlib.Nat.{mod-lt}
use native.Mathlib.Decide.{dec_lt}
use native.Mathlib.Omega.{arith}
use lib.Bits.{bit_or, or_lt}
use lib.Dec.{eqb, leb}
use lib.ListN.{length, get_or}
use lib.Pow.{pow_pos}
use borrow.Author.Rules.{rules}
use borrow.Author.Tests.{eq-eqb, eqb-true, lt-ltb, not-true, not-false}
use Rattle.relation.specs.Rank.{rank}
use Rattle.relation.specs.Bits.{bit}
use Rattle.relation.specs.Lists.{all_below, any, all}
use Rattle.relation.specs.Union.{part_of}
use Rattle.relation.proofs.BestLaws.{part-rank}
use Rattle.relation.proofs.BitLaws.{bit-or, bit_mask, bit-zero}
use Rattle.relation.proofs.ListLaws.{clash, not_so, or_left, or_right, or_cases, or_none-left, or_none_right, below_suc, and_left, and_right, and_intro, all_below-not, any_intro, any-true, any_false, all_intro, all_true}
use Rattle.relation.proofs.UnionLaws.{part-true, part_intro, part-zero}
use Rattle.model.specs.declared.Check.{Check}
use Rattle.model.specs.declared.Check.TheVariants.{Range, Pair, Pointer}
use Rattle.model.specs.Limits.{most_main, words, disk_blocks, last_block}
use Rattle.model.specs.Disk.{empty, first_of, second_of, block_at}
use Rattle.model.specs.Schedule.{run}
use Rattle.model.specs.Check.{damaged, range_holds, holds, consistent}
use Rattle.judge_disks.specs.Packed.{unpacked, held_from}
use Rattle.judge_disks.proofs.LastLaws.{column_none, column_last}
use Rattle.judge_schedules.specs.Valid.{valid_rows, bad_rows, Completes}
use Rattle.judge_schedules.proofs.ValidLaws.{row-valid, completes_itself}
use Rattle.judge_suspects.proofs.RankLists.{valid_or, pairs_total}
use Rattle.judge_suspects.specs.Suspects.{opens, spoils, opens_in, spoils_in, Marked, Has, Kept, Ranks, OnesListed, mates_of, TwosListed, Suspects}

-- ---- two blocks

-- a check fails by the blocks of a disk at a and at b: it begins at a, b is the same or spoils it, and it fails of every disk that agrees there
pub record FailsBy (disk : List ℕ) (c : Check) (a b : ℕ) : Type 0 where
  pub own : opens c a (block_at disk a) ≡ true
  pub other : (b ≡ a) ⊎ (spoils c b (block_at disk b) ≡ true)
  pub agree : (d : List ℕ) → block_at d a ≡ block_at disk a → block_at d b ≡ block_at disk b → holds d c ≡ false

-- some number below n fails a test; some member of a list does
all-fails : (p : ℕ → Bool) (n : ℕ) → all_below p n ≡ false → (k : ℕ) × (k < n) × (p k ≡ false)
unfolding all_below
all-fails p zero e = absurd (false≢true (sym e))
all-fails p (suc n) e = go (p n) refl (λ z. all-fails p n z)
  where
    go : (b : Bool) → p n ≡ b → (all_below p n ≡ false → (k : ℕ) × (k < n) × (p k ≡ false)) → (k : ℕ) × (k < suc n) × (p k ≡ false)
    go true q f = let r = f (sym (and-true (all_below p n)) ∙ (rw q at e)) in (r.0, (let l = r.1 in omega (arith, l)), r.2)
    go false q f = (n, omega arith, q)

member_fails : {A : Type 0} (p : A → Bool) (l : List A) → all p l ≡ false → (x : A) × Memᴰ x l × (p x ≡ false)
member_fails {A = A} p l e = go (any (λ x. not (p x)) l) refl
  where
    go : (t : Bool) → any (λ x. not (p x)) l ≡ t → (x : A) × Memᴰ x l × (p x ≡ false)
    go true q = let (x, m, f) = any-true (λ x. not (p x)) l q in (x, m, not-true (p x) f)
    go false q = clash (all p l) (all_intro p l (λ x m. not-false (p x) (any_false (λ x. not (p x)) q x m))) e

module _ (disk : List ℕ) (a : ℕ) where
  abbrev head : ℕ
  head = first_of (block_at disk a)

  abbrev tail : ℕ
  tail = second_of (block_at disk a)

  range-by : holds disk (Range a) ≡ false → (b : ℕ) × FailsBy disk (Range a) a b
  unfolding holds range_holds opens spoils
  range-by e = go (damaged head tail) refl
    where
      go : (t : Bool) → damaged head tail ≡ t → (b : ℕ) × FailsBy disk (Range a) a b
      go true q = (a, record { own = eq-eqb a a refl; other = inl refl; agree = λ d p r. rw (p, q) })
      go false q =
          let (k, l, z) = all-fails (λ k. not (empty (block_at disk (head + k)))) (tail - head) (rw q at e) in (
            head + k,
            record {
              own = eq-eqb a a refl;
              other = inr (not-false _ z);
              agree = λ d p r. rw (p, q) (all_below-not (λ k. not (empty (block_at d (head + k)))) (tail - head) k l (rw r z));
            },
          )

  pair_by : (own b w : ℕ) → holds disk (Pair a own b w) ≡ false → FailsBy disk (Pair a own b w) a b
  unfolding holds opens spoils
  pair_by own b w e =
      let x = not-false (eqb (block_at disk a) own) (or_none-left _ _ e) in
      let y = or_none_right (not (eqb (block_at disk a) own)) _ e in
      record { own = rw (eq-eqb a a refl) x; other = inr (rw (eq-eqb b b refl, y)); agree = λ d p r. rw (p, r) e }

  pointer_by : holds disk (Pointer a) ≡ false → (b : ℕ) × FailsBy disk (Pointer a) a b
  unfolding holds opens spoils
  pointer_by e = go (leb (second_of (block_at disk a)) last_block) refl
    where
      there : empty (block_at disk a) ≡ false
      there = or_none-left (empty (block_at disk a)) _ e

      beyond : leb (second_of (block_at disk a)) last_block && not (empty (block_at disk (second_of (block_at disk a)))) ≡ false
      beyond = or_none_right (empty (block_at disk a)) _ e

      go : (t : Bool) → leb (second_of (block_at disk a)) last_block ≡ t → (b : ℕ) × FailsBy disk (Pointer a) a b
      go true q = (
        second_of (block_at disk a),
        record {
          own = rw (eq-eqb a a refl, there);
          other = inr (not-false _ (rw q at beyond));
          agree = λ d p r. rw (p, r) e;
        },
      )
      go false q = (a, record { own = rw (eq-eqb a a refl, there); other = inl refl; agree = λ d p r. rw (p, there, q) })

fails_by : (disk : List ℕ) (c : Check) → holds disk c ≡ false → (a : ℕ) × (b : ℕ) × FailsBy disk c a b
fails_by disk (Range a) e = let (b, f) = range-by disk a e in (a, b, f)
fails_by disk (Pair a own b w) e = (a, b, pair_by disk a own b w e)
fails_by disk (Pointer a) e = let (b, f) = pointer_by disk a e in (a, b, f)

-- ---- the last flagged write to a block

address_below : (p : ℕ) → (unpacked p).address < disk_blocks
unfolding unpacked
address_below p = mod-lt (p / words) (omega arith)

module _ (column : List ℕ) (n : ℕ) where
  abbrev address_of : ℕ → ℕ
  address_of i = (unpacked (get_or column i 0)).address

  -- write h is the last one to x that a schedule flags
  pub record LastTo (s x h : ℕ) : Type 0 where
    pub below : h < n
    pub flagged : bit s h ≡ true
    pub at : address_of h ≡ x
    pub last : (j : ℕ) → h < j → j < n → bit s j ≡ true → address_of j ≡ x → ⊥

  -- it flags none
  abbrev pub NoneTo : ℕ → ℕ → Type 0
  NoneTo s x = (j : ℕ) → j < n → bit s j ≡ true → address_of j ≡ x → ⊥

  -- of the first k
  abbrev LastBelow : ℕ → ℕ → ℕ → Type 0
  LastBelow s x k =
      ((h : ℕ) × (h < k) × (bit s h ≡ true) × (address_of h ≡ x) × ((j : ℕ) → h < j → j < k → bit s j ≡ true → address_of j ≡ x → ⊥))
      ⊎ ((j : ℕ) → j < k → bit s j ≡ true → address_of j ≡ x → ⊥)

  last-below : (s x k : ℕ) → LastBelow s x k
  last-below s x zero = inr (λ j h. absurd (omega (arith, h)))
  last-below s x (suc k) = go (bit s k && eqb (address_of k) x) refl (last-below s x k)
    where
      go : (t : Bool) → bit s k && eqb (address_of k) x ≡ t → LastBelow s x k → LastBelow s x (suc k)
      go true q r =
          inl (k, omega arith, and_left (bit s k) _ q, eqb-true _ x (and_right (bit s k) _ q), λ j a b. absurd (omega (arith, a, b)))
      go false q r =
          ⊎_elim
          (λ (h, b, f, e, g). inl (h, (omega (arith, b)), f, e, λ j a c d z. ⊎_elim (λ (y : j ≡ k). here j y d z) (λ (y : j < k). g j a y d z) (below_suc j k c)))
          (λ g. inr (λ j c d z. ⊎_elim (λ (y : j ≡ k). here j y d z) (λ (y : j < k). g j y d z) (below_suc j k c)))
          r
        where
          here : (j : ℕ) → j ≡ k → bit s j ≡ true → address_of j ≡ x → ⊥
          here j y d z = clash (bit s k && eqb (address_of k) x) (and_intro (bit s k) _ (rw y at d) (eq-eqb (address_of k) x (rw y at z))) q

  last_to : (s x : ℕ) → ((h : ℕ) × LastTo s x h) ⊎ NoneTo s x
  last_to s x = ⊎_elim (λ (h, b, f, e, g). inl (h, record { below = b; flagged = f; at = e; last = g })) inr (last-below s x n)

  module _ (base : List ℕ) (size : length base ≡ disk_blocks) where
    -- the block that a schedule leaves
    abbrev laid_at : ℕ → ℕ → ℕ
    laid_at s x = block_at (run (held_from column 0 n) s base) x

    last-laid : (s x h : ℕ) → LastTo s x h → laid_at s x ≡ (unpacked (get_or column h 0)).block
    last-laid s x h g = column_last column base n s x h g.below (inside g.at) g.flagged g.at g.last
      where
        inside : address_of h ≡ x → x < length base
        inside e = let m = address_below (get_or column h 0) in omega (arith, m, e, size)

    -- a part that has it too leaves the same block
    same-last : (s t x h : ℕ) → part_of t s ≡ true → LastTo s x h → bit t h ≡ true → laid_at t x ≡ laid_at s x
    same-last s t x h p g e =
        last-laid t x h (record { below = g.below; flagged = e; at = g.at; last = λ j a b f. g.last j a b (part-true t s j p f) })
        ∙ sym (last-laid s x h g)

    same_none : (s t x : ℕ) → part_of t s ≡ true → NoneTo s x → laid_at t x ≡ laid_at s x
    same_none s t x p g = column_none column base n t x (λ j a f. g j a (part-true t s j p f)) ∙ sym (column_none column base n s x g)

-- ---- what is blamed

module _ (rows column brought : List ℕ) (n : ℕ) (checks : List Check) (own other : ℕ) (whole : Completes rows n brought) (marked : Marked column n checks own other) where
  -- what one write brings, or two, one of each mask; or nothing
  pub data Suspect : ℕ → Type 0 where
    nothing : Suspect 0
    single : (i : ℕ) → i < n → bit (bit_or own other) i ≡ true → Suspect (get_or brought i 0)
    double : (h l : ℕ) → h < n → l < h → bit (mates_of own other h) l ≡ true → Suspect (bit_or (get_or brought h 0) (get_or brought l 0))

  opens-marked : (c : Check) → Memᴰ c checks → (i : ℕ) → i < n → opens_in column c i ≡ true → bit own i ≡ true
  opens-marked c m i h e =
      rw marked.own_is (bit_mask (λ i. any (λ c. opens_in column c i) checks) n i ∙ rw (lt-ltb i n h) (any_intro (λ c. opens_in column c i) m e))

  spoils-marked : (c : Check) → Memᴰ c checks → (i : ℕ) → i < n → spoils_in column c i ≡ true → bit other i ≡ true
  spoils-marked c m i h e =
      rw marked.other-is (bit_mask (λ i. any (λ c. spoils_in column c i) checks) n i ∙ rw (lt-ltb i n h) (any_intro (λ c. spoils_in column c i) m e))

  module _ (base : List ℕ) (size : length base ≡ disk_blocks) (s : ℕ) (valid : valid_rows rows n s ≡ true) (c : Check) (member : Memᴰ c checks) (a b : ℕ)
      (f : FailsBy (run (held_from column 0 n) s base) c a b) where
    abbrev left : ℕ → List ℕ
    left t = run (held_from column 0 n) t base

    -- a part that is suspect, and of which the check fails
    pub record Blamed : Type 0 where
      pub set : ℕ
      pub suspect : Suspect set
      pub part : part_of set s ≡ true
      pub fails : holds (left set) c ≡ false

    own-marked : (i : ℕ) → LastTo column n s a i → bit own i ≡ true
    own-marked i g = opens-marked c member i g.below (unfold opens_in in rw (g.at, ← last-laid column n base size s a i g) f.own)

    other-marked : (j : ℕ) → LastTo column n s b j → spoils c b (block_at (left s) b) ≡ true → bit other j ≡ true
    other-marked j g e = spoils-marked c member j g.below (unfold spoils_in in rw (g.at, ← last-laid column n base size s b j g) e)

    brings_part : (i : ℕ) → i < n → bit s i ≡ true → part_of (get_or brought i 0) s ≡ true
    brings_part i h e = (whole.at i h).least s valid e

    brings_has : (i : ℕ) → i < n → bit (get_or brought i 0) i ≡ true
    brings_has i h = (whole.at i h).has

    by-nothing : laid_at column n base size 0 a ≡ laid_at column n base size s a → laid_at column n base size 0 b ≡ laid_at column n base size s b → Blamed
    by-nothing p q = record { set = 0; suspect = nothing; part = part-zero s; fails = f.agree (left 0) p q }

    by_one : (i : ℕ) → i < n → bit s i ≡ true → bit (bit_or own other) i ≡ true
        → laid_at column n base size (get_or brought i 0) a ≡ laid_at column n base size s a → laid_at column n base size (get_or brought i 0) b ≡ laid_at column n base size s b → Blamed
    by_one i h e m p q = record { set = get_or brought i 0; suspect = single i h m; part = brings_part i h e; fails = f.agree (left (get_or brought i 0)) p q }

    in_own : (i : ℕ) → bit own i ≡ true → bit (bit_or own other) i ≡ true
    in_own i e = bit-or own other i ∙ or_left (bit own i) _ e

    in_other : (i : ℕ) → bit other i ≡ true → bit (bit_or own other) i ≡ true
    in_other i e = bit-or own other i ∙ or_right (bit own i) _ e

    -- both blocks are those of one write
    by-own : (i : ℕ) → LastTo column n s a i → ((t : ℕ) → part_of t s ≡ true → bit t i ≡ true → laid_at column n base size t b ≡ laid_at column n base size s b) → Blamed
    by-own i g q =
        let p = brings_part i g.below g.flagged in
        let e = brings_has i g.below in
        by_one i g.below g.flagged (in_own i (own-marked i g)) (same-last column n base size s _ a i p g e) (q _ p e)

    -- each is that of a write of its own
    by_two : (h l : ℕ) → l < h → (x y : ℕ) → LastTo column n s x h → LastTo column n s y l → bit (mates_of own other h) l ≡ true
        → ((t : ℕ) → laid_at column n base size t x ≡ laid_at column n base size s x → laid_at column n base size t y ≡ laid_at column n base size s y → holds (left t) c ≡ false) → Blamed
    by_two h l k x y g i m fails =
        let t = bit_or (get_or brought h 0) (get_or brought l 0) in
        let first : (j : ℕ) → bit (get_or brought h 0) j ≡ true → bit t j ≡ true = λ j e. bit-or (get_or brought h 0) (get_or brought l 0) j ∙ or_left (bit (get_or brought h 0) j) _ e in
        let next : (j : ℕ) → bit (get_or brought l 0) j ≡ true → bit t j ≡ true = λ j e. bit-or (get_or brought h 0) (get_or brought l 0) j ∙ or_right (bit (get_or brought h 0) j) _ e in
        let p : part_of t s ≡ true = part_intro t s (λ j e. ⊎_elim
        (λ z. part-true _ s j (brings_part h g.below g.flagged) z)
        (λ z. part-true _ s j (brings_part l i.below i.flagged) z)
        (or_cases (bit (get_or brought h 0) j) _ (sym (bit-or (get_or brought h 0) (get_or brought l 0) j) ∙ e))) in
        record {
          set = t;
          suspect = double h l g.below k m;
          part = p;
          fails = fails t (same-last column n base size s t x h p g (first h (brings_has h g.below))) (same-last column n base size s t y l p i (next l (brings_has l i.below)));
        }

    mates-own : (h l : ℕ) → bit own h ≡ true → bit other l ≡ true → bit (mates_of own other h) l ≡ true
    unfolding mates_of
    mates-own h l e q = rw e (bit-or other _ l ∙ or_left (bit other l) _ q)

    mates-other : (h l : ℕ) → bit other h ≡ true → bit own l ≡ true → bit (mates_of own other h) l ≡ true
    unfolding mates_of
    mates-other h l e q = rw e (bit-or (cond (bit own h) other 0) own l ∙ or_right (bit (cond (bit own h) other 0) l) (bit own l) q)

    by_both : (i j : ℕ) → LastTo column n s a i → LastTo column n s b j → spoils c b (block_at (left s) b) ≡ true → Blamed
    by_both i j g k e = elim (dec_lt i j) [
      | yes l ↦ by_two j i l b a k g (mates-other j i (other-marked j k e) (own-marked i g)) (λ t x y. f.agree (left t) y x)
      | no l ↦ elim (dec_lt j i) [
        | yes m ↦ by_two i j m a b g k (mates-own i j (own-marked i g) (other-marked j k e)) (λ t x y. f.agree (left t) x y)
        | no m ↦ let z : j ≡ i = omega (arith, l, m) in by-own i g (λ t p q. same-last column n base size s t b j p k (rw z q))
      ]
    ]

    pub blamed : Blamed
    blamed = ⊎_elim same spoiled f.other
      where
        same : b ≡ a → Blamed
        same z = ⊎_elim
            (λ (i, g). by-own i g (λ t p q. rw z (same-last column n base size s t a i p g q)))
            (λ g. by-nothing (same_none column n base size s 0 a (part-zero s) g) (rw z (same_none column n base size s 0 a (part-zero s) g)))
            (last_to column n s a)

        spoiled : spoils c b (block_at (left s) b) ≡ true → Blamed
        spoiled e = ⊎_elim
            (λ (i, g). ⊎_elim (λ (j, k). by_both i j g k e) (λ k. by-own i g (λ t p q. same_none column n base size s t b p k)) (last_to column n s b))
            (λ g. ⊎_elim
            (λ (j, k).
            let p = brings_part j k.below k.flagged in
            by_one j k.below k.flagged (in_other j (other-marked j k e)) (same_none column n base size s _ a p g) (same-last column n base size s _ b j p k (brings_has j k.below)))
            (λ k. by-nothing (same_none column n base size s 0 a (part-zero s) g) (same_none column n base size s 0 b (part-zero s) k))
            (last_to column n s b))
            (last_to column n s a)

-- ---- suspects

module _ (rows column brought : List ℕ) (n : ℕ) (checks : List Check) (own other : ℕ) (few : n ≤ most_main) (whole : Completes rows n brought) (marked : Marked column n checks own other)
    (mid new : List ℕ) (ones many : ℕ) (singles : OnesListed brought n (bit_or own other) n ones mid) (doubles : TwosListed brought n own other n ones mid many new) where
  ranked : Ranks rows n many new
  ranked = record {
    rising = doubles.ranks.rising;
    each = λ x h. let r = doubles.ranks.each x h in record { set = r.set; most = r.most; valid = sym (whole.alike r.set) ∙ r.valid; is = r.is };
  }

  -- every suspect is valid, and listed
  suspect_most : (t : ℕ) → Suspect rows column brought n checks own other whole marked t → t < 2 ^ n
  suspect_most t nothing = pow_pos n
  suspect_most t (single i h m) = (whole.at i h).most
  suspect_most t (double h l k b m) = or_lt n _ _ (whole.at h k).most (whole.at l (omega (arith, k, b))).most

  suspect_valid : (t : ℕ) → Suspect rows column brought n checks own other whole marked t → valid_rows rows n t ≡ true
  suspect_valid t nothing = row-valid rows n 0 (λ j l b. clash (bit 0 j) b (bit-zero j))
  suspect_valid t (single i h m) = (whole.at i h).valid
  suspect_valid t (double h l k b m) = valid_or rows n _ _ (whole.at h k).valid (whole.at l (omega (arith, k, b))).valid

  suspect_listed : (t : ℕ) → Suspect rows column brought n checks own other whole marked t → Has many new (rank t)
  unfolding Kept
  suspect_listed t nothing = doubles.kept _ singles.none
  suspect_listed t (single i h m) = doubles.kept _ (singles.all i h m)
  suspect_listed t (double h l k b m) = doubles.all h l k b m

  every : (base : List ℕ) → length base ≡ disk_blocks → (s : ℕ) → s < 2 ^ n → bad_rows rows n base (held_from column 0 n) checks s ≡ true
      → (t : ℕ) × (t < 2 ^ n) × Has many new (rank t) × (bad_rows rows n base (held_from column 0 n) checks t ≡ true) × (rank t ≤ rank s)
  unfolding bad_rows consistent
  every base size s h e =
      let valid = and_left (valid_rows rows n s) _ e in
      let disk = run (held_from column 0 n) s base in
      let (c, member, fails) = member_fails (holds disk) checks (not-true _ (and_right (valid_rows rows n s) _ e)) in
      let (a, b, f) = fails_by disk c fails in
      let r = blamed rows column brought n checks own other whole marked base size s valid c member a b f in
      let t = r.set in
      let most = suspect_most t r.suspect in (
        t,
        most,
        suspect_listed t r.suspect,
        and_intro (valid_rows rows n t) _ (suspect_valid t r.suspect) (not_so _ (λ z. clash (holds (run (held_from column 0 n) t base) c) (all_true (holds (run (held_from column 0 n) t base)) z c member) r.fails)),
        part-rank n t s most h r.part,
      )

  pub suspects_are : Suspects rows column n checks new many
  suspects_are = record {
    most = let a = doubles.most in let b = singles.most in let p = pairs_total n few in omega (arith, a, b, p, few);
    ranks = ranked;
    every = every;
  }

pub ruleset suspecting = (rules, completes_itself, suspects_are)
