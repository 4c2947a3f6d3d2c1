-- What all schedules between two sets say of a block: it is what the last flagged write to it leaves there, so each write that may be
-- flagged is looked at, from the last down to one that is chosen. The same for a check, by its own block.
use mathlib.Core.Path.{◌≡◌, refl, sym, ap, ◌∙◌}
use mathlib.Core.Logic.{◌⊎◌, inl, inr, ⊎_elim}
use mathlib.Core.Bool.{Bool, true, false, ◌&&◌, ◌||◌, false≢true}
use mathlib.Core.List.{List}
use Prim.Native.Nat.{ℕ, ◌*◌, ◌%◌, ◌^◌, ◌≤◌, ◌<◌}
use native.Mathlib.Omega.{arith}
use lib.Bits.{bit_and, bit_or}
use lib.Dec.{eqb, ltb}
use lib.ListN.{length, get_or}
use borrow.Author.Rules.{rules}
use borrow.Author.Tests.{eqb-true, eq-eqb, ne_eqb, ltb-true, lt-ltb}
use Rattle.relation.specs.Bits.{bit, without, Highest}
use Rattle.relation.proofs.BitLaws.{bit-and, bit-or, bit-zero, bit_pow, bit_mask, power_is}
use Rattle.relation.proofs.ListLaws.{untrue, or_cases, and_left, and_right, and_intro, clash}
use Rattle.relation.proofs.MemberLaws.{left_less}
use Rattle.relation.proofs.SetLaws.{without_member, member_without}
use Rattle.model.specs.Limits.{disk_blocks, most_main}
use Rattle.model.specs.Disk.{empty, block_at}
use Rattle.judge_disks.specs.Packed.{unpacked}
use Rattle.judge_disks.proofs.LastLaws.{column_none, column_last}
use Rattle.judge_closed.specs.Closed.{between}
use Rattle.judge_closed.proofs.ClosedLaws.{between-has, between_may}
use Rattle.judge_settled.specs.declared.Answer.{Answer}
use Rattle.judge_settled.specs.declared.Answer.TheVariants.{Yes, No, Open}
use Rattle.judge_settled.specs.Settled.{Says, disk_of, laid, valued, writers_of, Ready, Fixed, Among, Only, definite, Agrees, AlikeIf}

-- ---- the writes to an address

module _ (column : List ℕ) (n a : ℕ) where
  writer_below : (i : ℕ) → bit (writers_of column n a) i ≡ true → i < n
  unfolding writers_of
  writer_below i e =
      ltb-true i n (and_left (ltb i n) _ (sym (bit_mask (λ i. eqb (unpacked (get_or column i 0)).address a) n i) ∙ e))

  writer_address : (i : ℕ) → bit (writers_of column n a) i ≡ true → (unpacked (get_or column i 0)).address ≡ a
  unfolding writers_of
  writer_address i e =
      eqb-true _ a (and_right (ltb i n) _ (sym (bit_mask (λ i. eqb (unpacked (get_or column i 0)).address a) n i) ∙ e))

  is_writer : (i : ℕ) → i < n → (unpacked (get_or column i 0)).address ≡ a → bit (writers_of column n a) i ≡ true
  unfolding writers_of
  is_writer i h e = bit_mask (λ i. eqb (unpacked (get_or column i 0)).address a) n i ∙ rw (lt-ltb i n h, eq-eqb (unpacked (get_or column i 0)).address a e)

  module _ (base : List ℕ) (inside : a < length base) (s set : ℕ) (only : Only column n a set s) where
    -- the last of them that is flagged leaves its block
    laid_top : (h : ℕ) → Among column n a set → Highest set h → bit s h ≡ true → laid column base n a s ≡ (unpacked (get_or column h 0)).block
    unfolding laid Among Highest Only
    laid_top h among (top, above) e =
        column_last column base n s a h (writer_below h (among h top)) inside e (writer_address h (among h top))
        (λ j l k b z. clash (bit set j) (only j (is_writer j k z) b) (above j l))

    laid-base : set ≡ 0 → laid column base n a s ≡ block_at base a
    unfolding laid Only
    laid-base z = column_none column base n s a (λ j k b q. clash (bit set j) (only j (is_writer j k q) b) (rw z (bit-zero j)))

-- a block that is there, and that no write goes to, is there whatever is stored
pub fixed_there : (column base : List ℕ) (n : ℕ) (writers : List ℕ) → Ready column base n writers → (j s : ℕ) → j < disk_blocks → Fixed base writers j
    → empty (block_at (disk_of column base n s) j) ≡ false
unfolding empty laid Only
fixed_there column base n writers ready j s inside f =
    let none : writers_of column n j ≡ 0 = sym (ready.at.at j inside) ∙ f.none in
    let base-is : laid column base n j s ≡ block_at base j = laid-base column n j base (omega (arith, inside, ready.size)) s 0 (λ i w b. rw none at w) refl in
    rw base-is (ne_eqb (get_or base j 0) 0 f.there)

-- all but the one at hand
module _ (column : List ℕ) (n a set h rest : ℕ) (few : n ≤ most_main) (l : h < 64) (e : rest ≡ without set (1 * 2 ^ h % 18446744073709551616)) where
  rest-is : rest ≡ without set (2 ^ h)
  rest-is = e ∙ rw (power_is h l)

  rest-among : Among column n a set → Among column n a rest
  unfolding Among
  rest-among g i b = g i (without_member set (2 ^ h) i (rw rest-is at b)).0

  rest-only : (s : ℕ) → Only column n a set s → bit s h ≡ false → Only column n a rest s
  unfolding Only
  rest-only s g z i w b =
      let k = writer_below column n a i w in
      let other : bit (2 ^ h) i ≡ false = (bit_pow h i ∙ untrue (eqb i h) (λ q. clash (bit s i) b (rw (eqb-true i h q) z))) in
      rw rest-is (member_without set (2 ^ h) i (omega arith) (g i w b) other)

-- ---- answers, block by block

-- with this block at a the answer is right
pub record Per (p : ℕ → Bool) (column base : List ℕ) (n chosen free a own : ℕ) (answer : Answer) : Type 0 where
  pub of : (s : ℕ) → between chosen free s ≡ true → laid column base n a s ≡ own → Agrees answer (p s)

pub per_question : (p w : ℕ → Bool) (column base : List ℕ) (n chosen free a own : ℕ) (answer : Answer) → ((s : ℕ) → laid column base n a s ≡ own → p s ≡ w s) → Says w chosen free answer
    → Per p column base n chosen free a own answer
unfolding Says Agrees
per_question p w column base n chosen free a own Yes f g = record { of = λ s b q. f s q ∙ g s b }
per_question p w column base n chosen free a own No f g = record { of = λ s b q. f s q ∙ g s b }
per_question p w column base n chosen free a own (Open h) f g = record { of = λ s b q. tt }

-- a schedule between flags what is chosen
module _ (p : ℕ → Bool) (column base : List ℕ) (n chosen free a : ℕ) (first : Answer) where
  -- of a set, those still left are to be looked at: any other schedule is as the answer says
  pub record Going (set left : ℕ) : Type 0 where
    pub among : Among column n a left
    pub each : (s : ℕ) → between chosen free s ≡ true → Only column n a set s → (Only column n a left s) ⊎ Agrees first (p s)

  pub going_none : (set : ℕ) → Among column n a set → Going set set
  going_none set g = record { among = g; each = λ s b o. inl o }

  module _ (set left h own : ℕ) (answer : Answer) (g : Going set left) (top : Highest left h) (l : h < 64) (inside : a < disk_blocks) (size : length base ≡ disk_blocks)
      (e : own ≡ (unpacked (get_or column h 0)).block) (r : Per p column base n chosen free a own answer) (d : definite first ≡ true) (q : answer ≡ first) where
    here : (s : ℕ) → between chosen free s ≡ true → Only column n a left s → bit s h ≡ true → Agrees first (p s)
    here s b o z =
        rw q at (r.of s b (laid_top column n a base (omega arith) s left o h g.among top z ∙ sym e))

    pub going_chosen : (c : Bool) → c ≡ bit chosen h → c ≡ true → AlikeIf true p column n chosen free a set first
    unfolding AlikeIf
    going_chosen c k z = (
      d,
      λ s b o. ⊎_elim (λ m. here s b m (between-has chosen free s b h (sym k ∙ z))) (λ m. m) (g.each s b o),
    )

    pub going_more : (next : ℕ) → n ≤ most_main → next ≡ without left (1 * 2 ^ h % 18446744073709551616) → Going set next
    going_more next few z =
        record {
          among = rest-among column n a left h next few l z g.among;
          each = λ s b o. ⊎_elim (λ m. go s b m (bit s h) refl) inr (g.each s b o);
        }
      where
        go : (s : ℕ) → between chosen free s ≡ true → Only column n a left s → (f : Bool) → bit s h ≡ f → (Only column n a next s) ⊎ Agrees first (p s)
        go s b m true f = inr (here s b m f)
        go s b m false f = inl (rest-only column n a left h next few l z s m f)

  pub going_base : (set left : ℕ) (answer : Answer) → Going set left → left ≡ 0 → a < disk_blocks → length base ≡ disk_blocks → Per p column base n chosen free a (block_at base a) answer
      → definite first ≡ true → answer ≡ first → AlikeIf true p column n chosen free a set first
  unfolding AlikeIf
  going_base set left answer g z inside size r d q = (
    d,
    λ s b o. ⊎_elim (λ m. rw q at (r.of s b (laid-base column n a base (omega arith) s left m z))) (λ m. m) (g.each s b o),
  )

  pub going_not : (set : ℕ) → AlikeIf false p column n chosen free a set first
  unfolding AlikeIf
  going_not set = tt

-- ---- one question

-- all writes to a that may be flagged
module _ (column base writers : List ℕ) (n chosen free a may : ℕ) (ready : Ready column base n writers) (inside : a < disk_blocks) (e : may ≡ bit_and (get_or writers a 0) (bit_or chosen free)) where
  may_bit : (i : ℕ) → bit may i ≡ bit (writers_of column n a) i && (bit chosen i || bit free i)
  may_bit i = rw (e, ready.at.at a inside) (bit-and (writers_of column n a) (bit_or chosen free) i ∙ ap (λ (t : Bool). bit (writers_of column n a) i && t) (bit-or chosen free i))

  pub may_among : Among column n a may
  unfolding Among
  may_among i b = and_left (bit (writers_of column n a) i) _ (sym (may_bit i) ∙ b)

  may_only : (s : ℕ) → between chosen free s ≡ true → Only column n a may s
  unfolding Only
  may_only s b i w f = may_bit i ∙ and_intro _ _ w (between_may chosen free s b i f)

  fits : a < length base
  fits = let z = ready.size in omega (arith, z, inside)

  -- with no such write the block is as it was; with a chosen last one it is what that leaves
  fixed_base : may ≡ 0 → (s : ℕ) → between chosen free s ≡ true → laid column base n a s ≡ block_at base a
  fixed_base z s b = laid-base column n a base fits s may (may_only s b) z

  module _ (h : ℕ) (top : Highest may h) where
    fixed_last : (s : ℕ) → between chosen free s ≡ true → bit s h ≡ true → laid column base n a s ≡ (unpacked (get_or column h 0)).block
    fixed_last s b z = laid_top column n a base fits s may (may_only s b) h may_among top z

    pub last-below : h < 64
    unfolding Highest Among
    last-below = let k = writer_below column n a h (may_among h top.0) in let f = ready.few in omega (arith, k, f)

    pub rest_writers : (rest : ℕ) → rest ≡ without may (1 * 2 ^ h % 18446744073709551616) → Among column n a rest
    rest_writers rest z = rest-among column n a may h rest ready.few last-below z may_among

    pub says_open : (p : ℕ → Bool) (c : Bool) → c ≡ bit chosen h → c ≡ false → Says p chosen free (Open h)
    unfolding Says Highest
    says_open p c k z =
        ⊎_elim (λ y. clash (bit chosen h) y (sym k ∙ z)) (λ y. y)
        (or_cases (bit chosen h) (bit free h) (and_right (bit (writers_of column n a) h) _ (sym (may_bit h) ∙ top.0)))

    pub says_alike : (p : ℕ → Bool) (own rest : ℕ) (first : Answer) (t : Bool) → own ≡ (unpacked (get_or column h 0)).block → Per p column base n chosen free a own first
        → rest ≡ without may (1 * 2 ^ h % 18446744073709551616) → AlikeIf t p column n chosen free a rest first → t ≡ true → Says p chosen free first
    says_alike p own rest first t q r z g y = done first each (definite-is t y g)
      where
        definite-is : (t : Bool) → t ≡ true → AlikeIf t p column n chosen free a rest first → definite first ≡ true
        definite-is true y g = unfold AlikeIf in g.0
        definite-is false y g = absurd (false≢true y)

        others : (t : Bool) → t ≡ true → AlikeIf t p column n chosen free a rest first → (s : ℕ) → between chosen free s ≡ true → Only column n a rest s → Agrees first (p s)
        others true y g = unfold AlikeIf in g.1
        others false y g = absurd (false≢true y)

        each : (s : ℕ) → between chosen free s ≡ true → Agrees first (p s)
        each s b = go (bit s h) refl
          where
            go : (f : Bool) → bit s h ≡ f → Agrees first (p s)
            go true f = r.of s b (fixed_last s b f ∙ sym q)
            go false f = others t y g s b (rest-only column n a may h rest ready.few last-below z s (may_only s b) f)

        done : (first : Answer) → ((s : ℕ) → between chosen free s ≡ true → Agrees first (p s)) → definite first ≡ true → Says p chosen free first
        done Yes f d = unfold Says Agrees in f
        done No f d = unfold Says Agrees in f
        done (Open k) f d = unfold definite in absurd (false≢true d)

-- a known block is v
pub value_says : (own v chosen free : ℕ) (answer : Answer) → answer ≡ valued own v → Says (λ s. eqb own v) chosen free answer
value_says own v chosen free answer e = rw e (go (eqb own v) refl)
  where
    go : (t : Bool) → eqb own v ≡ t → Says (λ s. eqb own v) chosen free (valued own v)
    go true z = unfold valued in rw z (unfold Says in λ s b. refl)
    go false z = unfold valued in rw z (unfold Says in λ s b. refl)

-- ---- a question, by the address of its own block; with that block known it is w

module _ (p : ℕ → Bool) (w : ℕ → ℕ → Bool) (column base : List ℕ) (n chosen free a begins : ℕ) (by : (own s : ℕ) → laid column base n begins s ≡ own → p s ≡ w own s) (ea : a ≡ begins) (inside : a < disk_blocks) where
  inside-own : begins < disk_blocks
  inside-own = rw (← ea) inside

  per : (own : ℕ) (answer : Answer) → Says (w own) chosen free answer → Per p column base n chosen free begins own answer
  per own answer = per_question p (w own) column base n chosen free begins own answer (by own)

  module _ (size : length base ≡ disk_blocks) (first : Answer) (d : definite first ≡ true) where
    module _ (set left h own : ℕ) (answer : Answer) (g : Going p column base n chosen free begins first set left) (top : Highest left h) (l : h < 64) (e : own ≡ (unpacked (get_or column h 0)).block)
        (r : Says (w own) chosen free answer) (q : answer ≡ first) where
      pub alike_chosen : (c : Bool) → c ≡ bit chosen h → c ≡ true → AlikeIf true p column n chosen free begins set first
      alike_chosen = going_chosen p column base n chosen free begins first set left h own answer g top l inside-own size e (per own answer r) d q

      pub alike_more : (next : ℕ) → n ≤ most_main → next ≡ without left (1 * 2 ^ h % 18446744073709551616) → Going p column base n chosen free begins first set next
      alike_more = going_more p column base n chosen free begins first set left h own answer g top l inside-own size e (per own answer r) d q

    pub alike_base : (set left : ℕ) (answer : Answer) (t : Bool) → Going p column base n chosen free begins first set left → left ≡ 0 → Says (w (block_at base a)) chosen free answer
        → (t ≡ true → answer ≡ first) → AlikeIf t p column n chosen free begins set first
    alike_base set left answer true g z r q =
        going_base p column base n chosen free begins first set left answer g z inside-own size (per (block_at base begins) answer (rw ea at r)) d (q refl)
    alike_base set left answer false g z r q = going_not p column base n chosen free begins first set

  module _ (writers : List ℕ) (may : ℕ) (ready : Ready column base n writers) (e : may ≡ bit_and (get_or writers a 0) (bit_or chosen free)) where
    may_own : may ≡ bit_and (get_or writers begins 0) (bit_or chosen free)
    may_own = rw (← ea) e

    says_known : (own : ℕ) (answer : Answer) → Says (w own) chosen free answer → ((s : ℕ) → between chosen free s ≡ true → laid column base n begins s ≡ own) → Says p chosen free answer
    unfolding Says
    says_known own Yes k f = λ s b. by own s (f s b) ∙ k s b
    says_known own No k f = λ s b. by own s (f s b) ∙ k s b
    says_known own (Open h) k f = k

    pub ask_base : (answer : Answer) → Says (w (block_at base a)) chosen free answer → may ≡ 0 → Says p chosen free answer
    ask_base answer g z = says_known (block_at base a) answer g (λ s b. fixed_base column base writers n chosen free begins may ready inside-own may_own z s b ∙ rw ea)

    module _ (h : ℕ) (top : Highest may h) where
      pub ask_last : (own : ℕ) (answer : Answer) (t : Bool) → Says (w own) chosen free answer → t ≡ bit chosen h → t ≡ true → own ≡ (unpacked (get_or column h 0)).block → Says p chosen free answer
      ask_last own answer t g z y q =
          says_known own answer g (λ s b. fixed_last column base writers n chosen free begins may ready inside-own may_own h top s b (between-has chosen free s b h (sym z ∙ y)) ∙ sym q)

      pub ask_rest : (rest : ℕ) → rest ≡ without may (1 * 2 ^ h % 18446744073709551616) → Among column n begins rest
      ask_rest = rest_writers column base writers n chosen free begins may ready inside-own may_own h top

      pub ask_open : (t : Bool) → t ≡ bit chosen h → t ≡ false → Says p chosen free (Open h)
      ask_open = says_open column base writers n chosen free begins may ready inside-own may_own h top p

      pub ask_alike : (own rest : ℕ) (first : Answer) (t : Bool) → own ≡ (unpacked (get_or column h 0)).block → Says (w own) chosen free first
          → rest ≡ without may (1 * 2 ^ h % 18446744073709551616) → AlikeIf t p column n chosen free begins rest first → t ≡ true → Says p chosen free first
      ask_alike own rest first t q r z g y =
          says_alike column base writers n chosen free begins may ready inside-own may_own h top p own rest first t q (per own first r) z g y

pub ruleset settling = (rules, going_none, going_not, left_less, last-below, value_says)
