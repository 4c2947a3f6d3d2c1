-- The laws of `is_counted`, `decode` and `needs_hold`: the tables, columns and masks of the code against the definition.
use mathlib.Core.Path.{◌≡◌, refl, sym, ap, subst, ◌∙◌}
use mathlib.Core.Bool.{Bool, true, false, not, false≢true, ◌&&◌, ◌||◌}
use mathlib.Core.List.{List}
use Prim.Native.Nat.{ℕ, ◌^◌, ◌≤◌, ◌<◌}
use native.Mathlib.Omega.{arith}
use lib.Count.{ones, ones-le}
use lib.Dec.{eqb, leb}
use lib.ListN.{length, get_or, take}
use borrow.Author.Rules.{rules}
use borrow.Author.Tests.{leb-true, lt-ltb, not-true, not-false}
use Rattle.relation.specs.Bits.{bit, mask_of}
use Rattle.relation.specs.Lists.{all_below}
use Rattle.relation.specs.Finite.{related, rows_of, has_ring}
use Rattle.relation.specs.Union.{part_of}
use Rattle.relation.proofs.BitLaws.{bit_mask, mask_below}
use Rattle.relation.proofs.ListLaws.{all_below_ext, and_left, and_right, untrue}
use Rattle.relation.proofs.FiniteLaws.{table_row, table_related, has_ring_ext}
use Rattle.relation.proofs.MaskLaws.{mask_part}
use Rattle.model.specs.Limits.{most_rules, most_held}
use Rattle.model.specs.declared.Write.{Write}
use Rattle.model.specs.Rules.{known}
use Rattle.model.specs.Cyclic.{cyclic}
use Rattle.model.specs.Test.{count_below}
use Rattle.model.specs.Needs.{needs_ring, met}
use Rattle.model.specs.Needs as cache
use Rattle.model.proofs.NeedsLaws.{Alike, alike-rows}
use Rattle.model.proofs.CountLaws.{count_members, count_ext}
use Rattle.file_format.specs.Bytes.{byte}
use Rattle.rule_match.specs.declared.Rules.{Rules}
use Rattle.rule_match.specs.Held.{rules_of}
use Rattle.cache_model.specs.State.{state_size, rule_count, accepted_count, stored_count, rules_in, writes_in, stored_in}
use Rattle.cache_model.specs.Sound.{layout, ruled, needs_hold, sound}
use Rattle.cache_masks.specs.declared.Columns.{Columns}
use Rattle.cache_needs.specs.declared.Tables.{Tables}
use Rattle.cache_contents.specs.Columns.{InColumns}
use Rattle.cache_statelaws.proofs.LayoutLaws.{writes-length, write-at}
use Rattle.cache_masks.specs.Columns.{writes_of}
use Rattle.cache_masks.proofs.ColumnLaws.{columned-length, columned-alike}
use Rattle.cache_layout.specs.Flags.{framed}
use Rattle.relation.specs.Tables.{Filled}
use Rattle.relation.proofs.TableLaws.{blank_made}
use Rattle.cache_masks.specs.Ranks.{rank_at, below_mask, bounds}
use Rattle.cache_needs.specs.Tables.{earlier_at, Adds}
use Rattle.cache_needs.proofs.NeedSteps.{needs-filled, adds_begun, adds_done}
use Rattle.cache_soundness.specs.declared.Examined.{Examined}
use Rattle.cache_soundness.specs.Parts.{covered, covered_at, Tabled, Decoded, Seen}
use Rattle.cache_soundness.proofs.FramedLaws.{counted, layout-tests, to_tests}

-- ---- the writes of the columns are the state's, but for their blocks

module _ (s : List ℕ) (c : Columns) (h : InColumns s (accepted_count s) c) where
  pub columns-alike : Alike (writes_of c (accepted_count s)) (writes_in s)
  columns-alike =
      columned-alike c.addresses c.names c.epochs (accepted_count s) (writes_in s) (sym (writes-length s))
      (λ i l. h.address i l ∙ sym (ap (λ (w : Write). w.address) (write-at s i l)))
      (λ i l. h.name i l ∙ sym (ap (λ (w : Write). w.name) (write-at s i l)))
      (λ i l. h.epoch i l ∙ sym (ap (λ (w : Write). w.epoch) (write-at s i l)))

  tabled-columns : (rows : List ℕ) (r : Rules) → rules_of r ≡ rules_in s
      → take (accepted_count s) rows ≡ rows_of (cache.needs (rules_of r) (writes_of c (accepted_count s))) (accepted_count s) → Tabled s rows
  unfolding Tabled
  tabled-columns rows r i e =
      e ∙ rw i (ap (rows_of (cache.needs (rules_in s) (writes_of c (accepted_count s)))) (sym (columned-length c.addresses c.names c.epochs (accepted_count s)))
      ∙ alike-rows (rules_in s) (writes_of c (accepted_count s)) (writes_in s) columns-alike
      ∙ ap (rows_of (cache.needs (rules_in s) (writes_in s))) (writes-length s))

-- ---- a table of needs

module _ (s rows : List ℕ) (e : Tabled s rows) where
  pub ring-rows : has_ring (related rows) (accepted_count s) ≡ needs_ring (rules_in s) (writes_in s)
  unfolding needs_ring Tabled
  ring-rows = rw (writes-length s) (has_ring_ext (related rows) (cache.needs (rules_in s) (writes_in s)) (accepted_count s) (table_related (cache.needs (rules_in s) (writes_in s)) (accepted_count s) rows e))

  module _ (mask : ℕ) (q : mask ≡ mask_of (stored_in s) (accepted_count s)) where
    -- the mask of the stored writes, bit by bit
    pub stored-bit : (i : ℕ) → i < accepted_count s → bit mask i ≡ stored_in s i
    stored-bit i h = rw (q, bit_mask (stored_in s) (accepted_count s) i, lt-ltb _ _ h)

    -- a row is part of it exactly if all that its write needs is stored
    pub row-met : (i : ℕ) → i < accepted_count s → part_of (get_or rows i 0) mask ≡ met (rules_in s) (writes_in s) (stored_in s) i
    unfolding met part_of Tabled
    row-met i h =
        rw (table_row (cache.needs (rules_in s) (writes_in s)) (accepted_count s) rows e i h, writes-length s) (mask_part (cache.needs (rules_in s) (writes_in s) i) (accepted_count s) mask
        ∙ all_below_ext _ _ (accepted_count s) (λ j hj. rw (stored-bit j hj)))

    -- stored writes need only stored ones
    rows-covered : all_below (covered_at rows mask) (accepted_count s)
        ≡ all_below (λ i. not (stored_in s i) || met (rules_in s) (writes_in s) (stored_in s) i) (accepted_count s)
    unfolding covered
    rows-covered = all_below_ext _ _ (accepted_count s) (λ i h. rw (stored-bit i h, row-met i h))

-- ---- is_counted

pub ones-counted : (s : List ℕ) (mask : ℕ) → mask ≡ mask_of (stored_in s) (accepted_count s) → ones mask ≡ count_below (stored_in s) (accepted_count s)
ones-counted s mask q =
    rw q (sym (count_members (accepted_count s) (mask_of (stored_in s) (accepted_count s)) (mask_below (stored_in s) (accepted_count s)))
    ∙ count_ext _ _ (accepted_count s) (λ i h. rw (bit_mask (stored_in s) (accepted_count s) i, lt-ltb _ _ h)))

pub counted_is : (s : List ℕ) (mask n : ℕ) → n ≡ stored_count s → mask ≡ mask_of (stored_in s) (accepted_count s)
    → eqb n (ones mask) ≡ eqb (stored_count s) (count_below (stored_in s) (accepted_count s))
counted_is s mask n c q = rw (ones-counted s mask q, c)

-- a count of ones is small
pub ones_fit : (mask : ℕ) → mask < 2 ^ 64 → ones mask < 2 ^ 64
ones_fit mask h = let k = ones-le 64 mask h in omega (arith, k)

pub ruleset counting = (rules, counted_is, ones_fit)

-- ---- decode

and-false : (b : Bool) → b && false ≡ false
and-false true = refl
and-false false = refl

-- each part of the test that fails
module _ (s : List ℕ) where
  no_layout : framed s && counted s ≡ false → ruled s ≡ false
  unfolding ruled
  no_layout f = rw (untrue (layout s) (λ t. false≢true (sym f ∙ to_tests s t)))

  module _ (a : Bool) (e : a ≡ framed s) where
    pub not-framed : not a ≡ true → ruled s ≡ false
    not-framed h = no_layout (rw (← e, not-true a h))

    pub not-counted : (b : Bool) → not a ≡ false → b ≡ eqb (stored_count s) (count_below (stored_in s) (accepted_count s)) → not b ≡ true → ruled s ≡ false
    not-counted b g f h = no_layout (rw (← e, not-false a g, ← f, not-true b h))

  module _ (r : Rules) (i : rules_of r ≡ rules_in s) where
    pub not_known : (b : Bool) → b ≡ known (rules_of r) → not b ≡ true → ruled s ≡ false
    unfolding ruled
    not_known b f h = rw (← i, ← f, not-true b h, and-false (layout s))

    pub not-acyclic : (d : Bool) → d ≡ cyclic (rules_of r) → d ≡ true → ruled s ≡ false
    unfolding ruled
    not-acyclic d f h = rw (← i, ← f, h, and-false (layout s && known (rules_of r)))

-- what a framed state has room for
module _ (s : List ℕ) (a : Bool) (e : a ≡ framed s) (g : not a ≡ false) where
  is_framed : framed s ≡ true
  is_framed = sym e ∙ not-false a g

  pub framed-few : rule_count s ≤ most_rules
  unfolding framed
  framed-few = leb-true _ _ (and_left (leb (rule_count s) most_rules) _ (and_left _ _ (and_left _ _ (and_left _ _ (and_left _ _ is_framed)))))

  pub framed-most : accepted_count s ≤ most_held
  unfolding framed
  framed-most = leb-true _ _ (and_right (leb (rule_count s) most_rules) _ (and_left _ _ (and_left _ _ (and_left _ _ (and_left _ _ is_framed)))))

  pub framed-count : (r : Rules) → r.count ≡ rule_count s → r.count ≤ most_rules
  framed-count r c = rw c framed-few

  -- all of the test holds
  module _ (b k d : Bool) (r : Rules)
      (fb : b ≡ eqb (stored_count s) (count_below (stored_in s) (accepted_count s))) (gb : not b ≡ false) (i : rules_of r ≡ rules_in s) where
    pub all-ruled : length s ≡ state_size → ((i : ℕ) → byte s i < 256) → k ≡ known (rules_of r) → not k ≡ false → d ≡ cyclic (rules_of r) → d ≡ false → ruled s ≡ true
    unfolding ruled
    all-ruled size small fk gk fd gd =
        rw (layout-tests s size small, is_framed, ← fb, not-false b gb, ← i, ← fk, not-false k gk, ← fd, gd)

  pub all-decoded : (r : Rules) (mask : ℕ) → rules_of r ≡ rules_in s → r.count ≡ rule_count s → mask ≡ mask_of (stored_in s) (accepted_count s)
      → Decoded s (record { rules = r; stored = mask })
  all-decoded r mask i c m = record { most = framed-most; rules = i; few = framed-count r c; stored = m }

pub ruleset decoding = (rules, not-framed, not-counted, not_known, not-acyclic, framed-few, framed-most, framed-count, all-decoded)

-- ---- needs_hold

module _ (s : List ℕ) (r : Examined) (h : Decoded s r) where
  pub decoded-most : accepted_count s ≤ most_held
  decoded-most = h.most

  pub decoded-held : (n : ℕ) → n ≡ accepted_count s → n ≤ most_held
  decoded-held n c = rw c h.most

  pub decoded-few : r.rules.count ≤ most_rules
  decoded-few = h.few

  pub rules_added : (d : Columns) (n : ℕ) (t : Tables) (old rows : List ℕ) (k : ℕ) → n ≡ accepted_count s → length rows ≡ most_held
      → Filled (earlier_at d.addresses) n old → Filled (rank_at d.epochs) n t.ranks → Filled (below_mask t.ranks n) bounds t.belows → k ≤ r.rules.count → r.rules.count ≤ k
      → Adds (take k r.rules.items) d.names n t.ranks t.belows old rows → take n rows ≡ rows_of (cache.needs (rules_of r.rules) (writes_of d n)) n
  rules_added d n t old rows k c long earlier ranked table a b adds =
      needs-filled d.addresses d.names d.epochs n (rules_of r.rules) t.ranks t.belows old rows (decoded-held n c) long earlier ranked table
      (adds_done d.names n r.rules t.ranks t.belows old k rows a b adds)

  module _ (rows : List ℕ) (d : Columns) (n : ℕ) (c : n ≡ accepted_count s) (l : InColumns s (accepted_count s) d)
      (t : take n rows ≡ rows_of (cache.needs (rules_of r.rules) (writes_of d n)) n) where
    tab : Tabled s rows
    tab = tabled-columns s d l rows r.rules h.rules (subst (λ (k : ℕ). take k rows ≡ rows_of (cache.needs (rules_of r.rules) (writes_of d k)) k) c t)

    pub needs_seen : Seen s rows d r
    needs_seen = record { decoded = h; tabled = tab; columns = l }

    module _ (b : Bool) (f : b ≡ all_below (covered_at rows r.stored) n) where
      covered-is : b ≡ all_below (λ i. not (stored_in s i) || met (rules_in s) (writes_in s) (stored_in s) i) (accepted_count s)
      covered-is = f ∙ ap (all_below (covered_at rows r.stored)) c ∙ rows-covered s rows tab r.stored h.stored

      pub not_covered : not b ≡ true → false ≡ needs_hold s
      unfolding needs_hold
      not_covered g = rw (← covered-is, not-true b g)

      pub ring_tested : (d : Bool) → not b ≡ false → d ≡ has_ring (related rows) n → not d ≡ needs_hold s
      unfolding needs_hold
      ring_tested d g q = rw (← covered-is, not-false b g) (ap not (q ∙ ap (has_ring (related rows)) c ∙ ring-rows s rows tab))

pub ruleset holding = (rules, blank_made, adds_begun, decoded-most, decoded-held, decoded-few, rules_added, needs_seen, not_covered, ring_tested)

-- ---- both calls

module _ (s : List ℕ) where
  pub not-ruled : ruled s ≡ false → sound s ≡ false
  unfolding sound
  not-ruled e = rw e

  module _ (e : ruled s ≡ true) (b : Bool) (f : b ≡ needs_hold s) where
    pub not-holding : b ≡ false → sound s ≡ false
    unfolding sound
    not-holding h = rw (e, ← f, h)

    pub all_sound : b ≡ true → sound s ≡ true
    unfolding sound
    all_sound h = rw (e, ← f, h)
