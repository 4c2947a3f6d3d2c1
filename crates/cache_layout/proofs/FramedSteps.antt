-- The layout as a whole: one law for each return.
use mathlib.Core.Path.{◌≡◌, ◌∙◌}
use mathlib.Core.Bool.{Bool, true, false, not}
use mathlib.Core.List.{List}
use Prim.Native.Nat.{ℕ, ◌-◌, ◌≤◌, ◌<◌}
use borrow.Author.Rules.{rules}
use borrow.Author.Tests.{eq-eqb, ne_eqb, le-leb, lt-leb, not-true, not-false}
use Rattle.relation.specs.Lists.{all_below}
use Rattle.model.specs.Limits.{most_rules, most_held}
use Rattle.file_format.specs.Bytes.{byte}
use Rattle.cache_model.specs.State.{state_size, writes_start, rule_count, accepted_count, rule_base, write_base}
use Rattle.cache_layout.specs.Flags.{zeros, flag_fits, framed}

-- ---- is_framed

module _ (s : List ℕ) (n : ℕ) (c : n ≡ rule_count s) where
  pub framed-rules : most_rules < n → false ≡ framed s
  unfolding framed
  framed-rules h = rw (← c, lt-leb _ _ h)

  module _ (a : n ≤ most_rules) (m : ℕ) (d : m ≡ accepted_count s) where
    pub framed-writes : most_held < m → false ≡ framed s
    unfolding framed
    framed-writes h = rw (← c, le-leb _ _ a, ← d, lt-leb _ _ h)

    module _ (b : m ≤ most_held) where
      pub framed-third : (byte s 3 ≡ 0 → ⊥) → false ≡ framed s
      unfolding framed
      framed-third h = rw (← c, le-leb _ _ a, ← d, le-leb _ _ b, ne_eqb _ _ h)

      module _ (z : byte s 3 ≡ 0) (k : ℕ) (x : Bool) (p : k ≡ rule_base n) (e : x ≡ zeros s k (writes_start - k)) where
        pub framed_gap : not x ≡ true → false ≡ framed s
        unfolding framed
        framed_gap h = rw (← c, le-leb _ _ a, ← d, le-leb _ _ b, eq-eqb _ _ z, ← p, ← e, not-true x h)

        module _ (g : not x ≡ false) (l : ℕ) (y : Bool) (q : l ≡ write_base m) (f : y ≡ zeros s l (state_size - l)) where
          pub framed-tail : not y ≡ true → false ≡ framed s
          unfolding framed
          framed-tail h = rw (← c, le-leb _ _ a, ← d, le-leb _ _ b, eq-eqb _ _ z, ← p, ← e, not-false x g, ← q, ← f, not-true y h)

          pub framed-flags : (r : Bool) → not y ≡ false → r ≡ all_below (flag_fits s) (accepted_count s) → r ≡ framed s
          unfolding framed
          framed-flags r h t = t ∙ rw (← c, le-leb _ _ a, ← d, le-leb _ _ b, eq-eqb _ _ z, ← p, ← e, not-false x g, ← q, ← f, not-false y h)

pub ruleset framing = (rules, framed-rules, framed-writes, framed-third, framed_gap, framed-tail, framed-flags)
