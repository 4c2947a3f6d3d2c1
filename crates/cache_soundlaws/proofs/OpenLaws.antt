-- The state that an opening leaves is the bytes of the rules and of no writes, so it holds these, and is sound.
use mathlib.Core.Path.{◌≡◌, sym, ap, subst, ◌∙◌}
use mathlib.Core.Bool.{false}
use mathlib.Core.List.{List, []}
use Prim.Native.Nat.{◌≤◌}
use native.Mathlib.Omega.{arith}
use lib.ListN.{length}
use borrow.Author.Tests.{eq-eqb, ne_eqb, lt-ltb, le-ltb}
use Rattle.relation.proofs.ListLaws.{untrue}
use Rattle.model.specs.declared.Rule.{Rule}
use Rattle.model.specs.Limits.{most_rules}
use Rattle.model.specs.Rules.{Known}
use Rattle.model.specs.Cyclic.{Cyclic, cyclic}
use Rattle.file_reader.proofs.CallerLaws.{holding-limits}
use Rattle.rule_cyclelaws.proofs.CyclicLaws.{cyclic-true, true-cyclic}
use Rattle.cache_model.specs.State.{state_size, rules_in, writes_in, opened}
use Rattle.cache_model.specs.Sound.{Sound}
use Rattle.cache_model.specs.Calls.{open_with, open_of}
use Rattle.cache_statelaws.proofs.LayoutLaws.{state-rules, state-writes, opened-state}
use Rattle.cache_statelaws.proofs.SoundLaws.{holdable_sound}
use Rattle.cache_soundlaws.specs.Theorem.{Opens}
use Rattle.cache_soundlaws.proofs.HoldableLaws.{holdable_none, worded_none}

module _ (rules : List Rule) (few : length rules ≤ most_rules) where
  rules-opened : rules_in (opened rules) ≡ rules
  rules-opened = ap rules_in (opened-state rules few) ∙ state-rules rules [] few

  writes-opened : writes_in (opened rules) ≡ []
  writes-opened = ap writes_in (opened-state rules few) ∙ state-writes rules [] few worded_none

  sound-opened : Known rules → (Cyclic rules → ⊥) → Sound (opened rules)
  sound-opened k a = subst Sound (sym (opened-state rules few)) (holdable_sound rules [] (holdable_none rules few k a) worded_none)

pub opens : Opens
unfolding open_of open_with
opens file s d =
    record {
      wrong_length = λ n. rw (ne_eqb (length s) state_size n);
      unread = λ e number place r. rw (eq-eqb (length s) state_size e, r);
      has-tests = λ e f r l. rw (eq-eqb (length s) state_size e, r, lt-ltb 0 (length f.tests) l);
      cyclic = λ e f r z c. rw (eq-eqb (length s) state_size e, r, le-ltb 0 (length f.tests) (omega arith), true-cyclic f.rules c);
      taken = λ e f r z a.
          let l = (holding-limits file f r).0 in
          let c : cyclic f.rules ≡ false = untrue (cyclic f.rules) (λ q. a (cyclic-true f.rules l.known q)) in (
            sound-opened f.rules l.rules l.known a,
            rules-opened f.rules l.rules,
            writes-opened f.rules l.rules,
            rw (eq-eqb (length s) state_size e, r, le-ltb 0 (length f.tests) (omega arith), c),
          );
    }
