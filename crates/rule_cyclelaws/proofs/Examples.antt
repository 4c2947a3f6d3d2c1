-- The worked lines, `Worked`: what is cyclic shows a ring of labels; what isn't, isn't because `cyclic` computes to false.
use mathlib.Core.Path.{◌≡◌, refl, sym, ◌∙◌}
use mathlib.Core.Bool.{Bool, true, false, false≢true}
use mathlib.Core.List.{List}
use Prim.Native.Nat.{ℕ, ◌<◌}
use lib.Dec.{lit<}
use lib.ListN.{length}
use borrow.Author.Tests.{eq-eqb}
use Rattle.relation.specs.Bits.{bit, with_bit, mask_of}
use Rattle.relation.specs.Lists.{any_below, tabulate}
use Rattle.relation.specs.Transitive.{one, more}
use Rattle.relation.specs.Finite.{related, rows_of, joined, round, closed, loops, has_ring}
use Rattle.relation.proofs.ListLaws.{index_mem}
use Rattle.model.specs.declared.Rule.{Rule}
use Rattle.model.specs.Rules.{Label, label, stands, matches, DependsOn}
use Rattle.model.specs.Cyclic.{Cyclic, no_rule, rule_at, leads, has, equal_leads, meets, cyclic}
use Rattle.rule_cyclelaws.specs.Examples.{K5, K6, equal_alone, greater_alone}
use Rattle.rule_cyclelaws.specs.Theorem.{Worked}
use Rattle.rule_cyclelaws.proofs.CyclicLaws.{true-cyclic}

-- `cyclic`, with all that it is computed by
computed : List Rule → Bool
unfolding cyclic has_ring loops meets related rows_of joined round closed any_below tabulate bit with_bit mask_of leads has equal_leads no_rule
computed rules = cyclic rules

not-cyclic : (rules : List Rule) → computed rules ≡ false → Cyclic rules → ⊥
unfolding computed
not-cyclic rules e c = false≢true (sym e ∙ true-cyclic rules c)

pub K5-not-cyclic : Cyclic K5 → ⊥
unfolding computed
K5-not-cyclic = not-cyclic K5 refl

-- rule i pairs two labels
paired : (rules : List Rule) (i : ℕ) (l m : Label) → i < length rules → matches (rule_at rules i) l m ≡ true → DependsOn rules l m
unfolding DependsOn
paired rules i l m h e = (rule_at rules i, index_mem rules i no_rule h refl, e)

-- (1,1) depends on (2,0), which depends on (1,1)
pub K6-cyclic : Cyclic K6
unfolding Cyclic matches stands
K6-cyclic = (label 1 1, more (paired K6 0 (label 1 1) (label 2 0) (lit< tt) refl) (one (paired K6 1 (label 2 0) (label 1 1) (lit< tt) refl)))

-- a label depends on itself
pub equal-cyclic : (a : ℕ) → Cyclic (equal_alone a)
unfolding Cyclic matches stands
equal-cyclic a = (label a 0, one (paired (equal_alone a) 0 (label a 0) (label a 0) (lit< tt) (rw (eq-eqb a a refl))))

pub greater_not-cyclic : (a : ℕ) → Cyclic (greater_alone a) → ⊥
unfolding computed
greater_not-cyclic a = not-cyclic (greater_alone a) refl

pub worked : Worked
worked = record { equal-cyclic = equal-cyclic; greater_not-cyclic = greater_not-cyclic; K5-not-cyclic = K5-not-cyclic; K6-cyclic = K6-cyclic }
