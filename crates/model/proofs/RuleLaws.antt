-- The computed forms of dependency and of known predicates agree with their meaning.
use mathlib.Core.Path.{◌≡◌}
use mathlib.Core.Bool.{true}
use mathlib.Core.List.{List}
use borrow.Author.Tests.{leb-true, le-leb}
use lib.Dec.{leb}
use Rattle.relation.proofs.ListLaws.{any-true, any_intro, all_true, all_intro}
use Rattle.model.specs.declared.Rule.{Rule}
use Rattle.model.specs.Rules.{Label, matches, DependsOn, depends_on, Known, known}

module _ (rules : List Rule) where
  pub depends_on-true : (l m : Label) → depends_on rules l m ≡ true → DependsOn rules l m
  unfolding depends_on DependsOn
  depends_on-true l m e = any-true (λ r. matches r l m) rules e

  pub true-depends_on : (l m : Label) → DependsOn rules l m → depends_on rules l m ≡ true
  unfolding depends_on DependsOn
  true-depends_on l m d = any_intro (λ r. matches r l m) d.1 d.2

  pub known-true : known rules ≡ true → Known rules
  unfolding known Known
  known-true e r m = leb-true r.predicate 2 (all_true (λ x. leb x.predicate 2) e r m)

  pub true-known : Known rules → known rules ≡ true
  unfolding known Known
  true-known k = all_intro (λ x. leb x.predicate 2) rules (λ r m. le-leb r.predicate 2 (k r m))
