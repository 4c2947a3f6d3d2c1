-- `find_table::lower_all` meets its contract. The invariant: the marks are handed down by the candidates below b.
use mathlib.Core.Path.{◌≡◌}
use Prim.Native.Nat.{◌≤◌}
use Rattle.find_table.specs.Table.{set_words, words_of, Spreads}
use Rattle.find_table.proofs.lower_all.Given as goal

abbrev pub invariant-loop-b : goal.invariant-loop-b
invariant-loop-b l = (l.words ≡ words_of l.n) × (l.words ≤ set_words) × Spreads l.n l.b l.initial.table l.table
