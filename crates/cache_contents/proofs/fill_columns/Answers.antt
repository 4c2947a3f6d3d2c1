-- `cache_contents::fill_columns` meets its contract.
use native.Mathlib.Omega.{arith}
use Rattle.cache_contents.proofs.ContentSteps.{columns-more}
use Rattle.cache_contents.proofs.fill_columns.Goals as goal

pub loop-i-preserved : goal.loop-i-preserved
loop-i-preserved c = (
  omega arith,
  columns-more _ _ _ _ _ c.loop-i.columns c.write_place-at.ensures (omega arith) (omega arith) (omega arith) c.half_at.ensures c.word_at.ensures c.loop-i.invariant.1,
)
