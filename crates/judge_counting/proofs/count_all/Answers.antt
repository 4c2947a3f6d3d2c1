-- `judge_counting::count_all` meets its contract. It walks from nothing chosen and all free, with a rank above all that may come.
use Rattle.std.proofs.Common.{refl, take}
use Rattle.relation.proofs.TableLaws.{blank_made}
use Rattle.model.specs.Limits.{disk_blocks}
use Rattle.judge_counting.proofs.WalkLaws.{start-choice, start_says, start-room, count-done}
use Rattle.judge_counting.proofs.count_all.Goals as goal

pub fill_writers-requires-clause-blank : goal.fill_writers-requires-clause-blank
fill_writers-requires-clause-blank c = blank_made disk_blocks

pub fill_runs-requires : goal.fill_runs-requires
fill_runs-requires c = blank_made disk_blocks

pub walk-t-requires-clause-choice : goal.walk-t-requires-clause-choice
walk-t-requires-clause-choice c = start-choice _ _ _ _ c.requires.0 c.order.ensures

pub walk-t-requires-clause-held : goal.walk-t-requires-clause-held
walk-t-requires-clause-held c = start_says _ _ _ _ c.requires.0 c.order.ensures _ _ c.args.checks _ _

pub walk-t-requires-clause-room : goal.walk-t-requires-clause-room
walk-t-requires-clause-room c = start-room _ _ _ _ c.requires.0 c.order.ensures _ refl refl

pub returns : goal.returns
returns c = count-done _ _ _ _ c.requires.0 c.order.ensures _ _ (take c.args.m c.args.checks) _ _ refl refl refl c.walk-t.ensures
