-- `judge_search::search_by` meets its contract. The invariants: no schedule before place k of the list leaves an inconsistent disk, and the disk is the base again; the checks before the one in hand hold of the schedule's disk.
use mathlib.Core.Path.{◌≡◌}
use mathlib.Core.Bool.{true}
use lib.ListN.{take}
use Rattle.std.specs.Prelude.{None}
use Rattle.model.specs.Schedule.{run}
use Rattle.model.specs.Check.{consistent}
use Rattle.judge_disks.specs.Packed.{held_from}
use Rattle.judge_search.specs.Search.{leaves_inconsistent}
use Rattle.judge_search.proofs.SearchLaws.{Clear}
use Rattle.judge_search.proofs.search_by.Given as goal

abbrev pub invariant-checks : goal.invariant-checks
invariant-checks l =
    (l.disk ≡ run (held_from l.stores 0 l.n) l.s l.base) × (l.verdict ≡ None) × (consistent (take l.c-index l.checks) l.disk ≡ true)

abbrev pub invariant-search : goal.invariant-search
invariant-search l =
    (l.disk ≡ l.base) × (l.verdict ≡ None) × Clear (leaves_inconsistent l.base (held_from l.stores 0 l.n) l.checks) l.list l.k
