-- `judge_settled::Setting::range_is` meets its contract. The invariant: the blocks below k are there.
use Prim.Native.Nat.{◌-◌, ◌≤◌}
use Rattle.judge_settled.proofs.AskLaws.{There}
use Rattle.judge_settled.proofs.Setting.range_is.Given as goal

abbrev pub invariant-loop-k : goal.invariant-loop-k
invariant-loop-k l = (l.head ≤ l.k) × (l.k ≤ l.tail) × There l.self.stores.now l.self.base.now l.self.n l.asked.chosen l.asked.free l.a l.own l.head l.k

abbrev pub decreases-loop-k : goal.decreases-loop-k
decreases-loop-k l = l.tail - l.k
