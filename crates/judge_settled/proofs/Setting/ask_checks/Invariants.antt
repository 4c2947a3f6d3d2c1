-- `judge_settled::Setting::ask_checks` meets its contract. The invariant: the first i checks hold.
use Prim.Native.Nat.{◌≤◌}
use lib.ListN.{length, take}
use Rattle.judge_settled.specs.declared.Answer.TheVariants.{Yes}
use Rattle.judge_settled.specs.Settled.{Says, all_hold}
use Rattle.judge_settled.proofs.Setting.ask_checks.Given as goal

abbrev pub invariant-loop-i : goal.invariant-loop-i
invariant-loop-i l = (l.i ≤ length l.checks) × Says (all_hold l.self.stores.now l.self.base.now l.self.n (take l.i l.checks)) l.asked.chosen l.asked.free Yes
