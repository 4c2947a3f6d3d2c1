-- `judge_settled::Setting::are_alike` meets its contract. The invariant: of the set, those left are still to be looked at.
use Rattle.judge_settled.proofs.SettledLaws.{Going}
use Rattle.judge_settled.proofs.Setting.are_alike.Given as goal

abbrev pub invariant-loop-left : goal.invariant-loop-left
invariant-loop-left g l = Going (g.Q.Question.holds l.question l.self.stores.now l.self.base.now l.self.n) l.self.stores.now l.self.base.now l.self.n l.asked.chosen l.asked.free (g.Q.Question.begins l.question) l.first l.set l.left

abbrev pub decreases-loop-left : goal.decreases-loop-left
decreases-loop-left g l = l.left
