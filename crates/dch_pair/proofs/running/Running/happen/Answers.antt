use Rattle.std.proofs.Common.{subst, sym}
use Rattle.dch_am.specs.Rules.{Rules}
use Rattle.dch_amlaw.specs.Pair.{Pair, after, turned}
use Rattle.dch_pair.specs.Running.{by_first, seen}
use Rattle.dch_pair.specs.Standing.{AreRunning, Running}
use Rattle.dch_pair.proofs.Units.{ok_more}
use Rattle.dch_pair.proofs.Meeting.{after-flipped, running_turned}
use Rattle.dch_pair.proofs.running.Running.happen.Goals as goal

pub returns-in-Second-clause-history : goal.returns-in-Second-clause-history
returns-in-Second-clause-history c =
    ok_more c.happen_at-in-Second.result (λ _. (rules : Rules) (q : Pair) → AreRunning rules c.self.inside.second c.self.inside.first q → AreRunning rules c.happen_at-in-Second.new.near c.happen_at-in-Second.new.far (after rules q (seen c.args.octets.now c.args.event))) _
    (λ _ does rules p is.
    let here : AreRunning rules c.self.inside.first c.self.inside.second p = subst (λ (v : Running). AreRunning rules v.first v.second p) (sym c.self.view_is) is in
    subst (λ s. AreRunning rules c.happen_at-in-Second.new.far c.happen_at-in-Second.new.near (after rules p (by_first s (seen c.args.octets.now c.args.event)))) c.in-Second.ensures
    (subst (AreRunning rules c.happen_at-in-Second.new.far c.happen_at-in-Second.new.near) (sym (after-flipped rules p (seen c.args.octets.now c.args.event)))
    (running_turned rules c.happen_at-in-Second.new.near c.happen_at-in-Second.new.far (after rules (turned p) (seen c.args.octets.now c.args.event))
    (does rules (turned p) (running_turned rules c.self.inside.first c.self.inside.second p here)))))
    c.happen_at-in-Second.ensures.history
