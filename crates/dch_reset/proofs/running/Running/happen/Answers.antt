use Rattle.std.proofs.Common.{subst, sym}
use Rattle.dch_am.specs.Rules.{Rules}
use Rattle.dch_pair.proofs.Units.{ok_more}
use Rattle.dch_reset.specs.Ends.{ResetPair, happens, happens_near, turned}
use Rattle.dch_reset.specs.Running.{at_end, event_of}
use Rattle.dch_reset.specs.RunStanding.{AreRunning, Peer, Running}
use Rattle.dch_reset.proofs.Meeting.{running_turned}
use Rattle.dch_reset.proofs.running.Running.happen.Goals as goal

pub returns-in-First-clause-history : goal.returns-in-First-clause-history
returns-in-First-clause-history c =
    ok_more c.happen_at.result (λ _. (rules : Rules) (far : Peer) (p : ResetPair) → AreRunning rules c.self.inside.first far c.self.inside.to_second c.self.inside.to_first p → AreRunning rules c.happen_at.new.near far c.happen_at.new.out c.happen_at.new.back (happens_near rules p (event_of c.args.octets.now c.args.event))) _
    (λ _ does rules p is.
    let here : AreRunning rules c.self.inside.first c.self.inside.second c.self.inside.to_second c.self.inside.to_first p = subst (λ (v : Running). AreRunning rules v.first v.second v.to_second v.to_first p) (sym c.self.view_is) is in
    subst (λ s. AreRunning rules c.happen_at.new.near c.self.inside.second c.happen_at.new.out c.happen_at.new.back (happens rules p (at_end s (event_of c.args.octets.now c.args.event)))) c.in-First.ensures
    (does rules c.self.inside.second p here))
    c.happen_at.ensures.history

pub returns-in-Second-clause-history : goal.returns-in-Second-clause-history
returns-in-Second-clause-history c =
    ok_more c.happen_at-in-Second.result (λ _. (rules : Rules) (far : Peer) (p : ResetPair) → AreRunning rules c.self.inside.second far c.self.inside.to_first c.self.inside.to_second p → AreRunning rules c.happen_at-in-Second.new.near far c.happen_at-in-Second.new.out c.happen_at-in-Second.new.back (happens_near rules p (event_of c.args.octets.now c.args.event))) _
    (λ _ does rules p is.
    let here : AreRunning rules c.self.inside.first c.self.inside.second c.self.inside.to_second c.self.inside.to_first p = subst (λ (v : Running). AreRunning rules v.first v.second v.to_second v.to_first p) (sym c.self.view_is) is in
    subst (λ s. AreRunning rules c.self.inside.first c.happen_at-in-Second.new.near c.happen_at-in-Second.new.back c.happen_at-in-Second.new.out (happens rules p (at_end s (event_of c.args.octets.now c.args.event)))) c.in-Second.ensures
    (running_turned rules c.happen_at-in-Second.new.near c.self.inside.first c.happen_at-in-Second.new.out c.happen_at-in-Second.new.back (happens_near rules (turned p) (event_of c.args.octets.now c.args.event))
    (does rules c.self.inside.first (turned p) (running_turned rules c.self.inside.first c.self.inside.second c.self.inside.to_second c.self.inside.to_first p here))))
    c.happen_at-in-Second.ensures.history
