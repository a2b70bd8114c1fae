use Rattle.std.proofs.Common.{refl, subst, sym}
use Rattle.dch_reset.specs.Standing.{Represents}
use Rattle.dch_reset.proofs.Calls.{resets_is}
use Rattle.dch_reset.specs.History.{state_of}
use Rattle.dch_reset.specs.Ends.{resets}
use Rattle.dch_reset.specs.RunStanding.{IsPeer, Peer}
use Rattle.dch_reset.proofs.Peers.{peer_keeps, resets_keeps}
use Rattle.dch_reset.proofs.peer.Peer.reset.Goals as goal

pub returns-clause-history : goal.returns-clause-history
returns-clause-history c rules e is =
    let v : Peer = record { end = c.self.inside.end; accepted = c.self.inside.accepted; units = c.self.inside.units } in
    let here : IsPeer rules v e = subst (λ v. IsPeer rules v e) (sym c.self.view_is) is in
    let now : Peer = record { end = c.reset.new.self; accepted = c.self.inside.accepted; units = c.self.inside.units } in
    peer_keeps rules v now e (resets e) here (resets_keeps e e.pending)
    (subst (Represents rules c.reset.new.self) (sym (resets_is e e.pending)) (c.reset.ensures.stands rules (state_of e) here.end))
    c.reset.ensures.same.sizes.out refl refl
