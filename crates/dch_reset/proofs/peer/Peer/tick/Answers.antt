use Rattle.std.proofs.Common.{refl, subst, sym}
use Rattle.dch_reset.specs.History.{state_of}
use Rattle.dch_reset.specs.Ends.{ticks}
use Rattle.dch_reset.specs.RunStanding.{IsPeer, Peer}
use Rattle.dch_reset.proofs.Peers.{peer_keeps, ticks_keeps}
use Rattle.dch_reset.proofs.peer.Peer.tick.Goals as goal

pub returns-clause-history : goal.returns-clause-history
returns-clause-history c rules e is =
    let v : Peer = record { end = c.self.inside.end; accepted = c.self.inside.accepted; units = c.self.inside.units } in
    let here : IsPeer rules v e = subst (λ v. IsPeer rules v e) (sym c.self.view_is) is in
    let now : Peer = record { end = c.tick.new.self; accepted = c.self.inside.accepted; units = c.self.inside.units } in
    peer_keeps rules v now e (ticks rules e) here (ticks_keeps rules e) (c.tick.ensures.stands rules (state_of e) here.end) c.tick.ensures.same.sizes.out refl refl
