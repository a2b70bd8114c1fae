use Rattle.std.proofs.Common.{subst, sym}
use Rattle.dch_reset.specs.History.{state_of}
use Rattle.dch_reset.specs.RunStanding.{IsPeer, Peer}
use Rattle.dch_reset.proofs.peer.Peer.close.Goals as goal

pub returns-clause-restarts : goal.returns-clause-restarts
returns-clause-restarts c rules e is =
    let v : Peer = record { end = c.self.inside.end; accepted = c.self.inside.accepted; units = c.self.inside.units } in
    let here : IsPeer rules v e = subst (λ v. IsPeer rules v e) (sym c.self.view_is) is in
    c.restarts.ensures rules (state_of e) here.end
