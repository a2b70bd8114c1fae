use Rattle.dch_pair.specs.Standing.{IsPeer, Peer}
use Rattle.std.proofs.Common.{subst, sym}
use Rattle.dch_pair.proofs.peer.Peer.close.Goals as goal

pub returns-clause-discarded : goal.returns-clause-discarded
returns-clause-discarded c rules earlier e is =
    let v : Peer = record { entity = c.self.inside.entity; accepted = c.self.inside.accepted; units = c.self.inside.units } in
    let here : IsPeer rules v earlier e = subst (λ v. IsPeer rules v earlier e) (sym c.self.view_is) is in
    c.discarded.ensures rules e here.entity
