use Rattle.std.proofs.Common.{◌≡◌, ◌++◌, subst, sym}
use Rattle.dch_am.specs.Entities.{IsSmall, pdu_of}
use Rattle.dch_pair.specs.EntityStanding.{waiting_in}
use Rattle.dch_pair.proofs.Sizes.{read_small}
use Rattle.dch_pair.specs.Standing.{IsPeer, Peer, hears, size_in as octets_in, size_of, whole}
use Rattle.dch_pair.proofs.Peers.{peer_hears}
use Rattle.dch_pair.proofs.Units.{ok_more}
use Rattle.dch_pair.proofs.peer.Peer.receive.Goals as goal

pub receive-requires-clause-small : goal.receive-requires-clause-small
receive-requires-clause-small c =
    subst (λ (v : Peer). IsSmall (octets_in v) c.in-Ok.view) (sym c.self.view_is) (read_small c.args.p.now c.in-Ok.view (octets_in c.args.self.now) c.in-Ok.ensures.text c.requires.size)

pub returns-in-Ok-clause-history : goal.returns-in-Ok-clause-history
returns-in-Ok-clause-history c =
    let v : Peer = record { entity = c.self.inside.entity; accepted = c.self.inside.accepted; units = c.self.inside.units } in
    ok_more c.hand_up.result (λ _. c.hand_up.new.units ≡ c.self.inside.units ++ whole (waiting_in c.receive.new.self)) _
    (λ _ more rules earlier e is.
    let here : IsPeer rules v earlier e = subst (λ v. IsPeer rules v earlier e) (sym c.self.view_is) is in
    subst (λ x. IsPeer rules (record { entity = c.hand_up.new.entity; accepted = c.self.inside.accepted; units = c.hand_up.new.units }) earlier (hears rules (size_of c.args.self.now) x e)) c.in-Ok.ensures.reading
    (peer_hears rules (size_of v) v c.receive.new.self c.hand_up.new.entity c.hand_up.new.units earlier e (pdu_of c.in-Ok.view) c.self.invariant here
    (c.receive.ensures.stands rules e here.entity) more
    (c.hand_up.ensures.history rules _ (c.receive.ensures.stands rules e here.entity))))
    c.hand_up.ensures.units
