use Rattle.std.proofs.Common.{◌≡◌, ◌++◌, ◌∙◌, subst, sym}
use Rattle.dch_am.specs.Entities.{pdu_of}
use Rattle.dch_pair.specs.Standing.{whole}
use Rattle.dch_pair.proofs.Units.{ok_more}
use Rattle.dch_reset.specs.Answers.{came_read}
use Rattle.dch_reset.specs.History.{pdu_sent, state_of}
use Rattle.dch_reset.specs.Standing.{Represents, size_of as octets_of, waiting_in}
use Rattle.dch_reset.specs.State.{Come, step}
use Rattle.dch_reset.specs.RunStanding.{IsPeer, Peer}
use Rattle.dch_reset.proofs.Peers.{peer_hears}
use Rattle.dch_reset.proofs.peer.Peer.receive.Goals as goal

pub returns-clause-history : goal.returns-clause-history
returns-clause-history c =
    let v : Peer = record { end = c.self.inside.end; accepted = c.self.inside.accepted; units = c.self.inside.units } in
    ok_more c.hand_up.result (λ _. c.hand_up.new.units ≡ c.self.inside.units ++ whole (waiting_in c.pdu.new.self)) _
    (λ _ more rules e s is read.
    let here : IsPeer rules v e = subst (λ v. IsPeer rules v e) (sym c.self.view_is) is in
    let heard : Represents rules c.pdu.new.self (step rules e.sides.octets (state_of e) (Come (pdu_sent s))) = subst (λ p. Represents rules c.pdu.new.self (step rules e.sides.octets (state_of e) (Come p))) read.is
    (subst (λ n. Represents rules c.pdu.new.self (step rules n (state_of e) (Come (pdu_of read.view)))) here.size
    (subst (λ x. Represents rules c.pdu.new.self (came_read rules (octets_of c.self.inside.end) (state_of e) x)) read.reads (c.pdu.ensures.stands rules (state_of e) here.end))) in
    peer_hears rules v c.pdu.new.self c.hand_up.new.self c.hand_up.new.units e s here heard (c.hand_up.ensures.sizes.out ∙ c.pdu.ensures.sizes.out) more (c.hand_up.ensures.history rules (step rules e.sides.octets (state_of e) (Come (pdu_sent s))) heard))
    c.hand_up.ensures.units
