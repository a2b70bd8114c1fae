use Rattle.std.proofs.Common.{◌≡◌, ◌-◌, ◌<◌, ◌++◌, [], ◌∷◌, ◌∙◌, ap, arith, drop, length, length-append, subst, sym}
use Rattle.circular_buffer.specs.Buffer.{Buffer, buffer}
use Rattle.dch_retx.specs.declared.sent_pdu.SentPdu.{SentPdu}
use Rattle.dch_retx.specs.Flights.{IsFlight}
use Rattle.dch_retx.proofs.Requests.{flight_push}
use Rattle.dch_retx.proofs.Skips.{linked_push, linked_size}
use Rattle.dch_retx.proofs.flight.Flight.push.Goals as goal

pub invariant_of-self : goal.invariant_of-self
invariant_of-self c =
    let room : length c.self.inside.ring.items < c.self.inside.ring.capacity = subst (λ (b : Buffer SentPdu). length b.items < b.capacity) (sym c.self.view_is) c.requires.room in
    let all : length (c.self.inside.ring.items ++ c.args.pdu ∷ []) - c.self.inside.ring.capacity ≡ 0 = omega (arith, room, length-append c.self.inside.ring.items (c.args.pdu ∷ [])) in
    let each : length (c.self.inside.skips.items ++ 0 ∷ []) - c.self.inside.skips.capacity ≡ 0 = omega (arith, room, c.self.invariant.room, linked_size c.self.inside.ring.items c.self.inside.skips.items c.self.invariant.linked, length-append c.self.inside.skips.items (0 ∷ [])) in
    subst (λ k. IsFlight c.push_back.new.self k c.self.inside.requests c.self.inside.count) (sym (c.push_back-2.ensures.items ∙ ap (λ n. buffer (drop n (c.self.inside.skips.items ++ 0 ∷ [])) c.self.inside.skips.capacity) each))
    (subst (λ r. IsFlight r (buffer (c.self.inside.skips.items ++ 0 ∷ []) c.self.inside.skips.capacity) c.self.inside.requests c.self.inside.count) (sym (c.push_back.ensures.items ∙ ap (λ n. buffer (drop n (c.self.inside.ring.items ++ c.args.pdu ∷ [])) c.self.inside.ring.capacity) all))
    (flight_push c.self.inside.ring c.self.inside.skips c.self.inside.requests c.self.inside.count c.args.pdu room c.requires.new (linked_push c.self.inside.ring.items c.self.inside.skips.items c.args.pdu c.requires.is_open c.self.invariant.linked) c.self.invariant))
