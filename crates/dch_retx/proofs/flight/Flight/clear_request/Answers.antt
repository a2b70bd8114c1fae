use Rattle.std.proofs.Common.{◌-◌, ap, arith, length, refl, subst, sym}
use Rattle.circular_buffer.specs.Buffer.{Buffer}
use Rattle.dch_retx.specs.declared.sent_pdu.SentPdu.{SentPdu}
use Rattle.dch_retx.specs.Flights.{AreLinked, request_cleared}
use Rattle.dch_retx.proofs.Changes.{length-changed}
use Rattle.dch_retx.proofs.Requests.{flight_less}
use Rattle.dch_retx.proofs.Skips.{linked_cleared}
use Rattle.dch_retx.proofs.flight.Flight.clear_request.Goals as goal

pub overflow_sub-self : goal.overflow_sub-self
overflow_sub-self c = omega (arith, c.clear_requests-cleared.ensures.cleared, c.self.invariant.count_is)

pub invariant_of-self : goal.invariant_of-self
invariant_of-self c =
    flight_less c.self.inside.ring c.clear_requests-cleared.new.ring c.self.inside.skips c.self.inside.skips c.self.inside.requests c.clear_requests-cleared.new.requests c.self.inside.count (c.self.inside.count - c.clear_requests-cleared.result)
    (ap (λ (b : Buffer SentPdu). b.capacity) c.clear_requests-cleared.ensures.after) refl
    (omega (arith, ap (λ (b : Buffer SentPdu). length b.items) c.clear_requests-cleared.ensures.after, length-changed request_cleared c.args.to c.self.inside.ring.items))
    (omega (arith, c.clear_requests-cleared.ensures.cleared, c.self.invariant.count_is))
    c.clear_requests-cleared.ensures.requests
    (subst (λ (b : Buffer SentPdu). AreLinked b.items c.self.inside.skips.items) (sym c.clear_requests-cleared.ensures.after) (linked_cleared c.args.to c.self.inside.ring.items c.self.inside.skips.items c.self.invariant.linked))
    c.self.invariant
