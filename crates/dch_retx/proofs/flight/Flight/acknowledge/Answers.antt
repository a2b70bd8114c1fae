use Rattle.std.proofs.Common.{◌-◌, ap, arith, length}
use Rattle.circular_buffer.specs.Buffer.{Buffer}
use Rattle.dch_retx.specs.declared.sent_pdu.SentPdu.{SentPdu}
use Rattle.dch_retx.specs.Flights.{acknowledged}
use Rattle.dch_retx.proofs.Changes.{length-changed}
use Rattle.dch_retx.proofs.Requests.{flight_less}
use Rattle.dch_retx.proofs.flight.Flight.acknowledge.Goals as goal

pub overflow_sub-self : goal.overflow_sub-self
overflow_sub-self c = omega (arith, c.acknowledge_below-cleared.ensures.cleared, c.self.invariant.count_is)

pub invariant_of-self : goal.invariant_of-self
invariant_of-self c =
    flight_less c.self.inside.ring c.acknowledge_below-cleared.new.ring c.self.inside.skips c.acknowledge_below-cleared.new.skips c.self.inside.requests c.acknowledge_below-cleared.new.requests c.self.inside.count (c.self.inside.count - c.acknowledge_below-cleared.result)
    (ap (λ (b : Buffer SentPdu). b.capacity) c.acknowledge_below-cleared.ensures.after) c.acknowledge_below-cleared.ensures.room
    (omega (arith, ap (λ (b : Buffer SentPdu). length b.items) c.acknowledge_below-cleared.ensures.after, length-changed acknowledged c.args.to c.self.inside.ring.items))
    (omega (arith, c.acknowledge_below-cleared.ensures.cleared, c.self.invariant.count_is))
    c.acknowledge_below-cleared.ensures.requests c.acknowledge_below-cleared.ensures.linked c.self.invariant
