use Rattle.std.proofs.Common.{ap, ◌∙◌, length}
use Rattle.circular_buffer.specs.Buffer.{Buffer}
use Rattle.dch_retx.specs.declared.sent_pdu.SentPdu.{SentPdu}
use Rattle.dch_retx.specs.Flights.{acknowledged}
use Rattle.dch_retx.proofs.Changes.{length-changed}
use Rattle.dch_retx.proofs.Lengths.{ended_line}
use Rattle.dch_retx.proofs.buffer.RetxBuffer.free.Goals as goal

pub invariant_of-self : goal.invariant_of-self
invariant_of-self c =
    ended_line c.self.inside.flight c.acknowledge.new.self c.self.inside.rules.window c.self.inside.next c.self.inside.running
    (ap (λ (b : Buffer SentPdu). length b.items) c.acknowledge.ensures ∙ length-changed acknowledged c.min-to.result c.self.inside.flight.items)
    (ap (λ (b : Buffer SentPdu). b.capacity) c.acknowledge.ensures)
    c.self.invariant
