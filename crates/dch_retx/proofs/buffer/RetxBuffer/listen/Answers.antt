use Rattle.std.proofs.Common.{arith, ap, ◌∙◌, length}
use Rattle.circular_buffer.specs.Buffer.{Buffer}
use Rattle.dch_retx.specs.declared.sent_pdu.SentPdu.{SentPdu}
use Rattle.dch_retx.specs.Flights.{acknowledged}
use Rattle.dch_retx.proofs.Changes.{length-changed}
use Rattle.dch_retx.specs.StatusItems.{said_by}
use Rattle.dch_retx.proofs.Lengths.{length-with_names, same_line}
use Rattle.dch_retx.proofs.buffer.RetxBuffer.listen.Goals as goal

pub acknowledge-requires : goal.acknowledge-requires
acknowledge-requires c = omega (arith, ap (λ (b : Buffer SentPdu). length b.items) c.name-named.ensures.after, length-with_names c.number_at-first.result c.floor_of-from.result c.min-to.result (said_by c.args.status.now) c.self.inside.flight.items)

pub invariant_of-self : goal.invariant_of-self
invariant_of-self c =
    same_line c.self.inside.flight c.acknowledge.new.self c.self.inside.rules.window c.self.inside.next c.self.inside.running
    (ap (λ (b : Buffer SentPdu). length b.items) c.acknowledge.ensures ∙ (length-changed acknowledged c.min-to.result c.name-named.new.flight.items
    ∙ (ap (λ (b : Buffer SentPdu). length b.items) c.name-named.ensures.after ∙ length-with_names c.number_at-first.result c.floor_of-from.result c.min-to.result (said_by c.args.status.now) c.self.inside.flight.items)))
    (ap (λ (b : Buffer SentPdu). b.capacity) c.acknowledge.ensures ∙ ap (λ (b : Buffer SentPdu). b.capacity) c.name-named.ensures.after)
    c.self.invariant
