use Rattle.std.proofs.Common.{ap, ◌∙◌, ◌<◌, length, subst, sym, true}
use Rattle.circular_buffer.specs.Buffer.{Buffer}
use Rattle.dch_retx.specs.declared.sent_pdu.SentPdu.{SentPdu}
use Rattle.dch_retx.specs.Flights.{request_cleared}
use Rattle.dch_retx.proofs.Changes.{length-changed}
use Rattle.dch_retx.specs.RetxBuffer.{RetxBuffer}
use Rattle.dch_retx.proofs.Lengths.{begun_line}
use Rattle.dch_retx.proofs.buffer.RetxBuffer.begins.Goals as goal

pub invariant_of-self : goal.invariant_of-self
invariant_of-self c =
    begun_line c.self.inside.flight c.clear_request.new.self c.self.inside.rules.window c.self.inside.next c.self.inside.running (record { at = c.args.place; n = c.args.n; due = true; mrw_timer = 0 })
    (ap (λ (b : Buffer SentPdu). length b.items) c.clear_request.ensures ∙ length-changed request_cleared c.args.place c.self.inside.flight.items)
    (ap (λ (b : Buffer SentPdu). b.capacity) c.clear_request.ensures)
    (subst (λ n. c.args.place < n) (ap (λ (x : RetxBuffer). length x.in_flight) (sym c.self.view_is)) c.requires.inside)
    c.requires.indicator
    c.self.invariant
