use Rattle.std.proofs.Common.{◌≡◌, ◌+◌, ◌-◌, ◌≤◌, ◌∙◌, ap, arith, drop, length}
use Rattle.circular_buffer.specs.Buffer.{Buffer}
use Rattle.dch_retx.specs.declared.sent_pdu.SentPdu.{SentPdu}
use Rattle.dch_retx.specs.Flights.{first_requested}
use Rattle.dch_retx.proofs.Changes.{first_is}
use Rattle.dch_retx.proofs.Requests.{next_first}
use Rattle.dch_retx.proofs.flight.Flight.requested_from.Goals as goal

pub returns-clause-place : goal.returns-clause-place
returns-clause-place c =
    let few : length c.self.inside.ring.items ≤ 2048 = omega (arith, c.self.invariant.few, c.self.invariant.small) in
    let first : c.next.result - c.args.place ≡ first_requested (drop c.args.place c.self.inside.ring.items) = first_is (drop c.args.place c.self.inside.ring.items) (c.next.result - c.args.place)
    (next_first c.self.inside.requests c.self.inside.ring.items c.args.place c.next.result few c.next.ensures.from (omega (arith, c.next.ensures.within, c.len.ensures.len)) c.next.ensures.before (λ l. c.next.ensures.here (omega (arith, l, c.len.ensures.len))) c.self.invariant.requests) in
    let here : c.next.result ≡ c.args.place + first_requested (drop c.args.place c.self.inside.ring.items) = omega (arith, c.next.ensures.from) in
    here ∙ ap (λ (b : Buffer SentPdu). c.args.place + first_requested (drop c.args.place b.items)) c.self.view_is

pub returns-clause-within : goal.returns-clause-within
returns-clause-within c = omega (arith, c.next.ensures.within, c.len.ensures.len, ap (λ (b : Buffer SentPdu). length b.items) c.self.view_is)
