use Rattle.std.proofs.Common.{◌≡◌, ◌-◌, ◌≤◌, arith, length, subst, sym}
use Rattle.circular_buffer.specs.Buffer.{Buffer}
use Rattle.dch_retx.specs.declared.sent_pdu.SentPdu.{SentPdu}
use Rattle.dch_retx.specs.Flights.{IsFirstRequested}
use Rattle.dch_retx.proofs.Changes.{first_is}
use Rattle.dch_retx.proofs.Requests.{next_first, none_first}
use Rattle.dch_retx.proofs.flight.Flight.lowest.Goals as goal

pub returns-then-self-gt0-clause-place : goal.returns-then-self-gt0-clause-place
returns-then-self-gt0-clause-place c =
    let few : length c.self.inside.ring.items ≤ 2048 = omega (arith, c.self.invariant.few, c.self.invariant.small) in
    let same : c.next.result - 0 ≡ c.next.result = omega arith in
    subst (λ (b : Buffer SentPdu). IsFirstRequested b.items c.next.result) c.self.view_is
    (subst (IsFirstRequested c.self.inside.ring.items) same
    (next_first c.self.inside.requests c.self.inside.ring.items 0 c.next.result few c.next.ensures.from (omega (arith, c.next.ensures.within, c.len.ensures.len)) c.next.ensures.before (λ l. c.next.ensures.here (omega (arith, l, c.len.ensures.len))) c.self.invariant.requests))

pub returns-then-self-gt0-clause-first : goal.returns-then-self-gt0-clause-first
returns-then-self-gt0-clause-first c = first_is c.args.self.now.items c.next.result (returns-then-self-gt0-clause-place c)

pub returns-else-self-gt0-clause-place : goal.returns-else-self-gt0-clause-place
returns-else-self-gt0-clause-place c = subst (λ (b : Buffer SentPdu). IsFirstRequested b.items c.len-else-self-gt0.result) c.self.view_is (subst (IsFirstRequested c.self.inside.ring.items) (sym c.len-else-self-gt0.ensures.len) (none_first c.self.inside.ring.items (omega (arith, c.if-self-gt0.false, c.self.invariant.count_is))))

pub returns-else-self-gt0-clause-first : goal.returns-else-self-gt0-clause-first
returns-else-self-gt0-clause-first c = first_is c.args.self.now.items c.len-else-self-gt0.result (returns-else-self-gt0-clause-place c)
