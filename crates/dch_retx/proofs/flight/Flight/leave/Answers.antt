use Rattle.std.proofs.Common.{◌≡◌, ◌-◌, ◌≤◌, ◌∙◌, ap, arith, drop, length, length-drop, refl, subst, sym}
use Rattle.circular_buffer.specs.Buffer.{Buffer, buffer}
use Rattle.dch_retx.specs.declared.sent_pdu.SentPdu.{SentPdu}
use Rattle.dch_retx.specs.Flights.{IsFlight, front_acked}
use Rattle.dch_retx.proofs.Fronts.{front_le}
use Rattle.dch_retx.proofs.Requests.{flight_less, requests_left}
use Rattle.dch_retx.proofs.Skips.{linked_drop, linked_size, requested_drop}
use Rattle.dch_retx.proofs.flight.Flight.leave.Goals as goal

pub overflow_sub-kept : goal.overflow_sub-kept
overflow_sub-kept c =
    let few : c.args.count ≤ front_acked c.self.inside.ring.items = subst (λ (b : Buffer SentPdu). c.args.count ≤ front_acked b.items) (sym c.self.view_is) c.requires in
    omega (arith, front_le c.self.inside.ring.items, c.len.ensures.len)

pub leave-requires : goal.leave-requires
leave-requires c =
    let few : c.args.count ≤ front_acked c.self.inside.ring.items = subst (λ (b : Buffer SentPdu). c.args.count ≤ front_acked b.items) (sym c.self.view_is) c.requires in
    omega (arith, front_le c.self.inside.ring.items, c.self.invariant.few, c.self.invariant.small)

pub invariant_of-self : goal.invariant_of-self
invariant_of-self c =
    let few : c.args.count ≤ front_acked c.self.inside.ring.items = subst (λ (b : Buffer SentPdu). c.args.count ≤ front_acked b.items) (sym c.self.view_is) c.requires in
    let all : length c.self.inside.ring.items - (c.len.result - c.args.count) ≡ c.args.count = omega (arith, front_le c.self.inside.ring.items, c.len.ensures.len) in
    let each : length c.self.inside.skips.items - (c.len.result - c.args.count) ≡ c.args.count = omega (arith, linked_size c.self.inside.ring.items c.self.inside.skips.items c.self.invariant.linked) in
    subst (λ r. IsFlight r c.truncate_front-2.new.self c.leave.new.self c.self.inside.count) (sym (c.truncate_front.ensures ∙ ap (λ n. buffer (drop n c.self.inside.ring.items) c.self.inside.ring.capacity) all))
    (subst (λ k. IsFlight (buffer (drop c.args.count c.self.inside.ring.items) c.self.inside.ring.capacity) k c.leave.new.self c.self.inside.count) (sym (c.truncate_front-2.ensures ∙ ap (λ n. buffer (drop n c.self.inside.skips.items) c.self.inside.skips.capacity) each))
    (flight_less c.self.inside.ring (buffer (drop c.args.count c.self.inside.ring.items) c.self.inside.ring.capacity) c.self.inside.skips (buffer (drop c.args.count c.self.inside.skips.items) c.self.inside.skips.capacity) c.self.inside.requests c.leave.new.self c.self.inside.count c.self.inside.count refl refl
    (omega (arith, length-drop c.args.count c.self.inside.ring.items))
    (c.self.invariant.count_is ∙ sym (requested_drop c.args.count c.self.inside.ring.items c.self.inside.skips.items few c.self.invariant.linked))
    (requests_left c.self.inside.requests c.leave.new.self c.args.count c.self.inside.ring.items c.self.inside.skips.items few (omega (arith, c.self.invariant.few, c.self.invariant.small)) c.leave.ensures.nearer c.leave.ensures.behind c.self.invariant.linked c.self.invariant.requests)
    (linked_drop c.args.count c.self.inside.ring.items c.self.inside.skips.items c.self.invariant.linked) c.self.invariant))

pub returns : goal.returns
returns c =
    let few : c.args.count ≤ front_acked c.self.inside.ring.items = subst (λ (b : Buffer SentPdu). c.args.count ≤ front_acked b.items) (sym c.self.view_is) c.requires in
    let all : length c.self.inside.ring.items - (c.len.result - c.args.count) ≡ c.args.count = omega (arith, front_le c.self.inside.ring.items, c.len.ensures.len) in
    c.truncate_front.ensures ∙ (ap (λ n. buffer (drop n c.self.inside.ring.items) c.self.inside.ring.capacity) all ∙ ap (λ (b : Buffer SentPdu). buffer (drop c.args.count b.items) b.capacity) c.self.view_is)
