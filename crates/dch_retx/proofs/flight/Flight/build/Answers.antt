use Rattle.std.proofs.Common.{◌-◌, ◌<◌, ℕ, ap, arith, cond, length, subst, sym}
use Rattle.circular_buffer.specs.Buffer.{Buffer}
use Rattle.dch_retx.specs.declared.sent_pdu.SentPdu.{SentPdu}
use Rattle.dch_retx.specs.Flights.{at, built}
use Rattle.dch_retx.proofs.Changes.{counted_set}
use Rattle.dch_retx.proofs.Requests.{flight_set, requests_set}
use Rattle.dch_retx.proofs.Skips.{linked_built}
use Rattle.dch_retx.proofs.flight.Flight.build.Goals as goal

pub overflow_sub-self : goal.overflow_sub-self
overflow_sub-self c =
    let l : c.args.i < length c.self.inside.ring.items = subst (λ (b : Buffer SentPdu). c.args.i < length b.items) (sym c.self.view_is) c.requires in
    omega (arith, counted_set c.self.inside.ring.items c.args.i (built (at c.self.inside.ring.items c.args.i)) l, ap (λ b. cond {A = ℕ} b 1 0) c.build_at-was.ensures.cleared, c.self.invariant.count_is)

pub remove-requires : goal.remove-requires
remove-requires c =
    let l : c.args.i < length c.self.inside.ring.items = subst (λ (b : Buffer SentPdu). c.args.i < length b.items) (sym c.self.view_is) c.requires in
    omega (arith, c.self.invariant.few, c.self.invariant.small)

pub invariant_of-self : goal.invariant_of-self
invariant_of-self c =
    let l : c.args.i < length c.self.inside.ring.items = subst (λ (b : Buffer SentPdu). c.args.i < length b.items) (sym c.self.view_is) c.requires in
    let f = built (at c.self.inside.ring.items c.args.i) in
    flight_set c.self.inside.ring c.build_at-was.new.ring c.self.inside.skips c.self.inside.requests c.remove.new.self c.self.inside.count (c.self.inside.count - c.one.result) c.args.i f c.build_at-was.ensures.after
    (omega (arith, counted_set c.self.inside.ring.items c.args.i f l, ap (λ b. cond {A = ℕ} b 1 0) c.build_at-was.ensures.cleared, c.self.invariant.count_is))
    (requests_set c.self.inside.requests c.remove.new.self c.self.inside.ring.items c.args.i f l c.remove.ensures.here c.remove.ensures.others c.self.invariant.requests)
    (linked_built c.self.inside.ring.items c.self.inside.skips.items c.args.i l c.self.invariant.linked)
    c.self.invariant
