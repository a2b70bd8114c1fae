use Rattle.std.proofs.Common.{◌<◌, ◌∙◌, ◌≡◌, ◌+◌, ℕ, true, arith, ap, cond, length, set, subst, sym}
use Rattle.circular_buffer.specs.Buffer.{Buffer, buffer}
use Rattle.dch_retx.specs.declared.sent_pdu.SentPdu.{SentPdu}
use Rattle.dch_retx.specs.Flights.{AreRequests, at, changed_below, request_cleared, requested_in}
use Rattle.dch_retx.proofs.Changes.{changed_next, counted_set, length-changed}
use Rattle.dch_retx.proofs.Requests.{cleared_to, requests_set}
use Rattle.dch_retx.proofs.flight.clear_requests.Goals as goal

pub loop-i-init : goal.loop-i-init
loop-i-init c = record {
  after = ap (λ xs. buffer xs c.args.ring.now.capacity) (cleared_to c.args.requests.now 0 c.next-i.result c.args.ring.now.items (omega arith) (omega (arith, c.requires.to)) c.requires.small c.next-i.ensures.before c.requires.requests);
  requests = c.requires.requests;
  here = c.next-i.ensures.here;
  cleared = omega arith;
  few = omega arith;
  within = c.next-i.ensures.within;
}

pub loop-i-preserved : goal.loop-i-preserved
loop-i-preserved c =
    let size : length c.loop-i.ring.items ≡ length c.args.ring.now.items = ap (λ (b : Buffer SentPdu). length b.items) c.loop-i.invariant.after ∙ length-changed request_cleared c.loop-i.i c.args.ring.now.items in
    let inside : c.loop-i.i < length c.loop-i.ring.items = omega (arith, c.requires.to) in
    let here : (at c.loop-i.ring.items c.loop-i.i).requested ≡ true = sym (c.loop-i.invariant.requests c.loop-i.i (omega (arith, c.requires.small))) ∙ c.loop-i.invariant.here c.loop-i-test.true in
    let requests : AreRequests c.remove.new.self (set c.loop-i.ring.items c.loop-i.i (request_cleared (at c.loop-i.ring.items c.loop-i.i))) = requests_set c.loop-i.requests c.remove.new.self c.loop-i.ring.items c.loop-i.i (request_cleared (at c.loop-i.ring.items c.loop-i.i)) inside c.remove.ensures.here c.remove.ensures.others c.loop-i.invariant.requests in
    let next : set c.loop-i.ring.items c.loop-i.i (request_cleared (at c.loop-i.ring.items c.loop-i.i)) ≡ changed_below request_cleared (c.loop-i.i + 1) c.args.ring.now.items = ap (λ (b : Buffer SentPdu). set b.items c.loop-i.i (request_cleared (at b.items c.loop-i.i))) c.loop-i.invariant.after ∙ changed_next request_cleared c.loop-i.i c.args.ring.now.items (omega arith) in
    record {
      after =
          c.clear_request_at.ensures
          ∙ (ap (λ xs. buffer xs c.loop-i.ring.capacity) (next ∙ cleared_to c.remove.new.self (c.loop-i.i + 1) c.next-i-in-loop-i.result c.args.ring.now.items c.next-i-in-loop-i.ensures.from (omega (arith, c.requires.to)) c.requires.small c.next-i-in-loop-i.ensures.before (subst (AreRequests c.remove.new.self) next requests))
          ∙ ap (λ n. buffer (changed_below request_cleared c.next-i-in-loop-i.result c.args.ring.now.items) n) (ap (λ (b : Buffer SentPdu). b.capacity) c.loop-i.invariant.after));
      requests = subst (λ (b : Buffer SentPdu). AreRequests c.remove.new.self b.items) (sym c.clear_request_at.ensures) requests;
      here = c.next-i-in-loop-i.ensures.here;
      cleared = omega (arith, counted_set c.loop-i.ring.items c.loop-i.i (request_cleared (at c.loop-i.ring.items c.loop-i.i)) inside, c.loop-i.invariant.cleared, ap (λ b. cond {A = ℕ} b 1 0) here, ap (λ (b : Buffer SentPdu). requested_in b.items) c.clear_request_at.ensures);
      few = omega (arith, c.loop-i.invariant.few);
      within = c.next-i-in-loop-i.ensures.within;
    }
