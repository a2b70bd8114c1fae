use Rattle.std.proofs.Common.{◌≡◌, ◌+◌, ◌<◌, ◌∙◌, ℕ, None, arith, ap, cond, length, length-set, refl, subst, sym}
use Rattle.std.specs.Prelude.{min}
use Rattle.circular_buffer.specs.Buffer.{Buffer, buffer}
use Rattle.dch_retx.specs.declared.sent_pdu.SentPdu.{SentPdu}
use Rattle.dch_retx.specs.Flights.{IsWalk, acknowledged, at, changed_below, requested_in}
use Rattle.dch_retx.proofs.Changes.{acknowledged_less, acknowledged_count, length-changed}
use Rattle.dch_retx.proofs.Skips.{front_settled, linked_size, walk_before, walk_begins, walk_changed, walk_joins, walk_next}
use Rattle.dch_retx.proofs.links.acknowledge_below.Goals as goal

pub loop-i-init : goal.loop-i-init
loop-i-init c = record {
  walk = subst (λ k. IsWalk c.args.ring.now.items c.args.skips.now.items k None) (sym c.acked_from-i.ensures.count) (walk_begins c.args.ring.now.items c.args.skips.now.items c.requires.linked);
  after = ap (λ xs. buffer xs c.args.ring.now.capacity) (sym (front_settled c.args.to c.args.ring.now.items c.args.skips.now.items c.requires.linked) ∙ ap (λ k. changed_below acknowledged (min k c.args.to) c.args.ring.now.items) (sym c.acked_from-i.ensures.count));
  requests = c.requires.requests;
  cleared = omega arith;
  few = omega arith;
  room = refl;
}

pub loop-i-preserved : goal.loop-i-preserved
loop-i-preserved c =
    let size : length c.loop-i.ring.items ≡ length c.args.ring.now.items = ap (λ (b : Buffer SentPdu). length b.items) c.loop-i.invariant.after ∙ length-changed acknowledged (min c.loop-i.i c.args.to) c.args.ring.now.items in
    let inside : c.loop-i.i < length c.loop-i.ring.items = omega arith in
    let less = acknowledged_count c.loop-i.ring.items c.loop-i.i (acknowledged (at c.loop-i.ring.items c.loop-i.i)) inside (acknowledged_less (at c.loop-i.ring.items c.loop-i.i)) in
    record {
      walk = walk_joins c.loop-i.ring.items c.acknowledge_one.new.ring.items c.loop-i.skips.items c.join-before.new.skips.items c.loop-i.i c.skip_at.result c.loop-i.before c.join-before.result inside (ap (λ (b : Buffer SentPdu). b.items) c.acknowledge_one.ensures.after) c.skip_at.ensures c.join-before.ensures.before (ap (λ (b : Buffer ℕ). b.items) c.join-before.ensures.after) c.loop-i.invariant.walk;
      after =
          c.acknowledge_one.ensures.after
          ∙ (ap (λ xs. buffer xs c.loop-i.ring.capacity) (walk_changed c.args.ring.now.items c.loop-i.ring.items c.loop-i.skips.items c.loop-i.i c.skip_at.result c.args.to c.loop-i.before (omega arith) c.requires.to c.skip_at.ensures (ap (λ (b : Buffer SentPdu). b.items) c.loop-i.invariant.after) c.loop-i.invariant.walk)
          ∙ ap (λ n. buffer (changed_below acknowledged (min (c.loop-i.i + 1 + c.skip_at.result) c.args.to) c.args.ring.now.items) n) (ap (λ (b : Buffer SentPdu). b.capacity) c.loop-i.invariant.after));
      requests = c.acknowledge_one.ensures.requests;
      cleared = omega (arith, less, c.loop-i.invariant.cleared, ap (λ b. cond {A = ℕ} b 1 0) c.acknowledge_one.ensures.cleared, ap (λ (b : Buffer SentPdu). requested_in b.items) c.acknowledge_one.ensures.after);
      few = omega (arith, c.loop-i.invariant.few);
      room = ap (λ (b : Buffer ℕ). b.capacity) c.join-before.ensures.after ∙ c.loop-i.invariant.room;
    }

pub overflow_add-next-in-loop-i : goal.overflow_add-next-in-loop-i
overflow_add-next-in-loop-i c =
    let size : length c.loop-i.ring.items ≡ length c.args.ring.now.items = ap (λ (b : Buffer SentPdu). length b.items) c.loop-i.invariant.after ∙ length-changed acknowledged (min c.loop-i.i c.args.to) c.args.ring.now.items in
    let inside : c.loop-i.i < length c.loop-i.ring.items = omega arith in
    omega (arith, walk_next c.loop-i.ring.items c.loop-i.skips.items c.loop-i.i c.skip_at.result c.loop-i.before inside c.skip_at.ensures c.loop-i.invariant.walk)

pub acknowledge_one-requires-clause-inside : goal.acknowledge_one-requires-clause-inside
acknowledge_one-requires-clause-inside c =
    let size : length c.loop-i.ring.items ≡ length c.args.ring.now.items = ap (λ (b : Buffer SentPdu). length b.items) c.loop-i.invariant.after ∙ length-changed acknowledged (min c.loop-i.i c.args.to) c.args.ring.now.items in
    omega arith

pub acknowledge_one-requires-clause-small : goal.acknowledge_one-requires-clause-small
acknowledge_one-requires-clause-small c = omega (arith, c.requires.small, c.requires.to)

pub join-before-requires-clause-inside : goal.join-before-requires-clause-inside
join-before-requires-clause-inside c =
    let size : length c.loop-i.ring.items ≡ length c.args.ring.now.items = ap (λ (b : Buffer SentPdu). length b.items) c.loop-i.invariant.after ∙ length-changed acknowledged (min c.loop-i.i c.args.to) c.args.ring.now.items in
    omega (arith, ap (λ (b : Buffer SentPdu). length b.items) c.acknowledge_one.ensures.after, length-set c.loop-i.ring.items c.loop-i.i (acknowledged (at c.loop-i.ring.items c.loop-i.i)))

pub join-before-requires-clause-before : goal.join-before-requires-clause-before
join-before-requires-clause-before c =
    let size : length c.loop-i.ring.items ≡ length c.args.ring.now.items = ap (λ (b : Buffer SentPdu). length b.items) c.loop-i.invariant.after ∙ length-changed acknowledged (min c.loop-i.i c.args.to) c.args.ring.now.items in
    walk_before c.loop-i.ring.items c.loop-i.skips.items c.loop-i.i c.skip_at.result c.loop-i.before (omega arith) c.loop-i.invariant.walk

pub join-before-requires-clause-small : goal.join-before-requires-clause-small
join-before-requires-clause-small c =
    let size : length c.loop-i.ring.items ≡ length c.args.ring.now.items = ap (λ (b : Buffer SentPdu). length b.items) c.loop-i.invariant.after ∙ length-changed acknowledged (min c.loop-i.i c.args.to) c.args.ring.now.items in
    let inside : c.loop-i.i < length c.loop-i.ring.items = omega arith in
    omega (arith, c.requires.small, walk_next c.loop-i.ring.items c.loop-i.skips.items c.loop-i.i c.skip_at.result c.loop-i.before inside c.skip_at.ensures c.loop-i.invariant.walk)

pub skip_at-requires : goal.skip_at-requires
skip_at-requires c =
    let size : length c.loop-i.ring.items ≡ length c.args.ring.now.items = ap (λ (b : Buffer SentPdu). length b.items) c.loop-i.invariant.after ∙ length-changed acknowledged (min c.loop-i.i c.args.to) c.args.ring.now.items in
    omega (arith, linked_size c.loop-i.ring.items c.loop-i.skips.items c.loop-i.invariant.walk.linked)
