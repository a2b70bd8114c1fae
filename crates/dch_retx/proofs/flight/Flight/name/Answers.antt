use Rattle.std.proofs.Common.{◌≡◌, ◌+◌, ◌<◌, ◌∙◌, Bool, true, false, not, ◌&&◌, ap, arith, cond, length, refl, subst, sym, ℕ}
use Rattle.std.proofs.lemmas.Bool.{and_parts, both_ways, not-true}
use Rattle.circular_buffer.specs.Buffer.{Buffer}
use Rattle.dch_retx.specs.declared.sent_pdu.SentPdu.{SentPdu}
use Rattle.dch_retx.specs.Flights.{at, named_from}
use Rattle.dch_retx.proofs.Changes.{counted_set, named_more, requested_few}
use Rattle.dch_retx.proofs.Requests.{flight_set, requests_same, requests_set}
use Rattle.dch_retx.proofs.Skips.{linked_named}
use Rattle.dch_retx.proofs.flight.Flight.name.Goals as goal

-- one that is named is requested since
newly : (was now : Bool) → (not was && now) ≡ true → (was ≡ false) × (now ≡ true)
newly was now e = let both = and_parts (not was) now e in (not-true was both.0, both.1)

-- or it is requested or isn't as it was
as_before : (was now : Bool) → (was ≡ true → now ≡ true) → (not was && now) ≡ false → now ≡ was
as_before true now more e = more refl
as_before false true more e = absurd (both_ways true e refl)
as_before false false more e = refl

pub overflow_add-self : goal.overflow_add-self
overflow_add-self c = omega (arith, requested_few c.self.inside.ring.items, c.self.invariant.count_is, c.self.invariant.few, c.self.invariant.small)

pub insert-requires : goal.insert-requires
insert-requires c =
    let l : c.args.i < length c.self.inside.ring.items = subst (λ (b : Buffer SentPdu). c.args.i < length b.items) (sym c.self.view_is) c.requires in
    omega (arith, c.self.invariant.few, c.self.invariant.small)

pub invariant_of-self : goal.invariant_of-self
invariant_of-self c =
    let l : c.args.i < length c.self.inside.ring.items = subst (λ (b : Buffer SentPdu). c.args.i < length b.items) (sym c.self.view_is) c.requires in
    let f = named_from c.args.from c.args.to c.args.i (at c.self.inside.ring.items c.args.i) in
    let both = newly (at c.self.inside.ring.items c.args.i).requested (named_from c.args.from c.args.to c.args.i (at c.self.inside.ring.items c.args.i)).requested (sym c.name_at.ensures.newly ∙ c.if-name_at.true) in
    flight_set c.self.inside.ring c.name_at.new.ring c.self.inside.skips c.self.inside.requests c.insert.new.self c.self.inside.count (c.self.inside.count + 1) c.args.i f c.name_at.ensures.after
    (omega (arith, c.self.invariant.count_is, counted_set c.self.inside.ring.items c.args.i f l, ap (λ b. cond {A = ℕ} b 1 0) both.0, ap (λ b. cond {A = ℕ} b 1 0) both.1))
    (requests_set c.self.inside.requests c.insert.new.self c.self.inside.ring.items c.args.i f l (c.insert.ensures.here ∙ sym both.1) c.insert.ensures.others c.self.invariant.requests)
    (linked_named c.args.from c.args.to c.args.i c.self.inside.ring.items c.self.inside.skips.items l c.self.invariant.linked)
    c.self.invariant

pub invariant_of-self-else-name_at : goal.invariant_of-self-else-name_at
invariant_of-self-else-name_at c =
    let l : c.args.i < length c.self.inside.ring.items = subst (λ (b : Buffer SentPdu). c.args.i < length b.items) (sym c.self.view_is) c.requires in
    let f = named_from c.args.from c.args.to c.args.i (at c.self.inside.ring.items c.args.i) in
    let same = as_before (at c.self.inside.ring.items c.args.i).requested (named_from c.args.from c.args.to c.args.i (at c.self.inside.ring.items c.args.i)).requested (named_more c.args.from c.args.to c.args.i (at c.self.inside.ring.items c.args.i)) (sym c.name_at.ensures.newly ∙ c.if-name_at.false) in
    flight_set c.self.inside.ring c.name_at.new.ring c.self.inside.skips c.self.inside.requests c.self.inside.requests c.self.inside.count c.self.inside.count c.args.i f c.name_at.ensures.after
    (omega (arith, c.self.invariant.count_is, counted_set c.self.inside.ring.items c.args.i f l, ap (λ b. cond {A = ℕ} b 1 0) same))
    (requests_same c.self.inside.requests c.self.inside.ring.items c.args.i f l (omega (arith, c.self.invariant.few, c.self.invariant.small)) same c.self.invariant.requests)
    (linked_named c.args.from c.args.to c.args.i c.self.inside.ring.items c.self.inside.skips.items l c.self.invariant.linked)
    c.self.invariant
