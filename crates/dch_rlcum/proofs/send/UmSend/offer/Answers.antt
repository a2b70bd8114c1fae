use Rattle.std.proofs.Common.{◌≡◌, ◌++◌, ◌∷◌, [], ◌∙◌, ℕ, List, ap, ap₂, cond, false, length, subst, sym}
use Rattle.std.specs.Prelude.{◌==◌}
use Rattle.circular_buffer.specs.Buffer.{Buffer}
use Rattle.dch_bits.specs.declared.offer.Offer.TheVariants.{Accepted, Full}
use Rattle.dch_am.specs.Bodies.{joined}
use Rattle.dch_txbuf.specs.Cuts.{left_at}
use Rattle.dch_rlcum.specs.History.{IsSenderOf}
use Rattle.dch_rlcum.specs.Queue.{IsQueue, units_at}
use Rattle.dch_rlcum.specs.Sending.{Sending, after_offer, answer_of}
use Rattle.dch_rlcum.proofs.Histories.{sender_taken, texts_taken}
use Rattle.dch_rlcum.proofs.Placing.{answered, held_is, joined_more, more_left, owed_more, queue_more, some_unit}
use Rattle.dch_rlcum.proofs.send.UmSend.offer.Goals as goal

pub returns-then-not-has_room-clause-answer : goal.returns-then-not-has_room-clause-answer
returns-then-not-has_room-clause-answer c =
    let s : Sending = record { units = units_at c.self.inside.sdus.items c.self.inside.start c.self.inside.owed; row = joined (left_at c.self.inside.start c.self.inside.sdus.items); number = c.self.inside.number; pdu = c.self.inside.pdu; buffer = c.self.inside.sdus.capacity; mark_start = c.self.inside.mark_start } in
    let some : (length c.args.unit.now == 0) ≡ false = sym c.is_empty.ensures ∙ c.if-is_empty.false in
    sym (ap (answer_of c.args.unit.now) (sym c.self.view_is) ∙ (answered s c.args.unit.now c.self.inside.sdus.items c.has_room.result some c.if-unit-gt-LONGEST_SDU.false (held_is c.self.inside.sdus.items c.self.inside.start c.self.inside.owed c.self.invariant.0) c.has_room.ensures
    ∙ ap (λ b. cond b Accepted Full) (c.if-not-has_room.true)))

pub invariant_of-self : goal.invariant_of-self
invariant_of-self c =
    let some : (length c.args.unit.now == 0) ≡ false = sym c.is_empty.ensures ∙ c.if-is_empty.false in
    (subst (λ (b : Buffer (List ℕ)). IsQueue b.items c.self.inside.start c.self.inside.owed) (sym c.push.ensures) (queue_more c.self.inside.sdus.items c.self.inside.start c.self.inside.owed c.args.unit.now (some_unit c.args.unit.now some) c.self.invariant.0), c.self.invariant.1)

pub returns-clause-answer : goal.returns-clause-answer
returns-clause-answer c =
    let s : Sending = record { units = units_at c.self.inside.sdus.items c.self.inside.start c.self.inside.owed; row = joined (left_at c.self.inside.start c.self.inside.sdus.items); number = c.self.inside.number; pdu = c.self.inside.pdu; buffer = c.self.inside.sdus.capacity; mark_start = c.self.inside.mark_start } in
    let some : (length c.args.unit.now == 0) ≡ false = sym c.is_empty.ensures ∙ c.if-is_empty.false in
    sym (ap (answer_of c.args.unit.now) (sym c.self.view_is) ∙ (answered s c.args.unit.now c.self.inside.sdus.items c.has_room.result some c.if-unit-gt-LONGEST_SDU.false (held_is c.self.inside.sdus.items c.self.inside.start c.self.inside.owed c.self.invariant.0) c.has_room.ensures
    ∙ ap (λ b. cond b Accepted Full) c.if-not-has_room.false))

pub returns-clause-after : goal.returns-clause-after
returns-clause-after c =
    ap (λ (b : Buffer (List ℕ)). record { units = units_at b.items c.self.inside.start c.self.inside.owed; row = joined (left_at c.self.inside.start b.items); number = c.self.inside.number; pdu = c.self.inside.pdu; buffer = b.capacity; mark_start = c.self.inside.mark_start }) c.push.ensures
    ∙ (ap₂ (λ u xs. record { units = u; row = xs; number = c.self.inside.number; pdu = c.self.inside.pdu; buffer = c.self.inside.sdus.capacity; mark_start = c.self.inside.mark_start }) (owed_more c.self.inside.sdus.items c.self.inside.start c.self.inside.owed c.args.unit.now c.self.invariant.0) (ap joined (more_left c.self.inside.sdus.items c.self.inside.start c.args.unit.now c.self.invariant.0.place.start_is) ∙ joined_more (left_at c.self.inside.start c.self.inside.sdus.items) c.args.unit.now)
    ∙ ap (after_offer Accepted c.args.unit.now) c.self.view_is)

pub returns-clause-history : goal.returns-clause-history
returns-clause-history c = λ units cuts is.
    let some : (length c.args.unit.now == 0) ≡ false = sym c.is_empty.ensures ∙ c.if-is_empty.false in
    subst (IsSenderOf (units ++ c.args.unit.now ∷ []) cuts) (sym (returns-clause-after c)) (sender_taken units cuts c.args.unit.now c.args.self.now (some_unit c.args.unit.now some) is)

pub returns-clause-built : goal.returns-clause-built
returns-clause-built c = λ units cuts is. texts_taken units cuts c.args.unit.now c.args.self.now is
