use Rattle.std.proofs.Common.{◌∙◌, ap, arith, length, sym}
use Rattle.dch_retx.specs.Flights.{at}
use Rattle.dch_retx.specs.RetxBuffer.{RetxBuffer}
use Rattle.dch_amsend.proofs.Passing.{IsPassed, begins_at, found_all, passes_one}
use Rattle.dch_amsend.proofs.pass.last_from.Goals as goal

passes : (c : goal.After-scan-1) → IsPassed c.args.rules.now c.args.held.now c.loop-place.place c.args.outgoing.now.line.in_flight c.loop-place.scan c.after_pdu-scan.result
passes c =
    passes_one c.args.rules.now c.args.held.now c.loop-place.place c.args.outgoing.now.line.in_flight c.loop-place.scan c.after_pdu-scan.result c.ended_before.result c.at.result c.ended_before.ensures.value
    (c.at.ensures ∙ ap (λ (l : RetxBuffer). at l.in_flight c.loop-place.place) c.line-line.ensures)
    (omega (arith, c.loop-place-test.true, c.len.ensures.count, c.len.ensures.few, ap (λ (l : RetxBuffer). length l.in_flight) c.line-line.ensures))
    c.after_pdu-scan.ensures

pub loop-place-init : goal.loop-place-init
loop-place-init c = (c.requires.inside, begins_at c.args.rules.now c.args.held.now c.args.first c.args.outgoing.now.line.in_flight c.requires.requested c.requires.young)

pub next_place-place-requires-clause-sdu : goal.next_place-place-requires-clause-sdu
next_place-place-requires-clause-sdu c = (passes c).sdu

pub loop-place-preserved : goal.loop-place-preserved
loop-place-preserved c = (c.next_place-place.ensures.within, sym c.next_place-place.ensures.same ∙ sym (passes c.before).found ∙ c.loop-place.invariant.1)

pub returns : goal.returns
returns c = sym (found_all c.args.rules.now c.args.held.now c.loop-place.place c.args.outgoing.now.line.in_flight c.loop-place.scan (omega (arith, c.loop-place.invariant.0, c.loop-place-test.false, c.len.ensures.count, c.len.ensures.few, ap (λ (l : RetxBuffer). length l.in_flight) c.line-line.ensures))) ∙ c.loop-place.invariant.1
