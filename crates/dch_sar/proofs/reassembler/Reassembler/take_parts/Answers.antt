use Rattle.std.proofs.Common.{◌≡◌, ◌∙◌, arith}
use Rattle.dch_rlcpdu.specs.Parts.{parts_of}
use Rattle.dch_sar.proofs.Parts.{length-parts, none_taken, room_here, wait_here, one_taken, last_taken}
use Rattle.dch_sar.proofs.reassembler.Reassembler.take_parts.Goals as goal

pub loop-i-init : goal.loop-i-init
loop-i-init c = none_taken c.args.body.now c.args.dead c.args.self.now c.requires.octets c.requires.units (omega (arith, c.ends-ends.ensures.value, c.ends-ends.ensures.few)) c.ends-ends.ensures.within

pub add-requires : goal.add-requires
add-requires c = room_here (parts_of c.args.body.now) c.args.dead c.loop-i.i c.args.self.now c.loop-i.self c.piece.result.now c.loop-i.invariant c.piece.ensures

pub end-requires : goal.end-requires
end-requires c =
    rw c.add.ensures
    (wait_here (parts_of c.args.body.now) c.args.dead c.loop-i.i c.args.self.now c.loop-i.self c.piece.result.now c.loop-i.invariant (omega (arith, length-parts c.args.body.now, c.ends-ends.ensures.value, c.loop-i-test.true)))

pub loop-i-preserved : goal.loop-i-preserved
loop-i-preserved c =
    rw (c.end.ensures, c.add.ensures)
    (one_taken (parts_of c.args.body.now) c.args.dead c.loop-i.i c.args.self.now c.loop-i.self c.piece.result.now c.loop-i.invariant c.piece.ensures (omega (arith, length-parts c.args.body.now, c.ends-ends.ensures.value, c.loop-i-test.true)))

pub add-requires-2 : goal.add-requires-2
add-requires-2 c =
    let at : c.loop-i.i ≡ c.ends-ends.result = omega (arith, c.loop-i-test.false, c.loop-i.auto.i-end (omega (arith, c.requires.dead, c.ends-ends.ensures.value))) in
    room_here (parts_of c.args.body.now) c.args.dead c.loop-i.i c.args.self.now c.loop-i.self c.piece-2.result.now c.loop-i.invariant (rw at c.piece-2.ensures)

pub returns : goal.returns
returns c =
    let at : c.loop-i.i ≡ c.ends-ends.result = omega (arith, c.loop-i-test.false, c.loop-i.auto.i-end (omega (arith, c.requires.dead, c.ends-ends.ensures.value))) in
    c.add-2.ensures ∙ last_taken (parts_of c.args.body.now) c.args.dead c.loop-i.i c.args.self.now c.loop-i.self c.piece-2.result.now c.loop-i.invariant (rw at c.piece-2.ensures) (omega (arith, length-parts c.args.body.now, c.ends-ends.ensures.value))
