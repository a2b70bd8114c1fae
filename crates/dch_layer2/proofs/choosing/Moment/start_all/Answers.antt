use Rattle.std.proofs.Common.{◌<◌, ◌∙◌, [], arith, length, subst, sym}
use Rattle.dch_types.specs.Parts.{side_of}
use Rattle.dch_accept.specs.Blocks.{Held, HoldsTtis}
use Rattle.dch_accept.specs.HeldSets.{held_at}
use Rattle.dch_layer2.proofs.Places.{inside_or}
use Rattle.dch_layer2.proofs.Starts.{none_started, skip_started, start_can, start_started}
use Rattle.dch_layer2.proofs.choosing.Moment.start_all.Goals.{then-starts, else-starts}
use Rattle.dch_layer2.proofs.choosing.Moment.start_all.Goals as goal

pub loop-i-init : goal.loop-i-init
loop-i-init c = none_started c.args.self.now c.args.combination c.args.bearers.now c.args.given.now

pub start_channel-requires-clause-room : goal.start_channel-requires-clause-room
start_channel-requires-clause-room c =
    let inside : c.loop-i.i < length c.loop-i.given = omega (arith, c.loop-i-test.true, c.loop-i.auto.given) in
    let there : c.loop-i.i < length (side_of c.args.self.now.config c.args.self.now.out).channels = omega (arith, inside, c.loop-i.invariant.all, c.requires.can.before.all) in
    let after = c.loop-i.invariant.after c.requires.can.into c.requires.can.bearings c.requires.can.gave c.requires.can.before in
    subst (λ (h : Held). HoldsTtis (side_of c.args.self.now.config c.args.self.now.out) h.room) (inside_or c.loop-i.given c.loop-i.i (held_at [] 0) c.index-given-i.result inside) (after.given c.loop-i.i there).room

pub start_channel-requires-clause-can : goal.start_channel-requires-clause-can
start_channel-requires-clause-can c = start_can c.args.self.now c.args.combination c.loop-i.i c.args.bearers.now c.loop-i.bearers c.args.given.now c.loop-i.given c.requires.can c.loop-i.invariant

pub loop-i-preserved : goal.loop-i-preserved
loop-i-preserved c =
    let inside : c.loop-i.i < length c.loop-i.given = omega (arith, c.loop-i-test.true, c.loop-i.auto.given) in
    elim c.if-starts.branch [
      | then-starts w ↦
          rw (w.bearers-is, w.given-is)
          (start_started c.args.self.now c.args.combination c.loop-i.i c.args.bearers.now c.loop-i.bearers w.start_channel.new.bearers c.args.given.now c.loop-i.given w.start_channel.new.blocks (sym c.starts.ensures ∙ w.if-starts.true) inside c.loop-i.invariant w.start_channel.ensures.all w.start_channel.ensures.started)
      | else-starts w ↦
          rw (w.bearers-is, w.given-is)
          (skip_started c.args.self.now c.args.combination c.loop-i.i c.args.bearers.now c.loop-i.bearers c.args.given.now c.loop-i.given (sym c.starts.ensures ∙ w.if-starts.false) c.loop-i.invariant)
    ]
