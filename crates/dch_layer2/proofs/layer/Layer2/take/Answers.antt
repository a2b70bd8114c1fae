use Rattle.std.proofs.Common.{◌≡◌, arith, length, subst}
use Rattle.dch_layer2.specs.Layers.{takes}
use Rattle.dch_layer2.specs.Coming.{came_below}
use Rattle.dch_layer2.specs.Standing.{Represents}
use Rattle.dch_layer2.proofs.InOrder.{one_taken}
use Rattle.dch_layer2.proofs.layer.Layer2.take.Goals as goal

pub take_one-requires-clause-layer : goal.take_one-requires-clause-layer
take_one-requires-clause-layer g c = record { layer = _; stands = c.loop-k.invariant.stands c.requires.layer.layer c.requires.layer.stands }

pub loop-k-preserved : goal.loop-k-preserved
loop-k-preserved g c =
    one_taken g.U.Indications.shows c.args.accepted.now.config c.args.channel c.loop-k.k c.args.blocks.now c.args.self.now c.loop-k.self c.take_one.new.self c.args.user.now c.loop-k.user c.take_one.new.user c.loop-k.invariant c.take_one.ensures.ends c.take_one.ensures.told c.take_one.ensures.stands

pub returns-clause-stands : goal.returns-clause-stands
returns-clause-stands g c layer is =
    let all : c.loop-k.k ≡ length c.args.blocks.now.good = omega (arith, c.loop-k-test.false, c.loop-k.auto.k-end, c.count-k-end.ensures) in
    subst (λ n. Represents c.args.accepted.now.config (takes c.args.accepted.now.config c.args.self.now.into c.args.channel 0 (came_below c.args.blocks.now n) layer).layer c.loop-k.self) all (c.loop-k.invariant.stands layer is)
