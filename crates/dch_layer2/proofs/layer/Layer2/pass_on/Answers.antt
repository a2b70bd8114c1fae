use Rattle.std.proofs.Common.{◌∙◌, subst, sym}
use Rattle.dch_config.specs.Good.{IsGood}
use Rattle.dch_mac.specs.declared.answer.Demux.{Demux}
use Rattle.dch_layer2.specs.Layers.{goes}
use Rattle.dch_layer2.specs.Standing.{Represents}
use Rattle.dch_layer2.proofs.PduSizes.{reached}
use Rattle.dch_layer2.proofs.Coming.{passes}
use Rattle.dch_layer2.proofs.layer.Layer2.pass_on.Goals as goal

pub hear-requires-clause-behind : goal.hear-requires-clause-behind
hear-requires-clause-behind g c =
    (passes c.args.accepted.now.config c.args.channel c.in-To.bearer c.in-To.skip c.args.bits.now c.args.self.now (subst IsGood c.config-config.ensures.value c.config-config.ensures.good)
    (reached c.args.accepted.now.config c.args.self.now.into c.args.channel c.args.bits.now c.in-To.bearer c.in-To.skip (sym c.requires.receiver ∙ c.in-To.is)) c.requires.size c.requires.some c.requires.layer).0

pub hear-requires-clause-comes : goal.hear-requires-clause-comes
hear-requires-clause-comes g c =
    (passes c.args.accepted.now.config c.args.channel c.in-To.bearer c.in-To.skip c.args.bits.now c.args.self.now (subst IsGood c.config-config.ensures.value c.config-config.ensures.good)
    (reached c.args.accepted.now.config c.args.self.now.into c.args.channel c.args.bits.now c.in-To.bearer c.in-To.skip (sym c.requires.receiver ∙ c.in-To.is)) c.requires.size c.requires.some c.requires.layer).1

pub returns-in-To-clause-stands : goal.returns-in-To-clause-stands
returns-in-To-clause-stands g c layer is =
    subst (λ (to : Demux). Represents c.args.accepted.now.config (goes c.args.accepted.now.config c.args.self.now.into c.args.channel c.args.bits.now to layer).layer c.hear.new.self) (sym c.in-To.is)
    (c.hear.ensures.stands c.args.accepted.now.config layer is)
