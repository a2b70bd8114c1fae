use Rattle.std.proofs.Common.{sym, subst}
use Rattle.dch_types.specs.declared.channel.Dir.TheVariants.{Up}
use Rattle.dch_layer2.proofs.Joined.{given_inside}
use Rattle.dch_ue.specs.Opened.{HasChannel}
use Rattle.dch_ue.specs.Values.{Node}
use Rattle.dch_ue.specs.contracts.node.Ue.{the_view}
use Rattle.dch_ue.proofs.Staying.{layer_of}
use Rattle.dch_ue.proofs.node.Ue.given.Goals as goal

pub given-requires : goal.given-requires
given-requires c =
    let node : Node = the_view c.self.inside in
    let has : HasChannel Up node c.args.channel = subst (λ (n : Node). HasChannel Up n c.args.channel) (sym c.self.view_is) c.requires in
    given_inside has.planned.config Up node.layer c.args.channel (layer_of has.planned.config node.layer has.opened.layer) has.opened.sends has.there
