use Rattle.std.proofs.Common.{◌≡◌, ◌<◌, ◌∙◌, ap, length, subst}
use Rattle.dch_types.specs.Parts.{channel_at, format_at, format_number, side_of}
use Rattle.dch_types.specs.declared.channel.Dir.{Dir}
use Rattle.dch_types.specs.declared.channel.Side.{Side}
use Rattle.dch_types.specs.declared.channel.Trch.{Trch}
use Rattle.dch_types.specs.declared.config.Config.{Config}
use Rattle.dch_config.specs.Good.{IsGood}
use Rattle.dch_accept.specs.Blocks.{zero_blocks}
use Rattle.dch_layer2.specs.Sharing.{Moment}
use Rattle.dch_layer2.proofs.Channels.{channel_shaped}
use Rattle.dch_layer2.proofs.choosing.Moment.start_channel.Goals as goal

pub returns-clause-started : goal.returns-clause-started
returns-clause-started c into bearings ready =
    let good : IsGood c.args.self.now.config = subst IsGood c.config.ensures.value c.config.ensures.good in
    let out : c.self.inside.out ≡ c.args.self.now.out = ap (λ (m : Moment). m.out) c.self.view_is in
    let side : c.side-side.result.now ≡ side_of c.args.self.now.config c.args.self.now.out =
    c.side-side.ensures.value ∙ (ap (λ (x : Config). side_of x c.self.inside.out) c.config.ensures.value ∙ ap (λ (d : Dir). side_of c.args.self.now.config d) out) in
    let format : c.format-format.result.now ≡ format_at (channel_at (side_of c.args.self.now.config c.args.self.now.out) c.args.channel) c.tfi-number.result =
    c.format-format.ensures.value ∙ ap (λ (t : Trch). format_at t c.tfi-number.result) (c.channel.ensures.value ∙ ap (λ (s : Side). channel_at s c.args.channel) side) in
    channel_shaped c.args.self.now into c.args.combination c.args.channel c.tfi-number.result c.args.blocks.now.room c.format-format.result.now bearings c.args.bearers.now c.give.new.bearers c.shape.new.self c.give.new.blocks good c.requires.there c.requires.starts c.requires.may
    (c.tfi-number.ensures.value ∙ ap (λ (s : Side). format_number s c.args.combination c.args.channel) side)
    (subst (λ (s : Side). c.tfi-number.result < length (channel_at s c.args.channel).formats) side c.tfi-number.ensures.inside)
    format c.requires.room
    (c.shape.ensures ∙ ap (λ (m : Moment). zero_blocks c.tfi-number.result (format_at (channel_at (side_of m.config m.out) c.args.channel) c.tfi-number.result) c.args.blocks.now.room) c.self.view_is)
    ready c.give.ensures
