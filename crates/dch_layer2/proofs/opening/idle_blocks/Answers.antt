use Rattle.std.proofs.Common.{subst}
use Rattle.dch_types.specs.Limits.{IsChannel}
use Rattle.dch_layer2.proofs.Openings.{idle_opened}
use Rattle.std.proofs.Common.{◌∙◌, ap}
use Rattle.dch_types.specs.Limits.{idle_format}
use Rattle.dch_layer2.proofs.opening.idle_blocks.Goals as goal

pub returns : goal.returns
returns c =
    idle_opened c.args.accepted.now.config c.args.out c.args.channel c.idle_format-idle.result c.in_ok-blocks.blocks.room c.shape.new.self
    (subst IsChannel c.channel.ensures.value c.channel.ensures.good) (c.idle_format-idle.ensures.value ∙ ap idle_format c.channel.ensures.value)
    (rw (← c.channel.ensures.value) c.idle_format-idle.ensures.there) c.in_ok-blocks.ensures.room c.shape.ensures
