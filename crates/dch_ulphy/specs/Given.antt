-- Where blocks were sent, all radio frames of their TTI give the channel the format of the blocks.
use Rattle.std.proofs.Common.{◌∙◌, ap}
use Rattle.dch_types.specs.declared.channel.Dir.TheVariants.{Up}
use Rattle.dch_tti.specs.Formats.{format_in}
use Rattle.dch_tti.specs.Outcomes.{GivesItsFormat}
use Rattle.dch_tti.proofs.Sent.{sent_formats}
use Rattle.dch_ulphy.specs.Damaged.{WasDamaged}
use Rattle.dch_ulphy.specs.Frames.{multiplexed}

pub gives_its_format : GivesItsFormat Up WasDamaged
gives_its_format planned reader i f blocks is inside n below =
    ap (format_in planned.config.uplink.side i) (is.combinations n below)
    ∙ sent_formats planned Up (multiplexed planned) is.sent i f is.was.sequence is.was.sent.loaded is.was.sent.frames
    is.was.sent.from.format inside n below
