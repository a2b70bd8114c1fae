use Rattle.std.proofs.Common.{◌∙◌, ap, ap₂, sym}
use Rattle.dch_coding.specs.Rooms.{format_room, wider}
use Rattle.dch_coding.proofs.Rooms.{formats_room-more, formats_room-zero}
use Rattle.dch_coding.proofs.room.CodingRoom.of_channel.Goals as goal

pub loop-f-init : goal.loop-f-init
loop-f-init c = sym (formats_room-zero c.args.channel.now)

pub loop-f-preserved : goal.loop-f-preserved
loop-f-preserved c =
    let channel = c.args.channel.now in
    c.wider-room.ensures
    ∙ ap₂ wider c.loop-f.invariant (c.of_format.ensures ∙ ap (format_room channel) c.format.ensures.value)
    ∙ sym (formats_room-more channel c.loop-f.f)
