use Rattle.std.proofs.Common.{◌≡◌, ◌≤◌, ◌∙◌, arith, ap, ap₂, length, subst, sym}
use Rattle.dch_types.specs.declared.channel.Side.{Side}
use Rattle.dch_coding.specs.Rooms.{HoldsSide, channel_room, channels_room, wider}
use Rattle.dch_coding.specs.declared.room.CodingRoom.{CodingRoom}
use Rattle.dch_coding.proofs.Rooms.{channels_room-more, channels_room-zero, holds_side, side_short}
use Rattle.dch_coding.proofs.room.CodingRoom.of_side.Goals as goal

pub loop-i-init : goal.loop-i-init
loop-i-init c = sym (channels_room-zero c.args.side.now)

pub loop-i-preserved : goal.loop-i-preserved
loop-i-preserved c =
    let side = c.args.side.now in
    c.wider-room.ensures
    ∙ ap₂ wider c.loop-i.invariant (c.of_channel.ensures ∙ ap channel_room c.channel.ensures.value)
    ∙ sym (channels_room-more side c.loop-i.i)

pub returns-clause-holds : goal.returns-clause-holds
returns-clause-holds c =
    let side : Side = c.args.side.now in
    let all : c.loop-i.i ≡ length side.channels = omega arith in
    subst (λ room. HoldsSide room side) (sym (c.loop-i.invariant ∙ ap (channels_room side) all)) (holds_side side)

pub returns-clause-short : goal.returns-clause-short
returns-clause-short c =
    let side : Side = c.args.side.now in
    let all : c.loop-i.i ≡ length side.channels = omega arith in
    subst (λ (room : CodingRoom). room.code_block ≤ 504) (sym (c.loop-i.invariant ∙ ap (channels_room side) all)) (side_short side)
