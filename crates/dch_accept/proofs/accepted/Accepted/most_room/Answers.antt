use Rattle.std.proofs.Common.{◌≡◌, ◌≤◌, ◌∙◌, length, arith, ap, ap₂, subst, sym}
use Rattle.dch_types.specs.declared.channel.Side.{Side}
use Rattle.dch_types.specs.Parts.{side_of}
use Rattle.dch_accept.specs.declared.room.TtiRoom.{TtiRoom}
use Rattle.dch_accept.specs.Rooms.{most_room, rooms_below, wider_tti}
use Rattle.dch_accept.proofs.Rooms.{most_short, rooms-more, rooms-zero}
use Rattle.dch_accept.proofs.accepted.Accepted.most_room.Goals as goal

pub loop-i-init : goal.loop-i-init
loop-i-init c = sym (rooms-zero c.args.self.now c.args.dir)

pub loop-i-preserved : goal.loop-i-preserved
loop-i-preserved c = c.wider-room.ensures ∙ ap₂ wider_tti c.loop-i.invariant c.tti_room.ensures ∙ sym (rooms-more c.args.self.now c.args.dir c.loop-i.i)

pub returns-clause-value : goal.returns-clause-value
returns-clause-value c =
    let all : c.loop-i.i ≡ length (side_of c.args.self.now.config c.args.dir).channels = omega (arith, c.loop-i-test.false, c.len-i-end.ensures, ap (λ (side : Side). length side.channels) c.side.ensures.value) in
    c.loop-i.invariant ∙ ap (rooms_below c.args.self.now c.args.dir) all

pub returns-clause-short : goal.returns-clause-short
returns-clause-short c =
    let room : c.loop-i.room ≡ most_room c.args.self.now c.args.dir = returns-clause-value c in
    subst (λ (room : TtiRoom). room.coding.code_block ≤ 504) (sym room) (most_short c.args.self.now c.args.dir)
