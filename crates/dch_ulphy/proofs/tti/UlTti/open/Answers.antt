use Rattle.std.proofs.Common.{length, arith, ap}
use Rattle.dch_types.specs.declared.channel.Dir.TheVariants.{Up}
use Rattle.dch_accept.specs.declared.room.TtiRoom.{TtiRoom}
use Rattle.dch_tti.proofs.Ttis.{tti_empty, within_empty}
use Rattle.dch_ulphy.specs.Loaded.{tti_cells}
use Rattle.dch_ulphy.proofs.tti.UlTti.open.Goals as goal

pub invariant_of-result : goal.invariant_of-result
invariant_of-result c =
    let bits = ap (λ (room : TtiRoom). room.coding.bits) c.most_room-room.ensures.value in
    let cells = ap (λ (room : TtiRoom). room.cells) c.most_room-room.ensures.value in (
      omega (arith, c.in_ok-open.ensures, c.in_ok-vec.ensures.len),
      within_empty c.args.accepted.now Up (length c.in_ok-vec.field-0.items) (length c.in_ok-vec-2.field-0.items) c.in_ok-tti_buffers.field-0.items (omega (arith, bits, c.in_ok-vec.ensures.len)) (omega (arith, cells, c.in_ok-vec-2.ensures.len)) c.in_ok-tti_buffers.ensures,
    )

pub returns : goal.returns
returns c = tti_empty c.args.accepted.now Up (tti_cells c.args.accepted.now) c.in_ok-tti_buffers.field-0.items c.in_ok-tti_buffers.ensures
