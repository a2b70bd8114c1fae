use Rattle.std.proofs.Common.{length, arith, ap}
use Rattle.dch_types.specs.declared.channel.Dir.TheVariants.{Down}
use Rattle.dch_accept.specs.declared.room.TtiRoom.{TtiRoom}
use Rattle.dch_tti.proofs.Ttis.{tti_empty, within_empty}
use Rattle.dch_dlphy.specs.Loaded.{tti_cells}
use Rattle.dch_dlphy.proofs.tti.DlTti.open.Goals as goal

pub invariant_of-result : goal.invariant_of-result
invariant_of-result c =
    let bits = ap (λ (room : TtiRoom). room.coding.bits) c.most_room-room.ensures.value in
    let cells = ap (λ (room : TtiRoom). room.cells) c.most_room-room.ensures.value in
    within_empty c.args.accepted.now Down (length c.in_ok-open.field-0.coded.items) (length c.in_ok-open.field-0.tti.items) c.in_ok-tti_buffers.field-0.items
    (omega (arith, bits, c.in_ok-open.ensures.bits)) (omega (arith, cells, c.in_ok-open.ensures.cells)) c.in_ok-tti_buffers.ensures

pub returns : goal.returns
returns c = tti_empty c.args.accepted.now Down (tti_cells c.args.accepted.now) c.in_ok-tti_buffers.field-0.items c.in_ok-tti_buffers.ensures
