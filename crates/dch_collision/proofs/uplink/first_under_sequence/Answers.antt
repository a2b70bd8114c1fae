use Rattle.std.proofs.Common.{◌≡◌, ◌≤◌, ◌∙◌, List, Bool, length, arith, ap, subst, sym}
use Rattle.dch_coding.specs.declared.room.CodingRoom.{CodingRoom}
use Rattle.dch_collision.specs.Copies.{uplink_copies}
use Rattle.dch_collision.specs.declared.shape.Shape.{Shape}
use Rattle.dch_collision.proofs.Under.{AreFlags, if_some, found_under, clear_under, front_is}
use Rattle.dch_collision.proofs.uplink.first_under_sequence.Goals as goal

pub returns-clause-some : goal.returns-clause-some
returns-clause-some c =
    let side = c.args.config.now.side in
    let sent = uplink_copies c.args.config.now in
    let shape : Shape = c.args.shape.now in
    let room : shape.padded ≤ length c.flag.new.sent_flags = omega (arith, c.requires.fits.bits, ap (λ (room : CodingRoom). room.bits) c.room.view_is, c.deref_mut-2.ensures.len, c.flag.auto.sent_flags) in
    let same : c.deref.result.now ≡ c.flag.new.sent_flags = c.deref.ensures.value ∙ front_is _ c.flag.new.sent_flags _ (omega (arith, c.flag.auto.sent_flags, c.deref_mut-2.ensures.len)) in
    let flags : AreFlags (sent c.args.i c.args.f c.args.sequence.now) shape shape.padded c.flag.new.sent_flags = record {
      whole = omega (arith, c.requires.shape.whole, c.requires.shape.fits);
      room = room;
      shown = c.flag.ensures;
    } in
    if_some c.first_collision.result
    (λ r first. found_under side sent c.args.i c.args.f shape.padded r c.args.sequence.now shape c.deref.result.now _ c.requires.shape
    (subst (λ (sent_flags : List Bool). AreFlags (sent c.args.i c.args.f c.args.sequence.now) shape shape.padded sent_flags) (sym same) flags) first)
    c.first_collision.ensures.some

pub returns-clause-none : goal.returns-clause-none
returns-clause-none c none =
    let side = c.args.config.now.side in
    let sent = uplink_copies c.args.config.now in
    let shape : Shape = c.args.shape.now in
    let room : shape.padded ≤ length c.flag.new.sent_flags = omega (arith, c.requires.fits.bits, ap (λ (room : CodingRoom). room.bits) c.room.view_is, c.deref_mut-2.ensures.len, c.flag.auto.sent_flags) in
    let same : c.deref.result.now ≡ c.flag.new.sent_flags = c.deref.ensures.value ∙ front_is _ c.flag.new.sent_flags _ (omega (arith, c.flag.auto.sent_flags, c.deref_mut-2.ensures.len)) in
    let flags : AreFlags (sent c.args.i c.args.f c.args.sequence.now) shape shape.padded c.flag.new.sent_flags = record {
      whole = omega (arith, c.requires.shape.whole, c.requires.shape.fits);
      room = room;
      shown = c.flag.ensures;
    } in
    clear_under side sent c.args.i c.args.f shape.padded c.args.sequence.now shape c.deref.result.now c.requires.shape
    (subst (λ (sent_flags : List Bool). AreFlags (sent c.args.i c.args.f c.args.sequence.now) shape shape.padded sent_flags) (sym same) flags) (c.first_collision.ensures.none none)
