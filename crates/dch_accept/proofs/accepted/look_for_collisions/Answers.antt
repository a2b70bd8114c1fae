use Rattle.std.proofs.Common.{◌≡◌, ◌∙◌, subst, sym}
use Rattle.dch_coding.specs.Rooms.{HoldsSide, wider}
use Rattle.dch_coding.specs.declared.room.CodingRoom.{CodingRoom}
use Rattle.dch_collision.proofs.Uncounted.{uncounted_clear}
use Rattle.dch_accept.proofs.Rooms.{holds_either}
use Rattle.dch_accept.proofs.accepted.look_for_collisions.Goals as goal

pub returns-then-count-eq0 : goal.returns-then-count-eq0
returns-then-count-eq0 c = uncounted_clear c.args.config.now c.requires.good.uplink c.requires.good.downlink (sym c.requires.count ∙ c.if-count-eq0.true)

pub find-requires-2-clause-fits : goal.find-requires-2-clause-fits
find-requires-2-clause-fits c =
    let side = c.args.config.now.downlink.side in
    let room : c.find.new.self ≡ wider c.of_side.result c.of_side-2.result = c.find.ensures.kept ∙ c.in_ok-search.ensures ∙ c.wider-room.ensures in
    subst (λ (room : CodingRoom). HoldsSide room side) (sym room) (holds_either c.of_side.result c.of_side-2.result side c.of_side-2.ensures.holds)
