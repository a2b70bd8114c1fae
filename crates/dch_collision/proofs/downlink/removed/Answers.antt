use Rattle.std.proofs.Common.{arith}
use Rattle.dch_collision.specs.Copies.{downlink_copies}
use Rattle.dch_collision.proofs.Under.{if_some, found_under, clear_under}
use Rattle.dch_collision.proofs.downlink.removed.Goals as goal

pub returns-clause-some : goal.returns-clause-some
returns-clause-some c =
    let side = c.args.config.now.side in
    let sent = downlink_copies c.args.config.now in
    let shape = c.args.shape.now in
    if_some c.first_collision.result
    (λ r first sequence. found_under side sent c.args.i c.args.f shape.bits r sequence shape c.flag.new.sent_flags _ c.requires.shape
    (record {
      whole = omega (arith, c.requires.shape.whole);
      room = omega (arith, c.requires.shape.few, c.requires.shape.fits, c.flag.auto.sent_flags, c.requires.sent_flags);
      shown = c.flag.ensures sequence;
    }) first)
    c.first_collision.ensures.some

pub returns-clause-none : goal.returns-clause-none
returns-clause-none c none sequence =
    let side = c.args.config.now.side in
    let sent = downlink_copies c.args.config.now in
    let shape = c.args.shape.now in
    clear_under side sent c.args.i c.args.f shape.bits sequence shape c.flag.new.sent_flags c.requires.shape
    (record {
      whole = omega (arith, c.requires.shape.whole);
      room = omega (arith, c.requires.shape.few, c.requires.shape.fits, c.flag.auto.sent_flags, c.requires.sent_flags);
      shown = c.flag.ensures sequence;
    }) (c.first_collision.ensures.none none)
