use Rattle.std.proofs.Common.{sym, arith}
use Rattle.dch_collision.proofs.Following.{fits_from, other_format, one_changes}
use Rattle.dch_collision.proofs.fitting.fits.Goals as goal

pub returns-then-number-format : goal.returns-then-number-format
returns-then-number-format c =
    other_format c.args.side.now c.args.channel c.args.format c.args.frame c.args.previous c.args.combination (λ same. c.if-number-format.true (cc))

pub returns-then-not-stays : goal.returns-then-not-stays
returns-then-not-stays c =
    one_changes c.args.side.now c.args.channel c.args.format c.args.frame c.args.previous c.args.combination c.loop-i.i (omega arith) (cc)

pub returns : goal.returns
returns c =
    sym (fits_from c.args.side.now c.args.channel c.args.format c.args.frame c.args.previous c.args.combination (cc) (λ j inside. c.loop-i.invariant j (omega arith)))
