use Rattle.std.proofs.Common.{arith}
use Rattle.dch_dlphy.proofs.Filled.{filled_is}
use Rattle.dch_dlphy.proofs.fill.fill.Goals as goal

pub returns : goal.returns
returns c p inside =
    filled_is c.args.pattern.now c.args.coded.now c.show.new.out c.rate_match.new.out c.leave_off.new.cells p
    (omega (arith, c.rate_match.auto.out, c.split_at_mut-sent.ensures.front_len, c.kept.ensures.sum))
    (omega (arith, c.show.auto.out, c.requires.shown, c.requires.coded))
    c.show.ensures
    (λ k low. c.rate_match.ensures k _ low)
    c.leave_off.ensures
    (omega (arith, inside))
