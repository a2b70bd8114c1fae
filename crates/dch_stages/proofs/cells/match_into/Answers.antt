use Rattle.std.proofs.Common.{◌∙◌, arith}
use Rattle.dch_bits.specs.declared.bit.Trit.TheVariants.{Off}
use Rattle.dch_frame.specs.Stages.{origin_of}
use Rattle.dch_frame.proofs.KeptBits.{origin_of-inside}
use Rattle.dch_stages.proofs.cells.match_into.Goals as goal

pub returns : goal.returns
returns c p inside =
    let origin = origin_of-inside c.args.pattern.now p (omega (arith, inside, c.rate_match.auto.out, c.requires.room)) in
    c.rate_match.ensures p Off inside ∙ c.show.ensures (origin_of c.args.pattern.now p) (omega (arith, origin, c.show.auto.out, c.requires.shown, c.requires.coded))
