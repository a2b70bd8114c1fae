use Rattle.std.proofs.lemmas.Simd.{length-chunk, get_or-chunk}
use Rattle.dch_trellis.proofs.narrow.lanes_at.Goals as goal

pub returns-clause-long : goal.returns-clause-long
returns-clause-long c = length-chunk c.args.at 8 c.args.numbers.now c.requires

pub returns-clause-value : goal.returns-clause-value
returns-clause-value c = λ i inside. get_or-chunk c.args.at 8 c.args.numbers.now i 0 inside
