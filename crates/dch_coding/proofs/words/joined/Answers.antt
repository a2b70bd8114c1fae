use Rattle.std.proofs.Common.{arith}
use Rattle.dch_coding.proofs.Gathered.{octets_joined}
use Rattle.dch_coding.proofs.words.joined.Goals as goal

pub returns : goal.returns
returns c = rw (c.from.ensures, c.from-2.ensures, c.from-3.ensures, c.from-4.ensures) (octets_joined c.args.a c.args.b c.args.c c.args.d (omega arith) (omega arith) (omega arith) (omega arith))
