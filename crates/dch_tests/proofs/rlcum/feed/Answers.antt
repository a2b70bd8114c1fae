use Rattle.std.proofs.Common.{arith}
use Rattle.dch_rlcum.proofs.Parts.{text_size}
use Rattle.dch_tests.proofs.rlcum.feed.Goals as goal

pub pdu-requires-clause-small : goal.pdu-requires-clause-small
pdu-requires-clause-small c = omega (arith, c.requires, text_size c.args.p.now c.in-Ok.view c.in-Ok.ensures.text)
