use Rattle.std.proofs.Common.{arith, length-take, sym, ◌∙◌}
use Rattle.dch_stages.proofs.Blocks.{no_bits, some_bits, word_of_bits}
use Rattle.dch_stages.proofs.handler.read_blocks.Goals as goal

pub read_tfci-requires : goal.read_tfci-requires
read_tfci-requires c = word_of_bits c.args.count _ c.args.text.now (omega (arith, c.if-count-eq0.false)) (omega (arith, length-take c.args.count c.args.room.now, c.requires.room)) c.requires.text

pub returns-then-count-eq0-clause-bits : goal.returns-then-count-eq0-clause-bits
returns-then-count-eq0-clause-bits c = sym (no_bits c.args.count c.args.text.now c.if-count-eq0.true c.requires.text)

pub returns-else-count-eq0-clause-bits : goal.returns-else-count-eq0-clause-bits
returns-else-count-eq0-clause-bits c = c.read_tfci.ensures.bits ∙ some_bits c.args.count c.args.text.now (omega (arith, c.if-count-eq0.false)) c.requires.text
