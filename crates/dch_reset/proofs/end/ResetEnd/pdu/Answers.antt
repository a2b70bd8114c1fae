use Rattle.dch_pair.proofs.Sizes.{read_small}
use Rattle.dch_reset.specs.Standing.{size_in}
use Rattle.dch_reset.proofs.end.ResetEnd.pdu.Goals as goal

pub receive-requires-clause-small : goal.receive-requires-clause-small
receive-requires-clause-small c = read_small c.args.p.now c.in-Ok.view (size_in c.args.self.now) c.in-Ok.ensures.text c.requires.size
