use Rattle.dch_pair.specs.EntityStanding.{size_in}
use Rattle.dch_pair.proofs.Sizes.{read_small}
use Rattle.dch_bench.proofs.rlc.take.Goals as goal

pub receive-requires-clause-small : goal.receive-requires-clause-small
receive-requires-clause-small c = read_small c.args.pdu.now c.in-Ok.view (size_in c.args.entity.now) c.in-Ok.ensures.text c.requires
