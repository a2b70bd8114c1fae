use Rattle.std.proofs.Common.{arith}
use Rattle.dch_handle.proofs.Pulled.{first_within, others_left}
use Rattle.dch_handle.proofs.queue.Queue.pull.Goals as goal

pub take-requires-clause-there : goal.take-requires-clause-there
take-requires-clause-there c =
    omega (arith, c.requires, first_within c.args.self.now.told c.in-Some.first c.in-Some.ensures.some)
