use Rattle.dch_rlcum.proofs.Received.{receiver_more}
use Rattle.dch_rlcum.proofs.receive.UmRecv.pdu.Goals as goal

pub returns-clause-history : goal.returns-clause-history
returns-clause-history c = λ pdus handed is. receiver_more pdus handed c.args.self.now c.take.new.self c.args.p.now c.requires.settled c.take.ensures is
