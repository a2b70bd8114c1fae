use Rattle.std.proofs.Common.{length}
use Rattle.dch_rlcpdu.specs.Am.{reset_written}
use Rattle.dch_rlcpdu.proofs.AmPdus.{am_back, reset_written_is}
use Rattle.dch_rlcpdu.proofs.reset.write_reset.Goals as goal

pub returns-clause-back : goal.returns-clause-back
returns-clause-back c = reset_written_is c.args.ack c.args.rsn c.args.hfni (length c.args.out.now) _ c.requires.number c.write_octets.ensures

pub returns-clause-reading : goal.returns-clause-reading
returns-clause-reading c = am_back _ (reset_written c.args.ack c.args.rsn c.args.hfni) (returns-clause-back c)
