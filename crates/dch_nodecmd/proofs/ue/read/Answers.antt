use Rattle.dch_types.specs.declared.channel.Dir.TheVariants.{Up}
use Rattle.dch_nodecmd.proofs.Senders.{sends}
use Rattle.dch_nodecmd.proofs.ue.read.Goals as goal

pub returns-in-Unit-clause-comes : goal.returns-in-Unit-clause-comes
returns-in-Unit-clause-comes c =
    let good = rw c.in-Unit.is at c.requires.good in
    let has = sends c.args.accepted.now.config Up c.in-Unit.bearer good.1.0 in
    record { there = has.0; sends = has.1 }
