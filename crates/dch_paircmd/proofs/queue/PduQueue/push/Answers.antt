use Rattle.std.proofs.Common.{◌<◌, ap, length, arith, subst, sym}
use Rattle.std.proofs.lemmas.List.{length-map}
use Rattle.dch_paircmd.specs.Queues.{IsQueue, octets_of}
use Rattle.dch_paircmd.proofs.Queues.{pushed}
use Rattle.dch_paircmd.proofs.queue.PduQueue.push.Goals as goal

pub invariant_of-self : goal.invariant_of-self
invariant_of-self c =
    let few : length c.self.inside.pdus.items < 1024 = omega (arith, c.requires.room, ap length c.self.view_is, length-map c.self.inside.pdus.items octets_of) in
    subst IsQueue (sym c.push_back.ensures.items) (pushed c.self.inside.pdus c.new.result c.self.invariant few c.new.ensures.size)
