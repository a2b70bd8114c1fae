use Rattle.std.proofs.Common.{sym, subst}
use Rattle.dch_rlcpdu.specs.Am.{am_reading}
use Rattle.dch_pair.specs.EntityStanding.{Represents}
use Rattle.dch_indication.specs.Told.{Told}
use Rattle.dch_layer2.specs.Hearing.{receiver_of, sender_of}
use Rattle.dch_layer2.specs.Octets.{octets_of}
use Rattle.dch_layer2.specs.Acknowledged.{AmRunning, HasSides, entity_of, lines_on}
use Rattle.dch_layer2.specs.contracts.am.AmBearer.{the_view}
use Rattle.dch_layer2.proofs.Small.{read_is}
use Rattle.dch_layer2.proofs.am.AmBearer.take.Goals as goal

pub returns-clause-told : goal.returns-clause-told
returns-clause-told g c rules s r is =
    let here : HasSides rules s r (the_view c.self.inside) = subst (λ (x : AmRunning). HasSides rules s r x) (sym c.self.view_is) is in
    subst (λ (x : AmRunning). Told g.U.Indications.shows c.args.user.now (lines_on rules x.into x.number (am_reading (octets_of c.args.bits.now)) s r) c.hear.new.user) c.self.view_is
    (subst (λ o. Told g.U.Indications.shows c.args.user.now (lines_on rules c.self.inside.into c.self.inside.number (am_reading o) s r) c.hear.new.user)
    (sym (read_is c.args.bits.now c.read_octets.new.out c.read_octets.ensures.bits c.read_octets.ensures.octets)) (c.hear.ensures.told rules s r here.entity))

pub returns-clause-sides : goal.returns-clause-sides
returns-clause-sides g c rules s r is =
    let here : HasSides rules s r (the_view c.self.inside) = subst (λ (x : AmRunning). HasSides rules s r x) (sym c.self.view_is) is in
    record {
      entity = subst (λ o. Represents rules c.hear.new.entity (entity_of (sender_of rules (am_reading o) s) (receiver_of rules (am_reading o) r))) (sym (read_is c.args.bits.now c.read_octets.new.out c.read_octets.ensures.bits c.read_octets.ensures.octets))
          (c.hear.ensures.sides rules s r here.entity);
    }
