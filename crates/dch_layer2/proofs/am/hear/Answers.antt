use Rattle.std.proofs.Common.{subst}
use Rattle.dch_pair.specs.EntityStanding.{Represents, size_in}
use Rattle.dch_pair.proofs.Sizes.{read_small}
use Rattle.dch_indication.specs.Told.{Told}
use Rattle.dch_layer2.specs.Hearing.{receiver_of, sender_of}
use Rattle.dch_layer2.specs.Acknowledged.{entity_of, lines_on}
use Rattle.dch_layer2.proofs.am.hear.Goals as goal

pub receive-requires-clause-small : goal.receive-requires-clause-small
receive-requires-clause-small g c = read_small c.args.pdu.now c.in-Ok.view (size_in c.args.entity.now) c.in-Ok.ensures.text c.requires.few

pub returns-in-Ok-clause-told : goal.returns-in-Ok-clause-told
returns-in-Ok-clause-told g c rules s r is =
    subst (λ x. Told g.U.Indications.shows c.args.user.now (lines_on rules c.args.dir c.args.bearer x s r) c.receive.new.user) c.in-Ok.ensures.reading (c.receive.ensures.told rules s r is)

pub returns-in-Ok-clause-sides : goal.returns-in-Ok-clause-sides
returns-in-Ok-clause-sides g c rules s r is =
    subst (λ x. Represents rules c.receive.new.entity (entity_of (sender_of rules x s) (receiver_of rules x r))) c.in-Ok.ensures.reading (c.receive.ensures.sides rules s r is)
