use Rattle.std.proofs.Common.{subst, sym}
use Rattle.dch_am.specs.Entities.{Come, pdu_of, step}
use Rattle.dch_pair.specs.EntityStanding.{size_of, waiting_in}
use Rattle.dch_indication.specs.Told.{Told}
use Rattle.dch_layer2.specs.Acknowledged.{entity_of}
use Rattle.dch_layer2.proofs.AmSides.{heard_lines, heard_told}
use Rattle.dch_layer2.proofs.am.receive.Goals as goal

pub returns-clause-told : goal.returns-clause-told
returns-clause-told g c rules s r is =
    subst (λ ls. Told g.U.Indications.shows c.args.user.now ls c.tell_outside_if-2.new.user)
    (sym (heard_lines rules c.args.dir c.args.bearer (size_of c.args.entity.now) c.args.view.now s r c.receive-received.new.self c.receive-received.result
    (c.receive-received.ensures.answer rules (entity_of s r) is) (c.receive-received.ensures.stands rules (entity_of s r) is)))
    (heard_told g.U.Indications.shows c.args.dir c.args.bearer c.receive-received.result (waiting_in c.receive-received.new.self) c.args.user.now c.tell_outside_if.new.user c.hand_up.new.user c.tell_outside_if-2.new.user c.outside_first.result c.outside_last.result
    c.outside_first.ensures c.outside_last.ensures c.tell_outside_if.ensures c.hand_up.ensures.told c.tell_outside_if-2.ensures)

pub returns-clause-sides : goal.returns-clause-sides
returns-clause-sides g c rules s r is =
    c.hand_up.ensures.history rules (step rules (size_of c.args.entity.now) (entity_of s r) (Come (pdu_of c.args.view.now))) (c.receive-received.ensures.stands rules (entity_of s r) is)
