use Rattle.std.proofs.Common.{ap, ◌∙◌}
use Rattle.dch_rlcum.specs.Receiving.{handed_of, written}
use Rattle.dch_rlcum.proofs.Received.{receiver_handed}
use Rattle.dch_rlcum.proofs.receive.UmRecv.next_unit.Goals as goal

pub returns-clause-history : goal.returns-clause-history
returns-clause-history c = λ pdus handed is. receiver_handed pdus handed c.args.self.now c.hand_up.new.self c.hand_up.result c.hand_up.ensures.answer c.hand_up.ensures.rest is

pub returns-clause-next : goal.returns-clause-next
returns-clause-next c = λ pdus handed is. c.hand_up.ensures.answer ∙ ap handed_of is.waiting

pub returns-clause-octets : goal.returns-clause-octets
returns-clause-octets c = λ pdus handed is. c.hand_up.ensures.unit ∙ ap (λ us. written us c.args.out.now) is.waiting
