use Rattle.std.proofs.Common.{◌*◌, ◌∙◌, ◌∷◌, Some, ap, refl, subst, sym}
use Rattle.dch_am.specs.Telling.{tells_now}
use Rattle.dch_rlcpdu.specs.Writing.{IsText}
use Rattle.dch_amrecv.specs.Holding.{after_telling, fields_told, plain_due}
use Rattle.dch_amrecv.specs.Standing.{IsSame}
use Rattle.dch_amrecv.specs.Texts.{text_told}
use Rattle.dch_amrecv.proofs.Tells.{fields_are, heard, text_is, told_stands}
use Rattle.dch_am.specs.ReceiverHistory.{Tell, receiver_step}
use Rattle.dch_am.specs.Rules.{rules_of}
use Rattle.dch_amrecv.proofs.Histories.{StandsFor, happened}
use Rattle.dch_amrecv.proofs.recv.AmRecv.write_status.Goals as goal

pub returns-clause-fields : goal.returns-clause-fields
returns-clause-fields c given r s =
    c.tell.ensures.fields
    ∙ (ap (λ h. Some (fields_told h.ack (plain_due h) (8 * h.reply) h)) c.self.view_is
    ∙ fields_are c.args.self.now (8 * c.args.self.now.reply) given r c.requires.due s)

pub returns-clause-text : goal.returns-clause-text
returns-clause-text c given r s =
    text_is c.tell.new.out c.args.self.now (8 * c.args.self.now.reply) given r c.requires.due s
    (subst (λ h. IsText c.tell.new.out (0 ∷ text_told h.ack (plain_due h) (8 * h.reply) h)) c.self.view_is c.tell.ensures.text)

pub returns-clause-read : goal.returns-clause-read
returns-clause-read c given r s = heard c.tell.new.out (tells_now (8 * c.args.self.now.reply) r) (returns-clause-fields c given r s) (returns-clause-text c given r s)

pub returns-clause-same : goal.returns-clause-same
returns-clause-same c = subst (IsSame c.args.self.now) (sym (c.tell.ensures.after ∙ ap after_telling c.self.view_is)) (record { rules = refl; pdu = refl; reply = refl })

pub returns-clause-kept : goal.returns-clause-kept
returns-clause-kept c = ap (λ h. h.kept) (c.tell.ensures.after ∙ ap after_telling c.self.view_is)

pub returns-clause-history : goal.returns-clause-history
returns-clause-history c = λ rules events. happened rules events Tell c.args.self.now _ (returns-clause-same c).rules (λ side is. subst (λ h. StandsFor h (receiver_step (rules_of rules.buffer c.args.self.now.rules) side Tell)) (sym (c.tell.ensures.after ∙ ap after_telling c.self.view_is)) (told_stands c.args.self.now rules.buffer side.handed side.receiver is))
