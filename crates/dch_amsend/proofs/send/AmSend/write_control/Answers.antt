use Rattle.std.proofs.Common.{◌≡◌, ◌-◌, ◌∙◌, subst, sym, true, ap}
use Rattle.dch_am.specs.Numbers.{wrapped}
use Rattle.dch_rlcpdu.specs.declared.am.AmView.TheVariants.{Status}
use Rattle.dch_rlcpdu.proofs.AmPdus.{am_back, status_written}
use Rattle.dch_rlcpdu.specs.Fields.{mrw_fields}
use Rattle.dch_rlcpdu.specs.Writing.{mrw_text}
use Rattle.dch_retx.specs.RetxBuffer.{is_due}
use Rattle.dch_retx.proofs.Ticking.{due_is}
use Rattle.dch_amsend.specs.Standing.{Sending, Stands}
use Rattle.dch_amsend.proofs.Sending.{moving_stands, mrw_by}
use Rattle.dch_am.specs.SenderHistory.{Move}
use Rattle.dch_amsend.proofs.Histories.{happened}
use Rattle.dch_amsend.proofs.send.AmSend.write_control.Goals as goal

pub returns-clause-stands : goal.returns-clause-stands
returns-clause-stands c = λ rules s is.
    let v : Sending = record { outgoing = c.self.inside.outgoing; sdu_discard = c.self.inside.discard; rules = c.self.inside.rules } in
    let here : Stands rules v s = subst (λ x. Stands rules x s) (sym c.self.view_is) is in
    let due : is_due c.self.inside.outgoing.line.running ≡ true = subst (λ (x : Sending). is_due x.outgoing.line.running ≡ true) (sym c.self.view_is) c.requires.due in
    moving_stands rules v s c.write_mrw.new.self here (sym (due_is rules c.self.inside.outgoing.line s here.outgoing.line) ∙ due) c.write_mrw.ensures.size (λ x e. (c.write_mrw.ensures.history rules (c.self.inside.outgoing.size - 2) s x here.outgoing e).2)

pub returns-clause-mrw : goal.returns-clause-mrw
returns-clause-mrw c = λ rules s is.
    let v : Sending = record { outgoing = c.self.inside.outgoing; sdu_discard = c.self.inside.discard; rules = c.self.inside.rules } in
    let here : Stands rules v s = subst (λ x. Stands rules x s) (sym c.self.view_is) is in
    let due : is_due c.self.inside.outgoing.line.running ≡ true = subst (λ (x : Sending). is_due x.outgoing.line.running ≡ true) (sym c.self.view_is) c.requires.due in
    mrw_by s c.write_mrw.new.out (sym (due_is rules c.self.inside.outgoing.line s here.outgoing.line) ∙ due) (λ x e.
    let written = c.write_mrw.ensures.history rules (c.self.inside.outgoing.size - 2) s x here.outgoing e in
    record { text = written.0; read = am_back c.write_mrw.new.out (Status (mrw_fields (wrapped x.k) x.n)) (status_written c.write_mrw.new.out (mrw_text (wrapped x.k) x.n) (mrw_fields (wrapped x.k) x.n) written.0 written.1) })

pub returns-clause-history : goal.returns-clause-history
returns-clause-history c = λ rules events. happened rules events Move c.args.self.now _ (c.write_mrw.ensures.size ∙ ap (λ (x : Sending). x.outgoing.size) c.self.view_is) (returns-clause-stands c rules)
