use Rattle.std.proofs.Common.{◌-◌, subst, sym}
use Rattle.dch_amsend.specs.Standing.{Sending, Stands}
use Rattle.dch_amsend.proofs.send.AmSend.is_due.Goals as goal

pub returns-clause-due : goal.returns-clause-due
returns-clause-due c = λ rules s is.
    let v : Sending = record { outgoing = c.self.inside.outgoing; sdu_discard = c.self.inside.discard; rules = c.self.inside.rules } in
    let here : Stands rules v s = subst (λ x. Stands rules x s) (sym c.self.view_is) is in
    c.is_due.ensures.history rules (c.self.inside.outgoing.size - 2) s here.outgoing
