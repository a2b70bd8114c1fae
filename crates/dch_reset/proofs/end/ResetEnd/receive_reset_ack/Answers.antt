use Rattle.std.proofs.Common.{◌≡◌, ◌∙◌, true, cond, None, ap, refl, subst, sym}
use Rattle.dch_reset.specs.Ends.{is_asked}
use Rattle.dch_reset.specs.Standing.{Represents, Running, pending_of}
use Rattle.dch_reset.specs.State.{restarted}
use Rattle.dch_reset.proofs.end.ResetEnd.receive_reset_ack.Goals as goal

pub returns-clause-stands : goal.returns-clause-stands
returns-clause-stands c rules e is =
    let i = c.self.inside in
    let v : Running = record { entity = i.entity; pending = pending_of i.pending; next_rsn = i.next_rsn; heard = i.heard; owes = i.owes; restarts = i.restarts; hfni = i.hfni } in
    let here : Represents rules v e = subst (λ x. Represents rules x e) (sym c.self.view_is) is in
    let asked : is_asked e.pending c.args.rsn ≡ true = ap (λ p. is_asked p c.args.rsn) (sym here.pending) ∙ sym c.if-not-is_asked.ensures in
    subst (λ t. Represents rules c.restart.new.self (cond t (record (restarted rules e) { pending = None }) e)) (sym asked)
    (c.restart.ensures.stands rules (record e { pending = None }) (record { entity = here.entity; pending = refl; next_rsn = here.next_rsn; heard = here.heard; owes = here.owes; restarts = here.restarts; hfni = here.hfni }))
