use Rattle.std.proofs.Common.{◌≡◌, ◌∙◌, false, true, cond, Some, ap, refl, subst, sym}
use Rattle.dch_reset.specs.Ends.{is_heard}
use Rattle.dch_reset.specs.Standing.{Represents, Running, pending_of}
use Rattle.dch_reset.specs.State.{restarted}
use Rattle.dch_reset.proofs.end.ResetEnd.receive_reset.Goals as goal

pub returns-clause-stands : goal.returns-clause-stands
returns-clause-stands c rules e is =
    let i = c.self.inside in
    let v : Running = record { entity = i.entity; pending = pending_of i.pending; next_rsn = i.next_rsn; heard = i.heard; owes = i.owes; restarts = i.restarts; hfni = i.hfni } in
    let here : Represents rules v e = subst (λ x. Represents rules x e) (sym c.self.view_is) is in
    let new : is_heard e.heard c.args.rsn ≡ false = ap (λ h. is_heard h c.args.rsn) (sym here.heard) ∙ sym c.if-is_heard.ensures in
    subst (λ t. Represents rules c.restart.new.self (cond t (record e { owes = true }) (record (restarted rules e) { heard = Some c.args.rsn; owes = true }))) (sym new)
    (c.restart.ensures.stands rules (record e { heard = Some c.args.rsn; owes = true }) (record { entity = here.entity; pending = here.pending; next_rsn = here.next_rsn; heard = refl; owes = refl; restarts = here.restarts; hfni = here.hfni }))
