use Rattle.std.proofs.Common.{◌∙◌, subst, sym}
use Rattle.dch_reset.specs.Standing.{Represents, Running, pending_of}
use Rattle.dch_reset.proofs.Ends.{capped_more, hfni_more}
use Rattle.dch_reset.proofs.end.ResetEnd.restart.Goals as goal

pub returns-clause-stands : goal.returns-clause-stands
returns-clause-stands c rules e is =
    let i = c.self.inside in
    let v : Running = record { entity = i.entity; pending = pending_of i.pending; next_rsn = i.next_rsn; heard = i.heard; owes = i.owes; restarts = i.restarts; hfni = i.hfni } in
    let here : Represents rules v e = subst (λ x. Represents rules x e) (sym c.self.view_is) is in
    record {
      entity = c.restart.ensures.stands rules e.entity here.entity;
      pending = here.pending;
      next_rsn = here.next_rsn;
      heard = here.heard;
      owes = here.owes;
      restarts = c.saturating_add-self-inside.ensures ∙ capped_more e.restarts i.restarts here.restarts;
      hfni = hfni_more e.restarts i.hfni here.hfni;
    }
