use Rattle.std.proofs.Common.{◌+◌, ◌∙◌, ℕ, List, ap, length, subst, sym}
use Rattle.dch_amlaw.proofs.Short.{tick_same}
use Rattle.dch_pair.specs.Standing.{IsPeer, Peer}
use Rattle.dch_pair.proofs.peer.Peer.tick.Goals as goal

pub returns-clause-history : goal.returns-clause-history
returns-clause-history c rules earlier e is =
    let v : Peer = record { entity = c.self.inside.entity; accepted = c.self.inside.accepted; units = c.self.inside.units } in
    let here : IsPeer rules v earlier e = subst (λ v. IsPeer rules v earlier e) (sym c.self.view_is) is in
    record {
      entity = c.tick.ensures.stands rules e here.entity;
      accepted = here.accepted ∙ ap (λ (us : List (List ℕ)). earlier.accepted + length us) (sym (tick_same rules e.sender));
      units = here.units;
    }
