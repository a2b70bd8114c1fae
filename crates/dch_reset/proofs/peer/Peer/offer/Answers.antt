use Rattle.std.proofs.Common.{◌≡◌, ◌+◌, ◌++◌, ◌∙◌, length, ap, arith, subst, sym}
use Rattle.dch_reset.specs.History.{state_of}
use Rattle.dch_reset.specs.Ends.{taken_up}
use Rattle.dch_reset.specs.RunStanding.{IsPeer, Peer, size_in, size_of}
use Rattle.dch_reset.proofs.Peers.{offer_count, peer_offers, refused_count}
use Rattle.dch_reset.proofs.peer.Peer.offer.Goals as goal

pub returns-in-Accepted-clause-history : goal.returns-in-Accepted-clause-history
returns-in-Accepted-clause-history c rules e is =
    let v : Peer = record { end = c.self.inside.end; accepted = c.self.inside.accepted; units = c.self.inside.units } in
    let here : IsPeer rules v e = subst (λ v. IsPeer rules v e) (sym c.self.view_is) is in
    peer_offers rules v c.offer.new.self e c.args.unit.now (c.self.inside.accepted + 1) here (c.offer.ensures.stands rules (state_of e) here.end) c.offer.ensures.same.sizes.out
    (offer_count _ e.accepted c.args.unit.now c.self.inside.accepted (c.in-Accepted.ensures.answer rules (state_of e) here.end) here.accepted)

pub returns-in-Full : goal.returns-in-Full
returns-in-Full c =
    let v : Peer = record { end = c.self.inside.end; accepted = c.self.inside.accepted; units = c.self.inside.units } in
    record {
      same = record { out = c.offer.ensures.same.sizes.out ∙ ap size_of c.self.view_is; in_ = c.offer.ensures.same.sizes.in_ ∙ ap size_in c.self.view_is };
      count = omega (arith, ap (λ (x : Peer). x.accepted) c.self.view_is);
      history = λ rules e is.
          let here : IsPeer rules v e = subst (λ v. IsPeer rules v e) (sym c.self.view_is) is in
          peer_offers rules v c.offer.new.self e c.args.unit.now c.self.inside.accepted here (c.offer.ensures.stands rules (state_of e) here.end) c.offer.ensures.same.sizes.out
          (subst (λ o. c.self.inside.accepted ≡ length (e.accepted ++ taken_up o c.args.unit.now)) (c.offer.ensures.answer rules (state_of e) here.end)
          (refused_count c.offer.result e.accepted c.args.unit.now c.self.inside.accepted c.in-Full.is here.accepted));
    }
