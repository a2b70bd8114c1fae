use Rattle.std.proofs.Common.{◌≡◌, ◌∙◌, ap, subst, sym}
use Rattle.dch_am.specs.Entities.{offers_to_send}
use Rattle.dch_layer2.specs.Acknowledged.{AmRunning, HasSides, entity_of}
use Rattle.dch_layer2.specs.contracts.am.AmBearer.{the_view}
use Rattle.dch_layer2.proofs.am.AmBearer.head.Goals as goal

pub returns-clause-count : goal.returns-clause-count
returns-clause-count c rules s r is =
    let here : HasSides rules s r (the_view c.self.inside) = subst (λ (x : AmRunning). HasSides rules s r x) (sym c.self.view_is) is in
    subst (λ (x : AmRunning). c.available.result ≡ offers_to_send rules x.shape.octets (entity_of s r)) c.self.view_is
    (c.available.ensures.answer rules (entity_of s r) here.entity ∙ ap (λ n. offers_to_send rules n (entity_of s r)) c.self.invariant.octets)
