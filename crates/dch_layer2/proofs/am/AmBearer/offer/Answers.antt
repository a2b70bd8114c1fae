use Rattle.std.proofs.Common.{subst, sym}
use Rattle.dch_layer2.specs.Acknowledged.{AmRunning, HasSides, entity_of}
use Rattle.dch_layer2.specs.contracts.am.AmBearer.{the_view}
use Rattle.dch_layer2.proofs.am.AmBearer.offer.Goals as goal

pub returns-clause-answer : goal.returns-clause-answer
returns-clause-answer c rules s r is =
    let here : HasSides rules s r (the_view c.self.inside) = subst (λ (x : AmRunning). HasSides rules s r x) (sym c.self.view_is) is in
    c.offer.ensures.answer rules (entity_of s r) here.entity

pub returns-clause-sides : goal.returns-clause-sides
returns-clause-sides c rules s r is =
    let here : HasSides rules s r (the_view c.self.inside) = subst (λ (x : AmRunning). HasSides rules s r x) (sym c.self.view_is) is in
    record { entity = c.offer.ensures.stands rules (entity_of s r) here.entity }
