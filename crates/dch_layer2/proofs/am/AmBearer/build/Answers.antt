use Rattle.std.proofs.Common.{◌≡◌, ◌∙◌, ap, arith, subst, sym, true}
use Rattle.dch_am.specs.Entities.{IsWritten, turn}
use Rattle.dch_pair.specs.EntityStanding.{is_due}
use Rattle.dch_layer2.specs.Acknowledged.{AmRunning, BuildsAtTurn, HasSides, entity_of}
use Rattle.dch_layer2.specs.contracts.am.AmBearer.{the_view}
use Rattle.dch_layer2.proofs.AmSides.{built_sides}
use Rattle.dch_layer2.proofs.am.AmBearer.build.Goals as goal

pub build-requires-clause-due : goal.build-requires-clause-due
build-requires-clause-due c =
    let here : HasSides c.requires.due.rules c.requires.due.sender c.requires.due.receiver (the_view c.self.inside) =
    subst (λ (x : AmRunning). HasSides c.requires.due.rules c.requires.due.sender c.requires.due.receiver x) (sym c.self.view_is) c.requires.due.sides in
    sym c.is_due-due.ensures.value ∙ (c.is_due-due.ensures.answer c.requires.due.rules (entity_of c.requires.due.sender c.requires.due.receiver) here.entity ∙ sym c.requires.due.some)

pub returns-clause-built : goal.returns-clause-built
returns-clause-built c rules s r is =
    let here : HasSides rules s r (the_view c.self.inside) = subst (λ (x : AmRunning). HasSides rules s r x) (sym c.self.view_is) is in
    let then : HasSides c.requires.due.rules c.requires.due.sender c.requires.due.receiver (the_view c.self.inside) =
    subst (λ (x : AmRunning). HasSides c.requires.due.rules c.requires.due.sender c.requires.due.receiver x) (sym c.self.view_is) c.requires.due.sides in
    let due : is_due c.self.inside.entity ≡ true =
    sym c.is_due-due.ensures.value ∙ (c.is_due-due.ensures.answer c.requires.due.rules (entity_of c.requires.due.sender c.requires.due.receiver) then.entity ∙ sym c.requires.due.some) in
    subst (λ (x : AmRunning). BuildsAtTurn rules s r x (record { number = c.self.inside.number; into = c.self.inside.into; shape = c.self.inside.shape; entity = c.build.new.self }) c.write_block.new.out) c.self.view_is (record {
      octets = c.build.new.out;
      some = sym due ∙ (sym c.is_due-due.ensures.value ∙ c.is_due-due.ensures.answer rules (entity_of s r) here.entity);
      written = subst (λ n. IsWritten (turn rules s r) rules n c.build.new.out s r) c.self.invariant.octets (c.build.ensures.written rules (entity_of s r) here.entity);
      small = c.write_block.ensures.octets;
      long = omega (arith, c.write_block.ensures.long, c.self.invariant.whole.whole, c.requires.size, ap (λ (x : AmRunning). x.shape.bits) c.self.view_is, c.write_block.auto.out);
      block_is = c.write_block.ensures.block;
      sides = record { entity = built_sides rules s r c.self.inside.shape.octets c.self.inside.entity c.build.new.self c.self.invariant.octets (c.build.ensures.stands rules (entity_of s r) here.entity) };
    })
