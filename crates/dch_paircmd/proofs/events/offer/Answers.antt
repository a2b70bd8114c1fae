use Rattle.std.proofs.Common.{inr, refl}
use Rattle.dch_types.specs.declared.bearer.Mode.TheVariants.{Am}
use Rattle.dch_lines.proofs.Units.{unit_of_octets}
use Rattle.dch_paircmd.proofs.Leading.{given}
use Rattle.dch_paircmd.proofs.events.offer.Goals as goal

pub read_octets-unit-requires-clause-within : goal.read_octets-unit-requires-clause-within
read_octets-unit-requires-clause-within g c = unit_of_octets Am c.args.hex.now (inr refl) c.requires.hex

pub returns-clause-leads : goal.returns-clause-leads
returns-clause-leads g c rules s far are =
    given g.P.Page.writes rules s c.args.end c.args.hex.now c.read_octets-unit.result.now c.args.near.now far c.offer-answer.new.self c.offer-answer.result c.args.page.now c.put_offer.new.page are c.read_octets-unit.ensures
    (c.offer-answer.ensures.answer rules s.near are.one) (c.offer-answer.ensures.stands rules s.near are.one) c.put_offer.ensures
