use Rattle.std.proofs.Common.{◌∙◌, ap, sym}
use Rattle.dch_damage.specs.Tables.{radio_arrived}
use Rattle.dch_link.specs.Hearing.{radio_heard}
use Rattle.dch_link.specs.SoftValues.{LegParts}
use Rattle.dch_link.specs.contracts.leg.Leg.{the_view}
use Rattle.dch_link.proofs.Arriving.{radio_same}
use Rattle.dch_link.proofs.leg.Leg.radio.Goals as goal

pub returns : goal.returns
returns c =
    let it : LegParts = the_view c.self.inside in
    sym (radio_same c.radio.result) ∙ c.radio.ensures ∙ ap (radio_arrived it.damage) (radio_same c.sent.result ∙ c.sent.ensures) ∙ ap radio_heard c.self.view_is
