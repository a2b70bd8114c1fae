use Rattle.std.proofs.Common.{◌∙◌, ap, sym}
use Rattle.dch_damage.specs.Tables.{iub_arrived}
use Rattle.dch_link.specs.Hearing.{iub_heard}
use Rattle.dch_link.specs.SoftValues.{LegParts}
use Rattle.dch_link.specs.contracts.leg.Leg.{the_view}
use Rattle.dch_link.proofs.Arriving.{octets_same}
use Rattle.dch_link.proofs.leg.Leg.iub.Goals as goal

pub returns : goal.returns
returns c =
    let it : LegParts = the_view c.self.inside in
    sym (octets_same c.iub-2.result) ∙ c.iub-2.ensures ∙ ap (iub_arrived it.damage) (octets_same c.iub.result ∙ c.iub.ensures) ∙ ap (λ (leg : LegParts). iub_heard leg c.args.set) c.self.view_is
