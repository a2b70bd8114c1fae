-- What arrives of the frames of the legs fits where it goes.
use Rattle.std.proofs.Common.{◌<◌, ℕ, List, length, Option, Some, None, sym, subst}
use Rattle.dch_types.specs.declared.channel.Dir.TheVariants.{Down, Up}
use Rattle.dch_accept.specs.Plans.{Planned}
use Rattle.dch_accept.specs.declared.frame.FrameView.{FrameView}
use Rattle.dch_tti.specs.RxFrames.{HasTfci}
use Rattle.dch_txframes.specs.Lending.{radio_of}
use Rattle.dch_damage.specs.Opened.{HasIubRoom, HasRadioRoom}
use Rattle.dch_nodeb.specs.Values.{iub_shown, radio_shown}
use Rattle.dch_node.specs.Values.{Radio}
use Rattle.dch_link.proofs.Arriving.{iub_room, radio_room, tfci_kept}
use Rattle.dch_link.specs.Hearing.{HaveRadioRooms, IsHeard}
use Rattle.dch_link.specs.Legs.{LegState, radio_from}
use Rattle.dch_link.specs.SoftNodes.{AreLegsOf, IsLegOf, RepresentLegs, RepresentsLeg}
use Rattle.dch_link.specs.SoftValues.{LegParts}
use Rattle.dch_link.proofs.Hit.{leg_there}

-- the damage of a leg has room for the radio frame that it sent
pub leg_room : (planned : Planned) (first : ℕ) (state : LegState) (leg : LegParts) → IsLegOf planned leg → RepresentsLeg planned first state leg → HasRadioRoom leg.damage Down (radio_shown leg.node_b)
leg_room planned first state leg opened is =
    subst (λ (r : Option Radio). HasRadioRoom leg.damage Down r) (sym is.node_b.shows.radio) (radio_room planned leg.damage Down state.node_b.last.sent opened.damage is.sends.radio_is)

pub leg_rooms : (planned : Planned) (first : ℕ) (states : ℕ → LegState) (legs : List LegParts) → AreLegsOf planned legs → RepresentLegs planned first states legs → HaveRadioRooms legs
leg_rooms planned first states legs opened are = λ k leg is. leg_room planned first (states k) leg (opened k leg is) (are k leg is)

-- and for the Iub frame of a set
pub leg_iub_room : (planned : Planned) (first : ℕ) (state : LegState) (leg : LegParts) (set : ℕ) → IsLegOf planned leg → RepresentsLeg planned first state leg → set < 8 → HasIubRoom leg.damage Up set (iub_shown leg.node_b set)
leg_iub_room planned first state leg set opened is small =
    subst (λ (o : Option (List ℕ)). HasIubRoom leg.damage Up set o) (sym (is.node_b.shows.iub set small)) (iub_room planned leg.damage Up set (state.node_b.last.iub set) opened.damage small (is.sends.iub_is set small))

-- the radio frame that is heard has as many TFCI bits as the downlink sends
pub heard_tfci : (planned : Planned) (first : ℕ) (states : ℕ → LegState) (legs : List LegParts) (frame : Option FrameView) → RepresentLegs planned first states legs → IsHeard (λ k. radio_from (states k)) (length legs) (radio_of frame) → HasTfci planned Down frame
heard_tfci planned first states legs None are heard = tt
heard_tfci planned first states legs (Some frame) are heard =
    let there = leg_there legs heard.leg heard.there in
    tfci_kept planned Down (states heard.leg).damage (states heard.leg).node_b.last.sent (Some frame) (are heard.leg there.0 there.1).sends.radio_is (sym heard.is)
