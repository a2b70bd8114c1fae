-- What the rows of a run's text hand up of a bearer, where just what was given is taken of its channels.
use Rattle.std.proofs.Common.{◌≡◌, ◌<◌, ◌^◌, ◌∙◌, ℕ, List, length, take, ap, sym}
use Rattle.dch_types.specs.declared.channel.Dir.{Dir}
use Rattle.dch_types.specs.declared.channel.Dir.TheVariants.{Up, Down}
use Rattle.dch_types.specs.declared.config.Config.{Config}
use Rattle.dch_accept.specs.Plans.{Planned}
use Rattle.dch_node.specs.Lines.{Line}
use Rattle.dch_amlaw.specs.Pair.{At, Pair}
use Rattle.dch_amlaw.proofs.Short.{AreShort, BothRead, always_short}
use Rattle.dch_layer2.specs.Bearings.{pdu_octets, rules_in}
use Rattle.dch_layer2.specs.UnitLines.{unit_lines}
use Rattle.dch_linkcmd.specs.LinkLink.{LinkState}
use Rattle.dch_runlaw.specs.Ended.{marked_units}
use Rattle.dch_runlaw.specs.History.{IsAmBearer, pair_after}
use Rattle.dch_runlaw.specs.Lines.{lines_of}
use Rattle.dch_runlaw.specs.Rows.{gots, rows_of}
use Rattle.dch_runlaw.specs.UmHistory.{got_lines, pdus_of}
use Rattle.dch_runlaw.proofs.Bearers.{is_am_bearer}
use Rattle.dch_runlaw.proofs.Small.{gots_bits, gots_units}
use Rattle.dch_runlaw.specs.HonestBearers.{AreOf, HasTmDown, HasTmUp, HasUmDown, HasUmUp, HasWholeHistory, IsAcknowledged, IsTransparent, IsUnacknowledged, Parts, active, calls_reached, down_way, nodes_reached, up_way}
use Rattle.dch_runlaw.specs.TextTold.{IsRead}
use Rattle.dch_runlaw.proofs.Handed.{are_reached}
use Rattle.dch_runlaw.proofs.HeadlineHandedUp.{got_short, low}
use Rattle.dch_runlaw.specs.UndamagedHandedUp.{HandsUpMarked, HandsUpSent, HandsUpWhole, ended_units}

-- the rows of lines that hand up units
unit_rows : (dir : Dir) (b : ℕ) (lines : List Line) (got units : List (List ℕ)) → lines ≡ unit_lines dir b got → AreShort got → got ≡ units → rows_of (gots dir b lines) ≡ rows_of (got_lines dir b units)
unit_rows dir b lines got units is short same =
    ap (λ (l : List Line). rows_of (gots dir b l)) (is ∙ got_short dir b got short) ∙ ap rows_of (gots_units dir b got) ∙ ap (λ (l : List (List ℕ)). rows_of (got_lines dir b l)) same

-- the rows of an acknowledged bearer's units
pub am_rows : (parts : Parts) (b up down : ℕ) (link : LinkState) (text : List ℕ) → IsAcknowledged (active parts) b up down → HasWholeHistory parts b up down link → IsRead link text → HandsUpWhole parts b up down link text
am_rows parts b up down link text is has read =
    let config : Config = (active parts).config in
    let calls : List At = calls_reached b parts link has.reached in
    let p : Pair = pair_after config Up Down b calls in
    let are : AreOf link (nodes_reached parts link has.reached) = are_reached parts link has.reached in
    let bearer : IsAmBearer config Up Down b up down = is_am_bearer config b up down is.good is.there is.mode is.up_is is.down_is in
    let short : BothRead p = always_short (rules_in config b) (pdu_octets config Up b) (pdu_octets config Down b) calls bearer.window in
    let few : b < 2 ^ 64 = low (length config.bearers) b is.there is.good.few in
    record {
      units = has;
      up_rows = read.up b few ∙ unit_rows Up b (lines_of b link.rnc.lines) p.far.entity.receiver.reading.units (ended_units p.near p.far) (ap (lines_of b) (sym are.rnc_lines) ∙ has.history.pair.far.lines) short.far has.history.whole.near_far.units;
      down_rows = read.down b few ∙ unit_rows Down b (lines_of b link.ue.lines) p.near.entity.receiver.reading.units (ended_units p.far p.near) (ap (lines_of b) (sym are.ue_lines) ∙ has.history.pair.near.lines) short.near has.history.whole.far_near.units;
    }

-- those of an unacknowledged one
pub um_rows_up : (planned : Planned) (b i : ℕ) (link : LinkState) (text : List ℕ) → IsUnacknowledged planned Up b i → HasUmUp planned b i link → IsRead link text → HandsUpMarked planned.config Up b i link.ue.state.layer link.rnc.lines (up_way planned i link) text
um_rows_up planned b i link text is has read = record {
  units = has;
  rows_are = read.up b (low (length planned.config.bearers) b is.there is.good.few) ∙ ap rows_of (ap (gots Up b) has.lines ∙ gots_units Up b (marked_units (take has.came (pdus_of has.sends)) 0 has.sends.accepted));
}

pub um_rows_down : (planned : Planned) (b i : ℕ) (link : LinkState) (text : List ℕ) → IsUnacknowledged planned Down b i → HasUmDown planned b i link → IsRead link text → HandsUpMarked planned.config Down b i link.rnc.state.layer link.ue.lines (down_way planned i link) text
um_rows_down planned b i link text is has read = record {
  units = has;
  rows_are = read.down b (low (length planned.config.bearers) b is.there is.good.few) ∙ ap rows_of (ap (gots Down b) has.lines ∙ gots_units Down b (marked_units (take has.came (pdus_of has.sends)) 0 has.sends.accepted));
}

-- and those of a transparent one
pub tm_rows_up : (planned : Planned) (b i : ℕ) (link : LinkState) (text : List ℕ) → IsTransparent planned Up b i → HasTmUp planned b i link → IsRead link text → HandsUpSent planned.config Up b i link.ue.state.layer link.rnc.lines (up_way planned i link) text
tm_rows_up planned b i link text is has read = record {
  units = has;
  rows_are = read.up b (low (length planned.config.bearers) b is.there is.good.few) ∙ ap rows_of (ap (gots Up b) has.lines ∙ gots_bits Up b has.handed);
}

pub tm_rows_down : (planned : Planned) (b i : ℕ) (link : LinkState) (text : List ℕ) → IsTransparent planned Down b i → HasTmDown planned b i link → IsRead link text → HandsUpSent planned.config Down b i link.rnc.state.layer link.ue.lines (down_way planned i link) text
tm_rows_down planned b i link text is has read = record {
  units = has;
  rows_are = read.down b (low (length planned.config.bearers) b is.there is.good.few) ∙ ap rows_of (ap (gots Down b) has.lines ∙ gots_bits Down b has.handed);
}
