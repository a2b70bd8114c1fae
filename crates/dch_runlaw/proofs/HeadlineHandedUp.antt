-- What the rows of a run's text hand up of a bearer, whatever damage came between.
use Rattle.std.proofs.Common.{◌≡◌, ◌<◌, ◌≤◌, ◌^◌, ◌∙◌, ℕ, List, [], ◌∷◌, cond, length, arith, refl, ap, ap₂, sym}
use Rattle.std.proofs.lemmas.Bool.{le-ltb}
use Rattle.dch_types.specs.declared.channel.Dir.{Dir}
use Rattle.dch_types.specs.declared.channel.Dir.TheVariants.{Up, Down}
use Rattle.dch_accept.specs.Plans.{Planned}
use Rattle.dch_node.specs.Lines.{Got, Line, Overlong}
use Rattle.dch_amlaw.specs.Pair.{At, Pair}
use Rattle.dch_amlaw.proofs.Short.{AreShort, BothRead, always_short}
use Rattle.dch_layer2.specs.Bearings.{pdu_octets, rules_in}
use Rattle.dch_layer2.specs.UnitLines.{unit_lines}
use Rattle.dch_linkcmd.specs.LinkLink.{LinkState}
use Rattle.dch_runlaw.specs.History.{IsAmBearer, events_over, pair_after}
use Rattle.dch_runlaw.specs.Lines.{lines_of}
use Rattle.dch_runlaw.specs.Rows.{gots, rows_of}
use Rattle.dch_runlaw.specs.UmHistory.{got_lines}
use Rattle.dch_runlaw.proofs.Bearers.{is_am_bearer}
use Rattle.dch_runlaw.proofs.Small.{gots_bits, gots_units}
use Rattle.dch_runlaw.specs.Nodes.{Event}
use Rattle.dch_runlaw.specs.HonestBearers.{HasHistory, HasHistoryOver, HasKnownDown, HasKnownDownOver, HasKnownUp, HasKnownUpOver, HasSomeDown, HasSomeDownOver, HasSomeUp, HasSomeUpOver, IsAcknowledged, IsTransparent, IsUnacknowledged}
use Rattle.dch_runlaw.specs.TextTold.{IsRead}
use Rattle.dch_runlaw.specs.HeadlineHandedUp.{HandsUp, HandsUpKnownDown, HandsUpKnownDownOver, HandsUpKnownUp, HandsUpKnownUpOver, HandsUpOver, HandsUpSomeDown, HandsUpSomeDownOver, HandsUpSomeUp, HandsUpSomeUpOver}

pub low : (n b : ℕ) → b < n → n ≤ 16 → b < 2 ^ 64
low n b there few = omega (arith, there, few)

-- units that are not too long
pub got_short : (dir : Dir) (b : ℕ) (us : List (List ℕ)) → AreShort us → unit_lines dir b us ≡ got_lines dir b us
got_short dir b [] h = refl
got_short dir b (u ∷ us) h = ap₂ (λ x l. x ∷ l) (ap (λ t. cond t (Overlong dir b) (Got dir b u)) (le-ltb 1500 (length u) h.0)) (got_short dir b us h.1)

-- the rows of an acknowledged bearer's units
pub am_rows : (planned : Planned) (first b up down : ℕ) (happened : List Event) (link : LinkState) (text : List ℕ) → IsAcknowledged planned b up down → HasHistory planned first b happened link → IsRead link text → HandsUp planned first b happened link text
am_rows planned first b up down happened link text is has read =
    let p : Pair = pair_after planned.config Up Down b has.history.events in
    let bearer : IsAmBearer planned.config Up Down b up down = is_am_bearer planned.config b up down is.good is.there is.mode is.up_is is.down_is in
    let short : BothRead p = always_short (rules_in planned.config b) (pdu_octets planned.config Up b) (pdu_octets planned.config Down b) has.history.events bearer.window in
    let few : b < 2 ^ 64 = low (length planned.config.bearers) b is.there is.good.few in
    record {
      units = has;
      up = read.up b few ∙ ap (λ (l : List Line). rows_of (gots Up b l)) (ap (lines_of b) (sym has.reached.are.rnc_lines) ∙ has.history.pair.far.lines ∙ got_short Up b p.far.entity.receiver.reading.units short.far) ∙ ap rows_of (gots_units Up b p.far.entity.receiver.reading.units);
      down = read.down b few ∙ ap (λ (l : List Line). rows_of (gots Down b l)) (ap (lines_of b) (sym has.reached.are.ue_lines) ∙ has.history.pair.near.lines ∙ got_short Down b p.near.entity.receiver.reading.units short.near) ∙ ap rows_of (gots_units Down b p.near.entity.receiver.reading.units);
    }

-- over two parts
pub am_rows_over : (planned second : Planned) (first b up down : ℕ) (earlier later : List Event) (last link : LinkState) (text : List ℕ) → IsAcknowledged second b up down → HasHistoryOver planned second first b earlier later last link → IsRead link text → HandsUpOver planned second first b earlier later last link text
am_rows_over planned second first b up down earlier later last link text is has read =
    let events : List At = events_over second.config Up Down b has.history.before.events has.history.later in
    let p : Pair = pair_after second.config Up Down b events in
    let bearer : IsAmBearer second.config Up Down b up down = is_am_bearer second.config b up down is.good is.there is.mode is.up_is is.down_is in
    let short : BothRead p = always_short (rules_in second.config b) (pdu_octets second.config Up b) (pdu_octets second.config Down b) events bearer.window in
    let few : b < 2 ^ 64 = low (length second.config.bearers) b is.there is.good.few in
    record {
      units = has;
      up = read.up b few ∙ ap (λ (l : List Line). rows_of (gots Up b l)) (ap (lines_of b) (sym has.reached.are.rnc_lines) ∙ has.history.pair.far.lines ∙ got_short Up b p.far.entity.receiver.reading.units short.far) ∙ ap rows_of (gots_units Up b p.far.entity.receiver.reading.units);
      down = read.down b few ∙ ap (λ (l : List Line). rows_of (gots Down b l)) (ap (lines_of b) (sym has.reached.are.ue_lines) ∙ has.history.pair.near.lines ∙ got_short Down b p.near.entity.receiver.reading.units short.near) ∙ ap rows_of (gots_units Down b p.near.entity.receiver.reading.units);
    }

-- those of an unacknowledged one
pub um_rows_up : (planned : Planned) (first b i : ℕ) (happened : List Event) (link : LinkState) (text : List ℕ) → IsUnacknowledged planned Up b i → HasKnownUp planned first b i happened link → IsRead link text → HandsUpKnownUp planned first b i happened link text
um_rows_up planned first b i happened link text is has read = record {
  units = has;
  rows_are = λ arrives is_came few. read.up b (low (length planned.config.bearers) b is.there is.good.few) ∙ ap (λ (l : List Line). rows_of (gots Up b l)) (ap (lines_of b) (sym has.reached.are.rnc_lines) ∙ has.known.lines arrives is_came few);
}

pub um_rows_down : (planned : Planned) (first b i : ℕ) (happened : List Event) (link : LinkState) (text : List ℕ) → IsUnacknowledged planned Down b i → HasKnownDown planned first b i happened link → IsRead link text → HandsUpKnownDown planned first b i happened link text
um_rows_down planned first b i happened link text is has read = record {
  units = has;
  rows_are = λ arrives is_came few. read.down b (low (length planned.config.bearers) b is.there is.good.few) ∙ ap (λ (l : List Line). rows_of (gots Down b l)) (ap (lines_of b) (sym has.reached.are.ue_lines) ∙ has.known.lines arrives is_came few);
}

-- over two parts
pub um_rows_up_over : (planned second : Planned) (first b i i_later : ℕ) (earlier later : List Event) (last link : LinkState) (text : List ℕ) → IsUnacknowledged second Up b i_later → HasKnownUpOver planned second first b i i_later earlier later last link → IsRead link text → HandsUpKnownUpOver planned second first b i i_later earlier later last link text
um_rows_up_over planned second first b i i_later earlier later last link text is has read = record {
  units = has;
  rows_are = λ arrives is_came few. read.up b (low (length second.config.bearers) b is.there is.good.few) ∙ ap (λ (l : List Line). rows_of (gots Up b l)) (ap (lines_of b) (sym has.reached.are.rnc_lines) ∙ has.known.lines arrives is_came few);
}

pub um_rows_down_over : (planned second : Planned) (first b i i_later : ℕ) (earlier later : List Event) (last link : LinkState) (text : List ℕ) → IsUnacknowledged second Down b i_later → HasKnownDownOver planned second first b i i_later earlier later last link → IsRead link text → HandsUpKnownDownOver planned second first b i i_later earlier later last link text
um_rows_down_over planned second first b i i_later earlier later last link text is has read = record {
  units = has;
  rows_are = λ arrives is_came few. read.down b (low (length second.config.bearers) b is.there is.good.few) ∙ ap (λ (l : List Line). rows_of (gots Down b l)) (ap (lines_of b) (sym has.reached.are.ue_lines) ∙ has.known.lines arrives is_came few);
}

-- and those of a transparent one
pub tm_rows_up : (planned : Planned) (first b i : ℕ) (happened : List Event) (link : LinkState) (text : List ℕ) → IsTransparent planned Up b i → HasSomeUp planned first b i happened link → IsRead link text → HandsUpSomeUp planned first b i happened link text
tm_rows_up planned first b i happened link text is has read = record {
  units = has;
  rows_are = read.up b (low (length planned.config.bearers) b is.there is.good.few) ∙ ap rows_of (ap (gots Up b) (ap (lines_of b) (sym has.reached.are.rnc_lines) ∙ has.some.lines) ∙ gots_bits Up b has.some.handed);
}

pub tm_rows_down : (planned : Planned) (first b i : ℕ) (happened : List Event) (link : LinkState) (text : List ℕ) → IsTransparent planned Down b i → HasSomeDown planned first b i happened link → IsRead link text → HandsUpSomeDown planned first b i happened link text
tm_rows_down planned first b i happened link text is has read = record {
  units = has;
  rows_are = read.down b (low (length planned.config.bearers) b is.there is.good.few) ∙ ap rows_of (ap (gots Down b) (ap (lines_of b) (sym has.reached.are.ue_lines) ∙ has.some.lines) ∙ gots_bits Down b has.some.handed);
}

-- over two parts
pub tm_rows_up_over : (planned second : Planned) (first b i i_later : ℕ) (earlier later : List Event) (last link : LinkState) (text : List ℕ) → IsTransparent second Up b i_later → HasSomeUpOver planned second first b i i_later earlier later last link → IsRead link text → HandsUpSomeUpOver planned second first b i i_later earlier later last link text
tm_rows_up_over planned second first b i i_later earlier later last link text is has read = record {
  units = has;
  rows_are = read.up b (low (length second.config.bearers) b is.there is.good.few) ∙ ap rows_of (ap (gots Up b) (ap (lines_of b) (sym has.reached.are.rnc_lines) ∙ has.some.lines) ∙ gots_bits Up b has.some.handed);
}

pub tm_rows_down_over : (planned second : Planned) (first b i i_later : ℕ) (earlier later : List Event) (last link : LinkState) (text : List ℕ) → IsTransparent second Down b i_later → HasSomeDownOver planned second first b i i_later earlier later last link → IsRead link text → HandsUpSomeDownOver planned second first b i i_later earlier later last link text
tm_rows_down_over planned second first b i i_later earlier later last link text is has read = record {
  units = has;
  rows_are = read.down b (low (length second.config.bearers) b is.there is.good.few) ∙ ap rows_of (ap (gots Down b) (ap (lines_of b) (sym has.reached.are.ue_lines) ∙ has.some.lines) ∙ gots_bits Down b has.some.handed);
}
