-- The rows of a run's text that hand up units of a bearer, whatever damage came between its nodes.
use Rattle.std.specs.Prelude.{◌≡◌, ℕ, List, Bool}
use Rattle.dch_types.specs.declared.channel.Dir.TheVariants.{Up, Down}
use Rattle.dch_accept.specs.Plans.{Planned}
use Rattle.dch_script.specs.Lines.{lines_of as rows}
use Rattle.dch_layer2.specs.UnitLines.{unit_lines}
use Rattle.dch_linkcmd.specs.LinkLink.{LinkState}
use Rattle.dch_rlcum.specs.Handing.{AreFewLost, known_units}
use Rattle.dch_runlaw.specs.History.{events_over, pair_after}
use Rattle.dch_runlaw.specs.Rows.{got_rows, gots, rows_of}
use Rattle.dch_runlaw.specs.TmHistory.{bits_lines}
use Rattle.dch_runlaw.specs.UmHistory.{ArriveAs, got_lines, sent_by}
use Rattle.dch_runlaw.specs.Nodes.{Event}
use Rattle.dch_runlaw.specs.HonestBearers.{HasHistory, HasHistoryOver, HasKnownDown, HasKnownDownOver, HasKnownUp, HasKnownUpOver, HasSomeDown, HasSomeDownOver, HasSomeUp, HasSomeUpOver}

-- the lines `got` of an acknowledged bearer: the calls of its two ends are a history with blocks in flight, in order,
-- some of which are lost, and the lines are those of the SDUs that the history delivers. These are the accepted SDUs,
-- in order, each once and whole, as far as they came without a gap, but for those that were discarded
pub record HandsUp (planned : Planned) (first b : ℕ) (happened : List Event) (link : LinkState)
    (text : List ℕ) : Type 0 where
  pub units : HasHistory planned first b happened link
  pub up : got_rows Up b (rows text)
      ≡ rows_of (got_lines Up b (pair_after planned.config Up Down b
      units.history.events).far.entity.receiver.reading.units)
  pub down : got_rows Down b (rows text)
      ≡ rows_of (got_lines Down b (pair_after planned.config Up Down b
      units.history.events).near.entity.receiver.reading.units)

-- the same of an acknowledged bearer over two parts of a run, whose history goes on over the change, where what is in
-- flight is lost
pub record HandsUpOver (planned second : Planned) (first b : ℕ) (earlier later : List Event) (last link : LinkState)
    (text : List ℕ) : Type 0 where
  pub units : HasHistoryOver planned second first b earlier later last link
  pub up : got_rows Up b (rows text)
      ≡ rows_of (got_lines Up b (pair_after second.config Up Down b
      (events_over second.config Up Down b units.history.before.events
      units.history.later)).far.entity.receiver.reading.units)
  pub down : got_rows Down b (rows text)
      ≡ rows_of (got_lines Down b (pair_after second.config Up Down b
      (events_over second.config Up Down b units.history.before.events
      units.history.later)).near.entity.receiver.reading.units)

-- the lines `got` of an unacknowledged bearer, where fewer than 128 successive PDUs were lost before each that came:
-- the SDUs of which all came, in order
pub record HandsUpKnownUp (planned : Planned) (first b i : ℕ) (happened : List Event) (link : LinkState)
    (text : List ℕ) : Type 0 where
  pub units : HasKnownUp planned first b i happened link
  pub rows_are : (arrives : ℕ → Bool) → ArriveAs units.known.near.sends arrives units.known.came
      → AreFewLost 0 (sent_by units.known.near.sends arrives)
      → got_rows Up b (rows text) ≡ rows_of (gots Up b (unit_lines Up b
      (known_units (sent_by units.known.near.sends arrives) 0 units.known.near.sends.accepted)))

pub record HandsUpKnownDown (planned : Planned) (first b i : ℕ) (happened : List Event) (link : LinkState)
    (text : List ℕ) : Type 0 where
  pub units : HasKnownDown planned first b i happened link
  pub rows_are : (arrives : ℕ → Bool) → ArriveAs units.known.near.sends arrives units.known.came
      → AreFewLost 0 (sent_by units.known.near.sends arrives)
      → got_rows Down b (rows text) ≡ rows_of (gots Down b
      (unit_lines Down b (known_units (sent_by units.known.near.sends arrives) 0 units.known.near.sends.accepted)))

-- the same over two parts of a run: what was lost at the change counts as lost
pub record HandsUpKnownUpOver (planned second : Planned) (first b i i_later : ℕ) (earlier later : List Event)
    (last link : LinkState) (text : List ℕ) : Type 0 where
  pub units : HasKnownUpOver planned second first b i i_later earlier later last link
  pub rows_are : (arrives : ℕ → Bool) → ArriveAs units.known.near.sends arrives units.known.came
      → AreFewLost 0 (sent_by units.known.near.sends arrives)
      → got_rows Up b (rows text) ≡ rows_of (gots Up b (unit_lines Up b
      (known_units (sent_by units.known.near.sends arrives) 0 units.known.near.sends.accepted)))

pub record HandsUpKnownDownOver (planned second : Planned) (first b i i_later : ℕ) (earlier later : List Event)
    (last link : LinkState) (text : List ℕ) : Type 0 where
  pub units : HasKnownDownOver planned second first b i i_later earlier later last link
  pub rows_are : (arrives : ℕ → Bool) → ArriveAs units.known.near.sends arrives units.known.came
      → AreFewLost 0 (sent_by units.known.near.sends arrives)
      → got_rows Down b (rows text) ≡ rows_of (gots Down b
      (unit_lines Down b (known_units (sent_by units.known.near.sends arrives) 0 units.known.near.sends.accepted)))

-- the lines `got` of a transparent bearer: the SDUs of the blocks that came, a subsequence of the accepted ones, each
-- at most once
pub record HandsUpSomeUp (planned : Planned) (first b i : ℕ) (happened : List Event) (link : LinkState)
    (text : List ℕ) : Type 0 where
  pub units : HasSomeUp planned first b i happened link
  pub rows_are : got_rows Up b (rows text) ≡ rows_of (bits_lines Up b units.some.handed)

pub record HandsUpSomeDown (planned : Planned) (first b i : ℕ) (happened : List Event) (link : LinkState)
    (text : List ℕ) : Type 0 where
  pub units : HasSomeDown planned first b i happened link
  pub rows_are : got_rows Down b (rows text) ≡ rows_of (bits_lines Down b units.some.handed)

-- the same over two parts of a run: those that came in the first part, and then those of the second one
pub record HandsUpSomeUpOver (planned second : Planned) (first b i i_later : ℕ) (earlier later : List Event)
    (last link : LinkState) (text : List ℕ) : Type 0 where
  pub units : HasSomeUpOver planned second first b i i_later earlier later last link
  pub rows_are : got_rows Up b (rows text) ≡ rows_of (bits_lines Up b units.some.handed)

pub record HandsUpSomeDownOver (planned second : Planned) (first b i i_later : ℕ) (earlier later : List Event)
    (last link : LinkState) (text : List ℕ) : Type 0 where
  pub units : HasSomeDownOver planned second first b i i_later earlier later last link
  pub rows_are : got_rows Down b (rows text) ≡ rows_of (bits_lines Down b units.some.handed)
