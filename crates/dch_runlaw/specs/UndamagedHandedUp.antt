-- The rows of a run's text that hand up units of a bearer, where just what was given is taken of its channels.
use Rattle.std.specs.Prelude.{◌≡◌, ℕ, List, take}
use Rattle.dch_bits.specs.declared.bit.Bit.{Bit}
use Rattle.dch_types.specs.declared.channel.Dir.{Dir}
use Rattle.dch_types.specs.declared.channel.Dir.TheVariants.{Up, Down}
use Rattle.dch_types.specs.declared.config.Config.{Config}
use Rattle.dch_script.specs.Lines.{lines_of as rows}
use Rattle.dch_node.specs.Lines.{Line}
use Rattle.dch_am.specs.Bodies.{ends}
use Rattle.dch_amlaw.specs.Pair.{End, gap_free}
use Rattle.dch_layer2.specs.Layers.{Layer}
use Rattle.dch_linkcmd.specs.LinkLink.{LinkState}
use Rattle.dch_runlaw.specs.Ended.{marked_units}
use Rattle.dch_runlaw.specs.History.{pair_after}
use Rattle.dch_runlaw.specs.Rows.{got_rows, rows_of}
use Rattle.dch_runlaw.specs.TmHistory.{IsTmCarried, bits_lines}
use Rattle.dch_runlaw.specs.UmHistory.{IsUmCarried, got_lines, pdus_of}
use Rattle.dch_runlaw.specs.HonestBearers.{HasWholeHistory, Parts, active, calls_reached}

-- the accepted units of one end of an acknowledged bearer, in order, whose length indicator lies in the PDUs that
-- arrived at the other end
abbrev pub ended_units : End → End → List (List ℕ)
ended_units from to = take (ends (take (gap_free to) from.entity.sender.bodies)) from.entity.sender.accepted

-- the lines `got` of an acknowledged bearer in an undamaged run: the accepted SDUs, in order, whose length indicator
-- was sent in TTIs that have ended. Its calls are a history in which nothing is lost and just the blocks of TTIs that
-- have not ended are in flight
pub record HandsUpWhole (parts : Parts) (b up down : ℕ) (link : LinkState) (text : List ℕ) : Type 0 where
  pub units : HasWholeHistory parts b up down link
  pub up_rows : got_rows Up b (rows text)
      ≡ rows_of (got_lines Up b (ended_units (pair_after (active parts).config Up Down b
      (calls_reached b parts link units.reached)).near (pair_after (active parts).config Up Down b
      (calls_reached b parts link units.reached)).far))
  pub down_rows : got_rows Down b (rows text)
      ≡ rows_of (got_lines Down b (ended_units (pair_after (active parts).config Up Down b
      (calls_reached b parts link units.reached)).far (pair_after (active parts).config Up Down b
      (calls_reached b parts link units.reached)).near))

-- the lines `got` of an unacknowledged bearer in an undamaged run: the accepted SDUs, in order, whose length indicator
-- lies in the PDUs that came, which are all but those on their way
pub record HandsUpMarked (config : Config) (dir : Dir) (b i : ℕ) (from : Layer) (said : List Line)
    (running : List (List Bit)) (text : List ℕ) : Type 0 where
  pub units : IsUmCarried config dir b i from said running
  pub rows_are : got_rows dir b (rows text)
      ≡ rows_of (got_lines dir b (marked_units (take units.came (pdus_of units.sends)) 0 units.sends.accepted))

-- the lines `got` of a transparent bearer in an undamaged run: all accepted SDUs, in order, but those in blocks on
-- their way and those that wait
pub record HandsUpSent (config : Config) (dir : Dir) (b i : ℕ) (from : Layer) (said : List Line)
    (running : List (List Bit)) (text : List ℕ) : Type 0 where
  pub units : IsTmCarried config dir b i from said running
  pub rows_are : got_rows dir b (rows text) ≡ rows_of (bits_lines dir b units.handed)
