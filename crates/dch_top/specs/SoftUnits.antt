-- What a run of the command `soft` that went well carries.
use Rattle.std.specs.Prelude.{◌≡◌, ◌<◌, ◌*◌, ◌^◌, ◌++◌, ℕ, List, [], Bool, codes, length}
use Rattle.std.specs.Io.KnownBytes.{Consumes, Appends}
use Rattle.dch_io.specs.Ends.{End}
use Rattle.dch_types.specs.Parts.{channel_at}
use Rattle.dch_types.specs.declared.channel.Dir.{Dir}
use Rattle.dch_types.specs.declared.channel.Dir.TheVariants.{Up, Down}
use Rattle.dch_accept.specs.Plans.{Planned}
use Rattle.dch_script.specs.Lines.{lines_of}
use Rattle.dch_check.specs.ConfigSection.{configuration_of, script_of}
use Rattle.dch_check.specs.declared.both.Configurations.{Configurations}
use Rattle.dch_node.specs.Lines.{Line}
use Rattle.dch_lines.specs.LineTexts.{closing}
use Rattle.dch_gen.specs.LinkSoft.{SoftState}
use Rattle.dch_gen.specs.SoftStages.{AtStage}
use Rattle.dch_gen.specs.soft_stage.Stage.{Stage}
use Rattle.dch_gen.specs.soft_stage.Stage.TheVariants.{Combine}
use Rattle.dch_runlaw.specs.History.{pair_after}
use Rattle.dch_runlaw.specs.HonestBearers.{IsAcknowledged}
use Rattle.dch_runlaw.specs.Legs.{ArrivesAtLeg, Gets, OthersAreSent, TakesGiven, as_sent}
use Rattle.dch_runlaw.specs.Nodes.{AreFaithful, opened_nodes}
use Rattle.dch_runlaw.specs.Rows.{got_rows, gots, rows_of}
use Rattle.dch_runlaw.specs.SoftEndEvents.{AfterEach, EndEvent, HandsUp, IsListOf, end_events}
use Rattle.dch_runlaw.specs.SoftRuns.{Move, Point, Runs, opened_point}
use Rattle.dch_runlaw.specs.SoftScripts.{AreSaid, shown_in}
use Rattle.dch_runlaw.specs.Told.{IsTold}
use Rattle.dch_runlaw.specs.Ttis.{Tti}
use Rattle.dch_runlaw.specs.UmHistory.{got_lines}
use Rattle.dch_check.specs.Configured.{ArePlannedAs}
use Rattle.dch_check.specs.declared.front.FrontKind.TheVariants.{Single}

-- some moves lead from opened nodes to a point at which a TTI of uplink channel i starts. Leg k gets all its radio
-- frames as the terminal sent them, or with little damage, its own Iub frame arrives as it was sent, and no other leg
-- has another block as good: then the network controller takes just the blocks that the terminal was given
abbrev pub TakesFromLeg : Planned → ℕ → ℕ → Type 0
TakesFromLeg planned first legs =
    (k i : ℕ) (moves : List Move) (mid last : Point) (new : SoftState) (lines own : List Line)
    → Runs (opened_point planned first legs) moves mid lines → k < legs
    → i < length planned.config.uplink.side.channels
    → (t : Tti (channel_at planned.config.uplink.side i).frames (channel_at planned.config.uplink.side i).set mid last)
    → ArrivesAtLeg planned k
    (channel_at planned.config.uplink.side i).frames (channel_at planned.config.uplink.side i).set mid last t
    → OthersAreSent (last.soft.frames (channel_at planned.config.uplink.side i).set) k i
    (as_sent (channel_at planned.config.uplink.side i) (last.soft.ue.state.layer.given i))
    → AtStage (Combine (channel_at planned.config.uplink.side i).set) last.soft new own
    → TakesGiven planned (channel_at planned.config.uplink.side i).set i (last.soft.ue.state.layer.given i)
    (channel_at planned.config.uplink.side i).frames mid last t new

-- a leg for which no damage waits gets all as it was sent
abbrev pub GetsUnharmed : Type 0
GetsUnharmed = (k set : ℕ) (stage : Stage) (old new : SoftState) → (old.legs k).damage ≡ [] → Gets k set stage old new

-- the rows of a text hand up just the units of each bearer that these lines hand up, in order
abbrev pub ShowsUnits : List Line → List ℕ → Type 0
ShowsUnits reported text = (dir : Dir) (b : ℕ) → b < 2 ^ 64 → got_rows dir b (lines_of text)
    ≡ rows_of (gots dir b reported)

-- the calls of an acknowledged bearer's ends are a history of two ends, and the rows of the text are those of the units
-- that it hands up
pub record HandsUpRows (planned : Planned) (first b : ℕ) (happened : List EndEvent) (soft : SoftState)
    (reported : List Line) (text : List ℕ) : Type 0 where
  pub units : HandsUp planned first b happened soft reported
  pub up : got_rows Up b (lines_of text)
      ≡ rows_of (got_lines Up b (pair_after planned.config Up Down b
      units.history.events).far.entity.receiver.reading.units)
  pub down : got_rows Down b (lines_of text)
      ≡ rows_of (got_lines Down b (pair_after planned.config Up Down b
      units.history.events).near.entity.receiver.reading.units)

-- the lines of a script lead the nodes of a soft handover, opened for a configuration and so many legs, through a run
-- of what they say, and this text is shown of it. Whatever damage comes on any leg, a TTI that arrives over one leg as
-- it was sent, or with little damage, is taken as it was given; and where after each event at the terminal and the
-- network controller both channels of an acknowledged bearer are faithful, the rows of the text are just the units that
-- a history of its two ends hands up
pub record CarriesSoft (planned : Planned) (first legs : ℕ) (quiet : Bool) (script : List (List ℕ))
    (text : List ℕ) : Type 0 where
  pub moves : List Move
  pub said : AreSaid legs planned.config script moves
  pub new : Point
  pub reported : List Line
  pub run : Runs (opened_point planned first legs) moves new reported
  pub shows : text ≡ shown_in quiet moves (opened_point planned first legs) new reported run
  pub received : TakesFromLeg planned first legs
  pub unharmed : GetsUnharmed
  pub told : IsTold (opened_point planned first legs).soft new.soft reported
  pub read : ShowsUnits reported text
  pub listed : IsListOf planned first (end_events moves (opened_point planned first legs) new reported run) new.soft
  pub acknowledged : (b up down : ℕ) → IsAcknowledged planned b up down
      → AfterEach (AreFaithful up down) (opened_nodes planned first first)
      (end_events moves (opened_point planned first legs) new reported run)
      → HandsUpRows planned first b (end_events moves (opened_point planned first legs) new reported run)
      new.soft reported text

-- the source gave one configuration that is accepted, and lines behind it that lead the nodes through such a run; the
-- sink took the line `open`, the text that is shown of the run, and the closing line
pub record CarriesHandover (legs start : ℕ) (quiet : Bool) (source sink : End) : Type 0 where
  pub taken : List ℕ
  pub written : List ℕ
  pub takes : Consumes source.before source.now taken
  pub writes : Appends sink.before sink.now written
  pub accepted : Configurations
  pub is : ArePlannedAs Single (configuration_of taken) accepted
  pub text : List ℕ
  pub frames : ℕ
  pub all : written ≡ codes "open\n" ++ text ++ closing frames
  pub carries : CarriesSoft accepted.first (8 * start) legs quiet (lines_of (script_of taken)) text
