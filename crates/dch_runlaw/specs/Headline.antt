-- What a run of `link` carries for each bearer, told by its text.
use Rattle.std.specs.Prelude.{◌≡◌, ◌≤◌, ◌++◌, ◌⊎◌, ℕ, List, ◌∷◌, Bool, Option, None, Some, Contains}
use Rattle.dch_types.specs.declared.channel.Dir.{Dir}
use Rattle.dch_types.specs.declared.channel.Dir.TheVariants.{Up, Down}
use Rattle.dch_accept.specs.Plans.{IsPlanned, Planned}
use Rattle.dch_script.specs.Lines.{lines_of as rows}
use Rattle.dch_node.specs.Lines.{Line}
use Rattle.dch_script.specs.LineText.{text_of}
use Rattle.dch_lines.specs.Coming.{coming}
use Rattle.dch_lines.specs.Shown.{shown}
use Rattle.dch_lines.specs.Coming.{CanFollow}
use Rattle.dch_lines.specs.declared.later.Later.{Later}
use Rattle.dch_linkcmd.specs.LinkLink.{LinkState, opened_link}
use Rattle.dch_linkcmd.specs.RunLines.{active_behind}
use Rattle.dch_runlaw.specs.Clear.{IsClear}
use Rattle.dch_runlaw.specs.Intervals.{frames_in}
use Rattle.dch_runlaw.specs.Parts.{GoesOver}
use Rattle.dch_runlaw.specs.Runs.{Event, Frame, Runs}
use Rattle.dch_runlaw.specs.Scripts.{AreSaid}
use Rattle.dch_runlaw.specs.EndEvents.{end_events}
use Rattle.dch_runlaw.specs.HonestBearers.{Alone, Both, IsAcknowledged, IsTransparent, IsUnacknowledged}
use Rattle.dch_runlaw.specs.TextDiffering.{false_words}
use Rattle.dch_runlaw.specs.Undamaged.{CarriesAll}
use Rattle.dch_runlaw.specs.HeadlineHandedUp.{HandsUp, HandsUpKnownDown, HandsUpKnownDownOver, HandsUpKnownUp, HandsUpKnownUpOver, HandsUpOver, HandsUpSomeDown, HandsUpSomeDownOver, HandsUpSomeUp, HandsUpSomeUpOver}
use Rattle.dch_runlaw.specs.HeadlineReceived.{ReceivesDown, ReceivesUp}

-- no row of a text is `false up I`, or `false down I`: a block was taken as good of channel I that it was not given
abbrev pub IsSilentOn : Dir → ℕ → List ℕ → Type 0
IsSilentOn dir i text = ¬ Contains (rows text) (false_words dir i)

-- what a run of three nodes carries that were opened for a configuration, and whose lines have this text. Where no
-- damage has an effect, no line tells of trouble, and all is handed up that was sent whole in TTIs that have ended.
-- Whatever damage came between the nodes: a TTI whose radio frames all arrive as they were sent is read just as it was
-- given; and the rows of the text hand up just the units of each bearer of whose channels no row says that a block was
-- taken as good that was not given. That is asked of both channels of an acknowledged bearer, and of the one channel of
-- any other bearer's direction
pub record CarriesFirst (planned : Planned) (first : ℕ) (events : List Event) (link : LinkState) (reported : List Line)
    (run : Runs (opened_link planned first) events link reported) (text : List ℕ) : Type 0 where
  pub received_down : ReceivesDown planned (opened_link planned first)
  pub received_up : ReceivesUp planned (opened_link planned first)
  pub undamaged : IsClear events (opened_link planned first) link reported run
      → CarriesAll (Alone planned first (end_events events (opened_link planned first) link reported run)) link reported
  pub acknowledged : (b up down : ℕ) → IsAcknowledged planned b up down → IsSilentOn Up up text
      → IsSilentOn Down down text → HandsUp planned first b
      (end_events events (opened_link planned first) link reported run) link text
  pub unacknowledged_up : (b up : ℕ) → IsUnacknowledged planned Up b up → IsSilentOn Up up text
      → HandsUpKnownUp planned first b up (end_events events (opened_link planned first) link reported run) link text
  pub unacknowledged_down : (b down : ℕ) → IsUnacknowledged planned Down b down → IsSilentOn Down down text
      → HandsUpKnownDown planned first b down (end_events events (opened_link planned first) link reported run)
      link text
  pub transparent_up : (b up : ℕ) → IsTransparent planned Up b up → IsSilentOn Up up text
      → HandsUpSomeUp planned first b up (end_events events (opened_link planned first) link reported run) link text
  pub transparent_down : (b down : ℕ) → IsTransparent planned Down b down → IsSilentOn Down down text
      → HandsUpSomeDown planned first b down (end_events events (opened_link planned first) link reported run) link text

-- what a run carries from opening on in which a second configuration becomes active behind a first part, and whose two
-- parts have these texts. Of a bearer the rows of both texts hand up the units, in one row of units: it goes on, over
-- other channels perhaps. Where no damage has an effect in either part, no line tells of trouble, and all is handed up
-- that was sent whole in TTIs that have ended, since all TTIs have ended at the change. Whatever damage came, a TTI of
-- the second part whose radio frames all arrive is read as it was given; and the rows hand up just the units of each
-- bearer of whose channels in a part no row of that part's text says that a block was taken as good that was not given.
-- Blocks of the first part that did not come are lost
pub record CarriesSecond (planned second : Planned) (first : ℕ) (before : List Event) (early : List Line)
    (start : LinkState) (over : GoesOver planned second first before early start)
    (after : List Event) (link : LinkState) (late : List Line) (run : Runs start after link late)
    (one two : List ℕ) : Type 0 where
  pub received_down : ReceivesDown second start
  pub received_up : ReceivesUp second start
  pub undamaged : IsClear before (opened_link planned first) over.last early over.run
      → IsClear after start link late run
      → CarriesAll (Both planned second first (end_events before (opened_link planned first) over.last early over.run)
      (end_events after start link late run) over.last) link (early ++ late)
  pub acknowledged : (b up down up_later down_later : ℕ) → IsAcknowledged planned b up down
      → IsAcknowledged second b up_later down_later
      → IsSilentOn Up up one → IsSilentOn Down down one → IsSilentOn Up up_later two → IsSilentOn Down down_later two
      → HandsUpOver planned second first b (end_events before (opened_link planned first) over.last early over.run)
      (end_events after start link late run) over.last link (one ++ two)
  pub unacknowledged_up : (b up up_later : ℕ) → IsUnacknowledged planned Up b up → IsUnacknowledged second Up b up_later
      → IsSilentOn Up up one → IsSilentOn Up up_later two
      → HandsUpKnownUpOver planned second first b up up_later
      (end_events before (opened_link planned first) over.last early over.run)
      (end_events after start link late run) over.last link (one ++ two)
  pub unacknowledged_down : (b down down_later : ℕ) → IsUnacknowledged planned Down b down
      → IsUnacknowledged second Down b down_later
      → IsSilentOn Down down one → IsSilentOn Down down_later two
      → HandsUpKnownDownOver planned second first b down down_later
      (end_events before (opened_link planned first) over.last early over.run)
      (end_events after start link late run) over.last link (one ++ two)
  pub transparent_up : (b up up_later : ℕ) → IsTransparent planned Up b up → IsTransparent second Up b up_later
      → IsSilentOn Up up one → IsSilentOn Up up_later two
      → HandsUpSomeUpOver planned second first b up up_later
      (end_events before (opened_link planned first) over.last early over.run)
      (end_events after start link late run) over.last link (one ++ two)
  pub transparent_down : (b down down_later : ℕ) → IsTransparent planned Down b down
      → IsTransparent second Down b down_later
      → IsSilentOn Down down one → IsSilentOn Down down_later two
      → HandsUpSomeDownOver planned second first b down down_later
      (end_events before (opened_link planned first) over.last early over.run)
      (end_events after start link late run) over.last link (one ++ two)

-- events lead three nodes that were opened for a configuration through a run of one part, whose lines have this text
pub record CarriesAlone (planned : Planned) (first : ℕ) (quiet : Bool) (events : List Event)
    (text : List ℕ) : Type 0 where
  pub link : LinkState
  pub reported : List Line
  pub run : Runs (opened_link planned first) events link reported
  pub shows : text ≡ shown quiet (text_of reported)
  pub carries : CarriesFirst planned first events link reported run text

-- events lead three nodes through a run of two parts, and the text is that of both: the second configuration becomes
-- active just before a radio frame
pub record CarriesBoth (planned : Planned) (later : Later) (first : ℕ) (quiet : Bool) (events : List Event)
    (text : List ℕ) : Type 0 where
  pub before : List Event
  pub after : List Event
  pub all : events ≡ before ++ (Frame ∷ after)
  pub now : frames_in before ≡ later.frame
  pub early : List Line
  pub start : LinkState
  pub over : GoesOver planned later.accepted first before early start
  pub link : LinkState
  pub late : List Line
  pub run : Runs start (Frame ∷ after) link late
  pub one : List ℕ
  pub two : List ℕ
  pub one_shows : one ≡ shown quiet (text_of early)
  pub two_shows : two ≡ shown quiet (text_of late)
  pub shows : text ≡ one ++ two
  pub first_part : CarriesFirst planned first before over.last early over.run one
  pub both_parts : CarriesSecond planned later.accepted first before early start over (Frame ∷ after)
      link late run one two

-- where a second configuration is to come, its radio frame may have passed
abbrev pub MayCarryBoth : Planned → Option Later → ℕ → Bool → List Event → List ℕ → Type 0
MayCarryBoth planned None first quiet events text = CarriesAlone planned first quiet events text
MayCarryBoth planned (Some later) first quiet events text = ((frames_in events ≤ later.frame)
    × CarriesAlone planned first quiet events text) ⊎ CarriesBoth planned later first quiet events text

-- each line of a script is read in the configuration that is active before it; the lines say events that lead three
-- nodes through a run of one part or of two, and the run carries the SDUs of the bearers
pub record Carries (planned : Planned) (second : Option Later) (first : ℕ) (quiet : Bool) (script : List (List ℕ))
    (text : List ℕ) : Type 0 where
  pub events : List Event
  pub said : AreSaid (active_behind planned.config (coming second)) 0 script events
  pub parts : MayCarryBoth planned second first quiet events text

-- a second configuration keeps its limits, and can follow the first one
pub record IsLater (planned : Planned) (later : Later) : Type 0 where
  pub good : IsPlanned later.accepted
  pub follows : CanFollow planned later
