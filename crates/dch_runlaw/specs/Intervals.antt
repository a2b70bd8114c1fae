-- TTIs in runs of three nodes whose radio frames all arrive as they were sent, or with little damage, and what is read
-- of them.
use Rattle.std.specs.Prelude.{◌≡◌, ◌<◌, ◌+◌, ◌%◌, ◌==◌, ◌⊎◌, ℕ, List, [], ◌∷◌, Option, Some, None, false, true, length, if◌then◌else◌, IsTrue, slice_index, slice_index_or}
use Rattle.dch_types.specs.declared.channel.Dir.{Dir}
use Rattle.dch_types.specs.declared.channel.Dir.TheVariants.{Up, Down}
use Rattle.dch_types.specs.Parts.{channel_at}
use Rattle.dch_types.specs.Timing.{set_frames, started, starts}
use Rattle.dch_accept.specs.Blocks.{Held}
use Rattle.dch_accept.specs.HeldSets.{HasFormat, HeldSet, held_at}
use Rattle.dch_accept.specs.Plans.{Planned}
use Rattle.dch_iub.specs.Forms.{IsWrittenForm}
use Rattle.dch_iub.specs.Shape.{ForSet}
use Rattle.dch_node.specs.Lines.{Line}
use Rattle.dch_node.specs.RxFrames.{AreHeard}
use Rattle.dch_node.specs.Values.{Blocks, Radio}
use Rattle.dch_damage.specs.Damage.{radio_after}
use Rattle.dch_layer2.specs.Layers.{Given}
use Rattle.dch_layer2.specs.Joined.{CarriesGiven}
use Rattle.dch_layer2.specs.Reading.{Read}
use Rattle.dch_frame.specs.Patterns.{copies}
use Rattle.dch_collision.specs.Copies.{padded_in, uplink_copies}
use Rattle.dch_tti.specs.Damaged.{AreFewChanged, IsLittleDamaged}
use Rattle.dch_tti.specs.Formats.{AllGive}
use Rattle.dch_tti.specs.RxFrames.{RxFrames, frame_at, rx_frame_at}
use Rattle.dch_ulphy.specs.Damaged.{tti_changes as uplink_changes}
use Rattle.dch_dlphy.specs.Damaged.{tti_changes as downlink_changes}
use Rattle.dch_dlphy.specs.Read.{tti_pattern}
use Rattle.dch_linkcmd.specs.NodebSteps.{IsRadioFrame as IsDownFrame}
use Rattle.dch_linkcmd.specs.UeSteps.{IsRadioFrame as IsUpFrame}
use Rattle.dch_linkcmd.specs.LinkLink.{LinkState}
use Rattle.dch_runlaw.specs.Frames.{IsFrame}
use Rattle.dch_runlaw.specs.Runs.{Between, Event, Frame, Runs, Steps}

-- how many of these events are radio frames
abbrev pub frames_in : List Event → ℕ
frames_in [] = 0
frames_in (Between event ∷ events) = frames_in events
frames_in (Frame ∷ events) = frames_in events + 1

-- what holds in each radio frame of a run
abbrev pub InFrames : ((old new : LinkState) → (lines : List Line) → IsFrame old new lines → Type 0)
    → (events : List Event) → (old new : LinkState) → (lines : List Line) → Runs old events new lines → Type 0
InFrames P [] old new lines run = Unit {0}
InFrames P (Between event ∷ events) old new lines run = InFrames P events run.next new run.rest run.later
InFrames P (Frame ∷ events) old new lines run = P old run.next run.own run.step.frame
    × InFrames P events run.next new run.rest run.later

-- a TTI of so many radio frames, from the state before the first one to the state after the last one: the events before
-- the last radio frame, and that one
pub record Tti (frames : ℕ) (old new : LinkState) : Type 0 where
  pub at_start : starts frames old.rnc.state.cfn ≡ true
  pub events : List Event
  pub last : LinkState
  pub lines : List Line
  pub run : Runs old events last lines
  pub last_lines : List Line
  pub step : Steps last Frame new last_lines
  pub count : frames_in events + 1 ≡ frames

-- what holds in each of its radio frames
abbrev pub InTti : ((old new : LinkState) → (lines : List Line) → IsFrame old new lines → Type 0) → (frames : ℕ)
    → (old new : LinkState) → Tti frames old new → Type 0
InTti P frames old new t = InFrames P t.events old t.last t.lines t.run × P t.last new t.last_lines t.step.frame

-- the radio frame that is sent in a direction
abbrev pub radio_sent : Dir → (old new : LinkState) → (lines : List Line) → IsFrame old new lines → Option Radio
radio_sent Up old new lines f = f.ue_output.sent
radio_sent Down old new lines f = f.down_output.sent

-- it is sent, and arrives as it was sent
pub record ArrivesAsSent (dir : Dir) (old new : LinkState) (lines : List Line)
    (f : IsFrame old new lines) : Type 0 where
  pub radio : Radio
  pub sent : radio_sent dir old new lines f ≡ Some radio
  pub came : radio_after old.damage dir (Some radio) ≡ Some radio

-- in each radio frame of a TTI the radio frame of a direction is sent, and arrives as it was sent
abbrev pub AllArrive : Dir → (frames : ℕ) → (old new : LinkState) → Tti frames old new → Type 0
AllArrive dir frames old new t = InTti (ArrivesAsSent dir) frames old new t

-- a radio frame comes with as many cells as were sent, and with few TFCI bits wrong
pub record ComesDamaged (radio : Radio) (came : Option Radio) : Type 0 where
  pub received : Radio
  pub is : came ≡ Some received
  pub little : IsLittleDamaged radio.tfci radio.cells received.tfci received.cells

-- it does, if one was sent
abbrev pub MayComeDamaged : Option Radio → Option Radio → Type 0
MayComeDamaged None came = Unit {0}
MayComeDamaged (Some radio) came = ComesDamaged radio came

-- it is sent, and arrives so
pub record ArrivesDamaged (dir : Dir) (old new : LinkState) (lines : List Line)
    (f : IsFrame old new lines) : Type 0 where
  pub radio : Radio
  pub sent : radio_sent dir old new lines f ≡ Some radio
  pub comes : ComesDamaged radio (radio_after old.damage dir (Some radio))

-- the radio frames that were sent, by the remainders of their CFNs modulo 8: with one radio frame more than before
abbrev pub with_sent : Dir → (old new : LinkState) → (lines : List Line) → IsFrame old new lines
    → (ℕ → Option Radio) → ℕ → Option Radio
with_sent dir old new lines f before k = if k == old.rnc.state.cfn % 8 then radio_sent dir old new lines f else before k

-- and with those of a run
abbrev pub frames_sent : Dir → (events : List Event) → (old new : LinkState) → (lines : List Line) →
    Runs old events new lines → (ℕ → Option Radio) → ℕ → Option Radio
frames_sent dir [] old new lines run before = before
frames_sent dir (Between event ∷ events) old new lines run before =
    frames_sent dir events run.next new run.rest run.later before
frames_sent dir (Frame ∷ events) old new lines run before = frames_sent dir events run.next new run.rest run.later
    (with_sent dir old run.next run.own run.step.frame before)

abbrev pub tti_sent : Dir → (frames : ℕ) → (old new : LinkState) → Tti frames old new → (ℕ → Option Radio) → ℕ →
    Option Radio
tti_sent dir frames old new t before = with_sent dir t.last new t.last_lines t.step.frame
    (frames_sent dir t.events old t.last t.lines t.run before)

-- between what is kept of the radio frames of a TTI of channel i as they were sent, and as they arrived, few cells of
-- each code block are changed, whatever format and combinations they were sent in
abbrev pub IsFewUp : Planned → ℕ → RxFrames → RxFrames → Type 0
IsFewUp planned i sent received =
    let side = planned.config.uplink.side in
    (f : ℕ) (sequence : List ℕ) → AllGive side sent i f
    → ((n : ℕ) → n < (channel_at side i).frames → (frame_at side sent i n).combination ≡ Some (slice_index sequence n))
    → AreFewChanged side i f (uplink_copies planned.config.uplink i f sequence)
    (uplink_changes planned i sequence sent received (padded_in side i f))

abbrev pub IsFewDown : Planned → ℕ → RxFrames → RxFrames → Type 0
IsFewDown planned i sent received =
    let side = planned.config.downlink.side in
    (f : ℕ) → AllGive side sent i f
    → AreFewChanged side i f (copies (tti_pattern planned i f).kind) (downlink_changes planned i f sent received)

-- and for each channel of a set of uplink channels
abbrev pub AreFewUp : Planned → ℕ → RxFrames → RxFrames → Type 0
AreFewUp planned set sent received = ForSet planned.config.uplink.side set (λ i. IsFewUp planned i sent received)

-- of what a far end would keep of the radio frames of the last 8 CFNs as they were sent, and of what it keeps of them
-- as they came, few cells differ
pub record DifferLittle (planned : Planned) (dir : Dir) (cfn : ℕ) (IsFew : RxFrames → RxFrames → Type 0)
    (frames come : ℕ → Option Radio) : Type 0 where
  pub sent : RxFrames
  pub heard : AreHeard planned dir cfn frames sent
  pub few : (received : RxFrames) → AreHeard planned dir cfn come received → IsFew sent received

-- the terminal sends this radio frame in the combination that layer 2 runs, or the Node B in that of the blocks that it
-- was given
pub record SendsUp (planned : Planned) (combination : ℕ) (old new : LinkState) (lines : List Line)
    (f : IsFrame old new lines) (radio : Radio) : Type 0 where
  pub written : IsUpFrame planned f.kept.cfn new.ue.state.layer radio
  pub is : combination ≡ new.ue.state.layer.running

pub record SendsDown (planned : Planned) (combination : ℕ) (old new : LinkState) (lines : List Line)
    (f : IsFrame old new lines) (radio : Radio) : Type 0 where
  pub written : IsDownFrame planned f.node_b radio
  pub is : combination ≡ written.combination

abbrev pub SendsIn : Planned → Dir → ℕ → (old new : LinkState) → (lines : List Line) → IsFrame old new lines → Radio
    → Type 0
SendsIn planned Up combination old new lines f radio = SendsUp planned combination old new lines f radio
SendsIn planned Down combination old new lines f radio = SendsDown planned combination old new lines f radio

-- in what the far end keeps of the radio frames of the last 8 CFNs, this radio frame has the combination in which it
-- was sent
pub record FindsCombination (planned : Planned) (dir : Dir) (reader : RxFrames) (old new : LinkState)
    (lines : List Line) (f : IsFrame old new lines) : Type 0 where
  pub radio : Radio
  pub sent : radio_sent dir old new lines f ≡ Some radio
  pub combination : ℕ
  pub sends : SendsIn planned dir combination old new lines f radio
  pub found : (rx_frame_at reader.frames (old.rnc.state.cfn % 8)).combination ≡ Some combination

-- the radio frames that have come to the far end, of the last 8 CFNs by their remainders modulo 8
abbrev pub frames_come : Dir → LinkState → ℕ → Option Radio
frames_come Up link = link.node_b.state.frames
frames_come Down link = link.ue.state.frames

-- in what the far end keeps of the radio frames of the last 8 CFNs, each radio frame of a TTI has the TFC in which it
-- was sent
abbrev pub FindsAll : Planned → Dir → (frames : ℕ) → (old new : LinkState) → Tti frames old new → Type 0
FindsAll planned dir frames old new t = (reader : RxFrames)
    → AreHeard planned dir t.last.rnc.state.cfn (frames_come dir new) reader
    → InTti (FindsCombination planned dir reader) frames old new t

-- each radio frame of a TTI arrives with few TFCI bits wrong, and few of their cells differ from those that were sent
pub record IsLittleDamagedTti (planned : Planned) (dir : Dir) (IsFew : RxFrames → RxFrames → Type 0) (frames : ℕ)
    (old new : LinkState) (t : Tti frames old new) : Type 0 where
  pub arrive : InTti (ArrivesDamaged dir) frames old new t
  pub differ : DifferLittle planned dir t.last.rnc.state.cfn IsFew (tti_sent dir frames old new t (λ k. None))
      (frames_come dir new)

-- a TTI of downlink channel i, or of a set of uplink channels, arrives as it was sent, or with little damage
abbrev pub ArrivesDown : Planned → ℕ → (frames : ℕ) → (old new : LinkState) → Tti frames old new → Type 0
ArrivesDown planned i frames old new t = AllArrive Down frames old new t
    ⊎ IsLittleDamagedTti planned Down (IsFewDown planned i) frames old new t

abbrev pub ArrivesUp : Planned → ℕ → (frames : ℕ) → (old new : LinkState) → Tti frames old new → Type 0
ArrivesUp planned set frames old new t = AllArrive Up frames old new t
    ⊎ IsLittleDamagedTti planned Up (AreFewUp planned set) frames old new t

-- all blocks are good
abbrev pub AreGood : Held → Type 0
AreGood held = (k : ℕ) → k < length held.good → IsTrue (slice_index_or held.good k false)

-- the Node B has the same blocks for downlink channel i in each radio frame of the TTI; and in the last one the
-- terminal finds the combination of each, and reads just these blocks, in their format, all good
pub record DownAsGiven (planned : Planned) (i : ℕ) (frames : ℕ) (old new : LinkState)
    (t : Tti frames old new) : Type 0 where
  pub given : Blocks
  pub stays : InTti (λ old new lines f. f.node_b.given i ≡ given) frames old new t
  pub combinations : FindsAll planned Down frames old new t
  pub held : Held
  pub read : new.ue.state.readings i ≡ Read held
  pub whole : HasFormat (channel_at planned.config.downlink.side i) held
  pub format : held.format ≡ given.format
  pub bits : held.bits ≡ given.bits
  pub good : AreGood held

-- layer 2 of the terminal has the same blocks for each uplink channel of a set in each radio frame of the TTI; and in
-- the last one the Node B finds the combination of each, and sends the Iub frame of the set with the CFN at which the
-- TTI started and just these blocks, in their formats, all good
pub record UpAsGiven (planned : Planned) (set : ℕ) (frames : ℕ) (old new : LinkState)
    (t : Tti frames old new) : Type 0 where
  pub given : ℕ → Given
  pub stays : ForSet planned.config.uplink.side set (λ i. InTti (λ old new lines f. new.ue.state.layer.given i
      ≡ given i) frames old new t)
  pub combinations : FindsAll planned Up frames old new t
  pub octets : List ℕ
  pub sent : t.step.frame.up_output.iub set ≡ Some octets
  pub held : HeldSet
  pub written : IsWrittenForm planned.config Up set octets
      (started (set_frames planned.config.uplink.side set) t.last.rnc.state.cfn) planned.config.qe held
  pub carries : ForSet planned.config.uplink.side set (λ i. CarriesGiven (given i) (held_at held.blocks i))
  pub good : ForSet planned.config.uplink.side set (λ i. AreGood (held_at held.blocks i))
