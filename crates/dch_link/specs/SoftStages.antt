-- One radio frame of 10 ms through the nodes of a soft handover, stage by stage, with damage between them.
use Rattle.std.specs.Prelude.{◌≡◌, ◌⊎◌, ℕ, List, [], ◌∷◌, Option, Some, None}
use Rattle.dch_types.specs.declared.channel.Dir.TheVariants.{Up}
use Rattle.dch_combine.specs.declared.error.CombineError.{CombineError}
use Rattle.dch_combine.specs.Combined.{IsCombinedFrame}
use Rattle.dch_combine.specs.Legs.{LegFrame}
use Rattle.dch_combine.specs.Taken.{IsRefusal}
use Rattle.dch_iub.specs.Forms.{IsReadForm}
use Rattle.dch_node.specs.Lines.{Iub, IubBad, Line}
use Rattle.dch_node.specs.Values.{Radio}
use Rattle.dch_ue.specs.State.{DownlinkFrame, Event as UeEvent, State as UeState, Tick as UeTicks}
use Rattle.dch_ue.specs.Steps.{Steps as UeSteps}
use Rattle.dch_rnc.specs.State.{Event as RncEvent, IubFrame as IubFrameUp, State as RncState, Tick as RncTicks}
use Rattle.dch_rnc.specs.Steps.{Steps as RncSteps}
use Rattle.dch_link.specs.Courses.{Course, Goes}
use Rattle.dch_link.specs.Errors.{error_number}
use Rattle.dch_link.specs.Hearing.{IsHeard}
use Rattle.dch_link.specs.Legs.{LegState, ReceivesIub, ReceivesRadio, Transmits, iub_from, radio_from}
use Rattle.dch_link.specs.Soft.{SoftState, active, given, over, uplink_of, with_frame, with_leg}
use Rattle.dch_link.specs.declared.soft_stage.Stage.{Stage}
use Rattle.dch_link.specs.declared.soft_stage.Stage.TheVariants.{RncTick, IubDown, RadioDown, UeTick, RadioUp, IubUp, Combine}

-- one node takes a step, and the others stay
pub record UeGoes (old : SoftState) (event : UeEvent) (new : SoftState) : Type 0 where
  pub ue : Course UeState UeEvent
  pub goes : Goes UeSteps old.ue event ue
  pub is : new ≡ record old { ue = ue }

pub record RncGoes (old : SoftState) (event : RncEvent) (new : SoftState) : Type 0 where
  pub rnc : Course RncState RncEvent
  pub goes : Goes RncSteps old.rnc event rnc
  pub is : new ≡ record old { rnc = rnc }

-- the same, and these lines are reported
abbrev pub UeReports : SoftState → UeEvent → SoftState → List Line → Type 0
UeReports old event new lines = UeGoes old event new × (lines ≡ new.ue.last.lines)

abbrev pub RncReports : SoftState → RncEvent → SoftState → List Line → Type 0
RncReports old event new lines = RncGoes old event new × (lines ≡ new.rnc.last.lines)

-- something is done at leg k, and all else stays
pub record AtLeg (k : ℕ) (Does : LegState → LegState → List Line → Type 0) (old new : SoftState)
    (lines : List Line) : Type 0 where
  pub leg : LegState
  pub does : Does (old.legs k) leg lines
  pub is : new ≡ with_leg old k leg

-- the downlink radio frame of the lowest leg of which one arrives comes to the terminal, if one does
pub record Hears (old new : SoftState) : Type 0 where
  pub heard : Option Radio
  pub is_heard : IsHeard (λ k. radio_from (old.legs k)) old.count heard
  pub comes : UeGoes old (DownlinkFrame heard) new

-- and 10 ms pass there
pub record UeReceives (old new : SoftState) (lines : List Line) : Type 0 where
  pub mid : SoftState
  pub hears : Hears old mid
  pub ticks : UeReports mid UeTicks new lines

-- nothing happens
abbrev pub Stays : SoftState → SoftState → List Line → Type 0
Stays old new lines = (new ≡ old) × (lines ≡ [])

-- the frame of a leg is taken for a set, in the TTI that started at a CFN
pub record IsTaken (cfn set leg : ℕ) (octets : List ℕ) (old new : SoftState) (lines : List Line) : Type 0 where
  pub frame : LegFrame
  pub read : IsReadForm (active old).config Up set octets cfn frame.qe frame.held
  pub is : new ≡ with_frame old set leg frame
  pub quiet : lines ≡ []

-- or refused, which is reported
pub record IsRefused (cfn set : ℕ) (octets : List ℕ) (old new : SoftState) (lines : List Line) : Type 0 where
  pub error : CombineError
  pub cause : IsRefusal (active old).config set cfn octets error
  pub same : new ≡ old
  pub reported : lines ≡ IubBad Up set (error_number error) ∷ []

-- it is taken, if it arrives
abbrev pub MayTake : ℕ → ℕ → ℕ → Option (List ℕ) → SoftState → SoftState → List Line → Type 0
MayTake cfn set leg None old new lines = Stays old new lines
MayTake cfn set leg (Some octets) old new lines = IsTaken cfn set leg octets old new lines
    ⊎ IsRefused cfn set octets old new lines

abbrev pub TakesFrame : ℕ → ℕ → ℕ → SoftState → SoftState → List Line → Type 0
TakesFrame cfn set leg old new lines = MayTake cfn set leg (iub_from (old.legs leg) set) old new lines

-- no leg has a frame of the set
pub record HasNoFrame (set : ℕ) (old new : SoftState) (lines : List Line) : Type 0 where
  pub none : (k : ℕ) → old.frames set k ≡ None
  pub stays : Stays old new lines

-- the frames of the legs are combined to one, which is reported, and which the network controller takes
pub record IsCombined (cfn set : ℕ) (old new : SoftState) (lines : List Line) : Type 0 where
  pub octets : List ℕ
  pub combined : IsCombinedFrame (active old).config set (old.frames set) cfn octets
  pub comes : RncGoes (given old set) (IubFrameUp set octets) new
  pub all : lines ≡ Iub Up set octets ∷ new.rnc.last.lines

-- the frames of a set are combined, if there is one
abbrev pub GivesFrame : ℕ → ℕ → SoftState → SoftState → List Line → Type 0
GivesFrame cfn set old new lines = HasNoFrame set old new lines ⊎ IsCombined cfn set old new lines

-- something is done for a set whose TTI is over, given the CFN at which it started
abbrev pub WhereOver : Option ℕ → (ℕ → SoftState → SoftState → List Line → Type 0) → SoftState → SoftState → List Line
    → Type 0
WhereOver None Does old new lines = Stays old new lines
WhereOver (Some cfn) Does old new lines = Does cfn old new lines

-- what a stage of a radio frame does: each node hands on what it sent last, and the damage of a leg comes between
abbrev pub AtStage : Stage → SoftState → SoftState → List Line → Type 0
AtStage RncTick old new lines = RncReports old RncTicks new lines
AtStage (IubDown leg set) old new lines = AtLeg leg (ReceivesIub set (old.rnc.last.iub set)) old new lines
AtStage (RadioDown leg) old new lines = AtLeg leg Transmits old new lines
AtStage UeTick old new lines = UeReceives old new lines
AtStage (RadioUp leg) old new lines = AtLeg leg (ReceivesRadio old.ue.last.sent) old new lines
AtStage (IubUp set leg) old new lines = WhereOver (over (uplink_of old) set old.cfn)
    (λ cfn. TakesFrame cfn set leg) old new lines
AtStage (Combine set) old new lines = WhereOver (over (uplink_of old) set old.cfn)
    (λ cfn. GivesFrame cfn set) old new lines
