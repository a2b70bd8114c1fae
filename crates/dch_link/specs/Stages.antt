-- One radio frame of 10 ms through three nodes, stage by stage, with damage between them.
use Rattle.std.specs.Prelude.{◌≡◌, ◌++◌, ℕ, List, [], Option, Some, None, length}
use Rattle.dch_types.specs.declared.channel.Dir.{Dir}
use Rattle.dch_types.specs.declared.channel.Dir.TheVariants.{Up, Down}
use Rattle.dch_types.specs.declared.channel.Side.{Side}
use Rattle.dch_layer2.specs.Layers.{Layer}
use Rattle.dch_layer2.specs.Reading.{Reading}
use Rattle.dch_node.specs.Lines.{Line}
use Rattle.dch_damage.specs.Damage.{iub_after, radio_after}
use Rattle.dch_ue.specs.State.{DownlinkFrame, Event as UeEvent, State as UeState, Tick as UeTicks}
use Rattle.dch_ue.specs.Steps.{Steps as UeSteps}
use Rattle.dch_nodeb.specs.State.{DownlinkDue, Event as NodeBEvent, IubFrame as IubFrameDown, State as NodeBState, UplinkFrame}
use Rattle.dch_nodeb.specs.Steps.{Steps as NodeBSteps}
use Rattle.dch_rnc.specs.State.{Event as RncEvent, IubFrame as IubFrameUp, State as RncState, Tick as RncTicks}
use Rattle.dch_rnc.specs.Steps.{Steps as RncSteps}
use Rattle.dch_link.specs.Checks.{AreChecked, good_in}
use Rattle.dch_link.specs.Courses.{Course, Goes}
use Rattle.dch_link.specs.Link.{LinkState, active}
use Rattle.dch_link.specs.declared.stage.Stage.{Stage}
use Rattle.dch_link.specs.declared.stage.Stage.TheVariants.{RncTick, IubDown, RadioDown, UeTick, RadioUp, IubUp}

-- one node takes a step, and the others stay
pub record UeGoes (old : LinkState) (event : UeEvent) (new : LinkState) : Type 0 where
  pub ue : Course UeState UeEvent
  pub goes : Goes UeSteps old.ue event ue
  pub is : new ≡ record old { ue = ue }

pub record NodeBGoes (old : LinkState) (event : NodeBEvent) (new : LinkState) : Type 0 where
  pub node_b : Course NodeBState NodeBEvent
  pub goes : Goes NodeBSteps old.node_b event node_b
  pub is : new ≡ record old { node_b = node_b }

pub record RncGoes (old : LinkState) (event : RncEvent) (new : LinkState) : Type 0 where
  pub rnc : Course RncState RncEvent
  pub goes : Goes RncSteps old.rnc event rnc
  pub is : new ≡ record old { rnc = rnc }

-- the same, and these lines are reported
abbrev pub UeReports : LinkState → UeEvent → LinkState → List Line → Type 0
UeReports old event new lines = UeGoes old event new × (lines ≡ new.ue.last.lines)

abbrev pub NodeBReports : LinkState → NodeBEvent → LinkState → List Line → Type 0
NodeBReports old event new lines = NodeBGoes old event new × (lines ≡ new.node_b.last.lines)

abbrev pub RncReports : LinkState → RncEvent → LinkState → List Line → Type 0
RncReports old event new lines = RncGoes old event new × (lines ≡ new.rnc.last.lines)

-- what was read of the channels of a direction at the far end is compared with what layer 2 gave to them at the near
-- end
abbrev pub AreCompared : Dir → Side → (ℕ → Reading) → Layer → List Line → Type 0
AreCompared dir side readings near lines = AreChecked dir (λ i. good_in (readings i)) (λ i. (near.given i).blocks)
    (length side.channels) lines

-- the Node B takes an Iub frame of a set, if it arrives
abbrev pub MayGoDown : ℕ → Option (List ℕ) → LinkState → LinkState → List Line → Type 0
MayGoDown set None old new lines = (new ≡ old) × (lines ≡ [])
MayGoDown set (Some octets) old new lines = NodeBReports old (IubFrameDown set octets) new lines

-- the terminal takes the downlink radio frame, and 10 ms pass
pub record UeReceives (old new : LinkState) (lines : List Line) : Type 0 where
  pub mid : LinkState
  pub comes : UeGoes old (DownlinkFrame (radio_after old.damage Down old.node_b.last.sent)) mid
  pub ticks : UeGoes mid UeTicks new
  pub checks : List Line
  pub compared : AreCompared Down (active old).config.downlink.side new.ue.state.readings new.rnc.state.layer checks
  pub all : lines ≡ new.ue.last.lines ++ checks

-- the network controller takes an Iub frame of a set
pub record RncReceives (set : ℕ) (octets : List ℕ) (old new : LinkState) (lines : List Line) : Type 0 where
  pub comes : RncGoes old (IubFrameUp set octets) new
  pub checks : List Line
  pub compared : AreCompared Up (active old).config.uplink.side new.rnc.state.readings new.ue.state.layer checks
  pub all : lines ≡ new.rnc.last.lines ++ checks

abbrev pub MayGoUp : ℕ → Option (List ℕ) → LinkState → LinkState → List Line → Type 0
MayGoUp set None old new lines = (new ≡ old) × (lines ≡ [])
MayGoUp set (Some octets) old new lines = RncReceives set octets old new lines

-- what a stage of a radio frame does: each node hands on what it sent last, and the damage comes between
abbrev pub AtStage : Stage → LinkState → LinkState → List Line → Type 0
AtStage RncTick old new lines = RncReports old RncTicks new lines
AtStage (IubDown set) old new lines = MayGoDown set (iub_after old.damage Down set (old.rnc.last.iub set)) old new lines
AtStage RadioDown old new lines = NodeBReports old DownlinkDue new lines
AtStage UeTick old new lines = UeReceives old new lines
AtStage RadioUp old new lines = NodeBReports old (UplinkFrame (radio_after old.damage Up old.ue.last.sent)) new lines
AtStage (IubUp set) old new lines = MayGoUp set (iub_after old.damage Up set (old.node_b.last.iub set)) old new lines
