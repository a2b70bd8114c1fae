-- A radio frame of 10 ms through three nodes, as one relation over the steps of the nodes.
use Rattle.std.specs.Prelude.{◌≡◌, ◌<◌, ◌+◌, ◌-◌, ◌++◌, ◌==◌, ℕ, zero, suc, List, [], Option, Some, None, if◌then◌else◌, nat_lt}
use Rattle.dch_types.specs.declared.channel.Dir.TheVariants.{Up, Down}
use Rattle.dch_accept.specs.Plans.{Planned}
use Rattle.dch_layer2.specs.Layers.{Layer}
use Rattle.dch_layer2.specs.Reading.{Nothing, Reading}
use Rattle.dch_node.specs.Lines.{Line, joined}
use Rattle.dch_node.specs.Values.{Output}
use Rattle.dch_damage.specs.Damage.{iub_after, radio_after}
use Rattle.dch_linkcmd.specs.UeState.{DownlinkFrame, State as UeState, Tick as UeTicks}
use Rattle.dch_linkcmd.specs.UeSteps.{Steps as UeSteps}
use Rattle.dch_linkcmd.specs.NodebState.{DownlinkDue, IubFrame as IubFrameDown, State as NodeBState, UplinkFrame}
use Rattle.dch_linkcmd.specs.NodebSteps.{Steps as NodeBSteps}
use Rattle.dch_linkcmd.specs.RncState.{IubFrame as IubFrameUp, State as RncState, Tick as RncTicks}
use Rattle.dch_linkcmd.specs.RncSteps.{Steps as RncSteps}
use Rattle.dch_linkcmd.specs.LinkLink.{LinkState}
use Rattle.dch_linkcmd.specs.LinkStages.{AreCompared}
use Rattle.dch_linkcmd.specs.stage.Stage.{Stage}
use Rattle.dch_linkcmd.specs.stage.Stage.TheVariants.{RncTick, IubDown, RadioDown, UeTick, RadioUp, IubUp}

-- the stages in order, from 0 on
abbrev pub stage_at : ℕ → Stage
stage_at k =
    if k == 0 then RncTick
    else (if nat_lt k 9 then IubDown (k - 1)
    else (if k == 9 then RadioDown
    else (if k == 10 then UeTick
    else (if k == 11 then RadioUp
    else IubUp (k - 12)))))

-- the Node B takes an Iub frame of a set, if one arrives
pub record Arrives (set : ℕ) (octets : List ℕ) (old new : NodeBState) (lines : List Line) : Type 0 where
  pub output : Output
  pub step : NodeBSteps old (IubFrameDown set octets) new output
  pub reported : lines ≡ output.lines

abbrev pub MayArrive : ℕ → Option (List ℕ) → NodeBState → NodeBState → List Line → Type 0
MayArrive set None old new lines = (new ≡ old) × (lines ≡ [])
MayArrive set (Some octets) old new lines = Arrives set octets old new lines

-- what the network controller reports of an Iub frame, and what it reads of each uplink channel
pub record Taken : Type 0 where
  pub lines : List Line
  pub readings : ℕ → Reading

abbrev pub nothing_taken : Taken
nothing_taken = record { lines = []; readings = λ i. Nothing }

-- the lines of the first sets
abbrev pub lines_below : (ℕ → Taken) → ℕ → List Line
lines_below taken zero = []
lines_below taken (suc s) = lines_below taken s ++ (taken s).lines

-- it takes an Iub frame of a set, and what it took is compared with what the terminal gave
pub record IsTaken (planned : Planned) (set : ℕ) (octets : List ℕ) (near : Layer) (old new : RncState) (taken : Taken)
    (lines : List Line) : Type 0 where
  pub output : Output
  pub step : RncSteps old (IubFrameUp set octets) new output
  pub is : taken ≡ record { lines = output.lines; readings = new.readings }
  pub checks : List Line
  pub compared : AreCompared Up planned.config.uplink.side new.readings near checks
  pub reported : lines ≡ output.lines ++ checks

-- if one arrives
abbrev pub MayBeTaken : Planned → ℕ → Option (List ℕ) → Layer → RncState → RncState → Taken → List Line → Type 0
MayBeTaken planned set None near old new taken lines = (new ≡ old) × (taken ≡ nothing_taken) × (lines ≡ [])
MayBeTaken planned set (Some octets) near old new taken lines = IsTaken planned set octets near old new taken lines

-- a frame: each node hands on what it sends, and the damage comes between. Iub frames arrive set by set
pub record IsFrame (old new : LinkState) (lines : List Line) : Type 0 where
  pub rnc : RncState
  pub rnc_output : Output
  pub rnc_ticks : RncSteps old.rnc.state RncTicks rnc rnc_output
  pub fed : ℕ → NodeBState
  pub fed_lines : ℕ → List Line
  pub fed_first : fed 0 ≡ old.node_b.state
  pub feeds : (s : ℕ) → s < 8 → MayArrive s (iub_after old.damage Down s (rnc_output.iub s)) (fed s) (fed (s + 1))
      (fed_lines s)
  pub node_b : NodeBState
  pub down_output : Output
  pub down : NodeBSteps (fed 8) DownlinkDue node_b down_output
  pub kept : UeState
  pub kept_output : Output
  pub keeps : UeSteps old.ue.state (DownlinkFrame (radio_after old.damage Down down_output.sent)) kept kept_output
  pub ue_output : Output
  pub ue_ticks : UeSteps kept UeTicks new.ue.state ue_output
  pub checks : List Line
  pub compared : AreCompared Down old.rnc.state.planned.config.downlink.side new.ue.state.readings rnc.layer checks
  pub up_output : Output
  pub up : NodeBSteps node_b (UplinkFrame (radio_after old.damage Up ue_output.sent)) new.node_b.state up_output
  pub rncs : ℕ → RncState
  pub taken : ℕ → Taken
  pub rnc_lines : ℕ → List Line
  pub rnc_first : rncs 0 ≡ rnc
  pub takes : (s : ℕ) → s < 8 → MayBeTaken old.rnc.state.planned s (iub_after old.damage Up s (up_output.iub s))
      new.ue.state.layer (rncs s) (rncs (s + 1)) (taken s) (rnc_lines s)
  pub rnc_last : new.rnc.state ≡ rncs 8
  pub ue_reported : new.ue.lines ≡ old.ue.lines ++ (kept_output.lines ++ ue_output.lines)
  pub rnc_reported : new.rnc.lines ≡ old.rnc.lines ++ (rnc_output.lines ++ lines_below taken 8)
  pub reported : lines ≡ rnc_output.lines ++ joined fed_lines 8 ++ down_output.lines ++ (ue_output.lines ++ checks)
      ++ up_output.lines ++ joined rnc_lines 8
