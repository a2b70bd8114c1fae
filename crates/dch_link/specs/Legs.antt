-- A leg of a soft handover: what happened at its Node B, and the damage that waits for its frames.
use Rattle.std.specs.Prelude.{◌≡◌, ℕ, List, [], Option, Some, None}
use Rattle.dch_types.specs.declared.channel.Dir.TheVariants.{Up, Down}
use Rattle.dch_accept.specs.Plans.{Planned}
use Rattle.dch_node.specs.Lines.{Line}
use Rattle.dch_node.specs.Values.{Radio}
use Rattle.dch_damage.specs.Damage.{Damage, iub_after, radio_after}
use Rattle.dch_nodeb.specs.State.{DownlinkDue, Event as NodeBEvent, IubFrame as IubFrameDown, State as NodeBState, UplinkFrame, opened_state as opened_node_b}
use Rattle.dch_nodeb.specs.Steps.{Steps as NodeBSteps}
use Rattle.dch_link.specs.Courses.{Course, Goes, opened_course}

-- the damage is that to the next radio frame, the newest first
pub record LegState : Type 0 where
  pub node_b : Course NodeBState NodeBEvent
  pub damage : List Damage

abbrev pub opened_leg : Planned → ℕ → LegState
opened_leg planned first = record { node_b = opened_course (opened_node_b planned first); damage = [] }

-- the Node B takes a step, and these lines are reported
pub record LegGoes (old : LegState) (event : NodeBEvent) (new : LegState) (lines : List Line) : Type 0 where
  pub node_b : Course NodeBState NodeBEvent
  pub goes : Goes NodeBSteps old.node_b event node_b
  pub is : new ≡ record old { node_b = node_b }
  pub reported : lines ≡ node_b.last.lines

-- it takes an Iub frame of a set, if it arrives
abbrev pub MayGoDown : ℕ → Option (List ℕ) → LegState → LegState → List Line → Type 0
MayGoDown set None old new lines = (new ≡ old) × (lines ≡ [])
MayGoDown set (Some octets) old new lines = LegGoes old (IubFrameDown set octets) new lines

-- what the network controller sent for a set comes to the leg
abbrev pub ReceivesIub : ℕ → Option (List ℕ) → LegState → LegState → List Line → Type 0
ReceivesIub set sent old new lines = MayGoDown set (iub_after old.damage Down set sent) old new lines

-- the downlink radio frame is due
abbrev pub Transmits : LegState → LegState → List Line → Type 0
Transmits old new lines = LegGoes old DownlinkDue new lines

-- what the terminal sent comes to the leg
abbrev pub ReceivesRadio : Option Radio → LegState → LegState → List Line → Type 0
ReceivesRadio sent old new lines = LegGoes old (UplinkFrame (radio_after old.damage Up sent)) new lines

-- what arrives at the terminal of the radio frame that the leg sent
abbrev pub radio_from : LegState → Option Radio
radio_from leg = radio_after leg.damage Down leg.node_b.last.sent

-- what arrives of the uplink Iub frame of a set that the leg sent
abbrev pub iub_from : LegState → ℕ → Option (List ℕ)
iub_from leg set = iub_after leg.damage Up set (leg.node_b.last.iub set)

-- the damage is over
abbrev pub undamaged : LegState → LegState
undamaged leg = record leg { damage = [] }
