-- The nodes of a soft handover, and what they stand for.
use Rattle.std.specs.Prelude.{◌≡◌, ◌<◌, ◌≤◌, ℕ, List, true, length}
use Rattle.dch_types.specs.declared.channel.Dir.TheVariants.{Up, Down}
use Rattle.dch_types.specs.Parts.{side_of}
use Rattle.dch_types.specs.Timing.{has_set}
use Rattle.dch_accept.specs.Plans.{Planned}
use Rattle.dch_node.specs.Lines.{Line}
use Rattle.dch_combine.specs.Opened.{HoldsLongest, IsCombinerOf}
use Rattle.dch_combine.specs.Values.{frames_of}
use Rattle.dch_damage.specs.Damage.{Damage, Flip, Lose, LoseIub, Spoil}
use Rattle.dch_damage.specs.Opened.{IsDamageOf}
use Rattle.dch_damage.specs.Waiting.{Waits}
use Rattle.dch_ue.specs.Opened.{IsNodeOf as IsUeOf}
use Rattle.dch_ue.specs.Standing.{Represents as UeStands, RepresentsHistory as UeHistory, Shows as UeShows}
use Rattle.dch_ue.specs.State.{opened_state as opened_ue}
use Rattle.dch_ue.specs.Steps.{Steps as UeSteps}
use Rattle.dch_ue.specs.Values.{Node as Ue}
use Rattle.dch_nodeb.specs.Opened.{IsNodeOf as IsNodeBOf}
use Rattle.dch_nodeb.specs.Standing.{Represents as NodeBStands, RepresentsHistory as NodeBHistory, Shows as NodeBShows}
use Rattle.dch_nodeb.specs.State.{opened_state as opened_node_b}
use Rattle.dch_nodeb.specs.Steps.{Steps as NodeBSteps}
use Rattle.dch_rnc.specs.Opened.{IsNodeOf as IsRncOf}
use Rattle.dch_rnc.specs.Standing.{Represents as RncStands, RepresentsHistory as RncHistory, Shows as RncShows}
use Rattle.dch_rnc.specs.State.{opened_state as opened_rnc}
use Rattle.dch_rnc.specs.Steps.{Steps as RncSteps}
use Rattle.dch_rnc.specs.Values.{Node as Rnc}
use Rattle.dch_link.specs.Courses.{IsCourse}
use Rattle.dch_link.specs.Fitting.{Fits}
use Rattle.dch_link.specs.LinkNodes.{SendsTo}
use Rattle.dch_link.specs.SoftEvents.{BlockedCombination, Damages, Event, OfferedUnit}
use Rattle.dch_link.specs.Legs.{LegState, opened_leg}
use Rattle.dch_link.specs.Soft.{SoftState}
use Rattle.dch_link.specs.SoftValues.{EachLeg, LegParts, Parts}
use Rattle.dch_link.specs.declared.soft_event.LegDamage.{LegDamage}
use Rattle.dch_link.specs.declared.soft_event.LegDamage.TheVariants.{Flip as Flips, Lose as Loses, LoseIub as LosesIub, Spoil as Spoils}
use Rattle.dch_link.specs.declared.soft_event.SoftEvent.{SoftEvent}
use Rattle.dch_link.specs.declared.soft_event.SoftEvent.TheVariants.{Unit as Offered, Block, Damage as Hits}

-- damage, as plain numbers
abbrev pub damage_of : LegDamage → Damage
damage_of (Flips dir tfci place) = Flip dir tfci place
damage_of (Loses dir) = Lose dir
damage_of (LosesIub dir set) = LoseIub dir set
damage_of (Spoils dir set octet mask) = Spoil dir set octet mask

-- what happens, as plain lists
abbrev pub event_of : SoftEvent → Event
event_of (Offered dir b octets bits) = OfferedUnit dir b octets.now bits.now
event_of (Block dir c on) = BlockedCombination dir c on
event_of (Hits leg damage) = Damages leg (damage_of damage)

-- damage that may be done: its set is one of its direction
abbrev pub MayHit : Planned → LegDamage → Type 0
MayHit planned (Flips dir tfci place) = Unit {0}
MayHit planned (Loses dir) = Unit {0}
MayHit planned (LosesIub dir set) = has_set (side_of planned.config dir) set ≡ true
MayHit planned (Spoils dir set octet mask) = has_set (side_of planned.config dir) set ≡ true

-- an event that may come where there are so many legs: its bearer sends in its direction, its combination or set is one
-- of its direction, and its leg is there
abbrev pub MayCome : Planned → ℕ → SoftEvent → Type 0
MayCome planned legs (Offered dir b octets bits) = SendsTo planned dir b
MayCome planned legs (Block dir c on) = c < length (side_of planned.config dir).combinations
MayCome planned legs (Hits leg damage) = (leg < legs) × MayHit planned damage

-- a leg that was opened for a configuration and a first CFN stands for what happened there, and what it sent last fits
pub record RepresentsLeg (planned : Planned) (first : ℕ) (state : LegState) (leg : LegParts) : Type 0 where
  pub node_b : IsCourse NodeBSteps (NodeBStands planned) NodeBShows (opened_node_b planned first)
      state.node_b leg.node_b
  pub sends : Fits planned Down Up state.node_b.last
  pub damage : Waits state.damage leg.damage

-- and so does each leg
abbrev pub RepresentLegs : Planned → ℕ → (ℕ → LegState) → List LegParts → Type 0
RepresentLegs planned first states legs = EachLeg (λ k leg. RepresentsLeg planned first (states k) leg) legs

-- all nodes do
pub record Represents (planned : Planned) (first : ℕ) (soft : SoftState) (parts : Parts) : Type 0 where
  pub ue : IsCourse UeSteps (UeStands planned) UeShows (opened_ue planned first) soft.ue parts.ue
  pub rnc : IsCourse RncSteps (RncStands planned) RncShows (opened_rnc planned first) soft.rnc parts.rnc
  pub ue_sends : Fits planned Up Up soft.ue.last
  pub rnc_sends : Fits planned Down Down soft.rnc.last
  pub count : soft.count ≡ length parts.legs
  pub legs : RepresentLegs planned first soft.legs parts.legs
  pub frames : soft.frames ≡ frames_of parts.combiner
  pub cfn : soft.cfn ≡ parts.cfn

-- the parts of a leg were opened for the configuration
pub record IsLegOf (planned : Planned) (leg : LegParts) : Type 0 where
  pub node_b : IsNodeBOf planned leg.node_b
  pub damage : IsDamageOf planned leg.damage

abbrev pub AreLegsOf : Planned → List LegParts → Type 0
AreLegsOf planned legs = EachLeg (λ k leg. IsLegOf planned leg) legs

-- all parts were opened for the configuration
pub record ArePartsOf (planned : Planned) (parts : Parts) : Type 0 where
  pub ue : IsUeOf planned parts.ue
  pub rnc : IsRncOf planned parts.rnc
  pub legs : AreLegsOf planned parts.legs
  pub combiner : IsCombinerOf planned parts.combiner
  pub all : parts.combiner.legs ≡ length parts.legs
  pub some : 1 ≤ length parts.legs
  pub few : length parts.legs ≤ 6
  pub room : (s : ℕ) → s < 8 → HoldsLongest planned.config s parts.room

-- and they stand for something that happened
pub record IsSoftOf (planned : Planned) (parts : Parts) : Type 0 where
  pub opened : ArePartsOf planned parts
  pub first : ℕ
  pub soft : SoftState
  pub stands : Represents planned first soft parts

-- so does a leg
pub record IsStandingLeg (planned : Planned) (leg : LegParts) : Type 0 where
  pub opened : IsLegOf planned leg
  pub first : ℕ
  pub state : LegState
  pub stands : RepresentsLeg planned first state leg

-- something happened, and whoever is told is told of its lines
pub record LeadsTo (planned : Planned) (first : ℕ) (Does : SoftState → List Line → Type 0) (parts : Parts)
    (Says : List Line → Type 0) : Type 0 where
  pub next : SoftState
  pub lines : List Line
  pub does : Does next lines
  pub stands : Represents planned first next parts
  pub tells : Says lines

-- and at a leg
pub record LegLeadsTo (planned : Planned) (first : ℕ) (Does : LegState → List Line → Type 0) (leg : LegParts)
    (Says : List Line → Type 0) : Type 0 where
  pub next : LegState
  pub lines : List Line
  pub does : Does next lines
  pub stands : RepresentsLeg planned first next leg
  pub tells : Says lines

-- legs that were just opened
pub record AreNewLegs (planned : Planned) (first count : ℕ) (legs : List LegParts) : Type 0 where
  pub all : length legs ≡ count
  pub opened : AreLegsOf planned legs
  pub stands : RepresentLegs planned first (λ k. opened_leg planned first) legs

-- each node stands for just what happened at it
pub record HaveHistories (planned : Planned) (first : ℕ) (soft : SoftState) (ue : Ue) (legs : List LegParts)
    (rnc : Rnc) : Type 0 where
  pub ue_has : UeHistory planned planned first soft.ue.events soft.ue.lines ue
  pub rnc_has : RncHistory planned planned first soft.rnc.events soft.rnc.lines rnc
  pub count : length legs ≡ soft.count
  pub legs_have : EachLeg (λ k leg. NodeBHistory planned planned first (soft.legs k).node_b.events
      (soft.legs k).node_b.lines leg.node_b) legs
