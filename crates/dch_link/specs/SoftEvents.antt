-- What a script does between two radio frames.
use Rattle.std.specs.Prelude.{◌≡◌, ℕ, List, [], ◌∷◌, Bool}
use Rattle.dch_bits.specs.declared.bit.Bit.{Bit}
use Rattle.dch_types.specs.declared.channel.Dir.{Dir}
use Rattle.dch_types.specs.declared.channel.Dir.TheVariants.{Up, Down}
use Rattle.dch_node.specs.Lines.{Line}
use Rattle.dch_damage.specs.Damage.{Damage}
use Rattle.dch_ue.specs.State.{BlockedCombination as UeBlocked, OfferedUnit as UeOffered}
use Rattle.dch_rnc.specs.State.{BlockedCombination as RncBlocked, OfferedUnit as RncOffered}
use Rattle.dch_link.specs.Legs.{LegState}
use Rattle.dch_link.specs.Soft.{SoftState, with_leg}
use Rattle.dch_link.specs.SoftStages.{RncReports, UeReports}

-- a unit is offered to a bearer at the end that sends in a direction, a combination of that direction is blocked or
-- free, or damage waits for the frames of a leg in the next radio frame
pub data Event : Type 0 where
  OfferedUnit : (dir : Dir) → (bearer : ℕ) → (octets : List ℕ) → (bits : List Bit) → Event
  BlockedCombination : (dir : Dir) → (combination : ℕ) → (on : Bool) → Event
  Damages : (leg : ℕ) → (damage : Damage) → Event

-- one more piece of damage waits
abbrev pub damaged : LegState → Damage → LegState
damaged leg damage = record leg { damage = damage ∷ leg.damage }

abbrev pub Happens : SoftState → Event → SoftState → List Line → Type 0
Happens old (OfferedUnit Up bearer octets bits) new lines = UeReports old (UeOffered bearer octets bits) new lines
Happens old (OfferedUnit Down bearer octets bits) new lines = RncReports old (RncOffered bearer octets bits) new lines
Happens old (BlockedCombination Up combination on) new lines = UeReports old (UeBlocked combination on) new lines
Happens old (BlockedCombination Down combination on) new lines = RncReports old (RncBlocked combination on) new lines
Happens old (Damages leg damage) new lines = (new ≡ with_leg old leg (damaged (old.legs leg) damage)) × (lines ≡ [])
