-- Which radio frame the terminal hears: that of the lowest leg of which one arrives.
use Rattle.std.specs.Prelude.{◌≡◌, ◌<◌, ℕ, List, Option, Some, None}
use Rattle.dch_types.specs.declared.channel.Dir.TheVariants.{Down}
use Rattle.dch_damage.specs.Opened.{HasRadioRoom}
use Rattle.dch_damage.specs.Tables.{iub_arrived, radio_arrived}
use Rattle.dch_node.specs.Values.{Radio}
use Rattle.dch_nodeb.specs.Values.{iub_shown, radio_shown}
use Rattle.dch_link.specs.SoftValues.{EachLeg, LegParts}

-- of so many legs, leg k is the lowest of which a radio frame arrives
pub record IsLowestRadio (arrives : ℕ → Option Radio) (count : ℕ) (radio : Radio) : Type 0 where
  pub leg : ℕ
  pub there : leg < count
  pub is : arrives leg ≡ Some radio
  pub before : (k : ℕ) → k < leg → arrives k ≡ None

-- the radio frame that is heard, or that none is
abbrev pub IsHeard : (ℕ → Option Radio) → ℕ → Option Radio → Type 0
IsHeard arrives count None = (k : ℕ) → k < count → arrives k ≡ None
IsHeard arrives count (Some radio) = IsLowestRadio arrives count radio

-- what arrives of the downlink radio frame that the Node B of a leg sent last, and of its uplink Iub frame of a set
abbrev pub radio_heard : LegParts → Option Radio
radio_heard leg = radio_arrived leg.damage (radio_shown leg.node_b)

abbrev pub iub_heard : LegParts → ℕ → Option (List ℕ)
iub_heard leg set = iub_arrived leg.damage (iub_shown leg.node_b set)

-- what arrives of the radio frames of the legs is this
abbrev pub Arrive : (ℕ → Option Radio) → List LegParts → Type 0
Arrive arrives legs = EachLeg (λ k leg. radio_heard leg ≡ arrives k) legs

-- the damage of each leg has room for the radio frame that its Node B sent
abbrev pub HaveRadioRooms : List LegParts → Type 0
HaveRadioRooms legs = EachLeg (λ k leg. HasRadioRoom leg.damage Down (radio_shown leg.node_b)) legs
