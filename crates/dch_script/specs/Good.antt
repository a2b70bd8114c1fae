-- What the events of a command keep, so that their words can be used without a further look.
use Rattle.std.specs.Prelude.{◌≡◌, ◌<◌, ◌≤◌, ℕ, List, Bool, true, false, Option, Some, None, length, ⊤}
use Rattle.dch_types.specs.declared.channel.Dir.{Dir}
use Rattle.dch_types.specs.declared.channel.Dir.TheVariants.{Up, Down}
use Rattle.dch_types.specs.declared.config.Config.{Config}
use Rattle.dch_types.specs.Parts.{side_of}
use Rattle.dch_types.specs.Timing.{has_set}
use Rattle.dch_script.specs.declared.event.Command.{Command}
use Rattle.dch_script.specs.declared.event.Command.TheVariants.{Encode, Link, Ue, NodeB, Rnc}
use Rattle.dch_script.specs.Code.{is_bits, longest}
use Rattle.dch_script.specs.Parts.{tfci_letters}
use Rattle.dch_script.specs.ParsedLine.{ParsedLine, code, unit, block, free, flip, lose, lose_iub, spoil, frame, iub, down, phy, phy_none, tick, change}
use Rattle.dch_script.specs.Texts.{are_cells, is_octets, is_unit, is_word_of_bits}
use Rattle.dch_script.specs.Units.{has_channel, mode_at}

-- the bearer has a channel in the direction, and the text is that of a unit of its mode
abbrev pub IsUnit : Config → Dir → ℕ → List ℕ → Type 0
IsUnit config dir bearer text = (has_channel config dir bearer ≡ true) × (is_unit (mode_at config bearer) text ≡ true)

-- the combination stands in the list of the direction
abbrev pub IsListed : Config → Dir → ℕ → Type 0
IsListed config dir combination = combination < length (side_of config dir).combinations

-- the set is one of the direction, and the text is octets
abbrev pub IsIub : Config → Dir → ℕ → List ℕ → Type 0
IsIub config dir set hex = (has_set (side_of config dir) set ≡ true) × (is_octets hex ≡ true)

-- the texts are those of the TFCI and of the cells of a radio frame of the direction
abbrev pub IsPhy : Config → Dir → List ℕ → List ℕ → Type 0
IsPhy config dir tfci cells = (is_word_of_bits (tfci_letters config dir) tfci ≡ true) × (are_cells dir cells ≡ true)

abbrev pub IsOfEncode : ParsedLine → Type 0
IsOfEncode (code coding crc bits) = is_bits 5000 bits ≡ true
IsOfEncode parsed = ⊥

abbrev pub IsOfLink : Config → ParsedLine → Type 0
IsOfLink config (unit dir bearer text) = IsUnit config dir bearer text
IsOfLink config (block dir combination) = IsListed config dir combination
IsOfLink config (free dir combination) = IsListed config dir combination
IsOfLink config (flip dir tfci place) = ⊤
IsOfLink config (lose dir) = ⊤
IsOfLink config (lose_iub dir set) = has_set (side_of config dir) set ≡ true
IsOfLink config (spoil dir set octet mask) = has_set (side_of config dir) set ≡ true
IsOfLink config (frame count) = (1 ≤ count) × (count ≤ 100000)
IsOfLink config parsed = ⊥

-- an event that is damage to the next frame
abbrev pub is_damage : ParsedLine → Bool
is_damage (flip dir tfci place) = true
is_damage (lose dir) = true
is_damage (lose_iub dir set) = true
is_damage (spoil dir set octet mask) = true
is_damage parsed = false

abbrev pub IsDamage : Config → ParsedLine → Type 0
IsDamage config parsed = IsOfLink config parsed × (is_damage parsed ≡ true)

abbrev pub IsTraffic : Config → ParsedLine → Type 0
IsTraffic config parsed = IsOfLink config parsed × (is_damage parsed ≡ false)

-- damage is done to one of so many legs, and to nothing else
abbrev pub IsOfSoft : ℕ → Config → Option ℕ → ParsedLine → Type 0
IsOfSoft legs config None parsed = IsTraffic config parsed
IsOfSoft legs config (Some leg) parsed = (leg < legs) × IsDamage config parsed

-- a terminal sends in the uplink
abbrev pub IsOfUe : Config → ParsedLine → Type 0
IsOfUe config (unit dir bearer text) = (dir ≡ Up) × IsUnit config Up bearer text
IsOfUe config (block dir combination) = (dir ≡ Up) × IsListed config Up combination
IsOfUe config (free dir combination) = (dir ≡ Up) × IsListed config Up combination
IsOfUe config (phy tfci cells) = IsPhy config Down tfci cells
IsOfUe config phy_none = ⊤
IsOfUe config tick = ⊤
IsOfUe config change = ⊤
IsOfUe config parsed = ⊥

abbrev pub IsOfNodeB : Config → ParsedLine → Type 0
IsOfNodeB config (iub set hex) = IsIub config Down set hex
IsOfNodeB config down = ⊤
IsOfNodeB config (phy tfci cells) = IsPhy config Up tfci cells
IsOfNodeB config phy_none = ⊤
IsOfNodeB config change = ⊤
IsOfNodeB config parsed = ⊥

-- a controller sends in the downlink
abbrev pub IsOfRnc : Config → ParsedLine → Type 0
IsOfRnc config (unit dir bearer text) = (dir ≡ Down) × IsUnit config Down bearer text
IsOfRnc config (block dir combination) = (dir ≡ Down) × IsListed config Down combination
IsOfRnc config (free dir combination) = (dir ≡ Down) × IsListed config Down combination
IsOfRnc config (iub set hex) = IsIub config Up set hex
IsOfRnc config tick = ⊤
IsOfRnc config change = ⊤
IsOfRnc config parsed = ⊥

-- an event that a command knows, with good words
abbrev pub IsGood : Command → Config → ParsedLine → Type 0
IsGood Encode config parsed = IsOfEncode parsed
IsGood Link config parsed = IsOfLink config parsed
IsGood Ue config parsed = IsOfUe config parsed
IsGood NodeB config parsed = IsOfNodeB config parsed
IsGood Rnc config parsed = IsOfRnc config parsed

-- the octets of an Iub frame, for which there is no limit of their own, are no longer than a line
abbrev pub IsWithin : ParsedLine → Type 0
IsWithin (iub set hex) = length hex ≤ longest
IsWithin parsed = ⊤
