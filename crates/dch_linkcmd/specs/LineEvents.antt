-- What a line of `link` says to the three nodes.
use Rattle.std.specs.Prelude.{◌≡◌, ℕ, List, Option, Some, None, Ok, true, false}
use Rattle.dch_types.specs.declared.channel.Dir.{Dir}
use Rattle.dch_types.specs.declared.config.Config.{Config}
use Rattle.dch_script.specs.Meaning.{meaning_in}
use Rattle.dch_script.specs.ParsedLine.{ParsedLine, unit, block, free, flip, lose, lose_iub, spoil, frame}
use Rattle.dch_script.specs.Units.{mode_at}
use Rattle.dch_script.specs.declared.event.Command.TheVariants.{Link}
use Rattle.dch_link.specs.Damage.{Flip, Lose, LoseIub, Spoil}
use Rattle.dch_link.specs.Events.{BlockedCombination, Damages, Event, OfferedUnit}
use Rattle.dch_lines.specs.Texts.{unit_bits, unit_octets}

-- something happens between two radio frames, or so many radio frames pass
pub data Said : Type 0 where
  OneEvent : (event : Event) → Said
  Frames : (count : ℕ) → Said

-- a unit with this text is offered to a bearer
abbrev pub unit_event : Config → Dir → ℕ → List ℕ → Event
unit_event config dir bearer text = OfferedUnit dir bearer (unit_octets (mode_at config bearer) text)
    (unit_bits (mode_at config bearer) text)

-- what a line says, if it says anything
abbrev pub said_by : Config → ParsedLine → Option Said
said_by config (unit dir bearer text) = Some (OneEvent (unit_event config dir bearer text))
said_by config (block dir combination) = Some (OneEvent (BlockedCombination dir combination true))
said_by config (free dir combination) = Some (OneEvent (BlockedCombination dir combination false))
said_by config (flip dir tfci place) = Some (OneEvent (Damages (Flip dir tfci place)))
said_by config (lose dir) = Some (OneEvent (Damages (Lose dir)))
said_by config (lose_iub dir set) = Some (OneEvent (Damages (LoseIub dir set)))
said_by config (spoil dir set octet mask) = Some (OneEvent (Damages (Spoil dir set octet mask)))
said_by config (frame count) = Some (Frames count)
said_by config parsed = None

-- a line says this under a configuration
pub record Says (config : Config) (line : List ℕ) (said : Said) : Type 0 where
  pub parsed : ParsedLine
  pub is_parsed : meaning_in Link config line ≡ Ok parsed
  pub is : said_by config parsed ≡ Some said
