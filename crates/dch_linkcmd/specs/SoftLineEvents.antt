-- What a line of `soft` says to the nodes.
use Rattle.std.specs.Prelude.{◌≡◌, ℕ, List, Option, Some, None, Ok, true, false}
use Rattle.dch_types.specs.declared.channel.Dir.{Dir}
use Rattle.dch_types.specs.declared.config.Config.{Config}
use Rattle.dch_script.specs.ParsedLine.{ParsedLine, unit, block, free, flip, lose, lose_iub, spoil, frame}
use Rattle.dch_script.specs.Soft.{soft_meaning}
use Rattle.dch_script.specs.Units.{mode_at}
use Rattle.dch_link.specs.Damage.{Flip, Lose, LoseIub, Spoil}
use Rattle.dch_link.specs.SoftEvents.{BlockedCombination, Damages, Event, OfferedUnit}
use Rattle.dch_lines.specs.Texts.{unit_bits, unit_octets}

-- something happens between two radio frames, or so many radio frames pass
pub data Said : Type 0 where
  OneEvent : (event : Event) → Said
  Frames : (count : ℕ) → Said

-- a unit with this text is offered to a bearer
abbrev pub unit_event : Config → Dir → ℕ → List ℕ → Event
unit_event config dir bearer text = OfferedUnit dir bearer (unit_octets (mode_at config bearer) text)
    (unit_bits (mode_at config bearer) text)

-- what a line without a leg says, if it says anything
abbrev pub said_by : Config → ParsedLine → Option Said
said_by config (unit dir bearer text) = Some (OneEvent (unit_event config dir bearer text))
said_by config (block dir combination) = Some (OneEvent (BlockedCombination dir combination true))
said_by config (free dir combination) = Some (OneEvent (BlockedCombination dir combination false))
said_by config (frame count) = Some (Frames count)
said_by config parsed = None

-- what a line says of a leg
abbrev pub said_of_leg : ℕ → ParsedLine → Option Said
said_of_leg leg (flip dir tfci place) = Some (OneEvent (Damages leg (Flip dir tfci place)))
said_of_leg leg (lose dir) = Some (OneEvent (Damages leg (Lose dir)))
said_of_leg leg (lose_iub dir set) = Some (OneEvent (Damages leg (LoseIub dir set)))
said_of_leg leg (spoil dir set octet mask) = Some (OneEvent (Damages leg (Spoil dir set octet mask)))
said_of_leg leg parsed = None

abbrev pub said_at : Config → Option ℕ → ParsedLine → Option Said
said_at config None parsed = said_by config parsed
said_at config (Some leg) parsed = said_of_leg leg parsed

-- a line says this under a configuration, where there are so many legs
pub record Says (legs : ℕ) (config : Config) (line : List ℕ) (said : Said) : Type 0 where
  pub leg : Option ℕ
  pub parsed : ParsedLine
  pub is_parsed : soft_meaning legs config line ≡ Ok (leg, parsed)
  pub is : said_at config leg parsed ≡ Some said
