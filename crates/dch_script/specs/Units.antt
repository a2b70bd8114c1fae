-- The words of a unit: its bearer, and its text.
use Rattle.std.specs.Prelude.{ℕ, List, Bool, false, Option, Some, None, Result, Ok, Err, if◌then◌else◌, is_some, slice_get}
use Rattle.std.specs.Option.{option_map_or}
use Rattle.dch_types.specs.declared.bearer.Mode.{Mode}
use Rattle.dch_types.specs.declared.bearer.Mode.TheVariants.{Tm}
use Rattle.dch_types.specs.declared.channel.Dir.{Dir}
use Rattle.dch_types.specs.declared.config.Config.{Config}
use Rattle.dch_types.specs.Parts.{channel_number}
use Rattle.dch_script.specs.declared.event.LineError.{LineError}
use Rattle.dch_script.specs.declared.event.LineError.TheVariants.{Number, Text, Bearer as NoBearer}
use Rattle.dch_script.specs.Numbers.{is_numeral, number_of}
use Rattle.dch_script.specs.Parts.{provided}
use Rattle.dch_script.specs.ParsedLine.{ParsedLine, unit, ◌>>=◌}
use Rattle.dch_script.specs.Texts.{is_unit}

-- the bearer stands in the list and has a channel in the direction
unfoldable pub has_channel : Config → Dir → ℕ → Bool
has_channel config dir b = option_map_or (λ bearer. is_some (channel_number dir bearer))
    (slice_get config.bearers b) false

abbrev pub named_bearer : Config → Dir → Option ℕ → Result ℕ LineError
named_bearer config dir None = Err NoBearer
named_bearer config dir (Some b) = provided (has_channel config dir b) b NoBearer

-- BEARER
unfoldable pub bearer_of : Config → Dir → List ℕ → Result ℕ LineError
bearer_of config dir word = if is_numeral word then named_bearer config dir (number_of 255 word) else Err Number

-- the mode of a bearer
unfoldable pub mode_at : Config → ℕ → Mode
mode_at config b = option_map_or (λ bearer. bearer.mode) (slice_get config.bearers b) Tm

-- TEXT of a unit
unfoldable pub text_of : Mode → List ℕ → Result (List ℕ) LineError
text_of mode text = provided (is_unit mode text) text Text

-- the words BEARER TEXT: a bearer that sends in the direction, and an SDU for it, in octets or in bits
unfoldable pub unit_of : Config → Dir → List ℕ → List ℕ → Result ParsedLine LineError
unit_of config dir bearer text = do
  b ← bearer_of config dir bearer
  t ← text_of (mode_at config b) text
  Ok (unit dir b t)
