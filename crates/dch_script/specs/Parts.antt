-- The words of a line that name a direction, a combination, a set or a number, or lend a text.
use Rattle.std.specs.Prelude.{ℕ, List, Bool, true, false, Result, Ok, Err, codes, if◌then◌else◌, length, nat_le, nat_lt, slice_index}
use Rattle.std.specs.Option.{ok_or}
use Rattle.std.specs.Str.{bytes_eq}
use Rattle.hex.specs.Hex.{decode_sized}
use Rattle.hex.specs.declared.error.FromHexError.{FromHexError}
use Rattle.dch_types.specs.declared.channel.Dir.{Dir}
use Rattle.dch_types.specs.declared.channel.Dir.TheVariants.{Up, Down}
use Rattle.dch_types.specs.declared.config.Config.{Config}
use Rattle.dch_types.specs.Parts.{side_of}
use Rattle.dch_types.specs.Timing.{has_set}
use Rattle.dch_script.specs.declared.event.LineError.{LineError}
use Rattle.dch_script.specs.declared.event.LineError.TheVariants.{Number, Text}
use Rattle.dch_script.specs.ParsedLine.{◌>>=◌}
use Rattle.dch_script.specs.Numbers.{number_of}
use Rattle.dch_script.specs.Texts.{is_octets, is_word_of_bits}

-- the value, where a test holds, or else an error
abbrev pub provided : {A : Type 0} → Bool → A → LineError → Result A LineError
provided true value error = Ok value
provided false value error = Err error

-- DIR
unfoldable pub dir_of : List ℕ → Result Dir LineError
dir_of word = if bytes_eq word (codes "up") then Ok Up else (if bytes_eq word (codes "down") then Ok Down else Err Text)

-- the direction of an Iub frame
unfoldable pub iub_dir_of : List ℕ → Result Dir LineError
iub_dir_of word = if bytes_eq word (codes "iubup") then Ok Up
    else (if bytes_eq word (codes "iubdown") then Ok Down else Err Text)

-- PART: whether it is the TFCI
unfoldable pub part_of : List ℕ → Result Bool LineError
part_of word = if bytes_eq word (codes "t") then Ok true else (if bytes_eq word (codes "d") then Ok false else Err Text)

-- a number of at most so much
unfoldable pub number_in : ℕ → List ℕ → Result ℕ LineError
number_in most word = ok_or (number_of most word) Number

-- the word COMBINATION: the number of a TFC of a direction
unfoldable pub combination_of : Config → Dir → List ℕ → Result ℕ LineError
combination_of config dir word = do
  c ← number_in 65535 word
  provided (nat_lt c (length (side_of config dir).combinations)) c Number

-- the word SET: the number of a set of a direction that is there
unfoldable pub set_of : Config → Dir → List ℕ → Result ℕ LineError
set_of config dir word = do
  set ← number_in 255 word
  provided (has_set (side_of config dir) set) set Number

-- a number of at least and at most so much
unfoldable pub number_from : ℕ → ℕ → List ℕ → Result ℕ LineError
number_from least most word = do
  number ← number_in most word
  provided (nat_le least number) number Number

-- N of radio frames
abbrev pub count_of : List ℕ → Result ℕ LineError
count_of word = number_from 1 100000 word

abbrev pub first_octet : Result (List ℕ) FromHexError → Result ℕ LineError
first_octet (Ok octets) = Ok (slice_index octets 0)
first_octet (Err error) = Err Text

-- MASK: the octet of just two hexadecimal digits
unfoldable pub mask_of : List ℕ → Result ℕ LineError
mask_of word = first_octet (decode_sized word 1)

-- HEX
unfoldable pub hex_of : List ℕ → Result (List ℕ) LineError
hex_of text = provided (is_octets text) text Text

-- the letters of the TFCI of a radio frame: 120 in a downlink with a spreading factor below 128, and else 30
unfoldable pub tfci_letters : Config → Dir → ℕ
tfci_letters config Up = 30
tfci_letters config Down = if nat_lt config.downlink.sf 128 then 120 else 30

-- the word TFCI: so many letters of bits
unfoldable pub tfci_of : Config → Dir → List ℕ → Result (List ℕ) LineError
tfci_of config dir text = provided (is_word_of_bits (tfci_letters config dir) text) text Text
