-- The lines of the command `encode`: `code CODE CRC BITS`.
use Rattle.std.specs.Prelude.{◌≡◌, ◌==◌, ◌-◌, ◌&&◌, ◌||◌, ℕ, List, [], ◌∷◌, Bool, true, Option, Some, None, Result, Ok, Err, codes, if◌then◌else◌, length, take, nat_le, nat_lt, slice_index}
use Rattle.std.specs.List.{list_all}
use Rattle.std.specs.Str.{bytes_eq}
use Rattle.dch_types.specs.declared.channel.Coding.{Coding}
use Rattle.dch_types.specs.declared.channel.Coding.TheVariants.{Uncoded, Half, Third}
use Rattle.dch_types.specs.declared.channel.Crc.{Crc}
use Rattle.dch_types.specs.declared.channel.Crc.TheVariants.{C0, C8, C12, C16, C24}
use Rattle.dch_script.specs.declared.event.Event.{Event}
use Rattle.dch_script.specs.declared.event.Event.TheVariants.{Code}
use Rattle.dch_script.specs.declared.event.LineError.{LineError}
use Rattle.dch_script.specs.declared.event.LineError.TheVariants.{Long, Cut, Word, Count, Text}
use Rattle.dch_script.specs.LineWords.{words_of}

-- a transport block to be coded: `bits` is the text of its bits
pub record CodeLine : Type 0 where
  pub coding : Coding
  pub crc : Crc
  pub bits : List ℕ

abbrev pub coding_of : List ℕ → Option Coding
coding_of word = if bytes_eq word (codes "none") then Some Uncoded
    else (if bytes_eq word (codes "half") then Some Half
    else (if bytes_eq word (codes "third") then Some Third else None))

abbrev pub crc_of : List ℕ → Option Crc
crc_of word = if bytes_eq word (codes "0") then Some C0
    else (if bytes_eq word (codes "8") then Some C8
    else (if bytes_eq word (codes "12") then Some C12
    else (if bytes_eq word (codes "16") then Some C16 else (if bytes_eq word (codes "24") then Some C24 else None))))

-- a text of 1 to so many letters 0 and 1, or a dot for no bit
abbrev pub is_bits : ℕ → List ℕ → Bool
is_bits most text = bytes_eq text (codes ".") || (nat_lt 0 (length text) &&
    (nat_le (length text) most && list_all (λ c. c == 48 || c == 49) text))

abbrev pub code_of : Option Coding → Option Crc → List ℕ → Result CodeLine LineError
code_of (Some coding) (Some crc) bits = if is_bits 5000 bits then Ok (record {
  coding = coding;
  crc = crc;
  bits = bits;
}) else Err Text
code_of (Some coding) None bits = Err Text
code_of None crc bits = Err Text

-- what the words after `code` say
abbrev pub code_words : List (List ℕ) → Result CodeLine LineError
code_words (coding ∷ (crc ∷ (bits ∷ []))) = code_of (coding_of coding) (crc_of crc) bits
code_words _ = Err Count

-- what the words of a line say
abbrev pub line_words : List (List ℕ) → Result CodeLine LineError
line_words [] = Err Word
line_words (first ∷ rest) = if bytes_eq first (codes "code") then code_words rest else Err Word

-- the line has its line feed
abbrev pub is_ended : List ℕ → Bool
is_ended line = nat_lt 0 (length line) && slice_index line (length line - 1) == 10

-- the line without its line feed
abbrev pub content : List ℕ → List ℕ
content line = if is_ended line then take (length line - 1) line else line

-- the most bytes of a line
abbrev pub longest : ℕ
longest = 1048576

-- what a line of `encode` says, or the first reason why it says nothing
unfoldable pub meaning : List ℕ → Result CodeLine LineError
meaning line = if nat_lt longest (length (content line)) then Err Long
    else (if is_ended line then line_words (words_of (content line)) else Err Cut)

-- an event or an error is what words or a line say; an event lends a text of bits
abbrev pub IsSaid : Result CodeLine LineError → Result Event LineError → Type 0
IsSaid parsed (Ok (Code coding crc bits)) = (parsed ≡ Ok (record { coding = coding; crc = crc; bits = bits.now }))
    × (is_bits 5000 bits.now ≡ true)
IsSaid parsed (Err error) = parsed ≡ Err error
IsSaid parsed (Ok event) = ⊥
