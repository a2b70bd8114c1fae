-- What an event line says.
use Rattle.std.specs.Prelude.{ℕ, List, Bool, Result, Ok, Err}
use Rattle.dch_types.specs.declared.channel.Coding.{Coding}
use Rattle.dch_types.specs.declared.channel.Crc.{Crc}
use Rattle.dch_types.specs.declared.channel.Dir.{Dir}
use Rattle.dch_script.specs.declared.event.Event.{Event}
use Rattle.dch_script.specs.declared.event.Event.TheVariants.{Code, Unit, Block, Free, Flip, Lose, LoseIub, Spoil, Frame, Iub, Down, Phy, PhyNone, Tick, Change}
use Rattle.dch_script.specs.declared.event.LineError.{LineError}

-- an event with its texts as plain lists
pub data ParsedLine : Type 0 where
  code : Coding → Crc → List ℕ → ParsedLine  -- the text of the bits
  unit : Dir → ℕ → List ℕ → ParsedLine  -- the bearer and the text of the unit
  block : Dir → ℕ → ParsedLine  -- the combination
  free : Dir → ℕ → ParsedLine
  flip : Dir → Bool → ℕ → ParsedLine  -- whether of the TFCI, and the place
  lose : Dir → ParsedLine
  lose_iub : Dir → ℕ → ParsedLine  -- the set
  spoil : Dir → ℕ → ℕ → ℕ → ParsedLine  -- the set, the octet and the mask
  frame : ℕ → ParsedLine  -- how many
  iub : ℕ → List ℕ → ParsedLine  -- the set and the hexadecimal text
  down : ParsedLine
  phy : List ℕ → List ℕ → ParsedLine  -- the texts of the TFCI and of the cells
  phy_none : ParsedLine
  tick : ParsedLine
  change : ParsedLine

-- what an event says
abbrev pub parsed_of : Event → ParsedLine
parsed_of (Code coding crc bits) = code coding crc bits.now
parsed_of (Unit dir bearer text) = unit dir bearer text.now
parsed_of (Block dir combination) = block dir combination
parsed_of (Free dir combination) = free dir combination
parsed_of (Flip dir tfci place) = flip dir tfci place
parsed_of (Lose dir) = lose dir
parsed_of (LoseIub dir set) = lose_iub dir set
parsed_of (Spoil dir set octet mask) = spoil dir set octet mask
parsed_of (Frame count) = frame count
parsed_of (Iub set hex) = iub set hex.now
parsed_of Down = down
parsed_of (Phy tfci cells) = phy tfci.now cells.now
parsed_of PhyNone = phy_none
parsed_of Tick = tick
parsed_of Change = change

-- what the answer to a line says
abbrev pub parsed : Result Event LineError → Result ParsedLine LineError
parsed (Ok event) = Ok (parsed_of event)
parsed (Err error) = Err error

-- the `?` of the definitions: the second step, where the first gave a value
infixl 10 ◌>>=◌
abbrev pub ◌>>=◌ : {A B : Type 0} → Result A LineError → (A → Result B LineError) → Result B LineError
Ok value >>= f = f value
Err error >>= f = Err error
