-- What a status says to a sender, number by number (TS 25.322 9.2.2.11, 11.5.3), in the order of its text.
use Rattle.std.specs.Prelude.{◌+◌, ℕ, List, [], ◌∷◌, ◌++◌, Bool, true, false, map, slice_index_or}
use Rattle.dch_rlcpdu.specs.Fields.{Field, NoMoreField, WindowField, AckField, ListField, BitmapField, MrwField, MrwAckField}
use Rattle.dch_am.specs.Numbers.{wrapped}
use Rattle.dch_am.specs.Names.{named}

-- one thing that it says. Numbers are those of PDUs, modulo 4096
pub data StatusItem : Type 0 where
  Missing : (x : ℕ) → StatusItem  -- a LIST names this number missing
  Unset : (x : ℕ) → StatusItem  -- a BITMAP has the bit 0 for it
  Set : (x : ℕ) → StatusItem  -- a BITMAP has the bit 1 for it
  Below : (x : ℕ) → StatusItem  -- all numbers below it have arrived but for those that are named missing
  Obeyed : (n : ℕ) → (sn : ℕ) → StatusItem  -- an MRW was obeyed: the lowest missing number, and the place n or 0

-- a number that a LIST names missing
abbrev pub missing_of : ℕ → StatusItem
missing_of x = Missing (wrapped x)

-- a bit of a BITMAP
abbrev pub bit_item : Bool → ℕ → StatusItem
bit_item true x = Set x
bit_item false x = Unset x

-- the bits of the numbers from the first on
abbrev pub bits_from : ℕ → List Bool → List StatusItem
bits_from first [] = []
bits_from first (bit ∷ bits) = bit_item bit (wrapped first) ∷ bits_from (first + 1) bits

-- all that a field says
abbrev pub said_in : Field → List StatusItem
said_in NoMoreField = []
said_in (WindowField size) = []
said_in (AckField lsn) = Below lsn ∷ []
said_in (ListField pairs) = map missing_of (named pairs)
said_in (BitmapField first bits) = bits_from first bits
said_in (MrwField last n) = []
said_in (MrwAckField n sn) = Obeyed n sn ∷ []

-- all that fields say
abbrev pub said_by : List Field → List StatusItem
said_by [] = []
said_by (field ∷ fields) = said_in field ++ said_by fields

-- the first of fields
abbrev pub first_of : List Field → Field
first_of fields = slice_index_or fields 0 NoMoreField
