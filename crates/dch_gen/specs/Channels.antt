-- The transport channels of `gen`, the same in both directions.
use Rattle.std.specs.Prelude.{ℕ, List, [], ◌∷◌}
use Rattle.dch_types.specs.declared.channel.Coding.TheVariants.{Half, Third}
use Rattle.dch_types.specs.declared.channel.Crc.TheVariants.{C0, C12, C16}
use Rattle.dch_types.specs.declared.channel.Format.{Format}
use Rattle.dch_types.specs.declared.channel.Trch.{Trch}

-- so many blocks of so many bits each
abbrev pub format : ℕ → ℕ → Format
format number size = record { number = number; size = size }

-- the first class of speech: nothing, a frame that describes silence, or a frame of speech
abbrev pub class_a : Trch
class_a = record {
  frames = 2;
  coding = Third;
  crc = C12;
  rm = 200;
  set = 0;
  formats = format 0 0 ∷ format 1 39 ∷ format 1 81 ∷ [];
}

-- the second class
abbrev pub class_b : Trch
class_b = record { frames = 2; coding = Third; crc = C0; rm = 190; set = 0; formats = format 0 0 ∷ format 1 103 ∷ [] }

-- and the third
abbrev pub class_c : Trch
class_c = record { frames = 2; coding = Half; crc = C0; rm = 235; set = 0; formats = format 0 0 ∷ format 1 60 ∷ [] }

-- a PDU of signalling
abbrev pub signalling : Trch
signalling = record {
  frames = 4;
  coding = Third;
  crc = C16;
  rm = 190;
  set = 1;
  formats = format 0 0 ∷ format 1 148 ∷ [];
}

-- up to 12 PDUs of packet data
abbrev pub packets : Trch
packets = record {
  frames = 1;
  coding = Half;
  crc = C16;
  rm = 130;
  set = 2;
  formats = format 0 0 ∷ format 1 336 ∷ format 2 336 ∷ format 4 336 ∷ format 8 336 ∷ format 12 336 ∷ [];
}

-- all of them
unfoldable pub gen_channels : List Trch
gen_channels = class_a ∷ class_b ∷ class_c ∷ signalling ∷ packets ∷ []
