-- Octets as numbers.
use Rattle.std.specs.Prelude.{◌<◌, ℕ, List, length, slice_index}

-- each number is one of an octet
abbrev pub AreOctets : List ℕ → Type 0
AreOctets octets = (k : ℕ) → k < length octets → slice_index octets k < 256
