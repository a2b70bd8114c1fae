-- The units of the script.
use Rattle.std.specs.Prelude.{◌+◌, ◌*◌, ◌/◌, ◌%◌, ◌++◌, ◌==◌, ℕ, zero, suc, List, [], ◌∷◌, Option, Some, None, map, if◌then◌else◌}
use Rattle.std.specs.List.{range_with_len}
use Rattle.dch_bits.specs.declared.bit.Bit.{Bit}
use Rattle.dch_bits.specs.declared.bit.Bit.TheVariants.{Zero, One}
use Rattle.dch_types.specs.declared.channel.Dir.{Dir}
use Rattle.dch_types.specs.declared.channel.Dir.TheVariants.{Up, Down}
use Rattle.dch_link.specs.Events.{Event, OfferedUnit}
use Rattle.dch_gen.specs.Sizes.{size_of}
use Rattle.dch_gen.specs.declared.units.UnitSize.{UnitSize}
use Rattle.dch_gen.specs.declared.units.UnitSize.TheVariants.{Bits, Octets}

abbrev pub number_of : Dir → ℕ
number_of Up = 0
number_of Down = 1

-- octet j of the unit that is offered to bearer b before frame f
abbrev pub octet_at : ℕ → Dir → ℕ → ℕ → ℕ
octet_at f dir b j = (7 * f + 31 * b + 101 * number_of dir + 13 * j) % 256

-- three zeros and three ones in turn
abbrev pub bit_of : ℕ → Bit
bit_of n = if n / 3 % 2 == 0 then Zero else One

-- bit j of an SDU of a transparent bearer of `gen`
abbrev pub bit_at : ℕ → Dir → ℕ → ℕ → Bit
bit_at f dir b j = bit_of (3 * f + 5 * b + number_of dir + j)

-- the first octets or bits
abbrev pub unit_octets : ℕ → Dir → ℕ → ℕ → List ℕ
unit_octets f dir b count = map (octet_at f dir b) (range_with_len 0 count)

abbrev pub unit_bits : ℕ → Dir → ℕ → ℕ → List Bit
unit_bits f dir b count = map (bit_at f dir b) (range_with_len 0 count)

-- a unit of this size is offered, if any
abbrev pub offers : ℕ → Dir → ℕ → Option UnitSize → List Event
offers f dir b None = []
offers f dir b (Some (Bits count)) = OfferedUnit dir b [] (unit_bits f dir b count) ∷ []
offers f dir b (Some (Octets count)) = OfferedUnit dir b (unit_octets f dir b count) [] ∷ []

-- what is offered to the first bearers of a direction before frame f of n
abbrev pub offered_below : ℕ → ℕ → Dir → ℕ → List Event
offered_below n f dir zero = []
offered_below n f dir (suc b) = offered_below n f dir b ++ offers f dir b (size_of n f b)

-- what is offered to all six, first in the uplink and then in the downlink
abbrev pub offered : ℕ → ℕ → List Event
offered n f = offered_below n f Up 6 ++ offered_below n f Down 6
