-- When a unit is offered to a bearer, and how long it is.
use Rattle.std.specs.Prelude.{◌≤◌, ◌+◌, ◌%◌, ◌==◌, ℕ, Option, None, nat_lt, if◌then◌else◌}
use Rattle.std.specs.Bool.{then_some}
use Rattle.dch_gen.specs.declared.units.UnitSize.{UnitSize}
use Rattle.dch_gen.specs.declared.units.UnitSize.TheVariants.{Bits, Octets}

-- the unit that is offered to bearer b before frame f of n, if one is
abbrev pub size_of : ℕ → ℕ → ℕ → Option UnitSize
size_of n f b =
    if b == 0 then then_some (f % 2 == 0) (Bits 81)
    else (if b == 1 then then_some (f % 2 == 0) (Bits 103)
    else (if b == 2 then then_some (f % 2 == 0) (Bits 60)
    else (if b == 3 then then_some (f % 80 == 20) (Octets 10)
    else (if b == 4 then then_some (f % 40 == 0) (Octets 14)
    else (if b == 5 then then_some (nat_lt (f + 50) n) (Octets 400)
    else None)))))

-- no unit is longer than this
abbrev pub IsShort : UnitSize → Type 0
IsShort (Bits count) = count ≤ 103
IsShort (Octets count) = count ≤ 400
