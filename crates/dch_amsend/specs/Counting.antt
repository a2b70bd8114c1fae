-- How many PDUs could be built one after another, with no other event between (TS 25.322 11.3.2).
use Rattle.std.specs.Prelude.{◌+◌, ◌&&◌, ℕ, Bool, nat_lt, if◌then◌else◌}

-- those that are requested, and so many new ones; or else the last one again for an owed poll, where PDUs are in flight
abbrev pub builds_of : ℕ → ℕ → Bool → ℕ → ℕ
builds_of requested fresh owed flying = if nat_lt 0 (requested + fresh) then requested + fresh
    else (if owed && nat_lt 0 flying then 1 else 0)
