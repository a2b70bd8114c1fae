-- The length indicators of a PDU (TS 25.322 9.2.2.8), here indicators: an indicator of 1 to 123 is the end of a unit,
-- counted in octets from the end of the header. Special indicators are 0: the PDU before was just filled by the end of
-- a unit; 124: a unit starts here; 126: the rest is a status; 127: the rest is padding.
use Rattle.std.specs.Prelude.{◌+◌, ◌*◌, ◌/◌, ◌&&◌, ◌||◌, ◌==◌, ℕ, List, [], ◌∷◌, Bool, true, false, IsTrue, nat_lt, nat_le, if◌then◌else◌}
use Rattle.dch_rlcpdu.specs.declared.indicators.Mode.{Mode}
use Rattle.dch_rlcpdu.specs.declared.indicators.Mode.TheVariants.{Unacknowledged, Acknowledged}

-- a special indicator that may stand before all others
abbrev pub is_first : Mode → ℕ → Bool
is_first Unacknowledged m = (m == 0) || (m == 124)
is_first Acknowledged m = m == 0

-- a special indicator that may stand behind all others
abbrev pub is_last : Mode → ℕ → Bool
is_last Unacknowledged m = m == 127
is_last Acknowledged m = (m == 126) || (m == 127)

abbrev pub is_nil : List ℕ → Bool
is_nil [] = true
is_nil (m ∷ ms) = false

-- ends of units, which rise from the end before and don't pass the octets, and then perhaps the special indicator
-- behind all others
abbrev pub are_ends : Mode → ℕ → ℕ → List ℕ → Bool
are_ends mode octets before [] = true
are_ends mode octets before (m ∷ ms) = if is_last mode m then is_nil ms
    else ((nat_lt before m && nat_lt m 124) && (nat_le m octets && are_ends mode octets m ms))

-- the indicators of a PDU of this mode with so many octets behind them
abbrev pub are_indicators : Mode → ℕ → List ℕ → Bool
are_indicators mode octets [] = true
are_indicators mode octets (m ∷ ms) = if is_first mode m then are_ends mode octets 0 ms
    else are_ends mode octets 0 (m ∷ ms)

-- the indicators of a PDU of either mode
abbrev pub AreIndicators : ℕ → List ℕ → Type 0
AreIndicators octets ms = IsTrue (are_indicators Unacknowledged octets ms || are_indicators Acknowledged octets ms)

-- the bit that tells whether an indicator follows
abbrev pub more : List ℕ → ℕ
more [] = 0
more (m ∷ ms) = 1

-- indicators as octets: seven bits, and the bit that tells whether one more follows
abbrev pub indicator_octets : List ℕ → List ℕ
indicator_octets [] = []
indicator_octets (m ∷ ms) = (2 * m + more ms) ∷ indicator_octets ms

-- the indicator in such an octet
abbrev pub indicator_of : ℕ → ℕ
indicator_of octet = octet / 2
