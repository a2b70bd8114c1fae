-- What nodes tell of the SDUs of bearers, and of the cells of radio frames.
use Rattle.std.specs.Prelude.{◌==◌, ◌&&◌, ℕ, List, [], Bool, true, false, length, count_by, sum_by, if◌then◌else◌}
use Rattle.dch_bits.specs.declared.bit.Trit.{Trit}
use Rattle.dch_bits.specs.declared.bit.Trit.TheVariants.{Zero, One, Off}
use Rattle.dch_types.specs.declared.channel.Dir.{Dir}
use Rattle.dch_types.specs.declared.channel.Dir.TheVariants.{Up, Down}
use Rattle.dch_node.specs.Lines.{Line, Took, Got, GotBits, Phy}

abbrev pub same_dir : Dir → Dir → Bool
same_dir Up Up = true
same_dir Up Down = false
same_dir Down Up = false
same_dir Down Down = true

-- a line tells that a bearer accepted a unit of this direction, or that one was handed up
abbrev pub is_took : Dir → ℕ → Line → Bool
is_took dir b (Took of c) = same_dir of dir && (c == b)
is_took dir b line = false

abbrev pub is_got : Dir → ℕ → Line → Bool
is_got dir b (Got of c octets) = same_dir of dir && (c == b)
is_got dir b (GotBits of c bits) = same_dir of dir && (c == b)
is_got dir b line = false

-- the cells of the radio frame of a direction of which a line tells, if it tells of one
abbrev pub cells_of : Dir → Line → List Trit
cells_of dir (Phy of tfci cells) = if same_dir of dir then cells else []
cells_of dir line = []

abbrev pub is_one : Trit → Bool
is_one Zero = false
is_one One = true
is_one Off = false

-- how many units a bearer accepted, and how many were handed up
abbrev pub units_taken : Dir → ℕ → List Line → ℕ
units_taken dir b lines = count_by (is_took dir b) lines

abbrev pub units_handed_up : Dir → ℕ → List Line → ℕ
units_handed_up dir b lines = count_by (is_got dir b) lines

-- how many cells the radio frames of a direction have, and how many of them are ones
abbrev pub cells_sent : Dir → List Line → ℕ
cells_sent dir lines = sum_by (λ line. length (cells_of dir line)) lines

abbrev pub ones_sent : Dir → List Line → ℕ
ones_sent dir lines = sum_by (λ line. count_by is_one (cells_of dir line)) lines
