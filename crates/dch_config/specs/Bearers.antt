-- What is refused of the bearers.
use Rattle.std.specs.Prelude.{ℕ, ◌-◌, ◌/◌, ◌%◌, List, Bool, true, false, not, ◌&&◌, ◌||◌, ◌==◌, if◌then◌else◌, nat_lt, count_by, find, position, Option, Some, None, option_map}
use Rattle.std.specs.List.{list_all}
use Rattle.std.specs.Option.{option_map_or}
use Rattle.dch_types.specs.declared.channel.Dir.{Dir}
use Rattle.dch_types.specs.declared.channel.Dir.TheVariants.{Up, Down}
use Rattle.dch_types.specs.declared.channel.Format.{Format}
use Rattle.dch_types.specs.declared.channel.Side.{Side}
use Rattle.dch_types.specs.declared.bearer.Mode.{Mode}
use Rattle.dch_types.specs.declared.bearer.Mode.TheVariants.{Tm, Um, Am}
use Rattle.dch_types.specs.declared.bearer.Bearer.{Bearer}
use Rattle.dch_types.specs.declared.config.Config.{Config}
use Rattle.dch_types.specs.Limits.{is_idle}
use Rattle.dch_types.specs.Lengths.{crc_size}
use Rattle.dch_types.specs.Parts.{channel_at, channel_number, side_of}
use Rattle.dch_tree.specs.Bearers.{is_transparent}
use Rattle.dch_config.specs.declared.error.ConfigError.{ConfigError}
use Rattle.dch_config.specs.declared.error.ConfigError.TheVariants.{NoCheck, PduSize, Window}
use Rattle.dch_config.specs.Sides.{is_within}

-- a bearer names a channel
abbrev pub names : Option ℕ → ℕ → Bool
names None i = false
names (Some j) i = j == i

-- a channel has the C/T field of 4 bits exactly where two or more bearers name it
abbrev pub has_ct : Config → Dir → ℕ → Bool
has_ct config dir i = nat_lt 1 (count_by (λ bearer. names (channel_number dir bearer) i) config.bearers)

-- a channel has no parity bits
abbrev pub has_no_check : Side → Option ℕ → Bool
has_no_check side None = false
has_no_check side (Some i) = crc_size (channel_at side i).crc == 0

-- the first bearer in UM or AM on such a channel
abbrev pub lacks_check : Config → Bearer → Bool
lacks_check config bearer =
    not (is_transparent bearer.mode)
    && (has_no_check config.uplink.side bearer.up || has_no_check config.downlink.side bearer.down)

abbrev pub check_refusal : Config → Option ConfigError
check_refusal config = option_map (λ b. NoCheck b) (position (lacks_check config) config.bearers)

-- the size of the first block that some formats send, if they send any
abbrev pub first_size : List Format → Option ℕ
first_size formats = option_map (λ format. format.size) (find (λ format. not (is_idle format)) formats)

-- all blocks have this size
abbrev pub have_one_size : List Format → ℕ → Bool
have_one_size formats size = list_all (λ format. is_idle format || format.size == size) formats

-- so many octets are a PDU: 3 to 125 in UM, 6 to 126 in AM
abbrev pub is_pdu : Mode → ℕ → Bool
is_pdu Tm octets = true
is_pdu Um octets = is_within 3 125 octets
is_pdu Am octets = is_within 6 126 octets

-- so many bits are whole octets of a PDU
abbrev pub is_pdu_bits : Mode → ℕ → Bool
is_pdu_bits mode bits = bits % 8 == 0 && is_pdu mode (bits / 8)

-- blocks of this size are PDUs after the C/T field, where there is one
abbrev pub is_pdu_size : Mode → Bool → ℕ → Bool
is_pdu_size mode ct size = is_pdu_bits mode (size - (if ct then 4 else 0))

-- some block is sent, all blocks have one size, and they are PDUs
abbrev pub are_pdus : Mode → Bool → List Format → Bool
are_pdus mode ct formats =
    option_map_or (λ size. have_one_size formats size && is_pdu_size mode ct size) (first_size formats) false

-- the first bearer in UM or AM whose blocks are no PDUs
abbrev pub has_wrong_blocks : Config → Mode → Dir → Option ℕ → Bool
has_wrong_blocks config mode dir None = false
has_wrong_blocks config mode dir (Some i) =
    not (are_pdus mode (has_ct config dir i) (channel_at (side_of config dir) i).formats)

abbrev pub lacks_pdus : Config → Bearer → Bool
lacks_pdus config bearer =
    not (is_transparent bearer.mode)
    && (has_wrong_blocks config bearer.mode Up bearer.up || has_wrong_blocks config bearer.mode Down bearer.down)

abbrev pub pdu_refusal : Config → Option ConfigError
pdu_refusal config = option_map (λ b. PduSize b) (position (lacks_pdus config) config.bearers)

-- the first bearer whose window is not 1 to 2048
abbrev pub has_wrong_window : Bearer → Bool
has_wrong_window bearer = not (is_within 1 2048 bearer.rules.window)

abbrev pub window_refusal : Config → Option ConfigError
window_refusal config = option_map (λ b. Window b) (position has_wrong_window config.bearers)
