-- What is refused of a direction's channels, formats and combinations.
use Rattle.std.specs.Prelude.{ℕ, List, [], ◌∷◌, Bool, true, false, not, ◌&&◌, ◌||◌, nat_le, nat_lt, nat_eq, if◌then◌else◌, length, take, position, is_none, Option, Some, None, option_map}
use Rattle.std.specs.List.{list_any, range_with_len}
use Rattle.std.specs.Cmp.Lexicographic.{pointwise}
use Rattle.dch_types.specs.declared.channel.Dir.{Dir}
use Rattle.dch_types.specs.declared.channel.Format.{Format}
use Rattle.dch_types.specs.declared.channel.Trch.{Trch}
use Rattle.dch_types.specs.declared.channel.Side.{Side}
use Rattle.dch_types.specs.Lengths.{tti_bits}
use Rattle.dch_types.specs.Limits.{is_idle, idle_format, idled}
use Rattle.dch_types.specs.Parts.{combination_at}
use Rattle.dch_config.specs.declared.error.ConfigError.{ConfigError}
use Rattle.dch_config.specs.declared.error.ConfigError.TheVariants.{TrchCount, FormatCount, NoIdleFormat, CombinationCount, NoSuchFormat, NotClosed, BlockSize, TtiBits}
use Rattle.dch_config.specs.Refusals.{refused_if}

-- a number from the least to the most
abbrev pub is_within : ℕ → ℕ → ℕ → Bool
is_within least most n = nat_le least n && nat_le n most

-- not 1 to 8 channels
abbrev pub channel_count_refusal : Dir → Side → Option ConfigError
channel_count_refusal dir side = refused_if (not (is_within 1 8 (length side.channels))) (TrchCount dir)

-- the first channel with not 1 to 32 formats
abbrev pub format_count_refusal : Dir → Side → Option ConfigError
format_count_refusal dir side =
    option_map (λ i. FormatCount dir i)
    (position (λ channel. not (is_within 1 32 (length channel.formats))) side.channels)

-- the first channel without an idle format
abbrev pub has_no_idle : Trch → Bool
has_no_idle channel = is_none (position is_idle channel.formats)

abbrev pub idle_refusal : Dir → Side → Option ConfigError
idle_refusal dir side = option_map (λ i. NoIdleFormat dir i) (position has_no_idle side.channels)

-- not 1 to 128 combinations
abbrev pub combination_count_refusal : Dir → Side → Option ConfigError
combination_count_refusal dir side = refused_if (not (is_within 1 128 (length side.combinations)))
    (CombinationCount dir)

-- a combination names one of each channel's formats, and nothing else
abbrev pub names_formats : List Trch → List ℕ → Bool
names_formats [] [] = true
names_formats [] (f ∷ formats) = false
names_formats (channel ∷ channels) [] = false
names_formats (channel ∷ channels) (f ∷ formats) = nat_lt f (length channel.formats) && names_formats channels formats

abbrev pub same_formats : List ℕ → List ℕ → Bool
same_formats formats other = pointwise nat_eq formats other

-- combination c names other formats, or equals an earlier one
abbrev pub is_wrong : Side → ℕ → Bool
is_wrong side c =
    not (names_formats side.channels (combination_at side c).formats)
    || list_any (λ other. same_formats (combination_at side c).formats other.formats) (take c side.combinations)

-- the first combination that is wrong
abbrev pub combination_refusal : Dir → Side → Option ConfigError
combination_refusal dir side =
    option_map (λ c. NoSuchFormat dir c) (position (is_wrong side) (range_with_len 0 (length side.combinations)))

-- a channel's format, or its idle one where it has at most so many frames
abbrev pub idled_format : ℕ → Option Trch → ℕ → ℕ
idled_format frames None format = format
idled_format frames (Some channel) format = if nat_le channel.frames frames then idle_format channel else format

-- the list lacks combination c with the channels of at most so many frames set to idle
abbrev pub lacks_idled : Side → ℕ → ℕ → Bool
lacks_idled side c frames =
    not (list_any (λ other. same_formats other.formats (idled frames side.channels (combination_at side c).formats))
    side.combinations)

abbrev pub is_not_closed : Side → ℕ → Bool
is_not_closed side c = ((lacks_idled side c 1 || lacks_idled side c 2) || lacks_idled side c 4) || lacks_idled side c 8

-- the first combination that is not closed
abbrev pub closure_refusal : Dir → Side → Option ConfigError
closure_refusal dir side =
    option_map (λ c. NotClosed dir c) (position (is_not_closed side) (range_with_len 0 (length side.combinations)))

-- the first channel with blocks of more than 5,000 bits, or more than 64 blocks
abbrev pub is_large : Format → Bool
is_large format = nat_lt 5000 format.size || nat_lt 64 format.number

abbrev pub has_large : Trch → Bool
has_large channel = list_any is_large channel.formats

abbrev pub block_refusal : Dir → Side → Option ConfigError
block_refusal dir side = option_map (λ i. BlockSize dir i) (position has_large side.channels)

-- the first channel with more than 131,072 coded bits in a TTI
abbrev pub has_long : Trch → Bool
has_long channel = list_any (λ format. nat_lt 131072 (tti_bits channel format)) channel.formats

abbrev pub bits_refusal : Dir → Side → Option ConfigError
bits_refusal dir side = option_map (λ i. TtiBits dir i) (position has_long side.channels)
