-- Which coded bit of a TTI each cell of its radio frames carries (TS 25.212 4.2.4 to 4.2.11).
use Rattle.std.specs.Prelude.{◌≡◌, ◌≤◌, ◌<◌, ◌-◌, ◌*◌, ◌/◌, ◌%◌, ◌^◌, ℕ, Option, Some, None, min, nat_lt, if◌then◌else◌}
use Rattle.dch_types.specs.declared.channel.Dir.{Dir}
use Rattle.dch_types.specs.declared.channel.Dir.TheVariants.{Up, Down}
use Rattle.dch_types.specs.declared.config.Config.{Config}
use Rattle.dch_types.specs.declared.config.Uplink.{Uplink}
use Rattle.dch_types.specs.declared.config.Downlink.{Downlink}
use Rattle.dch_types.specs.Lengths.{code_bits, frame_bits}
use Rattle.dch_types.specs.Limits.{IsFrames}
use Rattle.dch_types.specs.Parts.{channel_at, format_number}
use Rattle.dch_types.specs.Sums.{total}
use Rattle.dch_frame.specs.declared.pattern.Pattern.{Pattern}
use Rattle.dch_frame.specs.Downlinks.{pattern_of, places_of}
use Rattle.dch_frame.specs.Patterns.{IsWellFormed, copies_below}
use Rattle.dch_frame.specs.Stages.{code_place, origin_of, segment_place}
use Rattle.dch_frame.specs.Uplinks.{sent_of, uplink_pattern}
use Rattle.dch_collision.specs.Copies.{frame_size, padded_in}
use Rattle.dch_margin.specs.declared.carrier.Carrier.{Carrier}
use Rattle.dch_margin.specs.declared.carrier.Matching.{Matching}
use Rattle.dch_margin.specs.declared.carrier.Matching.TheVariants.{Frame, Tti}

-- the place of the channel that cell k shows, if any: by the second interleaver, and behind the channels in front
abbrev pub own_place : Carrier → ℕ → Option ℕ
own_place carrier k = let p : ℕ = code_place carrier.code k in if nat_lt p carrier.before then None
    else (if nat_lt (p - carrier.before) carrier.count then Some (p - carrier.before) else None)

-- the place of the TTI that place m of the radio frame shows, by the first interleaver
abbrev pub tti_place : Carrier → ℕ → ℕ
tti_place carrier m = segment_place carrier.frames carrier.len carrier.number m

-- the bit that rate matching keeps at a place of a TTI
abbrev pub kept_bit : Pattern → ℕ → Option ℕ
kept_bit pattern place = if nat_lt place (copies_below pattern.kind pattern.len) then Some (origin_of pattern place)
    else None

-- the coded bit that place q of the channel shows, if any
abbrev pub bit_at : Matching → Carrier → ℕ → Option ℕ
bit_at (Frame pattern) carrier q = Some (tti_place carrier (origin_of pattern q))
bit_at (Tti pattern) carrier q = kept_bit pattern (tti_place carrier q)

abbrev pub bit_of : Carrier → Option ℕ → Option ℕ
bit_of carrier None = None
bit_of carrier (Some q) = bit_at carrier.matching carrier q

-- the coded bit of the TTI that cell k carries, if any; past the last coded bit stands padding
abbrev pub carried : Carrier → ℕ → Option ℕ
carried carrier k = bit_of carrier (own_place carrier k)

-- the cells of the channels in front of channel i in a radio frame of combination c
abbrev pub before_up : Uplink → ℕ → ℕ → ℕ
before_up uplink i c = total (sent_of uplink.side c (frame_size uplink c)) i

abbrev pub before_down : Downlink → ℕ → ℕ → ℕ
before_down downlink i c = total (λ j. places_of downlink j (format_number downlink.side c j)) i

-- how radio frame n of a TTI of channel i in format f carries it in combination c
abbrev pub Carriers : Type 0
Carriers = ℕ → ℕ → ℕ → ℕ → Carrier

abbrev pub uplink_carrier : Uplink → Carriers
uplink_carrier uplink i f n c = record {
  number = n;
  frames = (channel_at uplink.side i).frames;
  len = padded_in uplink.side i f;
  cells = frame_size uplink c;
  code = min (frame_size uplink c) 9600;
  before = before_up uplink i c;
  count = sent_of uplink.side c (frame_size uplink c) i;
  matching = Frame (uplink_pattern uplink.side c (frame_size uplink c) i n);
}

abbrev pub downlink_carrier : Downlink → Carriers
downlink_carrier downlink i f n c = record {
  number = n;
  frames = (channel_at downlink.side i).frames;
  len = (channel_at downlink.side i).frames * places_of downlink i f;
  cells = frame_bits downlink;
  code = code_bits downlink;
  before = before_down downlink i c;
  count = places_of downlink i f;
  matching = Tti (pattern_of downlink i f);
}

abbrev pub carriers_of : Config → Dir → Carriers
carriers_of config Up = uplink_carrier config.uplink
carriers_of config Down = downlink_carrier config.downlink

-- rate matching fits a radio frame: it keeps as many bits of it as the channel has cells there
pub record FitsFrame (pattern : Pattern) (carrier : Carrier) : Type 0 where
  pub formed : IsWellFormed pattern
  pub len : pattern.len ≡ carrier.len / carrier.frames
  pub count : carrier.count ≡ copies_below pattern.kind pattern.len

-- or a TTI, whose places are those of the channel in each radio frame
pub record FitsTti (pattern : Pattern) (carrier : Carrier) : Type 0 where
  pub formed : IsWellFormed pattern
  pub count : carrier.count ≡ carrier.len / carrier.frames

abbrev pub FitsMatching : Matching → Carrier → Type 0
FitsMatching (Frame pattern) carrier = FitsFrame pattern carrier
FitsMatching (Tti pattern) carrier = FitsTti pattern carrier

-- the numbers of a carrier fit one another
pub record Fits (carrier : Carrier) : Type 0 where
  pub is : IsFrames carrier.frames
  pub inside : carrier.number < carrier.frames
  pub whole : carrier.len % carrier.frames ≡ 0
  pub small : carrier.len ≤ 2 ^ 31
  pub few : carrier.cells ≤ 57600
  pub codes : 0 < carrier.cells → 0 < carrier.code
  pub short : carrier.code ≤ 57600
  pub matched : FitsMatching carrier.matching carrier
