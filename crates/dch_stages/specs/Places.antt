-- Which coded bit a place of the interleaved cells of a TTI shows, and which transport block bit came in where that was
-- put out (TS 25.212
-- 4.2.1 to 4.2.9.1).
use Rattle.std.specs.Prelude.{◌+◌, ◌-◌, ◌*◌, ◌/◌, ◌%◌, ℕ, Option, Some, None, if◌then◌else◌, nat_lt}
use Rattle.dch_types.specs.declared.channel.Coding.{Coding}
use Rattle.dch_types.specs.declared.channel.Coding.TheVariants.{Uncoded, Half, Third}
use Rattle.dch_types.specs.declared.channel.Dir.{Dir}
use Rattle.dch_types.specs.declared.channel.Dir.TheVariants.{Up, Down}
use Rattle.dch_types.specs.declared.channel.Format.{Format}
use Rattle.dch_types.specs.declared.channel.Trch.{Trch}
use Rattle.dch_types.specs.Lengths.{coded_block, crc_size, joined_bits, tti_bits}
use Rattle.dch_types.specs.Parts.{channel_at, format_at, side_of}
use Rattle.dch_coding.specs.declared.cut.Plan.{Plan}
use Rattle.dch_coding.specs.Segments.{plan_of}
use Rattle.dch_inter.specs.Places.{first_of}
use Rattle.dch_frame.specs.declared.pattern.Pattern.{Pattern}
use Rattle.dch_frame.specs.Patterns.{copies_below}
use Rattle.dch_frame.specs.Stages.{origin_of}
use Rattle.dch_accept.specs.Plans.{Planned}
use Rattle.dch_ulphy.specs.Loaded.{tti_cells as uplink_cells}
use Rattle.dch_dlphy.specs.Loaded.{matching_of, tti_cells as downlink_cells}

-- how many cells the TTI of channel i in format f has
abbrev pub cells_of_tti : Planned → Dir → ℕ → ℕ → ℕ
cells_of_tti planned Up i f = uplink_cells planned i f
cells_of_tti planned Down i f = downlink_cells planned i f

-- the coded bit that stands at place k before the first interleaver: none behind the last one
abbrev pub padded_bit : Trch → Format → ℕ → Option ℕ
padded_bit channel format k = if nat_lt k (tti_bits channel format) then Some k else None

abbrev pub kept_bit : Pattern → ℕ → Option ℕ
kept_bit pattern k = if nat_lt k (copies_below pattern.kind pattern.len) then Some (origin_of pattern k) else None

abbrev pub bit_before : Planned → Dir → ℕ → ℕ → ℕ → Option ℕ
bit_before planned Up i f k = let channel : Trch = channel_at planned.config.uplink.side i in padded_bit channel
    (format_at channel f) k
bit_before planned Down i f k = kept_bit (matching_of planned i f).pattern k

-- the coded bit that place p of the interleaved cells shows
unfoldable pub shown_at : Planned → Dir → ℕ → ℕ → ℕ → Option ℕ
shown_at planned dir i f p = bit_before planned dir i f
    (first_of (channel_at (side_of planned.config dir) i).frames (cells_of_tti planned dir i f) p)

-- how many coded bits a step of a code puts out
abbrev pub outputs_of : Coding → ℕ
outputs_of Uncoded = 1
outputs_of Half = 2
outputs_of Third = 3

-- the transport block bit at place q of the joined bits, in blocks of so many bits and so many with their parity: none
-- where parity stands
unfoldable pub block_bit : ℕ → ℕ → ℕ → Option ℕ
block_bit size attached q = if nat_lt (q % attached) size then Some (q / attached * size + q % attached) else None

-- the one at place b of the code blocks: none where filler stands
abbrev pub cut_bit : Trch → Format → Plan → ℕ → Option ℕ
cut_bit channel format plan b = if nat_lt b plan.filler then None
    else block_bit format.size (format.size + crc_size channel.crc) (b - plan.filler)

-- the one that came in at a step of code block r: none where a tail bit did
abbrev pub step_bit : Trch → Format → Plan → ℕ → ℕ → Option ℕ
step_bit channel format plan r step = if nat_lt step plan.size then cut_bit channel format plan (r * plan.size + step)
    else None

-- the transport block bit that came in where coded bit n was put out
unfoldable pub bit_of : Trch → Format → ℕ → Option ℕ
bit_of channel format n =
    let plan : Plan = plan_of (joined_bits channel format) channel.coding in
    let long : ℕ = coded_block channel.coding plan.size in
    step_bit channel format plan (n / long) (n % long / outputs_of channel.coding)

abbrev pub bit_if : Trch → Format → Option ℕ → Option ℕ
bit_if channel format None = None
bit_if channel format (Some n) = bit_of channel format n

-- the transport block bit that came in where the coded bit at place p was put out
abbrev pub bit_shown : Planned → Dir → ℕ → ℕ → ℕ → Option ℕ
bit_shown planned dir i f p = let channel : Trch = channel_at (side_of planned.config dir) i in bit_if channel
    (format_at channel f) (shown_at planned dir i f p)
