-- The lines that show the stages of a radio frame, from the interleaved TTIs to its channel bits.
use Rattle.std.specs.Prelude.{◌+◌, ◌-◌, ◌*◌, ◌/◌, ◌==◌, ℕ, List, ◌++◌, length, map, codes, if◌then◌else◌, nat_lt, slice_index}
use Rattle.std.specs.List.{range_with_len}
use Rattle.dch_bits.specs.declared.bit.Bit.{Bit}
use Rattle.dch_bits.specs.declared.bit.Trit.{Trit}
use Rattle.dch_types.specs.declared.channel.Dir.{Dir}
use Rattle.dch_types.specs.declared.channel.Dir.TheVariants.{Up, Down}
use Rattle.dch_types.specs.Parts.{side_of}
use Rattle.dch_types.specs.Sums.{total}
use Rattle.dch_coding.specs.Ttis.{part}
use Rattle.dch_tfci.specs.Tfci.{sent}
use Rattle.dch_accept.specs.Cells.{code_cells, frame_cells}
use Rattle.dch_accept.specs.Frames.{tfci_bits}
use Rattle.dch_accept.specs.Plans.{Planned}
use Rattle.dch_collision.specs.Plans.{plan_at}
use Rattle.dch_tti.specs.Frames.{multiplexed_place}
use Rattle.dch_tti.specs.Loaded.{Loaded, frame_number, loaded_at}
use Rattle.dch_ulphy.specs.Frames.{pattern_of, sent_cell, multiplexed as up_multiplexed}
use Rattle.dch_dlphy.specs.Frames.{bits_per_frame, multiplexed as down_multiplexed}
use Rattle.dch_script.specs.Report.{bits_shown, cells_shown, phy_text}
use Rattle.dch_stages.specs.Texts.{named_text, numbered_text, placed_text}

-- the cells of the radio frame of a CFN: how many a channel has before rate matching in the uplink, and of its places
-- in the downlink
abbrev pub segment_cells : Planned → Dir → ℕ → ℕ → ℕ → ℕ
segment_cells planned Up cfn c i = (pattern_of planned cfn c i).len
segment_cells planned Down cfn c i = bits_per_frame planned c i

-- and after it
abbrev pub channel_cells : Planned → Dir → ℕ → ℕ → ℕ
channel_cells planned Up c i = slice_index (plan_at planned.uplink c).sent i
channel_cells planned Down c i = bits_per_frame planned c i

-- the cell at a place of the multiplexed frame
abbrev pub multiplexed : Planned → Dir → List Loaded → ℕ → ℕ → ℕ → Trit
multiplexed planned Up tti cfn c p = up_multiplexed planned tti cfn c p
multiplexed planned Down tti cfn c p = down_multiplexed planned tti cfn c p

-- the first cells of the multiplexed frame
unfoldable pub multiplexed_cells : Planned → Dir → List Loaded → ℕ → ℕ → ℕ → List Trit
multiplexed_cells planned dir tti cfn c count = map (multiplexed planned dir tti cfn c) (range_with_len 0 count)

-- the channel bits: the multiplexed cells of each code after the second interleaver
unfoldable pub sent_cells : Planned → Dir → List Loaded → ℕ → ℕ → List Trit
sent_cells planned dir tti cfn c = map (λ k. multiplexed planned dir tti cfn c (multiplexed_place planned dir c k))
    (range_with_len 0 (frame_cells planned dir c))

-- what rate matching keeps of the segment of channel i, in the uplink
unfoldable pub matched_cells : Planned → List Loaded → ℕ → ℕ → ℕ → List Trit
matched_cells planned tti cfn c i = map (sent_cell planned tti cfn c i)
    (range_with_len 0 (channel_cells planned Up c i))

-- how many codes of one size so many cells fill
abbrev pub codes_in : ℕ → ℕ → ℕ
codes_in cells size = if cells == 0 then 0 else cells / size

-- how many codes a frame of combination c has
abbrev pub codes_of : Planned → Dir → ℕ → ℕ
codes_of planned dir c = codes_in (frame_cells planned dir c) (code_cells planned dir (frame_cells planned dir c))

-- the cells of one of them
abbrev pub cells_of_code : Planned → Dir → ℕ → ℕ
cells_of_code planned dir c = code_cells planned dir (frame_cells planned dir c)

abbrev pub segment_line : Planned → Dir → List Loaded → ℕ → ℕ → ℕ → List ℕ
segment_line planned dir tti cfn c i =
    let n : ℕ = frame_number (side_of planned.config dir) i cfn in
    placed_text (codes "segment") i n (cells_shown (part n (segment_cells planned dir cfn c i) (loaded_at tti i).cells))

abbrev pub matched_line : Planned → List Loaded → ℕ → ℕ → ℕ → List ℕ
matched_line planned tti cfn c i = placed_text (codes "matched") i (frame_number planned.config.uplink.side i cfn)
    (cells_shown (matched_cells planned tti cfn c i))

-- what stands behind the segments: in the uplink the matched bits of each channel, and the multiplexed bits; in the
-- downlink the
-- multiplexed cells, without and with the places behind them in which nothing is sent
abbrev pub joining_lines : Dir → ℕ → ℕ
joining_lines Up channels = channels + 1
joining_lines Down channels = 2

unfoldable pub joining_line : Planned → Dir → List Loaded → ℕ → ℕ → ℕ → ℕ → List ℕ
joining_line planned Up tti cfn c channels k =
    if nat_lt k channels then matched_line planned tti cfn c k
    else named_text (codes "multiplexed") (cells_shown (multiplexed_cells planned Up tti cfn c
    (total (channel_cells planned Up c) channels)))
joining_line planned Down tti cfn c channels k =
    if k == 0 then named_text (codes "multiplexed") (cells_shown
    (multiplexed_cells planned Down tti cfn c (total (channel_cells planned Down c) channels)))
    else named_text (codes "dtx") (cells_shown (multiplexed_cells planned Down tti cfn c (frame_cells planned Down c)))

-- what stands behind that, of so many codes of one size: the multiplexed cells of each code, the same after the second
-- interleaver, the TFCI
-- bits, and the radio frame
unfoldable pub sent_line : Dir → ℕ → ℕ → List Bit → List Trit → List Trit → ℕ → List ℕ
sent_line dir count size tfci joined cells k =
    if nat_lt k count then numbered_text (codes "code") k (cells_shown (part k size joined))
    else (if nat_lt (k - count) count then numbered_text (codes "interleaved") (k - count)
    (cells_shown (part (k - count) size cells))
    else (if k - 2 * count == 0 then named_text (codes "tfci") (bits_shown tfci)
    else phy_text dir tfci cells ++ codes "\n"))

-- how many lines show a radio frame
abbrev pub frame_lines : Planned → Dir → ℕ → ℕ
frame_lines planned dir c =
    let channels : ℕ = length (side_of planned.config dir).channels in
    channels + joining_lines dir channels + 2 * codes_of planned dir c + 2

-- the same of the radio frame of a CFN in combination c
abbrev pub frame_end : Planned → Dir → List Loaded → ℕ → ℕ → ℕ → List ℕ
frame_end planned dir tti cfn c k =
    sent_line dir (codes_of planned dir c) (cells_of_code planned dir c) (sent c (tfci_bits planned.config dir))
    (multiplexed_cells planned dir tti cfn c (frame_cells planned dir c)) (sent_cells planned dir tti cfn c) k

-- line k of the radio frame of a CFN in combination c
unfoldable pub frame_line : Planned → Dir → List Loaded → ℕ → ℕ → ℕ → List ℕ
frame_line planned dir tti cfn c k =
    let channels : ℕ = length (side_of planned.config dir).channels in
    let joined : ℕ = channels + joining_lines dir channels in
    if nat_lt k channels then segment_line planned dir tti cfn c k
    else (if nat_lt k joined then joining_line planned dir tti cfn c channels (k - channels)
    else frame_end planned dir tti cfn c (k - joined))
