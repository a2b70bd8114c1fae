-- The lines that show the stages of a TTI, from its transport blocks to its interleaved cells.
use Rattle.std.specs.Prelude.{◌+◌, ◌-◌, ◌*◌, ◌==◌, ℕ, List, length, codes, if◌then◌else◌, nat_lt}
use Rattle.dch_bits.specs.declared.bit.Bit.{Bit}
use Rattle.dch_types.specs.declared.channel.Dir.{Dir}
use Rattle.dch_types.specs.declared.channel.Dir.TheVariants.{Up, Down}
use Rattle.dch_types.specs.declared.channel.Format.{Format}
use Rattle.dch_types.specs.declared.channel.Trch.{Trch}
use Rattle.dch_types.specs.Lengths.{crc_size}
use Rattle.dch_types.specs.Parts.{channel_at, format_at, side_of}
use Rattle.dch_coding.specs.Chain.{code_block, coded_as, coded_of}
use Rattle.dch_coding.specs.Segments.{plan_of}
use Rattle.dch_coding.specs.Ttis.{part}
use Rattle.dch_frame.specs.declared.downlink_plan.RateMatching.{RateMatching}
use Rattle.dch_accept.specs.Plans.{Planned}
use Rattle.dch_dlphy.specs.Loaded.{matching_of}
use Rattle.dch_script.specs.Report.{bits_shown, cells_shown}
use Rattle.dch_tti.specs.Loaded.{Loaded}
use Rattle.dch_stages.specs.Cells.{equalised, filled, matched}
use Rattle.dch_stages.specs.Texts.{named_text, numbered_text}

-- a transport block with its parity, a code block with its filler, and its code
abbrev pub crc_line : Trch → Format → List Bit → ℕ → List ℕ
crc_line channel format joined r = numbered_text (codes "crc") r
    (bits_shown (part r (format.size + crc_size channel.crc) joined))

abbrev pub block_line : Trch → List Bit → ℕ → List ℕ
block_line channel joined r = numbered_text (codes "block") r
    (bits_shown (code_block (plan_of (length joined) channel.coding) joined r))

abbrev pub coded_line : Trch → List Bit → ℕ → List ℕ
coded_line channel joined r =
    numbered_text (codes "coded") r (bits_shown (coded_as channel.coding
    (code_block (plan_of (length joined) channel.coding) joined r)))

-- what follows the coded bits of a TTI: in the uplink it is equalised, and in the downlink it is matched and gets
-- places in which nothing
-- is sent; the last line has the interleaved cells that are loaded
abbrev pub last_line : Planned → Dir → ℕ → ℕ → List Bit → Loaded → ℕ → List ℕ
last_line planned Up i f coded loaded n =
    if n == 0 then named_text (codes "equalised") (cells_shown
    (equalised (channel_at planned.config.uplink.side i).frames coded))
    else named_text (codes "interleaved") (cells_shown loaded.cells)
last_line planned Down i f coded loaded n =
    let matching : RateMatching = matching_of planned i f in
    if n == 0 then named_text (codes "matched") (cells_shown (matched matching.pattern coded))
    else (if n == 1 then named_text (codes "dtx") (cells_shown
    (filled matching.pattern ((channel_at planned.config.downlink.side i).frames * matching.cells) coded))
    else named_text (codes "interleaved") (cells_shown loaded.cells))

abbrev pub last_lines : Dir → ℕ
last_lines Up = 2
last_lines Down = 3

-- how many lines show a TTI of so many transport blocks and code blocks
abbrev pub tti_lines : Dir → ℕ → ℕ → ℕ
tti_lines dir number blocks = number + 2 * blocks + last_lines dir

-- how many of them show the coding, and line k of these
abbrev pub coding_lines : Trch → Format → List Bit → ℕ
coding_lines channel format joined = format.number + 2 * (plan_of (length joined) channel.coding).blocks

unfoldable pub coding_line : Trch → Format → List Bit → ℕ → List ℕ
coding_line channel format joined k =
    let blocks : ℕ = (plan_of (length joined) channel.coding).blocks in
    let number : ℕ = format.number in
    if nat_lt k number then crc_line channel format joined k
    else (if nat_lt (k - number) blocks then block_line channel joined (k - number)
    else coded_line channel joined (k - number - blocks))

-- line k of the TTI of channel i in format f, of which these are the joined bits, and this is loaded
unfoldable pub tti_line : Planned → Dir → ℕ → ℕ → List Bit → Loaded → ℕ → List ℕ
tti_line planned dir i f joined loaded k =
    let channel : Trch = channel_at (side_of planned.config dir) i in
    let lines : ℕ = coding_lines channel (format_at channel f) joined in
    if nat_lt k lines then coding_line channel (format_at channel f) joined k
    else last_line planned dir i f (coded_of channel.coding joined) loaded (k - lines)
