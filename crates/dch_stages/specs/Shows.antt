-- What the cells of a loaded TTI show, and what comes in where a coded bit is put out (TS 25.212 4.2.1 to 4.2.9.1).
use Rattle.std.specs.Prelude.{◌≡◌, ◌<◌, ◌*◌, ◌/◌, ◌%◌, ℕ, List, Option, Some, None, IfSome, length, slice_index_or}
use Rattle.dch_bits.specs.declared.bit.Bit.{Bit}
use Rattle.dch_bits.specs.declared.bit.Bit.TheVariants.{Zero}
use Rattle.dch_bits.specs.declared.bit.Trit.{Trit}
use Rattle.dch_bits.specs.declared.bit.Trit.TheVariants.{Off}
use Rattle.dch_bits.specs.Bits.{bit_of_number}
use Rattle.dch_types.specs.declared.channel.Coding.{Coding}
use Rattle.dch_types.specs.declared.channel.Coding.TheVariants.{Uncoded, Half, Third}
use Rattle.dch_types.specs.declared.channel.Dir.{Dir}
use Rattle.dch_types.specs.declared.channel.Dir.TheVariants.{Up, Down}
use Rattle.dch_types.specs.declared.channel.Format.{Format}
use Rattle.dch_types.specs.declared.channel.Trch.{Trch}
use Rattle.dch_types.specs.Lengths.{coded_block, joined_bits}
use Rattle.dch_types.specs.Parts.{channel_at, format_at, side_of}
use Rattle.dch_coding.specs.Chain.{code_block, coded_of}
use Rattle.dch_coding.specs.Conv.{coded as coded_number}
use Rattle.dch_coding.specs.Segments.{plan_of}
use Rattle.dch_coding.specs.Ttis.{IsCodedTti}
use Rattle.dch_coding.specs.declared.cut.Plan.{Plan}
use Rattle.dch_coding.specs.declared.rate.Rate.TheVariants.{Half as HalfRate, Third as ThirdRate}
use Rattle.dch_frame.specs.Stages.{as_cell}
use Rattle.dch_accept.specs.Plans.{Planned}
use Rattle.dch_tti.specs.Loaded.{Loaded}
use Rattle.dch_ulphy.specs.Loaded.{IsLoaded as IsUpLoaded}
use Rattle.dch_dlphy.specs.Loaded.{IsLoaded as IsDownLoaded}
use Rattle.dch_stages.specs.Places.{bit_of, cells_of_tti, outputs_of, shown_at}

-- the blocks of format f of channel i are loaded
abbrev pub IsLoaded : Planned → Dir → ℕ → ℕ → List Bit → Loaded → Type 0
IsLoaded planned Up i f bits loaded = IsUpLoaded planned i f bits loaded
IsLoaded planned Down i f bits loaded = IsDownLoaded planned i f bits loaded

-- the cell of coded bit n; where there is none, zeros pad an uplink TTI, and in the downlink nothing is sent
abbrev pub cell_of : Dir → List Bit → Option ℕ → Trit
cell_of dir coded (Some n) = as_cell (slice_index_or coded n Zero)
cell_of Up coded None = as_cell Zero
cell_of Down coded None = Off

-- each loaded cell is that of the coded bit which its place shows
pub record AreShown (planned : Planned) (dir : Dir) (i f : ℕ) (bits : List Bit) (loaded : Loaded) : Type 0 where
  pub coded : List Bit
  pub is : IsCodedTti (channel_at (side_of planned.config dir) i)
      (format_at (channel_at (side_of planned.config dir) i) f) bits coded
  pub long : length loaded.cells ≡ cells_of_tti planned dir i f
  pub shown : (p : ℕ) → p < cells_of_tti planned dir i f → slice_index_or loaded.cells p Off ≡
      cell_of dir coded (shown_at planned dir i f p)

-- output t of a step of a code
abbrev pub output : Coding → List Bit → ℕ → ℕ → Bit
output Uncoded block step t = slice_index_or block step Zero
output Half block step t = bit_of_number (coded_number HalfRate block step t)
output Third block step t = bit_of_number (coded_number ThirdRate block step t)

-- the code block of coded bit n of a TTI, the step at which it is put out, and which of its outputs it is
abbrev pub plan_in : Trch → Format → Plan
plan_in channel format = plan_of (joined_bits channel format) channel.coding

abbrev pub code_length : Trch → Format → ℕ
code_length channel format = coded_block channel.coding (plan_in channel format).size

abbrev pub block_of : Trch → Format → List Bit → ℕ → List Bit
block_of channel format joined n = code_block (plan_in channel format) joined (n / code_length channel format)

abbrev pub step_of : Trch → Format → ℕ → ℕ
step_of channel format n = n % code_length channel format / outputs_of channel.coding

abbrev pub output_of : Trch → Format → ℕ → ℕ
output_of channel format n = n % code_length channel format % outputs_of channel.coding

-- coded bit n is put out at that step, and the bit of the transport blocks that is named for it, if one is, comes in
-- there
pub record IsPutOut (channel : Trch) (format : Format) (bits joined : List Bit) (n : ℕ) : Type 0 where
  pub out : slice_index_or (coded_of channel.coding joined) n Zero ≡
      output channel.coding (block_of channel format joined n) (step_of channel format n) (output_of channel format n)
  pub comes : IfSome (bit_of channel format n) (λ k. (k < format.number * format.size) ×
      (slice_index_or (block_of channel format joined n) (step_of channel format n) Zero ≡ slice_index_or bits k Zero))
