-- There is room for each TTI of the downlink, where it is coded and where it is read.
use Rattle.std.proofs.Common.{◌≡◌, ◌∙◌, ◌*◌, ◌<◌, ◌≤◌, ℕ, List, length, arith, ap, ap₂}
use Rattle.std.proofs.Math.Nat.{mul_comm}
use Rattle.std.proofs.lemmas.Grind.{div_ceil_times}
use Rattle.dch_types.specs.declared.channel.Dir.TheVariants.{Down}
use Rattle.dch_types.specs.declared.channel.Trch.{Trch}
use Rattle.dch_types.specs.Lengths.{padded, tti_bits}
use Rattle.dch_types.specs.Limits.{IsChannel, IsSide}
use Rattle.dch_types.specs.Parts.{channel_at, format_at}
use Rattle.dch_coding.specs.Rooms.{channel_room}
use Rattle.dch_coding.proofs.Rooms.{holds_channel}
use Rattle.dch_accept.specs.declared.room.TtiRoom.{TtiRoom}
use Rattle.dch_accept.specs.Plans.{Planned}
use Rattle.dch_accept.specs.Rooms.{tti_room}
use Rattle.dch_accept.proofs.Rooms.{holds_coding, holds_tti, places_held}
use Rattle.dch_tti.specs.Read.{coded_in}
use Rattle.dch_tti.specs.RxFrames.{IsReaderOf, RxFrames}
use Rattle.dch_tti.specs.Loaded.{AreWithin, Loaded, loaded_at}
use Rattle.dch_dlphy.specs.Loaded.{IsTtiOf, matching_of, tti_cells}

-- a TTI of a channel in a format fits into its buffer, and into memory for so many coded bits and cells
pub record TtiFits (channel : Trch) (f places most_bits most_cells : ℕ) (loaded : Loaded) : Type 0 where
  pub bits : tti_bits channel (format_at channel f) ≤ most_bits
  pub cells : channel.frames * places ≤ most_cells
  pub buffer : channel.frames * places ≤ loaded.room.cells

pub tti_fits : (planned : Planned) (tti : List Loaded) (i f places most_bits most_cells : ℕ) (channel : Trch) → IsTtiOf planned tti → AreWithin most_bits most_cells tti → i < length planned.config.downlink.side.channels
    → channel ≡ channel_at planned.config.downlink.side i → IsChannel channel → f < length (channel_at planned.config.downlink.side i).formats → places ≡ (matching_of planned i f).cells
    → TtiFits channel f places most_bits most_cells (loaded_at tti i)
tti_fits planned tti i f places most_bits most_cells channel is within inside same good there count =
    let own : Trch = channel_at planned.config.downlink.side i in
    let room : (loaded_at tti i).room ≡ tti_room planned Down i = is.rooms i inside in
    let frames : channel.frames ≡ own.frames = ap (λ (channel : Trch). channel.frames) same in
    let coded : tti_bits channel (format_at channel f) ≡ tti_bits own (format_at own f) = ap (λ (channel : Trch). tti_bits channel (format_at channel f)) same in
    let whole : padded (tti_bits own (format_at own f)) own.frames ≤ (channel_room own).bits = (holds_channel own f there).bits in
    let more : tti_bits own (format_at own f) ≤ padded (tti_bits own (format_at own f)) own.frames = (div_ceil_times (tti_bits own (format_at own f)) own.frames (omega (arith, good.frames, frames))).0 in
    let places : channel.frames * places ≡ tti_cells planned i f = ap₂ (λ frames places. frames * places) frames count in
    let enough = within i (omega (arith, is.channels, inside)) in
    let all : tti_cells planned i f ≤ (tti_room planned Down i).cells = places_held planned i f there in
    let cells : (loaded_at tti i).room.cells ≡ (tti_room planned Down i).cells = ap (λ (room : TtiRoom). room.cells) room in record {
      bits = omega (arith, coded, more, whole, ap (λ (room : TtiRoom). room.coding.bits) room, enough.bits);
      cells = omega (arith, places, all, cells, enough.cells);
      buffer = omega (arith, places, all, cells);
    }

-- its places and the votes for its coded bits fit into what a reader has
pub record ReadFits (planned : Planned) (reader : RxFrames) (i f : ℕ) : Type 0 where
  pub cells : tti_cells planned i f ≤ reader.room.cells
  pub votes : coded_in planned.config.downlink.side i f ≤ reader.room.coding.bits

pub read_fits : (planned : Planned) (reader : RxFrames) (i f : ℕ) → IsReaderOf planned Down reader → IsSide planned.config.downlink.side → i < length planned.config.downlink.side.channels
    → f < length (channel_at planned.config.downlink.side i).formats → ReadFits planned reader i f
read_fits planned reader i f is good inside there =
    let own : Trch = channel_at planned.config.downlink.side i in
    let more = (div_ceil_times (tti_bits own (format_at own f)) own.frames (omega (arith, (good.channels i inside).frames))).0 in record {
      cells = omega (arith, places_held planned i f there, (holds_tti planned Down i inside).cells, ap (λ (room : TtiRoom). room.cells) is.room);
      votes = omega (arith, more, (holds_coding planned Down i f inside there).bits, ap (λ (room : TtiRoom). room.coding.bits) is.room);
    }

-- the places of so many radio frames are those of a TTI
pub places_all : (planned : Planned) (i f places frames : ℕ) → places ≡ (matching_of planned i f).cells → frames ≡ (channel_at planned.config.downlink.side i).frames → places * frames ≡ tti_cells planned i f
places_all planned i f places frames count each = mul_comm places frames ∙ ap₂ (λ frames places. frames * places) each count
