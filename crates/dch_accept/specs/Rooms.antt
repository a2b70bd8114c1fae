-- For how large TTIs of an accepted configuration there is room.
use Rattle.std.specs.Prelude.{◌≤◌, ◌*◌, ◌/◌, ℕ, zero, suc, List, max, length}
use Rattle.dch_types.specs.declared.channel.Dir.{Dir}
use Rattle.dch_types.specs.declared.channel.Dir.TheVariants.{Up, Down}
use Rattle.dch_types.specs.Parts.{channel_at, side_of}
use Rattle.dch_coding.specs.Rooms.{Holds, channel_room, no_room, wider}
use Rattle.dch_frame.specs.declared.downlink_plan.RateMatching.{RateMatching}
use Rattle.dch_frame.specs.Downlinks.{matching_at}
use Rattle.dch_accept.specs.declared.room.TtiRoom.{TtiRoom}
use Rattle.dch_accept.specs.Plans.{Planned}

-- the most places of channel i in a radio frame of the downlink, over its first formats and over all
unfoldable pub places_below : List (List RateMatching) → ℕ → ℕ → ℕ
places_below plan i zero = 0
places_below plan i (suc f) = max (places_below plan i f) (matching_at plan i f).cells

abbrev pub most_places : Planned → ℕ → ℕ
most_places planned i = places_below planned.downlink i (length (channel_at planned.config.downlink.side i).formats)

-- the most cells of a TTI of channel i: in the uplink one for each coded bit, padded to whole radio frames, and in the
-- downlink one for each place in its radio frames
abbrev pub most_tti_cells : Planned → Dir → ℕ → ℕ
most_tti_cells planned Up i = (channel_room (channel_at planned.config.uplink.side i)).bits
most_tti_cells planned Down i = (channel_at planned.config.downlink.side i).frames * most_places planned i

-- the greatest TTI of channel i
abbrev pub tti_room : Planned → Dir → ℕ → TtiRoom
tti_room planned dir i =
    let channel = channel_at (side_of planned.config dir) i in record {
      coding = channel_room channel;
      frame_bits = (channel_room channel).bits / channel.frames;
      cells = most_tti_cells planned dir i;
    }

abbrev pub no_tti_room : TtiRoom
no_tti_room = record { coding = no_room; frame_bits = 0; cells = 0 }

-- room for what either holds
abbrev pub wider_tti : TtiRoom → TtiRoom → TtiRoom
wider_tti one other = record {
  coding = wider one.coding other.coding;
  frame_bits = max one.frame_bits other.frame_bits;
  cells = max one.cells other.cells;
}

-- the greatest TTI of a direction, over its first channels and over all
unfoldable pub rooms_below : Planned → Dir → ℕ → TtiRoom
rooms_below planned dir zero = no_tti_room
rooms_below planned dir (suc i) = wider_tti (rooms_below planned dir i) (tti_room planned dir i)

abbrev pub most_room : Planned → Dir → TtiRoom
most_room planned dir = rooms_below planned dir (length (side_of planned.config dir).channels)

-- there is room for TTIs of that size
pub record HoldsTti (room wanted : TtiRoom) : Type 0 where
  pub coding : Holds room.coding wanted.coding
  pub frame_bits : wanted.frame_bits ≤ room.frame_bits
  pub cells : wanted.cells ≤ room.cells
