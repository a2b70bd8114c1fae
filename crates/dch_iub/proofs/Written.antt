-- What was written is in the written form.
use Rattle.std.proofs.Common.{◌≡◌, ◌+◌, ◌*◌, ◌<◌, ◌≤◌, ℕ, List, length, drop, arith, ap, ap₂, sym, subst, ◌∙◌, length-drop, true}
use Rattle.std.specs.Prelude.{Bool, slice_index}
use Rattle.std.specs.Int.{div_ceil}
use Rattle.std.proofs.lemmas.Grind.{div_ceil_times}
use Rattle.std.proofs.lemmas.List.{get_or_past, length-take-le}
use Rattle.std.proofs.lemmas.Nat.{row_fits}
use Rattle.dch_bits.specs.declared.bit.Bit.TheVariants.{Zero}
use Rattle.dch_bits.specs.Octets.{bit_of_octets}
use Rattle.dch_types.specs.declared.channel.Dir.{Dir}
use Rattle.dch_types.specs.declared.channel.Dir.TheVariants.{Up}
use Rattle.dch_types.specs.declared.channel.Side.{Side}
use Rattle.dch_types.specs.declared.channel.Trch.{Trch}
use Rattle.dch_types.specs.declared.config.Config.{Config}
use Rattle.dch_types.specs.Parts.{channel_at, format_at, side_of}
use Rattle.dch_accept.specs.Blocks.{Held, block_at}
use Rattle.dch_accept.specs.HeldSets.{HeldSet, HasFormat, IsSetOf, held_at}
use Rattle.dch_accept.proofs.Unpacked.{bits_are}
use Rattle.dch_iub.specs.Shape.{ForSet, check_octets, formats_of, frame_octets, header_octets, payload_end, blocks_end, mark_count, marks_before, format_in}
use Rattle.dch_iub.specs.Forms.{ArePadded, AreMarked, IsPayloadCheck, IsTail, IsTailPadded, IsWrittenForm, StandAt}
use Rattle.dch_iub.specs.Steps.{ArePacked, IsFront, IsMarked}
use Rattle.dch_iub.proofs.Sums.{formats_of-at, frame_octets-same, sum_before-fits}
use Rattle.dch_iub.proofs.Transfers.{AreOf}

-- a block is as long as its format says
pub length-block_at : (channel : Trch) (held : Held) (b : ℕ) → HasFormat channel held → b < length held.good → length (block_at held b) ≡ held.size
length-block_at channel held b has inside =
    let whole : length held.bits ≡ length held.good * held.size = has.long ∙ ap₂ (λ (n m : ℕ). n * m) (sym has.count) (sym has.size) in
    let fits : b * held.size + held.size ≤ length held.good * held.size = row_fits b held.size (length held.good) held.size inside (omega arith) in
    length-take-le held.size (drop (b * held.size) held.bits) (omega (arith, whole, fits, length-drop (b * held.size) held.bits))

pub stand : (channel : Trch) (frame : List ℕ) (at : ℕ) (held : Held) → HasFormat channel held → ArePacked frame at (length held.good) held → StandAt frame at held
stand channel frame at held has packed b inside =
    let w : ℕ = div_ceil held.size 8 in
    let covers : held.size ≤ w * 8 = (div_ceil_times held.size 8 (omega arith)).0 in
    sym (bits_are (block_at held b) frame (8 * (at + b * w)) held.size (length-block_at channel held b has inside) (λ k there. sym (packed b inside k (omega (arith, covers)))))

pub padded : (channel : Trch) (frame : List ℕ) (at : ℕ) (held : Held) → HasFormat channel held → ArePacked frame at (length held.good) held → ArePadded frame at held
padded channel frame at held has packed b k inside past within =
    packed b inside k within ∙ get_or_past (block_at held b) k Zero (omega (arith, past, length-block_at channel held b has inside))

-- the marks of a channel's blocks lie within all marks
marks_inside : (side : Side) (set : ℕ) (numbers : List ℕ) (held : HeldSet) (i : ℕ) → AreOf side set numbers held → i < length side.channels → (channel_at side i).set ≡ set
    → marks_before side set numbers i + length (held_at held.blocks i).good ≤ mark_count side set numbers
marks_inside side set numbers held i known inside member =
    let count : length (held_at held.blocks i).good ≡ (format_in side numbers i).number =
    (known.formats i inside member).count ∙ ap (λ n. (format_at (channel_at side i) n).number) (sym (known.numbered i inside)) in
    let fits : marks_before side set numbers i + (format_in side numbers i).number ≤ mark_count side set numbers =
    sum_before-fits side set (λ k. (format_in side numbers k).number) i (length side.channels) inside member in
    omega (arith, count, fits)

pub marked : (side : Side) (set : ℕ) (frame numbers : List ℕ) (held : HeldSet) → AreOf side set numbers held → IsMarked side set frame (blocks_end side set numbers + 1) numbers held
    → ForSet side set (λ i. AreMarked frame (8 * (blocks_end side set numbers + 1) + marks_before side set numbers i) (held_at held.blocks i))
marked side set frame numbers held known marks i inside member b there =
    let count : ℕ = mark_count side set numbers in
    let covers : count ≤ div_ceil count 8 * 8 = (div_ceil_times count 8 (omega arith)).0 in
    let fits = marks_inside side set numbers held i known inside member in
    let place : 8 * (blocks_end side set numbers + 1) + marks_before side set numbers i + b ≡ 8 * (blocks_end side set numbers + 1) + (marks_before side set numbers i + b) = omega arith in
    ap (bit_of_octets frame) place ∙ marks.packed (marks_before side set numbers i + b) (omega (arith, covers, fits, there)) ∙ marks.collected i inside member b there

pub tail_padded : (side : Side) (set : ℕ) (frame numbers : List ℕ) (held : HeldSet) → IsMarked side set frame (blocks_end side set numbers + 1) numbers held → IsTailPadded Up side set frame numbers
tail_padded side set frame numbers held marks k past within = marks.packed k within ∙ get_or_past marks.list k Zero (omega (arith, past, marks.long))

-- a whole frame
pub written : (config : Config) (dir : Dir) (set cfn qe : ℕ) (frame numbers : List ℕ) (held : HeldSet)
    → AreOf (side_of config dir) set numbers held → IsFront (side_of config dir) set frame cfn numbers held → length frame ≡ frame_octets config dir set numbers
    → IsTail dir (side_of config dir) set frame qe numbers held → IsTailPadded dir (side_of config dir) set frame numbers
    → (config.payload_check ≡ true → IsPayloadCheck frame (header_octets (side_of config dir) set) (payload_end dir (side_of config dir) set numbers))
    → IsWrittenForm config dir set frame cfn qe held
written config dir set cfn qe frame numbers held known front long tail tail_padding check = record {
  read = record {
    numbers = numbers;
    numbered = λ i inside member. sym (known.numbered i inside);
    formats = known.formats;
    header = front.header;
    long = long;
    blocks = λ i inside member. stand (channel_at (side_of config dir) i) frame _ (held_at held.blocks i) (known.formats i inside member) (front.blocks i inside member);
    tail = tail;
    check = check;
  };
  spare = front.spare;
  padding = λ i inside member. padded (channel_at (side_of config dir) i) frame _ (held_at held.blocks i) (known.formats i inside member) (front.blocks i inside member);
  tail_padding = tail_padding;
}

-- the numbers of the formats of a set's blocks, of which a channel's is that of its blocks
numbers_of : (config : Config) (dir : Dir) (set : ℕ) (numbers : List ℕ) (held : HeldSet) → IsSetOf config dir set held
    → ((i : ℕ) → i < length (side_of config dir).channels → slice_index numbers i ≡ (held_at held.blocks i).format)
    → frame_octets config dir set (formats_of held) ≡ frame_octets config dir set numbers
numbers_of config dir set numbers held opened numbered =
    frame_octets-same config dir set (formats_of held) numbers
    (λ i inside member. formats_of-at held i (subst (λ n. i < n) (sym opened.rooms.all) inside) ∙ sym (numbered i inside))

-- the octets of a frame, where the channels and the payload check are those of a configuration
pub frame_room : (config : Config) (dir : Dir) (set : ℕ) (numbers : List ℕ) (held : HeldSet) (side : Side) (on : Bool) → side ≡ side_of config dir → on ≡ config.payload_check
    → IsSetOf config dir set held → ((i : ℕ) → i < length side.channels → slice_index numbers i ≡ (held_at held.blocks i).format)
    → frame_octets config dir set (formats_of held) ≡ payload_end dir side set numbers + check_octets on
frame_room config dir set numbers held side on same checked opened numbered =
    numbers_of config dir set numbers held opened (subst (λ (s : Side). (i : ℕ) → i < length s.channels → slice_index numbers i ≡ (held_at held.blocks i).format) same numbered)
    ∙ ap₂ (λ (s : Side) (b : Bool). payload_end dir s set numbers + check_octets b) (sym same) (sym checked)

-- what was written for the channels of a configuration
pub record IsFilled (dir : Dir) (side : Side) (on : Bool) (set cfn qe : ℕ) (frame numbers : List ℕ) (held : HeldSet) : Type 0 where
  pub numbered : (i : ℕ) → i < length side.channels → slice_index numbers i ≡ (held_at held.blocks i).format
  pub front : IsFront side set frame cfn numbers held
  pub tail : ForSet side set (λ i. HasFormat (channel_at side i) (held_at held.blocks i)) → IsTail dir side set frame qe numbers held
  pub padding : IsTailPadded dir side set frame numbers
  pub check : on ≡ true → IsPayloadCheck frame (header_octets side set) (payload_end dir side set numbers)

pub filled_frame : (config : Config) (dir : Dir) (set cfn qe : ℕ) (frame numbers : List ℕ) (held : HeldSet) (side : Side) (on : Bool) → side ≡ side_of config dir → on ≡ config.payload_check
    → IsSetOf config dir set held → length frame ≡ frame_octets config dir set (formats_of held) → IsFilled dir side on set cfn qe frame numbers held → IsWrittenForm config dir set frame cfn qe held
filled_frame config dir set cfn qe frame numbers held side on same checked opened long filled =
    let is : IsFilled dir (side_of config dir) on set cfn qe frame numbers held = subst (λ (s : Side). IsFilled dir s on set cfn qe frame numbers held) same filled in
    written config dir set cfn qe frame numbers held (record { numbered = is.numbered; formats = opened.formats }) is.front
    (long ∙ numbers_of config dir set numbers held opened is.numbered) (is.tail opened.formats) is.padding (λ h. is.check (checked ∙ h))
