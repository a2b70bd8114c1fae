-- How long the frames of a node are.
use Rattle.std.proofs.Math.Seq.{take-append_seam}
use Rattle.std.proofs.Common.{◌≡◌, ◌+◌, ◌*◌, ◌++◌, take, ◌<◌, ◌≤◌, ℕ, zero, suc, List, length, arith, sym, subst, inl, inr, Bool, true, false}
use Rattle.std.specs.Prelude.{slice_index}
use Rattle.std.specs.Int.{div_ceil}
use Rattle.std.proofs.Math.Nat.{mul-le-mul_left}
use Rattle.std.proofs.lemmas.Bool.Decides.{eqb_tells}
use Rattle.std.proofs.lemmas.Grind.{div_ceil_times}
use Rattle.dch_types.specs.declared.channel.Dir.{Dir}
use Rattle.dch_types.specs.declared.channel.Dir.TheVariants.{Up, Down}
use Rattle.dch_types.specs.declared.channel.Format.{Format}
use Rattle.dch_types.specs.declared.channel.Side.{Side}
use Rattle.dch_types.specs.declared.channel.Trch.{Trch}
use Rattle.dch_types.specs.declared.config.Config.{Config}
use Rattle.dch_types.specs.Lengths.{frame_bits, joined_bits, tti_bits}
use Rattle.dch_types.specs.Limits.{IsDownlink, IsFormat, IsSide}
use Rattle.dch_bits.specs.declared.bit.Trit.{Trit}
use Rattle.dch_types.specs.Parts.{channel_at, side_of}
use Rattle.dch_coding.proofs.Lengths.{joined_short}
use Rattle.dch_accept.specs.HeldSets.{HeldSet, IsSetOf}
use Rattle.dch_accept.specs.Padded.{format_octets}
use Rattle.dch_iub.specs.Forms.{IsReadForm}
use Rattle.dch_iub.specs.Longest.{IsLongest}
use Rattle.dch_iub.specs.Shape.{AreFormats, check_octets, format_in, formats_of, frame_octets, mark_count, octets_before, sum_before, tail_octets}
use Rattle.dch_iub.proofs.Sums.{formats_of-at}

-- a sum over the channels of a set, of which each adds at most so much
sum_before-le : (side : Side) (set : ℕ) (amount : ℕ → ℕ) (most i : ℕ) → ((j : ℕ) → j < i → (channel_at side j).set ≡ set → amount j ≤ most) → sum_before side set amount i ≤ i * most
sum_before-le side set amount most zero few = omega arith
sum_before-le side set amount most (suc i) few =
    let rest : sum_before side set amount i ≤ i * most = sum_before-le side set amount most i (λ j early. few j (omega arith)) in
    elim (eqb_tells (channel_at side i).set set) [
      | inl this ↦ rw this.0 (omega (arith, rest, few i (omega arith) this.1))
      | inr other ↦ rw other.0 (omega (arith, rest))
    ]

octets_wide : (size : ℕ) → 8 * div_ceil size 8 ≤ size + 7
octets_wide size = omega (arith, (div_ceil_times size 8 (omega arith)).1)

-- the octets of the blocks of a format
format_octets-le : (channel : Trch) (format : Format) → IsFormat channel format → format_octets format ≤ 16440
format_octets-le channel format is =
    let wide : format.number * (8 * div_ceil format.size 8) ≤ format.number * (format.size + 7) = mul-le-mul_left format.number (octets_wide format.size) in
    let bits : format.number * format.size ≤ joined_bits channel format = mul-le-mul_left format.number (omega arith) in
    let coded : joined_bits channel format ≤ tti_bits channel format = joined_short channel format in
    omega (arith, wide, bits, coded, is.bits, is.number)

div_ceil-le : (n : ℕ) → div_ceil n 8 ≤ n
div_ceil-le n = omega (arith, (div_ceil_times n 8 (omega arith)).1)

check_octets-le : (on : Bool) → check_octets on ≤ 2
check_octets-le true = omega arith
check_octets-le false = omega arith

tail_octets-le : (dir : Dir) (marks : ℕ) → tail_octets dir marks ≤ 1 + marks
tail_octets-le Up marks = omega (arith, div_ceil-le marks)
tail_octets-le Down marks = omega arith

-- the octets of a frame of a set
frame_octets-le : (config : Config) (dir : Dir) (set : ℕ) (numbers : List ℕ) → IsSide (side_of config dir) → AreFormats (side_of config dir) set numbers → frame_octets config dir set numbers ≤ 140000
frame_octets-le config dir set numbers good are =
    let side = side_of config dir in
    let n : ℕ = length side.channels in
    let is : (j : ℕ) → j < n → (channel_at side j).set ≡ set → IsFormat (channel_at side j) (format_in side numbers j) =
    (λ j early member. (good.channels j early).formats (slice_index numbers j) (are j early member)) in
    let header : sum_before side set (λ j. 1) n ≤ n * 1 = sum_before-le side set (λ j. 1) 1 n (λ j early member. omega arith) in
    let octets : octets_before side set numbers n ≤ n * 16440 =
    sum_before-le side set (λ j. format_octets (format_in side numbers j)) 16440 n (λ j early member. format_octets-le (channel_at side j) (format_in side numbers j) (is j early member)) in
    let marks : mark_count side set numbers ≤ n * 64 =
    sum_before-le side set (λ j. (format_in side numbers j).number) 64 n (λ j early member. (is j early member).number) in
    omega (arith, header, octets, marks, tail_octets-le dir (mark_count side set numbers), check_octets-le config.payload_check, good.few)

-- and of a frame that can be read
pub read_octets-le : (config : Config) (dir : Dir) (set : ℕ) (octets : List ℕ) (cfn qe : ℕ) (held : HeldSet) → IsSide (side_of config dir) → IsReadForm config dir set octets cfn qe held → length octets ≤ 140000
read_octets-le config dir set octets cfn qe held good read =
    let are : AreFormats (side_of config dir) set read.numbers =
    (λ i inside member. subst (λ n. n < length (channel_at (side_of config dir) i).formats) (read.numbered i inside member) (read.formats i inside member).there) in
    subst (λ n. n ≤ 140000) (sym read.long) (frame_octets-le config dir set read.numbers good are)

-- the formats of a set's blocks are formats of its channels
pub formats-are : (config : Config) (dir : Dir) (set : ℕ) (held : HeldSet) → IsSetOf config dir set held → AreFormats (side_of config dir) set (formats_of held)
formats-are config dir set held is i inside member =
    subst (λ n. n < length (channel_at (side_of config dir) i).formats) (sym (formats_of-at held i (subst (λ n. i < n) (sym is.rooms.all) inside))) (is.formats i inside member).there

-- the longest frame of a set has room for the frame of these blocks
pub frame-fits : (config : Config) (dir : Dir) (set most : ℕ) (held : HeldSet) → IsSetOf config dir set held → IsLongest config dir set most → frame_octets config dir set (formats_of held) ≤ most
frame-fits config dir set most held is longest = longest.most (formats_of held) (formats-are config dir set held is)

-- the cells of a downlink radio frame
pub cells-le : (own config : Config) (cells : List Trit) → IsDownlink own.downlink → own ≡ config → length cells ≡ frame_bits config.downlink → length cells ≤ 57240
cells-le own config cells good same long =
    let is : IsDownlink config.downlink = subst (λ (c : Config). IsDownlink c.downlink) same good in
    let slots : 15 * config.downlink.slot_bits ≤ 19080 = omega (arith, is.few_bits) in
    let codes : 15 * config.downlink.slot_bits * config.downlink.codes ≤ 15 * config.downlink.slot_bits * 3 = mul-le-mul_left (15 * config.downlink.slot_bits) is.few_codes in
    omega (arith, slots, codes, long)

-- what stands in front
pub front_is : (len : ℕ) (front rest : List ℕ) → length front ≡ len → take len (front ++ rest) ≡ front
front_is len front rest long = subst (λ n. take n (front ++ rest) ≡ front) long (take-append_seam front rest)
