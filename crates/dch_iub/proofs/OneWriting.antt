-- A frame that is written is determined by what is written to it.
use Rattle.std.proofs.Common.{◌≡◌, ◌+◌, ◌-◌, ◌*◌, ◌/◌, ◌%◌, ◌<◌, ◌≤◌, ◌∙◌, ℕ, zero, suc, List, length, arith, ap, ap₂, sym, subst, refl, true, false, inl, inr}
use Rattle.std.specs.Prelude.{slice_index, Bool}
use Rattle.std.specs.Int.{bit_at, div_ceil}
use Rattle.std.proofs.lemmas.Bool.{cases_lt}
use Rattle.std.proofs.lemmas.List.{ext_get_or}
use Rattle.dch_bits.specs.Bits.{bit_of_number}
use Rattle.dch_bits.specs.Octets.{bit_of_octets, octet_bit}
use Rattle.dch_coding.specs.Parity.{IsCheck, header_polynomial, payload_polynomial}
use Rattle.dch_types.specs.declared.channel.Dir.{Dir}
use Rattle.dch_types.specs.declared.channel.Dir.TheVariants.{Up, Down}
use Rattle.dch_types.specs.declared.channel.Side.{Side}
use Rattle.dch_types.specs.declared.config.Config.{Config}
use Rattle.dch_types.specs.Parts.{channel_at, format_at, side_of}
use Rattle.dch_accept.specs.Blocks.{Held}
use Rattle.dch_accept.specs.HeldSets.{HeldSet, HasFormat, held_at}
use Rattle.dch_accept.specs.Padded.{bits_from, format_octets}
use Rattle.dch_iub.specs.Forms.{AreMarked, ArePadded, IsHeaderCheck, IsPayloadCheck, IsTail, IsTailPadded, IsWrittenForm, StandAt}
use Rattle.dch_iub.specs.Shape.{ForSet, blocks_end, blocks_place, check_octets, format_in, header_octets, mark_count, marks_before, number_place, octets_before, payload_end}
use Rattle.dch_iub.proofs.Checks.{one_header_check, one_payload_check}
use Rattle.dch_iub.proofs.Fronts.{bits_from-same}
use Rattle.dch_iub.proofs.Sums.{channel_octets, marks_before-same, octets_before-same, payload_end-same}
use Rattle.dch_iub.proofs.Told.{AreOctets, IsWithin, block_octet, octet_one, within}

-- the written form with formats of these numbers
record IsLaid (config : Config) (dir : Dir) (side : Side) (set : ℕ) (frame : List ℕ) (cfn qe : ℕ) (numbers : List ℕ) (held : HeldSet) : Type 0 where
  header : IsHeaderCheck frame (header_octets side set)
  is_data : slice_index frame 0 % 2 ≡ 0
  named : slice_index frame 1 ≡ cfn
  spare : ForSet side set (λ i. slice_index frame (number_place side set i) ≡ slice_index numbers i)
  long : length frame ≡ payload_end dir side set numbers + check_octets config.payload_check
  blocks : ForSet side set (λ i. StandAt frame (blocks_place side set numbers i) (held_at held.blocks i))
  padding : ForSet side set (λ i. ArePadded frame (blocks_place side set numbers i) (held_at held.blocks i))
  tail : IsTail dir side set frame qe numbers held
  tail_padding : IsTailPadded dir side set frame numbers
  check : config.payload_check ≡ true → IsPayloadCheck frame (header_octets side set) (payload_end dir side set numbers)

-- the blocks that the numbers tell
abbrev AreTold : Side → ℕ → List ℕ → HeldSet → Type 0
AreTold side set numbers held = ForSet side set (λ i. HasFormat (channel_at side i) (held_at held.blocks i) × ((held_at held.blocks i).format ≡ slice_index numbers i))

-- two frames agree before a place
abbrev AgreeBelow : List ℕ → List ℕ → ℕ → Type 0
AgreeBelow xs ys n = (k : ℕ) → k < n → slice_index xs k ≡ slice_index ys k

bit_below : (xs ys : List ℕ) (n k : ℕ) → AgreeBelow xs ys n → k < 8 * n → bit_of_octets xs k ≡ bit_of_octets ys k
bit_below xs ys n k same inside = ap (λ octet. octet_bit octet (k % 8)) (same (k / 8) (omega arith))

-- the octets of the header after the first
header_rest : (config : Config) (dir : Dir) (side : Side) (set : ℕ) (xs ys : List ℕ) (cfn qe : ℕ) (numbers : List ℕ) (held : HeldSet) (k : ℕ) → IsLaid config dir side set xs cfn qe numbers held → IsLaid config dir side set ys cfn qe numbers held
    → k < header_octets side set → 1 ≤ k → slice_index xs k ≡ slice_index ys k
header_rest config dir side set xs ys cfn qe numbers held k a b inside some = elim (cases_lt 1 k) [
  | inl past ↦
      let at : IsWithin side set (λ j. 1) (length side.channels) (k - 2) = within side set (λ j. 1) (length side.channels) (k - 2) (omega (arith, inside, past)) in
      let place : k ≡ number_place side set at.channel = omega (arith, at.from, at.to, past) in
      ap (slice_index xs) place ∙ a.spare at.channel at.inside at.member ∙ sym (b.spare at.channel at.inside at.member) ∙ ap (slice_index ys) (sym place)
  | inr first ↦
      let one : k ≡ 1 = omega (arith, first, some) in
      ap (slice_index xs) one ∙ a.named ∙ sym b.named ∙ ap (slice_index ys) (sym one)
]

-- the last bit of two even octets
even_bits : (x y : ℕ) → x % 2 ≡ 0 → y % 2 ≡ 0 → octet_bit x 7 ≡ octet_bit y 7
even_bits x y one other = ap bit_of_number (let both : bit_at x 0 ≡ bit_at y 0 = omega (arith, one, other) in both)

first_octet : (config : Config) (dir : Dir) (side : Side) (set : ℕ) (xs ys : List ℕ) (cfn qe : ℕ) (numbers : List ℕ) (held : HeldSet) → IsLaid config dir side set xs cfn qe numbers held → IsLaid config dir side set ys cfn qe numbers held
    → slice_index xs 0 ≡ slice_index ys 0
first_octet config dir side set xs ys cfn qe numbers held a b =
    let header : ℕ = header_octets side set in
    let bits : bits_from xs 7 (8 * header - 7) ≡ bits_from ys 7 (8 * header - 7) = bits_from-same xs ys 7 (8 * header - 7) (λ k inside. bit k inside) in
    let half : slice_index xs 0 / 2 ≡ slice_index ys 0 / 2 =
    one_header_check (bits_from ys 7 (8 * header - 7)) (slice_index xs 0 / 2) (slice_index ys 0 / 2) (subst (λ bits. IsCheck header_polynomial bits (slice_index xs 0 / 2)) bits a.header) b.header in
    omega (arith, half, a.is_data, b.is_data)
  where
    bit : (k : ℕ) → k < 8 * header_octets side set - 7 → bit_of_octets xs (7 + k) ≡ bit_of_octets ys (7 + k)
    bit zero inside = even_bits (slice_index xs 0) (slice_index ys 0) a.is_data b.is_data
    bit (suc k) inside = ap (λ octet. octet_bit octet ((7 + suc k) % 8)) (header_rest config dir side set xs ys cfn qe numbers held ((7 + suc k) / 8) a b (omega (arith, inside)) (omega arith))

header_one : (config : Config) (dir : Dir) (side : Side) (set : ℕ) (xs ys : List ℕ) (cfn qe : ℕ) (numbers : List ℕ) (held : HeldSet) → IsLaid config dir side set xs cfn qe numbers held → IsLaid config dir side set ys cfn qe numbers held
    → AgreeBelow xs ys (header_octets side set)
header_one config dir side set xs ys cfn qe numbers held a b zero inside = first_octet config dir side set xs ys cfn qe numbers held a b
header_one config dir side set xs ys cfn qe numbers held a b (suc k) inside = header_rest config dir side set xs ys cfn qe numbers held (suc k) a b inside (omega arith)

-- the octets of the blocks
blocks_one : (config : Config) (dir : Dir) (side : Side) (set : ℕ) (xs ys : List ℕ) (cfn qe : ℕ) (numbers : List ℕ) (held : HeldSet) → AreTold side set numbers held → AreOctets xs → AreOctets ys
    → IsLaid config dir side set xs cfn qe numbers held → IsLaid config dir side set ys cfn qe numbers held → AgreeBelow xs ys (blocks_end side set numbers)
blocks_one config dir side set xs ys cfn qe numbers held told are be a b k inside = elim (cases_lt k (header_octets side set)) [
  | inl early ↦ header_one config dir side set xs ys cfn qe numbers held a b k early
  | inr past ↦
      let header : ℕ = header_octets side set in
      let octets : ℕ → ℕ = λ j. format_octets (format_in side numbers j) in
      let at : IsWithin side set octets (length side.channels) (k - header) = within side set octets (length side.channels) (k - header) (omega (arith, inside, past)) in
      let i : ℕ = at.channel in
      let r : ℕ = k - blocks_place side set numbers i in
      let from : octets_before side set numbers i ≤ k - header = at.from in
      let to : k - header < octets_before side set numbers i + format_octets (format_in side numbers i) = at.to in
      let place : k ≡ blocks_place side set numbers i + r = omega (arith, from, past) in
      let has = told i at.inside at.member in
      let wide : length (held_at held.blocks i).good * div_ceil (held_at held.blocks i).size 8 ≡ format_octets (format_in side numbers i) = channel_octets (channel_at side i) (held_at held.blocks i) (slice_index numbers i) has.0 has.1 in
      let small : k < length xs = omega (arith, inside, a.long) in
      let little : k < length ys = omega (arith, inside, b.long) in
      ap (slice_index xs) place
      ∙ block_octet xs ys (blocks_place side set numbers i) r (held_at held.blocks i) (a.blocks i at.inside at.member) (b.blocks i at.inside at.member) (a.padding i at.inside at.member) (b.padding i at.inside at.member)
      (omega (arith, wide, to, from, past)) (subst (λ n. slice_index xs n < 256) place (are k small)) (subst (λ n. slice_index ys n < 256) place (be k little))
      ∙ ap (slice_index ys) (sym place)
]

-- a bit of the marks, or after them in their last octet
mark_bit : (config : Config) (side : Side) (set : ℕ) (xs ys : List ℕ) (cfn qe : ℕ) (numbers : List ℕ) (held : HeldSet) (t : ℕ) → AreTold side set numbers held
    → IsLaid config Up side set xs cfn qe numbers held → IsLaid config Up side set ys cfn qe numbers held → t < 8 * div_ceil (mark_count side set numbers) 8
    → bit_of_octets xs (8 * (blocks_end side set numbers + 1) + t) ≡ bit_of_octets ys (8 * (blocks_end side set numbers + 1) + t)
mark_bit config side set xs ys cfn qe numbers held t told a b inside = elim (cases_lt t (mark_count side set numbers)) [
  | inl early ↦
      let marks : ℕ → ℕ = λ j. (format_in side numbers j).number in
      let at : IsWithin side set marks (length side.channels) t = within side set marks (length side.channels) t early in
      let i : ℕ = at.channel in
      let from : marks_before side set numbers i ≤ t = at.from in
      let to : t < marks_before side set numbers i + (format_in side numbers i).number = at.to in
      let n : ℕ = t - marks_before side set numbers i in
      let has = told i at.inside at.member in
      let count : length (held_at held.blocks i).good ≡ (format_in side numbers i).number = has.0.count ∙ ap (λ f. (format_at (channel_at side i) f).number) has.1 in
      let there : n < length (held_at held.blocks i).good = omega (arith, count, from, to) in
      let place : 8 * (blocks_end side set numbers + 1) + t ≡ 8 * (blocks_end side set numbers + 1) + marks_before side set numbers i + n = omega (arith, from) in
      ap (bit_of_octets xs) place ∙ a.tail.marks i at.inside at.member n there ∙ sym (b.tail.marks i at.inside at.member n there) ∙ ap (bit_of_octets ys) (sym place)
  | inr late ↦ a.tail_padding t (omega (arith, late)) inside ∙ sym (b.tail_padding t (omega (arith, late)) inside)
]

-- the octets before the payload check
payload_one : (config : Config) (dir : Dir) (side : Side) (set : ℕ) (xs ys : List ℕ) (cfn qe : ℕ) (numbers : List ℕ) (held : HeldSet) → AreTold side set numbers held → AreOctets xs → AreOctets ys
    → IsLaid config dir side set xs cfn qe numbers held → IsLaid config dir side set ys cfn qe numbers held → AgreeBelow xs ys (payload_end dir side set numbers)
payload_one config Down side set xs ys cfn qe numbers held told are be a b k inside = blocks_one config Down side set xs ys cfn qe numbers held told are be a b k (omega (arith, inside))
payload_one config Up side set xs ys cfn qe numbers held told are be a b k inside =
    let end : ℕ = blocks_end side set numbers in
    let small : k < length xs = omega (arith, inside, a.long) in
    let little : k < length ys = omega (arith, inside, b.long) in
    elim (cases_lt k end) [
      | inl early ↦ blocks_one config Up side set xs ys cfn qe numbers held told are be a b k early
      | inr past ↦ elim (cases_lt end k) [
        | inl after ↦ octet_one xs ys k (are k small) (be k little) (λ j low.
            let t : ℕ = 8 * (k - (end + 1)) + j in
            let place : 8 * k + j ≡ 8 * (end + 1) + t = omega (arith, after) in
            ap (bit_of_octets xs) place ∙ mark_bit config side set xs ys cfn qe numbers held t told a b (omega (arith, after, inside, low)) ∙ ap (bit_of_octets ys) (sym place))
        | inr upto ↦
            let here : k ≡ end = omega (arith, past, upto) in
            ap (slice_index xs) here ∙ a.tail.quality ∙ sym b.tail.quality ∙ ap (slice_index ys) (sym here)
      ]
    ]

-- the payload check
check_one : (dir : Dir) (side : Side) (set : ℕ) (xs ys numbers : List ℕ) → AreOctets xs → AreOctets ys → AgreeBelow xs ys (payload_end dir side set numbers)
    → length xs ≡ payload_end dir side set numbers + 2 → length ys ≡ payload_end dir side set numbers + 2
    → IsPayloadCheck xs (header_octets side set) (payload_end dir side set numbers) → IsPayloadCheck ys (header_octets side set) (payload_end dir side set numbers) → AgreeBelow xs ys (payload_end dir side set numbers + 2)
check_one dir side set xs ys numbers are be same long longer a b k inside =
    let header : ℕ = header_octets side set in
    let end : ℕ = payload_end dir side set numbers in
    let bits : bits_from xs (8 * header) (8 * (end - header)) ≡ bits_from ys (8 * header) (8 * (end - header)) =
    bits_from-same xs ys (8 * header) (8 * (end - header)) (λ j there. bit_below xs ys end (8 * header + j) same (omega (arith, there))) in
    let both : 256 * slice_index xs end + slice_index xs (end + 1) ≡ 256 * slice_index ys end + slice_index ys (end + 1) =
    one_payload_check (bits_from ys (8 * header) (8 * (end - header))) _ _ (subst (λ bits. IsCheck payload_polynomial bits (256 * slice_index xs end + slice_index xs (end + 1))) bits a) b in
    let small : slice_index xs (end + 1) < 256 = are (end + 1) (omega (arith, long)) in
    let little : slice_index ys (end + 1) < 256 = be (end + 1) (omega (arith, longer)) in
    elim (cases_lt k end) [
      | inl early ↦ same k early
      | inr past ↦ elim (cases_lt end k) [
        | inl after ↦
            let last : k ≡ end + 1 = omega (arith, after, inside) in
            let one : slice_index xs (end + 1) ≡ slice_index ys (end + 1) = omega (arith, both, small, little) in
            ap (slice_index xs) last ∙ one ∙ ap (slice_index ys) (sym last)
        | inr upto ↦
            let here : k ≡ end = omega (arith, past, upto) in
            let one : slice_index xs end ≡ slice_index ys end = omega (arith, both, small, little) in
            ap (slice_index xs) here ∙ one ∙ ap (slice_index ys) (sym here)
      ]
    ]

all_one : (on : Bool) (dir : Dir) (side : Side) (set : ℕ) (xs ys numbers : List ℕ) → AreOctets xs → AreOctets ys → AgreeBelow xs ys (payload_end dir side set numbers)
    → length xs ≡ payload_end dir side set numbers + check_octets on → length ys ≡ payload_end dir side set numbers + check_octets on
    → (on ≡ true → IsPayloadCheck xs (header_octets side set) (payload_end dir side set numbers)) → (on ≡ true → IsPayloadCheck ys (header_octets side set) (payload_end dir side set numbers))
    → AgreeBelow xs ys (payload_end dir side set numbers + check_octets on)
all_one true dir side set xs ys numbers are be same long longer a b = check_one dir side set xs ys numbers are be same long longer (a refl) (b refl)
all_one false dir side set xs ys numbers are be same long longer a b = λ k inside. same k (omega (arith, inside))

laid_one : (config : Config) (dir : Dir) (side : Side) (set : ℕ) (xs ys : List ℕ) (cfn qe : ℕ) (numbers : List ℕ) (held : HeldSet) → AreTold side set numbers held → AreOctets xs → AreOctets ys
    → IsLaid config dir side set xs cfn qe numbers held → IsLaid config dir side set ys cfn qe numbers held → xs ≡ ys
laid_one config dir side set xs ys cfn qe numbers held told are be a b =
    let all : AgreeBelow xs ys (payload_end dir side set numbers + check_octets config.payload_check) =
    all_one config.payload_check dir side set xs ys numbers are be (payload_one config dir side set xs ys cfn qe numbers held told are be a b) a.long b.long a.check b.check in
    ext_get_or 0 xs ys (a.long ∙ sym b.long) (λ k inside. all k (omega (arith, inside, a.long)))

-- the same blocks, in whatever room
abbrev pub AreSameBlocks : Side → ℕ → HeldSet → HeldSet → Type 0
AreSameBlocks side set held again = ForSet side set (λ i. held_at again.blocks i ≡ record (held_at held.blocks i) { room = (held_at again.blocks i).room })

laid_tail : (dir : Dir) (side : Side) (set : ℕ) (ys : List ℕ) (qe : ℕ) (numbers again_numbers : List ℕ) (held again : HeldSet) → AreSameBlocks side set held again
    → ForSet side set (λ i. slice_index again_numbers i ≡ slice_index numbers i) → IsTail dir side set ys qe again_numbers again → IsTail dir side set ys qe numbers held
laid_tail Down side set ys qe numbers again_numbers held again same nums tail = tt
laid_tail Up side set ys qe numbers again_numbers held again same nums tail =
    let end : blocks_end side set again_numbers ≡ blocks_end side set numbers = ap (λ n. header_octets side set + n) (octets_before-same side set again_numbers numbers (length side.channels) (omega arith) nums) in record {
      quality = ap (slice_index ys) (sym end) ∙ tail.quality;
      marks = λ i inside member.
          let before : marks_before side set again_numbers i ≡ marks_before side set numbers i = marks_before-same side set again_numbers numbers i (omega arith) nums in
          let place : 8 * (blocks_end side set again_numbers + 1) + marks_before side set again_numbers i ≡ 8 * (blocks_end side set numbers + 1) + marks_before side set numbers i = ap₂ (λ (e m : ℕ). 8 * (e + 1) + m) end before in
          subst (λ (p : ℕ). AreMarked ys p (held_at held.blocks i)) place (subst (λ (h : Held). AreMarked ys (8 * (blocks_end side set again_numbers + 1) + marks_before side set again_numbers i) h) (same i inside member) (tail.marks i inside member));
    }

laid_tail_padding : (dir : Dir) (side : Side) (set : ℕ) (ys numbers again_numbers : List ℕ) → ForSet side set (λ i. slice_index again_numbers i ≡ slice_index numbers i) → IsTailPadded dir side set ys again_numbers → IsTailPadded dir side set ys numbers
laid_tail_padding Down side set ys numbers again_numbers nums padding = tt
laid_tail_padding Up side set ys numbers again_numbers nums padding =
    let end : blocks_end side set again_numbers ≡ blocks_end side set numbers = ap (λ n. header_octets side set + n) (octets_before-same side set again_numbers numbers (length side.channels) (omega arith) nums) in
    let count : mark_count side set again_numbers ≡ mark_count side set numbers = marks_before-same side set again_numbers numbers (length side.channels) (omega arith) nums in
    λ k past inside. ap (λ e. bit_of_octets ys (8 * (e + 1) + k)) (sym end) ∙ padding k (omega (arith, count, past)) (subst (λ n. k < 8 * div_ceil n 8) (sym count) inside)

laid_here : (config : Config) (dir : Dir) (set : ℕ) (xs : List ℕ) (cfn qe : ℕ) (held : HeldSet) → (a : IsWrittenForm config dir set xs cfn qe held) → IsLaid config dir (side_of config dir) set xs cfn qe a.read.numbers held
laid_here config dir set xs cfn qe held a = record {
  header = a.read.header.check;
  is_data = a.read.header.is_data;
  named = a.read.header.named;
  spare = a.spare;
  long = a.read.long;
  blocks = a.read.blocks;
  padding = a.padding;
  tail = a.read.tail;
  tail_padding = a.tail_padding;
  check = a.read.check;
}

laid_again : (config : Config) (dir : Dir) (side : Side) (set : ℕ) (ys : List ℕ) (cfn qe : ℕ) (numbers again_numbers : List ℕ) (held again : HeldSet) → AreSameBlocks side set held again
    → ForSet side set (λ i. slice_index again_numbers i ≡ slice_index numbers i) → IsLaid config dir side set ys cfn qe again_numbers again → IsLaid config dir side set ys cfn qe numbers held
laid_again config dir side set ys cfn qe numbers again_numbers held again same nums b =
    let end : payload_end dir side set again_numbers ≡ payload_end dir side set numbers = payload_end-same dir side set again_numbers numbers nums in
    let place : (i : ℕ) → i ≤ length side.channels → blocks_place side set again_numbers i ≡ blocks_place side set numbers i = λ i few. ap (λ n. header_octets side set + n) (octets_before-same side set again_numbers numbers i few nums) in record {
      header = b.header;
      is_data = b.is_data;
      named = b.named;
      spare = λ i inside member. b.spare i inside member ∙ nums i inside member;
      long = b.long ∙ ap (λ n. n + check_octets config.payload_check) end;
      blocks = λ i inside member. subst (λ p. StandAt ys p (held_at held.blocks i)) (place i (omega (arith, inside))) (subst (λ (h : Held). StandAt ys (blocks_place side set again_numbers i) h) (same i inside member) (b.blocks i inside member));
      padding = λ i inside member. subst (λ p. ArePadded ys p (held_at held.blocks i)) (place i (omega (arith, inside))) (subst (λ (h : Held). ArePadded ys (blocks_place side set again_numbers i) h) (same i inside member) (b.padding i inside member));
      tail = laid_tail dir side set ys qe numbers again_numbers held again same nums b.tail;
      tail_padding = laid_tail_padding dir side set ys numbers again_numbers nums b.tail_padding;
      check = λ on. subst (λ n. IsPayloadCheck ys (header_octets side set) n) end (b.check on);
    }

-- the same CFN, quality estimate, blocks and marks give the same octets
pub written_one : (config : Config) (dir : Dir) (set cfn qe : ℕ) (xs ys : List ℕ) (held again : HeldSet) → AreSameBlocks (side_of config dir) set held again → AreOctets xs → AreOctets ys
    → IsWrittenForm config dir set xs cfn qe held → IsWrittenForm config dir set ys cfn qe again → xs ≡ ys
written_one config dir set cfn qe xs ys held again same are be a b =
    let side : Side = side_of config dir in
    let nums : ForSet side set (λ i. slice_index b.read.numbers i ≡ slice_index a.read.numbers i) = λ i inside member.
    sym (b.read.numbered i inside member) ∙ ap (λ (h : Held). h.format) (same i inside member) ∙ a.read.numbered i inside member in
    laid_one config dir side set xs ys cfn qe a.read.numbers held (λ i inside member. (a.read.formats i inside member, a.read.numbered i inside member)) are be (laid_here config dir set xs cfn qe held a)
    (laid_again config dir side set ys cfn qe a.read.numbers b.read.numbers held again same nums (laid_here config dir set ys cfn qe again b))
