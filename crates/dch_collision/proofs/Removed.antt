-- A format loses a coded bit under some legal sequence exactly where a radio frame of some combination sends fewer bits than there are.
use Rattle.std.proofs.Common.{◌≡◌, ◌<◌, ◌≤◌, ◌+◌, ◌*◌, ◌%◌, ◌^◌, ℕ, zero, suc, Bool, true, false, List, Option, Some, None, length, replicate, refl, sym, ap, ap₂, ◌∙◌, arith, inl, inr}
use Rattle.std.specs.Prelude.{◌==◌, ◌&&◌, ◌||◌, ◌↔◌, nat_lt, unwrap_or, IsTrue, slice_index}
use Rattle.std.specs.Int.{div_ceil}
use Rattle.std.proofs.Math.Nat.{mul_assoc, mul-le-mul_right, add-mul, one-mul, mul-zero}
use Rattle.std.proofs.lemmas.Nat.{mul-le}
use Rattle.std.proofs.lemmas.Grind.{div_ceil_times}
use Rattle.std.proofs.lemmas.List.{length-replicate, get_or-replicate}
use Rattle.std.proofs.lemmas.Bool.{cases_lt, cases_eq, eq-eqb, eqb-true, and_from, and_parts}
use Rattle.dch_types.specs.declared.channel.Side.{Side}
use Rattle.dch_types.specs.declared.config.Uplink.{Uplink}
use Rattle.dch_types.specs.declared.config.Downlink.{Downlink}
use Rattle.dch_types.specs.Limits.{IsUplink, IsDownlink, IsChannel, IsFormat, IsCombination}
use Rattle.dch_types.specs.Parts.{channel_at, format_at, format_number}
use Rattle.dch_inter.specs.Places.{first_column, frame_of, place_of}
use Rattle.dch_inter.proofs.FirstColumns.{frame_of-below, place_of-below}
use Rattle.dch_frame.proofs.Carried.{frame_of_row, place_of_row, rows_of, whole_rows}
use Rattle.dch_frame.specs.declared.pattern.Kind.{Kind}
use Rattle.dch_frame.specs.Patterns.{copies, copies_below, StepsFit}
use Rattle.dch_frame.specs.Shifts.{average_distance, column_shift}
use Rattle.dch_frame.specs.Matched.{change, remainder, frame_start, frame_pattern}
use Rattle.dch_frame.specs.Downlinks.{pattern_of, stands_below}
use Rattle.dch_frame.specs.Uplinks.{before_of, weight_of, sent_of, uplink_pattern, chosen, demand_of}
use Rattle.dch_frame.proofs.MatchedLemmas.{odd_start, matched_kept, matched_formed}
use Rattle.dch_frame.proofs.SharesLemmas.{shared_le, nothing_shared}
use Rattle.dch_frame.proofs.Sizes.{chosen_le, largest_most}
use Rattle.dch_collision.specs.Sequences.{frames_of, IsLegal}
use Rattle.dch_collision.specs.Copies.{frame_size, bits_in, padded_in, frame_copies, uplink_copies, downlink_copies}
use Rattle.dch_collision.specs.Counted.{removes, removes_below, punctures_below, uplink_punctures, downlink_punctures}
use Rattle.dch_collision.specs.Removed.{IsPunctured}
use Rattle.dch_collision.proofs.Punctured.{fewer-punctures}
use Rattle.dch_collision.proofs.FrameSizes.{some_frames}

-- a bit that has no copy among the first n
record Removal (kind : Kind) (n : ℕ) : Type 0 where
  bit : ℕ
  inside : bit < n
  none : copies kind bit ≡ 0

some_removal : (kind : Kind) (n : ℕ) (b : Bool) → (copies kind n == 0) ≡ b → (punctures_below kind n ≡ true → Removal kind n) → (b || punctures_below kind n) ≡ true → Removal kind (suc n)
some_removal kind n true here rest is = record { bit = n; inside = omega arith; none = eqb-true (copies kind n) 0 here }
some_removal kind n false here rest is =
    let before : Removal kind n = rest is in
    record { bit = before.bit; inside = omega (arith, before.inside); none = before.none }

removal_of : (kind : Kind) (n : ℕ) → punctures_below kind n ≡ true → Removal kind n
unfolding punctures_below
removal_of kind zero is = absurd (cc)
removal_of kind (suc n) is = some_removal kind n (copies kind n == 0) refl (removal_of kind n) is

or_right : (a b : Bool) → b ≡ true → (a || b) ≡ true
or_right true b is = refl
or_right false b is = is

or_left : (a b : Bool) → a ≡ true → (a || b) ≡ true
or_left true b is = refl
or_left false b is = absurd (cc)

removal_punctures : (kind : Kind) (n m : ℕ) → m < n → copies kind m ≡ 0 → punctures_below kind n ≡ true
unfolding punctures_below
removal_punctures kind zero m inside none = absurd (omega arith)
removal_punctures kind (suc n) m inside none = elim (cases_lt m n) [
  | inl before ↦ or_right (copies kind n == 0) (punctures_below kind n) (removal_punctures kind n m before none)
  | inr past ↦
      let same : m ≡ n = omega arith in
      or_left (copies kind n == 0) (punctures_below kind n) (eq-eqb (copies kind n) 0 (ap (copies kind) (sym same) ∙ none))
]

-- a combination that gives the channel the format and removes bits of it, among the first n
record Remover (uplink : Uplink) (i f n : ℕ) : Type 0 where
  combination : ℕ
  there : combination < n
  format : format_number uplink.side combination i ≡ f
  fewer : removes uplink i combination ≡ true

some_remover : (uplink : Uplink) (i f n : ℕ) (b : Bool) → (format_number uplink.side n i == f && removes uplink i n) ≡ b → (removes_below uplink i f n ≡ true → Remover uplink i f n) → (b || removes_below uplink i f n) ≡ true → Remover uplink i f (suc n)
some_remover uplink i f n true here rest is =
    let both = and_parts (format_number uplink.side n i == f) (removes uplink i n) here in
    record { combination = n; there = omega arith; format = eqb-true (format_number uplink.side n i) f both.0; fewer = both.1 }
some_remover uplink i f n false here rest is =
    let before : Remover uplink i f n = rest is in
    record { combination = before.combination; there = omega (arith, before.there); format = before.format; fewer = before.fewer }

remover_of : (uplink : Uplink) (i f n : ℕ) → removes_below uplink i f n ≡ true → Remover uplink i f n
unfolding removes_below
remover_of uplink i f zero is = absurd (cc)
remover_of uplink i f (suc n) is = some_remover uplink i f n (format_number uplink.side n i == f && removes uplink i n) refl (remover_of uplink i f n) is

remover_removes : (uplink : Uplink) (i f n c : ℕ) → c < n → format_number uplink.side c i ≡ f → removes uplink i c ≡ true → removes_below uplink i f n ≡ true
unfolding removes_below
remover_removes uplink i f zero c there format fewer = absurd (omega arith)
remover_removes uplink i f (suc n) c there format fewer = elim (cases_lt c n) [
  | inl before ↦ or_right (format_number uplink.side n i == f && removes uplink i n) (removes_below uplink i f n) (remover_removes uplink i f n c before format fewer)
  | inr past ↦
      let same : c ≡ n = omega arith in
      or_left (format_number uplink.side n i == f && removes uplink i n) (removes_below uplink i f n)
      (and_from (format_number uplink.side n i == f) (removes uplink i n) (eq-eqb (format_number uplink.side n i) f (ap (λ c. format_number uplink.side c i) (sym same) ∙ format)) (ap (removes uplink i) (sym same) ∙ fewer))
]

-- the counter of a radio frame starts in its range, and the pattern keeps what is sent
start_range : (n shift by : ℕ) → 0 < n → (1 ≤ (2 * shift * by + 1) % (2 * n)) × ((2 * shift * by + 1) % (2 * n) ≤ 2 * n)
start_range n shift by some = rw mul_assoc (odd_start (shift * by) n some)

frame_keeps : (n sent frames at : ℕ) → n ≤ 131072 → sent < 2 ^ 31 → (n ≡ 0 → sent ≡ 0) → StepsFit (frame_pattern n sent frames at).kind × (copies_below (frame_pattern n sent frames at).kind n ≡ sent)
unfolding frame_pattern
frame_keeps n sent frames at short few none =
    let start : ℕ = frame_start n sent frames (first_column frames at) in
    let range : 0 < n → (1 ≤ start) × (start ≤ 2 * n) = λ some. start_range n (column_shift (average_distance n (remainder n sent)) frames (first_column frames at)) (change n sent) some in
    ((matched_formed n sent start n short few none range (omega arith)).steps, matched_kept n sent start short few none range)

at_most : (o : Option ℕ) (m : ℕ) → ((n : ℕ) → o ≡ Some n → n ≤ m) → unwrap_or o 0 ≤ m
at_most None m each = omega arith
at_most (Some n) m each = each n refl

frame_size_small : (uplink : Uplink) (c : ℕ) → IsUplink uplink → frame_size uplink c ≤ 57600
frame_size_small uplink c good = omega (arith, at_most (chosen (demand_of uplink c)) uplink.largest (chosen_le (demand_of uplink c)), largest_most uplink.largest good.largest)

-- the rows of a TTI are at most its bits
rows_few : (bits f : ℕ) → 0 < f → div_ceil bits f ≤ bits
rows_few bits f some = elim (cases_lt bits (div_ceil bits f)) [
  | inl more ↦ absurd (
      let each : (bits + 1) * f ≤ div_ceil bits f * f = mul-le-mul_right f (omega arith) in
      let own : bits * 1 ≤ bits * f = mul-le bits 1 bits f (omega arith) some in
      omega (arith, each, (div_ceil_times bits f some).1, add-mul bits 1 f, one-mul f, own))
  | inr few ↦ few
]

before_small : (uplink : Uplink) (i c : ℕ) → IsUplink uplink → i < length uplink.side.channels → c < length uplink.side.combinations → before_of uplink.side c i ≤ 131072
before_small uplink i c good channel there =
    let is : IsChannel (channel_at uplink.side i) = good.side.channels i channel in
    let at : IsCombination uplink.side c = good.side.combinations c there in
    let format : IsFormat (channel_at uplink.side i) (format_at (channel_at uplink.side i) (format_number uplink.side c i)) = is.formats (format_number uplink.side c i) (at.formats i channel) in
    omega (arith, format.bits, rows_few (bits_in uplink.side i (format_number uplink.side c i)) (channel_at uplink.side i).frames (some_frames (channel_at uplink.side i).frames is.frames))

-- a pattern of a radio frame removes a bit exactly where the combination sends fewer bits than there are
pub frame_punctures : (uplink : Uplink) (i c n : ℕ) → IsUplink uplink → i < length uplink.side.channels → c < length uplink.side.combinations → punctures_below (uplink_pattern uplink.side c (frame_size uplink c) i n).kind (before_of uplink.side c i) ≡ removes uplink i c
frame_punctures uplink i c n good channel there =
    let side : Side = uplink.side in
    let ndata : ℕ = frame_size uplink c in
    let before : ℕ = before_of side c i in
    let sent : ℕ = sent_of side c ndata i in
    let few : sent < 2 ^ 31 = omega (arith, shared_le (weight_of side c) (length side.channels) ndata i channel, frame_size_small uplink c good) in
    let none : before ≡ 0 → sent ≡ 0 = λ empty. nothing_shared (weight_of side c) (length side.channels) ndata i (ap (λ n. (channel_at side i).rm * n) empty ∙ mul-zero (channel_at side i).rm) in
    let keeps = frame_keeps before sent (channel_at side i).frames n (before_small uplink i c good channel there) few none in
    sym (fewer-punctures (uplink_pattern side c ndata i n).kind before keeps.0) ∙ ap (λ m. nat_lt m before) keeps.1

-- one combination in all radio frames is a legal sequence
pub one_combination : (side : Side) (i f c : ℕ) → c < length side.combinations → format_number side c i ≡ f → IsLegal side i f (replicate (frames_of side i) c)
one_combination side i f c there format =
    let all : List ℕ = replicate (frames_of side i) c in
    let each : (n : ℕ) → n < length all → slice_index all n ≡ c = λ n inside. get_or-replicate (frames_of side i) n c 0 (omega (arith, length-replicate (frames_of side i) c)) in
    record {
      whole = length-replicate (frames_of side i) c;
      there = λ n inside. omega (arith, each n inside);
      format = λ n inside. ap (λ c. format_number side c i) (each n inside) ∙ format;
      constant = λ j n m channel first second same. ap (λ c. format_number side c j) (each n first ∙ sym (each m second));
    }

-- the first radio frame carries coded bits alone
first_column_none : (f : ℕ) → first_column f 0 ≡ 0
first_column_none f = elim (cases_eq f 8) [
  | inl eight ↦ rw eight refl
  | inr other ↦ elim (cases_eq f 4) [
    | inl four ↦ rw four refl
    | inr rest ↦ grind (arith)
  ]
]

row_inside : (bits f m : ℕ) → 0 < f → m < div_ceil bits f → m * f + first_column f 0 < bits
row_inside bits f m some row =
    let each : (m + 1) * f ≤ div_ceil bits f * f = mul-le-mul_right f (omega arith) in
    omega (arith, each, (div_ceil_times bits f some).1, add-mul m 1 f, one-mul f, first_column_none f)

-- what a combination removes is a coded bit, in the first radio frame of the TTI
removes-punctured : (uplink : Uplink) (i f : ℕ) → IsUplink uplink → i < length uplink.side.channels → Remover uplink i f (length uplink.side.combinations) → IsPunctured uplink.side (uplink_copies uplink) i f
unfolding uplink_copies
removes-punctured uplink i f good channel remover =
    let side : Side = uplink.side in
    let c : ℕ = remover.combination in
    let is : IsChannel (channel_at side i) = good.side.channels i channel in
    let frames : ℕ = (channel_at side i).frames in
    let some : 0 < frames = some_frames frames is.frames in
    let rows : ℕ = div_ceil (bits_in side i f) frames in
    let len : ℕ = padded_in side i f in
    let all : List ℕ = replicate frames c in
    let fewer : punctures_below (uplink_pattern side c (frame_size uplink c) i 0).kind (before_of side c i) ≡ true = frame_punctures uplink i c 0 good channel remover.there ∙ remover.fewer in
    let gone : Removal (uplink_pattern side c (frame_size uplink c) i 0).kind (before_of side c i) = removal_of (uplink_pattern side c (frame_size uplink c) i 0).kind (before_of side c i) fewer in
    let m : ℕ = gone.bit in
    let row : m < rows = omega (arith, gone.inside, ap (λ f. div_ceil (bits_in side i f) frames) remover.format) in
    let j : ℕ = m * frames + first_column frames 0 in
    let frame_is : frame_of frames len j ≡ 0 = frame_of_row frames rows len is.frames some refl 0 m some row in
    let place_is : place_of frames len j ≡ m = place_of_row frames rows len is.frames some refl 0 m some row in
    let first : slice_index all 0 ≡ c = get_or-replicate frames 0 c 0 some in
    record {
      sequence = all;
      legal = one_combination side i f c remover.there remover.format;
      bit = j;
      inside = row_inside (bits_in side i f) frames m some row;
      removed = ap₂ (λ (n place : ℕ). frame_copies uplink i n (slice_index all n) place) frame_is place_is
          ∙ ap (λ (c : ℕ). frame_copies uplink i 0 c m) first ∙ gone.none;
    }

-- a bit that is removed is removed by a combination of the sequence
punctured-removes : (uplink : Uplink) (i f : ℕ) → IsUplink uplink → i < length uplink.side.channels → IsPunctured uplink.side (uplink_copies uplink) i f → removes_below uplink i f (length uplink.side.combinations) ≡ true
unfolding uplink_copies
punctured-removes uplink i f good channel lost =
    let side : Side = uplink.side in
    let is : IsChannel (channel_at side i) = good.side.channels i channel in
    let frames : ℕ = (channel_at side i).frames in
    let some : 0 < frames = some_frames frames is.frames in
    let rows : ℕ = div_ceil (bits_in side i f) frames in
    let len : ℕ = padded_in side i f in
    let whole : len % frames ≡ 0 = whole_rows frames rows len some refl in
    let inside : lost.bit < len = omega (arith, lost.inside, (div_ceil_times (bits_in side i f) frames some).0) in
    let n : ℕ = frame_of frames len lost.bit in
    let frame : n < length lost.sequence = omega (arith, frame_of-below frames len lost.bit is.frames whole inside, lost.legal.whole) in
    let c : ℕ = slice_index lost.sequence n in
    let there : c < length side.combinations = lost.legal.there n frame in
    let format : format_number side c i ≡ f = lost.legal.format n frame in
    let place : ℕ = place_of frames len lost.bit in
    let row : place < before_of side c i = omega (arith, place_of-below frames len lost.bit is.frames whole inside, rows_of frames rows len some refl, ap (λ f. div_ceil (bits_in side i f) frames) format) in
    let gone : punctures_below (uplink_pattern side c (frame_size uplink c) i n).kind (before_of side c i) ≡ true = removal_punctures (uplink_pattern side c (frame_size uplink c) i n).kind (before_of side c i) place row lost.removed in
    remover_removes uplink i f (length side.combinations) c there format (sym (frame_punctures uplink i c n good channel there) ∙ gone)

pub counted_uplink : (uplink : Uplink) (i f : ℕ) → IsUplink uplink → i < length uplink.side.channels → IsTrue (uplink_punctures uplink i f) ↔ IsPunctured uplink.side (uplink_copies uplink) i f
counted_uplink uplink i f good channel = (
  (λ counted. removes-punctured uplink i f good channel (remover_of uplink i f (length uplink.side.combinations) counted)),
  (λ lost. punctured-removes uplink i f good channel lost),
)

-- a combination that gives the channel the format, among the first n
record User (side : Side) (i f n : ℕ) : Type 0 where
  combination : ℕ
  there : combination < n
  format : format_number side combination i ≡ f

some_user : (side : Side) (i f n : ℕ) (b : Bool) → (format_number side n i == f) ≡ b → (stands_below side i f n ≡ true → User side i f n) → (b || stands_below side i f n) ≡ true → User side i f (suc n)
some_user side i f n true here rest is = record { combination = n; there = omega arith; format = eqb-true (format_number side n i) f here }
some_user side i f n false here rest is =
    let before : User side i f n = rest is in
    record { combination = before.combination; there = omega (arith, before.there); format = before.format }

user_of : (side : Side) (i f n : ℕ) → stands_below side i f n ≡ true → User side i f n
unfolding stands_below
user_of side i f zero is = absurd (cc)
user_of side i f (suc n) is = some_user side i f n (format_number side n i == f) refl (user_of side i f n) is

user_uses : (side : Side) (i f n c : ℕ) → c < n → format_number side c i ≡ f → stands_below side i f n ≡ true
unfolding stands_below
user_uses side i f zero c there format = absurd (omega arith)
user_uses side i f (suc n) c there format = elim (cases_lt c n) [
  | inl before ↦ or_right (format_number side n i == f) (stands_below side i f n) (user_uses side i f n c before format)
  | inr past ↦
      let same : c ≡ n = omega arith in
      or_left (format_number side n i == f) (stands_below side i f n) (eq-eqb (format_number side n i) f (ap (λ c. format_number side c i) (sym same) ∙ format))
]

pub counted_downlink : (downlink : Downlink) (i f : ℕ) → IsDownlink downlink → i < length downlink.side.channels → IsTrue (downlink_punctures downlink i f) ↔ IsPunctured downlink.side (downlink_copies downlink) i f
counted_downlink downlink i f good channel =
    let side : Side = downlink.side in
    let count : ℕ = length side.combinations in
    let kind : Kind = (pattern_of downlink i f).kind in (
      (λ counted.
          let both = and_parts (stands_below side i f count) (punctures_below kind (bits_in side i f)) counted in
          let user : User side i f count = user_of side i f count both.0 in
          let gone : Removal kind (bits_in side i f) = removal_of kind (bits_in side i f) both.1 in
          record {
            sequence = replicate (frames_of side i) user.combination;
            legal = one_combination side i f user.combination user.there user.format;
            bit = gone.bit;
            inside = gone.inside;
            removed = gone.none;
          }),
      (λ lost.
          let is : IsChannel (channel_at side i) = good.side.channels i channel in
          let first : 0 < length lost.sequence = omega (arith, lost.legal.whole, some_frames (channel_at side i).frames is.frames) in
          and_from (stands_below side i f count) (punctures_below kind (bits_in side i f))
          (user_uses side i f count (slice_index lost.sequence 0) (lost.legal.there 0 first) (lost.legal.format 0 first))
          (removal_punctures kind (bits_in side i f) lost.bit lost.inside lost.removed)),
    )
