-- In a format that loses no bits no two code blocks collide.
use Rattle.std.proofs.Common.{◌≡◌, ◌≢◌, ◌<◌, ◌≤◌, ◌+◌, ◌*◌, ℕ, zero, suc, List, Bool, true, false, length, refl, ap, sym, ◌∙◌, arith, inl, inr}
use Rattle.std.specs.Prelude.{◌==◌, ◌&&◌, ◌||◌, nat_lt, slice_index}
use Rattle.std.specs.Int.{div_ceil}
use Rattle.std.proofs.lemmas.Nat.{mul-add-lt}
use Rattle.std.proofs.lemmas.Bool.{cases_eq, eq-eqb}
use Rattle.std.proofs.lemmas.Bool.Decides.{nat_tests}
use Rattle.std.proofs.lemmas.Grind.{div_ceil_times}
use Rattle.dch_types.specs.declared.channel.Coding.{Coding}
use Rattle.dch_types.specs.declared.channel.Side.{Side}
use Rattle.dch_types.specs.declared.config.Uplink.{Uplink}
use Rattle.dch_types.specs.declared.config.Downlink.{Downlink}
use Rattle.dch_types.specs.Lengths.{block_count, block_size, coded_block, tti_bits}
use Rattle.dch_types.specs.Limits.{IsChannel, IsSide, IsUplink, IsDownlink}
use Rattle.dch_types.specs.Parts.{channel_at, format_number}
use Rattle.dch_inter.specs.Places.{frame_of, place_of}
use Rattle.dch_inter.proofs.FirstColumns.{frame_of-below}
use Rattle.dch_frame.proofs.Carried.{whole_rows}
use Rattle.dch_coding.specs.declared.cut.Plan.{Plan}
use Rattle.dch_coding.specs.Segments.{plan_of, filler_of}
use Rattle.dch_frame.specs.declared.pattern.Kind.{Kind}
use Rattle.dch_frame.specs.Patterns.{copies}
use Rattle.dch_frame.specs.Matched.{matched, frame_pattern}
use Rattle.dch_frame.specs.Uplinks.{before_of, sent_of}
use Rattle.dch_frame.specs.Downlinks.{pattern_of, stands_below}
use Rattle.dch_collision.specs.Sequences.{IsLegal}
use Rattle.dch_collision.specs.Copies.{frame_size, bits_in, padded_in, frame_copies, uplink_copies, downlink_copies}
use Rattle.dch_collision.specs.Counted.{removes, removes_below, uplink_punctures, punctures_below, downlink_punctures}
use Rattle.dch_collision.proofs.FrameSizes.{some_frames}
use Rattle.dch_collision.specs.Clear.{block_copies, joined_in, IsClearFormat}
use Rattle.dch_collision.proofs.Whole.{whole_none}

neither : (a b : Bool) → (a || b) ≡ false → (a ≡ false) × (b ≡ false)
neither true b none = cc
neither false b none = (refl, none)

not_both : (a b : Bool) → (a && b) ≡ false → a ≡ true → b ≡ false
not_both true b none first = none
not_both false b none first = cc

-- where none of the first combinations removes bits of a format, each of them that gives it sends all
removes_none : (uplink : Uplink) (i f n c : ℕ) → removes_below uplink i f n ≡ false → c < n → format_number uplink.side c i ≡ f → removes uplink i c ≡ false
unfolding removes_below
removes_none uplink i f zero c none inside same = absurd (omega arith)
removes_none uplink i f (suc n) c none inside same =
    let parts = neither (format_number uplink.side n i == f && removes uplink i n) (removes_below uplink i f n) none in
    elim (cases_eq c n) [
      | inl here ↦
          let given : (format_number uplink.side n i == f) ≡ true = eq-eqb _ _ (ap (λ c. format_number uplink.side c i) (sym here) ∙ same) in
          ap (removes uplink i) here ∙ not_both (format_number uplink.side n i == f) (removes uplink i n) parts.0 given
      | inr other ↦ removes_none uplink i f n c parts.1 (omega arith) same
    ]

stands_none : (side : Side) (i f n c : ℕ) → stands_below side i f n ≡ false → c < n → format_number side c i ≢ f
unfolding stands_below
stands_none side i f zero c none inside same = absurd (omega arith)
stands_none side i f (suc n) c none inside same =
    let parts = neither (format_number side n i == f) (stands_below side i f n) none in
    elim (cases_eq c n) [
      | inl here ↦
          let given : (format_number side n i == f) ≡ true = eq-eqb _ _ (ap (λ c. format_number side c i) (sym here) ∙ same) in
          cc
      | inr other ↦ stands_none side i f n c parts.1 (omega arith) same
    ]

loses_none : (kind : Kind) (n m : ℕ) → punctures_below kind n ≡ false → m < n → 0 < copies kind m
unfolding punctures_below
loses_none kind zero m none inside = absurd (omega arith)
loses_none kind (suc n) m none inside =
    let parts = neither (copies kind n == 0) (punctures_below kind n) none in
    elim (cases_eq m n) [
      | inl here ↦ let some : 0 < copies kind n = positive (copies kind n) parts.0 in rw here some
      | inr other ↦ loses_none kind n m parts.1 (omega arith)
    ]
  where
    positive : (k : ℕ) → (k == 0) ≡ false → 0 < k
    positive k none = grind (arith, nat_tests)

not_fewer : (a b : ℕ) → nat_lt a b ≡ false → b ≤ a
not_fewer a b is = grind (arith, nat_tests)

apart : (a b : ℕ) → (a == b) ≡ false → a ≢ b
apart a b other same = let is : (a == b) ≡ true = eq-eqb a b same in cc

-- a stream from which no bits are taken has a copy of each
all_kept : (n sent e m : ℕ) → n ≤ sent → 0 < copies (matched n sent e) m
all_kept n sent e m order = by_tests (n == 0 || sent == n) (nat_lt n sent) refl refl
  where
    by_tests : (same less : Bool) → (n == 0 || sent == n) ≡ same → nat_lt n sent ≡ less → 0 < copies (matched n sent e) m
    by_tests true less same_is less_is = rw same_is (omega arith)
    by_tests false true same_is less_is = rw (same_is, less_is) (omega arith)
    by_tests false false same_is less_is =
        let parts = neither (n == 0) (sent == n) same_is in
        let other : sent ≢ n = apart sent n parts.1 in
        absurd (omega (arith, other, not_fewer n sent less_is, order))

-- the coded bits of a format are those of its code blocks
pub bits_are : (side : Side) (i f : ℕ) → bits_in side i f ≡ block_count (joined_in side i f) (channel_at side i).coding * coded_block (channel_at side i).coding (block_size (joined_in side i f) (block_count (joined_in side i f) (channel_at side i).coding))
unfolding tti_bits
bits_are side i f = refl

-- and a coded bit of a code block is one of them
pub bit_inside : (r count size t all : ℕ) → all ≡ count * size → r < count → t < size → r * size + t < all
bit_inside r count size t all whole row place = omega (arith, mul-add-lt r size t count row place)

-- padding takes no bit away
pub padded_more : (bits frames : ℕ) → 0 < frames → bits ≤ div_ceil bits frames * frames
padded_more bits frames some = (div_ceil_times bits frames some).0

-- each bit of a radio frame is sent where its combination removes none
frame_kept : (uplink : Uplink) (i n c m : ℕ) → removes uplink i c ≡ false → 0 < frame_copies uplink i n c m
unfolding frame_pattern
frame_kept uplink i n c m none = all_kept (before_of uplink.side c i) (sent_of uplink.side c (frame_size uplink c) i) _ m (not_fewer (sent_of uplink.side c (frame_size uplink c) i) (before_of uplink.side c i) none)

-- and each coded bit of a TTI is, under a legal sequence of such combinations
tti_kept : (uplink : Uplink) (i f j : ℕ) (sequence : List ℕ) → IsUplink uplink → i < length uplink.side.channels → uplink_punctures uplink i f ≡ false → IsLegal uplink.side i f sequence → j < bits_in uplink.side i f → 0 < uplink_copies uplink i f sequence j
unfolding uplink_copies
tti_kept uplink i f j sequence good inside none legal bit =
    let side : Side = uplink.side in
    let frames : ℕ = (channel_at side i).frames in
    let len : ℕ = padded_in side i f in
    let channel : IsChannel (channel_at side i) = good.side.channels i inside in
    let some : 0 < frames = some_frames frames channel.frames in
    let n : ℕ = frame_of frames len j in
    let below : n < frames = frame_of-below frames len j channel.frames (whole_rows frames (div_ceil (bits_in side i f) frames) len some refl) (omega (arith, padded_more (bits_in side i f) frames some)) in
    let there : n < length sequence = omega (arith, legal.whole) in
    frame_kept uplink i n (slice_index sequence n) (place_of frames len j)
    (removes_none uplink i f (length side.combinations) (slice_index sequence n) none (legal.there n there) (legal.format n there))

pub uplink_whole : (uplink : Uplink) (i f : ℕ) → IsUplink uplink → i < length uplink.side.channels → uplink_punctures uplink i f ≡ false → IsClearFormat uplink.side (uplink_copies uplink) i f
uplink_whole uplink i f good inside none sequence legal r block =
    let side : Side = uplink.side in
    let coding : Coding = (channel_at side i).coding in
    let plan : Plan = plan_of (joined_in side i f) coding in
    whole_none coding plan.size (filler_of plan r) (block_copies coding plan (uplink_copies uplink i f sequence) r)
    (λ t within. tti_kept uplink i f (r * coded_block coding plan.size + t) sequence good inside none legal (bit_inside r plan.blocks (coded_block coding plan.size) t (bits_in side i f) (bits_are side i f) block within))

-- a format of a legal sequence stands in a combination
stands : (side : Side) (i f : ℕ) (sequence : List ℕ) → IsSide side → i < length side.channels → IsLegal side i f sequence → stands_below side i f (length side.combinations) ≡ true
stands side i f sequence good inside legal = by_test (stands_below side i f (length side.combinations)) refl
  where
    by_test : (b : Bool) → stands_below side i f (length side.combinations) ≡ b → b ≡ true
    by_test true is = refl
    by_test false is =
        let some : 0 < length sequence = omega (arith, legal.whole, some_frames (channel_at side i).frames (good.channels i inside).frames) in
        absurd (stands_none side i f (length side.combinations) (slice_index sequence 0) is (legal.there 0 some) (legal.format 0 some))

pub downlink_whole : (downlink : Downlink) (i f : ℕ) → IsDownlink downlink → i < length downlink.side.channels → downlink_punctures downlink i f ≡ false → IsClearFormat downlink.side (downlink_copies downlink) i f
downlink_whole downlink i f good inside none sequence legal r block =
    let side : Side = downlink.side in
    let coding : Coding = (channel_at side i).coding in
    let plan : Plan = plan_of (joined_in side i f) coding in
    let kind : Kind = (pattern_of downlink i f).kind in
    let lost : punctures_below kind (bits_in side i f) ≡ false = not_both (stands_below side i f (length side.combinations)) (punctures_below kind (bits_in side i f)) none (stands side i f sequence good.side inside legal) in
    whole_none coding plan.size (filler_of plan r) (block_copies coding plan (downlink_copies downlink i f sequence) r)
    (λ t within. loses_none kind (bits_in side i f) (r * coded_block coding plan.size + t) lost (bit_inside r plan.blocks (coded_block coding plan.size) t (bits_in side i f) (bits_are side i f) block within))

-- a format that is not there has no legal sequence
pub no_format : (side : Side) (i f : ℕ) (sequence : List ℕ) → IsSide side → i < length side.channels → IsLegal side i f sequence → f < length (channel_at side i).formats
no_format side i f sequence good inside legal =
    let some : 0 < length sequence = omega (arith, legal.whole, some_frames (channel_at side i).frames (good.channels i inside).frames) in
    omega (arith, legal.format 0 some, (good.combinations (slice_index sequence 0) (legal.there 0 some)).formats i inside)
