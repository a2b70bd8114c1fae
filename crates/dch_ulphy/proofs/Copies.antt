-- The votes of an uplink TTI that is kept as it was sent are the copies of its coded bits.
use Rattle.std.proofs.Common.{◌≡◌, ◌+◌, ◌*◌, ◌%◌, ◌<◌, ◌≤◌, ◌^◌, ◌∙◌, ℕ, List, length, drop, get_or, arith, refl, ap, sym, subst, inl, inr}
use Rattle.std.specs.Prelude.{slice_index}
use Rattle.std.specs.Int.{div_ceil}
use Rattle.std.proofs.Math.Nat.{mul_assoc, mul-zero}
use Rattle.std.proofs.lemmas.Grind.{div_ceil_times}
use Rattle.std.proofs.lemmas.List.{length-drop, length-take-le}
use Rattle.dch_bits.specs.declared.bit.Bit.{Bit}
use Rattle.dch_bits.specs.declared.bit.Bit.TheVariants.{Zero}
use Rattle.dch_bits.specs.declared.bit.Trit.{Trit}
use Rattle.dch_bits.specs.declared.bit.Trit.TheVariants.{Off}
use Rattle.dch_types.specs.declared.channel.Dir.TheVariants.{Up}
use Rattle.dch_types.specs.declared.channel.Side.{Side}
use Rattle.dch_types.specs.declared.channel.Trch.{Trch}
use Rattle.dch_types.specs.declared.config.Uplink.{Uplink}
use Rattle.dch_types.specs.Lengths.{tti_bits}
use Rattle.dch_types.specs.Limits.{IsFrames, IsUplink}
use Rattle.dch_types.specs.Parts.{channel_at, format_at, format_number}
use Rattle.dch_types.proofs.Sums.{part_le}
use Rattle.dch_inter.specs.Places.{first_column, frame_of, place_of}
use Rattle.dch_inter.proofs.FirstColumns.{frame_of-below}
use Rattle.dch_frame.specs.declared.pattern.Pattern.{Pattern}
use Rattle.dch_frame.specs.declared.uplink_plan.UplinkPlan.{UplinkPlan}
use Rattle.dch_frame.specs.Matched.{change, frame_pattern, frame_start, remainder}
use Rattle.dch_frame.specs.Shifts.{average_distance, column_shift}
use Rattle.dch_frame.specs.Patterns.{copies, copies_below}
use Rattle.dch_frame.specs.Uplinks.{IsPlan, before_of, sent_of, uplink_pattern, weight_of}
use Rattle.dch_frame.proofs.MatchedLemmas.{matched_kept, odd_start}
use Rattle.dch_frame.proofs.SharesLemmas.{nothing_shared, shared_le}
use Rattle.dch_frame.proofs.Sizes.{largest_most}
use Rattle.dch_collision.specs.Copies.{bits_in, frame_copies, padded_in, uplink_copies}
use Rattle.dch_collision.specs.Plans.{plan_at}
use Rattle.dch_collision.proofs.FrameSizes.{frame_size-plan}
use Rattle.dch_frame.specs.Stages.{as_cell, origin_of}
use Rattle.dch_frame.specs.Votes.{copies_as_votes}
use Rattle.dch_frame.proofs.Carried.{place_inside, whole_rows}
use Rattle.dch_frame.proofs.Counts.{votes_of-shown}
use Rattle.dch_frame.proofs.KeptBits.{origin_of-inside}
use Rattle.dch_accept.specs.Plans.{IsPlanned, Planned}
use Rattle.dch_accept.proofs.Sizes.{plan_sized}
use Rattle.dch_tti.specs.Read.{coded_in}
use Rattle.dch_tti.specs.RxFrames.{RxFrame, RxFrames, frame_at}
use Rattle.dch_tti.proofs.Sent.{sent_number}
use Rattle.dch_tti.specs.Loaded.{Loaded}
use Rattle.dch_ulphy.specs.Frames.{bits_before, multiplexed}
use Rattle.dch_ulphy.specs.Loaded.{AreInterleaved}
use Rattle.dch_ulphy.specs.Read.{channel_cells, frame_votes, pattern_in, tti_votes}
use Rattle.dch_ulphy.specs.Sent.{IsSentFrame, IsSentTti}
use Rattle.dch_ulphy.proofs.Arrived.{segment_bit, segment_bits, segment_shown}
use Rattle.dch_ulphy.proofs.SentBack.{loaded_long}

few_rows : (bits f : ℕ) → IsFrames f → bits ≤ 131072 → div_ceil bits f ≤ 131072
few_rows bits f (inl e) short = subst (λ f. div_ceil bits f ≤ 131072) (sym e) (omega (arith, (div_ceil_times bits 1 (omega arith)).1))
few_rows bits f (inr (inl e)) short = subst (λ f. div_ceil bits f ≤ 131072) (sym e) (omega (arith, (div_ceil_times bits 2 (omega arith)).1))
few_rows bits f (inr (inr (inl e))) short = subst (λ f. div_ceil bits f ≤ 131072) (sym e) (omega (arith, (div_ceil_times bits 4 (omega arith)).1))
few_rows bits f (inr (inr (inr e))) short = subst (λ f. div_ceil bits f ≤ 131072) (sym e) (omega (arith, (div_ceil_times bits 8 (omega arith)).1))

-- the counter of a radio frame starts in its range
start_range : (n shift by : ℕ) → 0 < n → (1 ≤ (2 * shift * by + 1) % (2 * n)) × ((2 * shift * by + 1) % (2 * n) ≤ 2 * n)
start_range n shift by some = rw mul_assoc (odd_start (shift * by) n some)

-- rate matching keeps what a frame sends
pattern_keeps : (uplink : Uplink) (c i n : ℕ) (plan : UplinkPlan) → IsUplink uplink → IsPlan uplink c plan → c < length uplink.side.combinations → i < length uplink.side.channels
    → copies_below (uplink_pattern uplink.side c plan.ndata i n).kind (uplink_pattern uplink.side c plan.ndata i n).len ≡ sent_of uplink.side c plan.ndata i
unfolding frame_pattern
pattern_keeps uplink c i n plan good is listed channel =
    let side : Side = uplink.side in
    let trch : Trch = channel_at side i in
    let f : ℕ = format_number side c i in
    let limits = good.side.channels i channel in
    let bits : tti_bits trch (format_at trch f) ≤ 131072 = (limits.formats f ((good.side.combinations c listed).formats i channel)).bits in
    let short : before_of side c i ≤ 131072 = few_rows (tti_bits trch (format_at trch f)) trch.frames limits.frames bits in
    let most : sent_of side c plan.ndata i ≤ plan.ndata = shared_le (weight_of side c) (length side.channels) plan.ndata i channel in
    let few : sent_of side c plan.ndata i < 2 ^ 31 = omega (arith, most, is.most, largest_most uplink.largest good.largest) in
    let none : before_of side c i ≡ 0 → sent_of side c plan.ndata i ≡ 0 = λ empty. nothing_shared (weight_of side c) (length side.channels) plan.ndata i (ap (λ n. trch.rm * n) empty ∙ mul-zero trch.rm) in
    let before : ℕ = before_of side c i in
    let sent : ℕ = sent_of side c plan.ndata i in
    let column : ℕ = first_column trch.frames n in
    matched_kept before sent (frame_start before sent trch.frames column) short few none (λ some. start_range before (column_shift (average_distance before (remainder before sent)) trch.frames column) (change before sent) some)

pattern_len : (planned : Planned) (i n c : ℕ) → (pattern_in planned i n c).len ≡ before_of planned.config.uplink.side c i
unfolding frame_pattern
pattern_len planned i n c = refl

-- the votes of a frame that is kept as it was written are the copies of its coded bits
frame_counts : (planned : Planned) (i n c : ℕ) (loaded : Loaded) (kept : RxFrame) (sent : IsSentFrame planned i n c loaded kept) (coded : List Bit) (rows j : ℕ)
    → IsUplink planned.config.uplink → i < length planned.config.uplink.side.channels → c < length planned.config.uplink.side.combinations
    → IsPlan planned.config.uplink c (plan_at planned.uplink c) → n < (channel_at planned.config.uplink.side i).frames → rows ≡ before_of planned.config.uplink.side c i
    → length loaded.cells ≡ rows * (channel_at planned.config.uplink.side i).frames
    → AreInterleaved (channel_at planned.config.uplink.side i).frames coded loaded.cells
    → j < rows * (channel_at planned.config.uplink.side i).frames → frame_of (channel_at planned.config.uplink.side i).frames (rows * (channel_at planned.config.uplink.side i).frames) j ≡ n
    → frame_votes planned i n kept.combination kept.cells (place_of (channel_at planned.config.uplink.side i).frames (rows * (channel_at planned.config.uplink.side i).frames) j)
    ≡ copies_as_votes (get_or coded j Zero) (frame_copies planned.config.uplink i n c (place_of (channel_at planned.config.uplink.side i).frames (rows * (channel_at planned.config.uplink.side i).frames) j))
frame_counts planned i n c loaded kept sent coded rows j good channel listed is_plan frame is long shown inside of =
    let side : Side = planned.config.uplink.side in
    let f : ℕ = (channel_at side i).frames in
    let frames : IsFrames f = (good.side.channels i channel).frames in
    let some : 0 < f = omega (arith, frames) in
    let plan : UplinkPlan = plan_at planned.uplink c in
    let pattern : Pattern = pattern_in planned i n c in
    let cells : List Trit = channel_cells plan i kept.cells in
    let bits : List Bit = segment_bits f (rows * f) coded n rows in
    let m : ℕ = place_of f (rows * f) j in
    let room : bits_before plan i + slice_index plan.sent i ≤ plan.ndata = omega (arith, part_le (slice_index plan.sent) i (length side.channels) channel, is_plan.all_sent) in
    let high : pattern.len ≡ rows = pattern_len planned i n c ∙ sym is in
    let all : length kept.cells ≡ plan.ndata = sent.back.whole ∙ sent.written.long in
    let rest : slice_index plan.sent i ≤ length (drop (bits_before plan i) kept.cells) = omega (arith, length-drop (bits_before plan i) kept.cells, all, room) in
    let sized : length cells ≡ slice_index plan.sent i = length-take-le (slice_index plan.sent i) (drop (bits_before plan i) kept.cells) rest in
    let kept_all : length cells ≡ copies_below pattern.kind pattern.len = sized ∙ is_plan.sent i channel ∙ sym (pattern_keeps planned.config.uplink c i n plan good is_plan listed channel) in
    let cell : (k : ℕ) → k < length cells → get_or cells k Off ≡ as_cell (get_or bits (origin_of pattern k) Zero) =
    λ k early.
    segment_shown planned i n c loaded kept sent coded f rows k refl is frame shown long channel (plan_sized _ _ _ is_plan) room (omega (arith, sized, early))
    (omega (arith, origin_of-inside pattern k (omega (arith, kept_all, early)), high)) in
    ap (λ combination. frame_votes planned i n combination kept.cells m) sent.found
    ∙ votes_of-shown pattern cells bits m kept_all cell (omega (arith, place_inside f rows (rows * f) j frames some refl inside, high))
    ∙ ap (λ bit. copies_as_votes bit (copies pattern.kind m)) (segment_bit f rows (rows * f) coded n j frames some refl inside of)
    ∙ ap (λ size. copies_as_votes (get_or coded j Zero) (copies (uplink_pattern side c size i n).kind m)) (sym (frame_size-plan planned.config.uplink c plan is_plan))

-- and so are those of the TTI
pub sent_votes : (planned : Planned) (reader : RxFrames) (i g : ℕ) (sequence : List ℕ) (blocks : List Bit) (sent : IsSentTti planned reader i g sequence blocks)
    → IsPlanned planned → i < length planned.config.uplink.side.channels → ((n : ℕ) → n < (channel_at planned.config.uplink.side i).frames → slice_index sequence n < length planned.config.uplink.side.combinations)
    → (j : ℕ) → j < coded_in planned.config.uplink.side i g → tti_votes planned reader i (padded_in planned.config.uplink.side i g) j ≡ copies_as_votes (get_or sent.from.coded j Zero) (uplink_copies planned.config.uplink i g sequence j)
unfolding uplink_copies
sent_votes planned reader i g sequence blocks sent good inside listed j within =
    let side : Side = planned.config.uplink.side in
    let trch : Trch = channel_at side i in
    let f : ℕ = trch.frames in
    let is : IsFrames f = (good.good.uplink.side.channels i inside).frames in
    let some : 0 < f = omega (arith, is) in
    let rows : ℕ = div_ceil (bits_in side i g) f in
    let padded : bits_in side i g ≤ rows * f = (div_ceil_times (bits_in side i g) f some).0 in
    let early : j < rows * f = omega (arith, within, padded) in
    let n : ℕ = frame_of f (rows * f) j in
    let below : n < f = frame_of-below f (rows * f) j is (whole_rows f rows (rows * f) some refl) early in
    let c : ℕ = slice_index sequence n in
    let frame : IsSentFrame planned i n c sent.loaded (frame_at side reader i n) = sent.frames n below in
    let there : c < length side.combinations = listed n below in
    let number : format_number side c i ≡ g = sent_number planned Up (multiplexed planned) i g n c sent.loaded (frame_at side reader i n) frame sent.from.format inside in
    let height : rows ≡ before_of side c i = ap (λ f. div_ceil (tti_bits trch (format_at trch f)) trch.frames) (sym number) in
    let long : length sent.loaded.cells ≡ rows * f = loaded_long trch g blocks sent.loaded sent.from in
    frame_counts planned i n c sent.loaded (frame_at side reader i n) frame sent.from.coded rows j good.good.uplink inside there (good.uplink.each c there) below height long sent.from.cells early refl
