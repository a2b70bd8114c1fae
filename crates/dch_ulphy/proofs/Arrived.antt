-- The votes of a radio frame that is kept as it was written.
use Rattle.std.proofs.Common.{◌≡◌, ◌+◌, ◌-◌, ◌*◌, ◌/◌, ◌<◌, ◌≤◌, ℕ, zero, suc, List, length, drop, get_or, arith, refl, ap, sym, ◌∙◌, inl, inr, add-one}
use Rattle.std.specs.Prelude.{slice_index, map, min}
use Rattle.std.specs.List.{range_with_len}
use Rattle.std.proofs.lemmas.Bool.{cases_lt}
use Rattle.std.proofs.lemmas.List.{get_or-take, get_or-drop}
use Rattle.std.proofs.lemmas.Nat.{mul-add-lt}
use Rattle.std.proofs.lemmas.List.FromFn.{get_or-map-range_with_len}
use Rattle.dch_bits.specs.declared.bit.Bit.{Bit}
use Rattle.dch_bits.specs.declared.bit.Bit.TheVariants.{Zero}
use Rattle.dch_bits.specs.declared.bit.Trit.TheVariants.{Off}
use Rattle.dch_types.specs.Limits.{IsFrames}
use Rattle.dch_types.specs.Parts.{channel_at}
use Rattle.dch_inter.specs.Places.{first_of, first_back_of, frame_of, place_of}
use Rattle.dch_inter.proofs.FirstColumns.{first_of-back, frame_place}
use Rattle.dch_frame.specs.Uplinks.{before_of}
use Rattle.dch_frame.specs.Matched.{frame_pattern}
use Rattle.dch_frame.specs.declared.pattern.Pattern.{Pattern}
use Rattle.dch_frame.specs.declared.uplink_plan.UplinkPlan.{UplinkPlan}
use Rattle.dch_types.proofs.Sums.{part_le}
use Rattle.dch_frame.specs.Stages.{as_cell, origin_of, code_back}
use Rattle.dch_frame.proofs.Carried.{rows_of, whole_rows, place_inside}
use Rattle.dch_frame.proofs.Codes.{code_back-inside, code_place-back}
use Rattle.dch_accept.specs.Plans.{Planned}
use Rattle.dch_collision.specs.Plans.{plan_at}
use Rattle.dch_tti.specs.Loaded.{frame_number, loaded_at, Loaded}
use Rattle.dch_tti.specs.RxFrames.{RxFrame}
use Rattle.dch_frame.specs.Sizes.{IsFrameSize}
use Rattle.dch_ulphy.specs.Frames.{pattern_of, sent_cell, bits_before, multiplexed_cell}
use Rattle.dch_ulphy.specs.Loaded.{AreInterleaved}
use Rattle.dch_ulphy.specs.Read.{channel_cells, pattern_in}
use Rattle.dch_ulphy.specs.Sent.{IsSentFrame}
use Rattle.dch_ulphy.proofs.Sent.{multiplexed_before, multiplexed_here}

-- a place of channel i shows what that channel sends, however many channels follow
pub multiplexed_at : (planned : Planned) (tti : List Loaded) (cfn c count i q : ℕ) → i < count → q < slice_index (plan_at planned.uplink c).sent i → multiplexed_cell planned tti cfn c count (bits_before (plan_at planned.uplink c) i + q) ≡ sent_cell planned tti cfn c i q
multiplexed_at planned tti cfn c zero i q inside early = absurd (omega arith)
multiplexed_at planned tti cfn c (suc count) i q inside early = elim (cases_lt i count) [
  | inl before ↦
      let sent = slice_index (plan_at planned.uplink c).sent in
      let room : bits_before (plan_at planned.uplink c) i + sent i ≤ bits_before (plan_at planned.uplink c) count = part_le sent i count before in
      let more : count + 1 ≡ suc count = add-one count in
      ap (λ n. multiplexed_cell planned tti cfn c n (bits_before (plan_at planned.uplink c) i + q)) (sym more)
      ∙ multiplexed_before planned tti cfn c count (bits_before (plan_at planned.uplink c) i + q) (omega (arith, room, early))
      ∙ multiplexed_at planned tti cfn c count i q before early
  | inr past ↦
      let here : i ≡ count = omega arith in
      let more : count + 1 ≡ suc count = add-one count in
      ap (λ n. multiplexed_cell planned tti cfn c n (bits_before (plan_at planned.uplink c) i + q)) (sym more)
      ∙ ap (λ i. multiplexed_cell planned tti cfn c (count + 1) (bits_before (plan_at planned.uplink c) i + q)) here
      ∙ multiplexed_here planned tti cfn c count (bits_before (plan_at planned.uplink c) count + q) (omega arith)
      ∙ ap (λ q. sent_cell planned tti cfn c count q) (add_less (bits_before (plan_at planned.uplink c) count) q)
      ∙ ap (λ i. sent_cell planned tti cfn c i q) (sym here)
]
  where
    add_less : (a q : ℕ) → a + q - a ≡ q
    add_less a q = omega arith

-- a multiplexed cell of a frame that is kept as it was written
kept_cell : (planned : Planned) (i n c : ℕ) (loaded : Loaded) (kept : RxFrame) (sent : IsSentFrame planned i n c loaded kept) (p : ℕ) → IsFrameSize (plan_at planned.uplink c).ndata → p < (plan_at planned.uplink c).ndata → get_or kept.cells p Off ≡ multiplexed_cell planned sent.tti sent.cfn c (length planned.config.uplink.side.channels) p
kept_cell planned i n c loaded kept sent p size inside =
    let ndata : ℕ = (plan_at planned.uplink c).ndata in
    let v : ℕ = min ndata 9600 in
    let long : length sent.frame.cells ≡ ndata = sent.written.long in
    let some : 0 < v = omega arith in
    let there : code_back v p < ndata = code_back-inside ndata v p size.whole some inside in
    sent.back.shown p (omega (arith, sent.back.whole, long))
    ∙ ap (λ m. get_or sent.frame.cells (code_back (min m 9600) p) Off) long
    ∙ sent.written.cells (code_back v p) (omega (arith, there, long))
    ∙ ap (multiplexed_cell planned sent.tti sent.cfn c (length planned.config.uplink.side.channels)) (code_place-back v p some)

-- the segment of frame n of a TTI of coded bits
abbrev pub segment_bits : ℕ → ℕ → List Bit → ℕ → ℕ → List Bit
segment_bits f len coded n rows = map (λ m. get_or coded (first_of f len (n * rows + m)) Zero) (range_with_len 0 rows)

pattern_len : (planned : Planned) (i n c : ℕ) → (pattern_in planned i n c).len ≡ before_of planned.config.uplink.side c i
unfolding frame_pattern
pattern_len planned i n c = refl

-- the cells of channel i show the coded bits of its segment
pub segment_shown : (planned : Planned) (i n c : ℕ) (loaded : Loaded) (kept : RxFrame) (sent : IsSentFrame planned i n c loaded kept) (coded : List Bit) (f rows k : ℕ)
    → f ≡ (channel_at planned.config.uplink.side i).frames → rows ≡ before_of planned.config.uplink.side c i → n < f
    → AreInterleaved f coded loaded.cells → length loaded.cells ≡ rows * f
    → i < length planned.config.uplink.side.channels → IsFrameSize (plan_at planned.uplink c).ndata
    → bits_before (plan_at planned.uplink c) i + slice_index (plan_at planned.uplink c).sent i ≤ (plan_at planned.uplink c).ndata
    → k < slice_index (plan_at planned.uplink c).sent i
    → origin_of (pattern_in planned i n c) k < rows
    → get_or (channel_cells (plan_at planned.uplink c) i kept.cells) k Off ≡ as_cell (get_or (segment_bits f (rows * f) coded n rows) (origin_of (pattern_in planned i n c) k) Zero)
unfolding sent_cell
segment_shown planned i n c loaded kept sent coded f rows k frames is frame cells long channel size room inside small =
    let side = planned.config.uplink.side in
    let plan : UplinkPlan = plan_at planned.uplink c in
    let pattern : Pattern = pattern_in planned i n c in
    let o : ℕ = origin_of pattern k in
    let high : pattern.len ≡ rows = pattern_len planned i n c ∙ sym is in
    let of_number : pattern_of planned sent.cfn c i ≡ pattern = ap (λ n. pattern_in planned i n c) sent.number in
    let within : n * rows + o < rows * f = mul-add-lt n rows o f frame small in
    get_or-take (slice_index plan.sent i) (drop (bits_before plan i) kept.cells) k Off inside
    ∙ get_or-drop (bits_before plan i) kept.cells k Off
    ∙ kept_cell planned i n c loaded kept sent (bits_before plan i + k) size (omega (arith, room, inside))
    ∙ multiplexed_at planned sent.tti sent.cfn c (length side.channels) i k channel inside
    ∙ ap (λ (pattern : Pattern). get_or (loaded_at sent.tti i).cells (frame_number side i sent.cfn * pattern.len + origin_of pattern k) Off) of_number
    ∙ ap (λ n. get_or (loaded_at sent.tti i).cells (n * pattern.len + o) Off) sent.number
    ∙ ap (λ (loaded : Loaded). get_or loaded.cells (n * pattern.len + o) Off) sent.holds
    ∙ ap (λ m. get_or loaded.cells (n * m + o) Off) high
    ∙ cells.shown (n * rows + o) (omega (arith, within, long))
    ∙ ap (λ len. as_cell (get_or coded (first_of f len (n * rows + o)) Zero)) long
    ∙ ap as_cell (sym (get_or-map-range_with_len (λ m. get_or coded (first_of f (rows * f) (n * rows + m)) Zero) 0 rows o o Zero small (omega arith)))

-- bit j of a TTI in the segment of its frame
pub segment_bit : (f rows len : ℕ) (coded : List Bit) (n j : ℕ) → IsFrames f → 0 < f → len ≡ rows * f → j < len → frame_of f len j ≡ n → get_or (segment_bits f len coded n rows) (place_of f len j) Zero ≡ get_or coded j Zero
segment_bit f rows len coded n j frames some whole inside of =
    let m : ℕ = place_of f len j in
    let height : len / f ≡ rows = rows_of f rows len some whole in
    let small : m < rows = place_inside f rows len j frames some whole inside in
    let place : n * rows + m ≡ first_back_of f len j = ap (λ n. n * rows + m) (sym of) ∙ ap (λ rows. frame_of f len j * rows + m) (sym height) ∙ frame_place f len j in
    get_or-map-range_with_len (λ m. get_or coded (first_of f len (n * rows + m)) Zero) 0 rows m m Zero small (omega arith)
    ∙ ap (λ k. get_or coded (first_of f len k) Zero) place
    ∙ ap (λ i. get_or coded i Zero) (first_of-back f len j frames (whole_rows f rows len some whole) inside)
