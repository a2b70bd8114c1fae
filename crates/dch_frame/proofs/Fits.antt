-- The numbers of a downlink matching are within the ranges of a pattern, and no combination exceeds a radio frame.
use Rattle.std.proofs.Common.{◌≡◌, ◌<◌, ◌≤◌, ◌+◌, ◌*◌, ◌/◌, ℕ, Bool, true, false, cond, List, [], ◌∷◌, ◌++◌, length, get_or, ap, ap₂, sym, subst, ◌∙◌, arith, below_more}
use Rattle.std.proofs.Math.Nat.{mul-zero, zero-div, div-le_self}
use Rattle.std.proofs.lemmas.Nat.{mul-le}
use Rattle.std.proofs.lemmas.List.{get_or_append_left, get_or_push, length_push}
use Rattle.dch_types.specs.declared.channel.Trch.{Trch}
use Rattle.dch_types.specs.declared.channel.Side.{Side}
use Rattle.dch_types.specs.declared.config.Downlink.{Downlink}
use Rattle.dch_types.specs.Lengths.{frame_bits, tti_bits}
use Rattle.dch_types.specs.Limits.{IsSide, IsDownlink}
use Rattle.dch_types.specs.Parts.{channel_at, format_at, format_number}
use Rattle.dch_types.specs.Sums.{total}
use Rattle.dch_types.proofs.Sums.{total_same}
use Rattle.dch_frame.specs.declared.pattern.Kind.{Kind}
use Rattle.dch_frame.specs.declared.pattern.Pattern.{Pattern}
use Rattle.dch_frame.specs.declared.downlink_plan.RateMatching.{RateMatching}
use Rattle.dch_frame.specs.Downlinks.{most_of, fixed_weight, fixed_places, eighths, places_after, places_of, bits_of, no_matching, matching_at, row_at, IsMatching, IsRow, IsDownlinkPlan}
use Rattle.dch_frame.specs.Matched.{matched}
use Rattle.dch_frame.specs.Patterns.{copies_below, IsWellFormed}
use Rattle.dch_frame.proofs.Changes.{below_le}
use Rattle.dch_frame.proofs.Greatest.{most_is, most_le}
use Rattle.dch_frame.proofs.Lowered.{first_le, nothing_first, after_le, fits_after}
use Rattle.dch_frame.proofs.MatchedLemmas.{matched_kept, matched_formed}
use Rattle.dch_frame.proofs.SharesLemmas.{total-shared, shared_le, below_le as shared_below_le, nothing_shared}

-- so many places suit a pattern for so many bits, which is cut at a length
pub record Suits (bits places len : ℕ) : Type 0 where
  pub short : bits ≤ 131072
  pub few : places ≤ 131072
  pub none : bits ≡ 0 → places ≡ 0
  pub part : len ≤ bits

pub ndata_le : (downlink : Downlink) → IsDownlink downlink → frame_bits downlink ≤ 65536
ndata_le downlink good =
    let slots : 15 * downlink.slot_bits * downlink.codes ≤ 15 * 1272 * 3 = mul-le (15 * downlink.slot_bits) downlink.codes (15 * 1272) 3 (omega (arith, good.few_bits)) good.few_codes in
    omega arith

fixed_suits : (side : Side) (ndata i f : ℕ) → IsSide side → ndata ≤ 65536 → i < length side.channels → f < length (channel_at side i).formats → Suits (most_of (channel_at side i)) (fixed_places side ndata i) (tti_bits (channel_at side i) (format_at (channel_at side i) f))
fixed_suits side ndata i f good small inside format = record {
  short = most_le (channel_at side i) (good.channels i inside);
  few = omega (arith, shared_le (fixed_weight side) (length side.channels) ndata i inside);
  none = λ empty. nothing_shared (fixed_weight side) (length side.channels) ndata i (
      ap (λ n. (channel_at side i).rm * (8 * n / (channel_at side i).frames)) empty
      ∙ ap (λ n. (channel_at side i).rm * n) (zero-div (channel_at side i).frames) ∙ mul-zero (channel_at side i).rm);
  part = most_is (channel_at side i) f format;
}

flexible_suits : (side : Side) (ndata n i f : ℕ) → IsSide side → ndata ≤ 65536 → i < length side.channels → f < length (channel_at side i).formats → Suits (tti_bits (channel_at side i) (format_at (channel_at side i) f)) (places_after side ndata n i f) (tti_bits (channel_at side i) (format_at (channel_at side i) f))
flexible_suits side ndata n i f good small inside format =
    let channel : Trch = channel_at side i in
    let bits : tti_bits channel (format_at channel f) ≤ 131072 = ((good.channels i inside).formats f format).bits in
    let part : eighths channel f ≤ 1048576 = omega (arith, bits, div-le_self (8 * tti_bits channel (format_at channel f)) channel.frames) in
    record {
      short = bits;
      few = omega (arith, after_le side ndata n i f, first_le side ndata i f small inside part);
      none = λ empty. omega (arith, after_le side ndata n i f, nothing_first side ndata i f (ap (λ n. 8 * n / channel.frames) empty ∙ zero-div channel.frames));
      part = omega arith;
    }

either_suits : (b : Bool) (bits places bits' places' len : ℕ) → Suits bits places len → Suits bits' places' len → Suits (cond b bits bits') (cond b places places') len
either_suits true bits places bits' places' len first second = first
either_suits false bits places bits' places' len first second = second

pub suits : (downlink : Downlink) (i f : ℕ) → IsDownlink downlink → i < length downlink.side.channels → f < length (channel_at downlink.side i).formats → Suits (bits_of downlink i f) (places_of downlink i f) (tti_bits (channel_at downlink.side i) (format_at (channel_at downlink.side i) f))
suits downlink i f good inside format =
    let side : Side = downlink.side in
    let channel : Trch = channel_at side i in
    let ndata : ℕ = frame_bits downlink in
    let small : ndata ≤ 65536 = ndata_le downlink good in
    either_suits downlink.fixed (most_of channel) (fixed_places side ndata i) (tti_bits channel (format_at channel f)) (places_after side ndata (length side.combinations) i f) (tti_bits channel (format_at channel f))
    (fixed_suits side ndata i f good.side small inside format)
    (flexible_suits side ndata (length side.combinations) i f good.side small inside format)

-- the places of a TTI
pub cells_le : (side : Side) (i places : ℕ) → IsSide side → i < length side.channels → places ≤ 131072 → (channel_at side i).frames * places ≤ 1048576
cells_le side i places good inside few =
    let frames : (channel_at side i).frames ≤ 8 = omega (arith, (good.channels i inside).frames) in
    mul-le (channel_at side i).frames places 8 131072 frames few

-- a matching by its parts
pub matching_is : (downlink : Downlink) (i f len cells : ℕ) (kind : Kind) → IsDownlink downlink → i < length downlink.side.channels → f < length (channel_at downlink.side i).formats → len ≡ tti_bits (channel_at downlink.side i) (format_at (channel_at downlink.side i) f) → cells ≡ places_of downlink i f → kind ≡ matched (bits_of downlink i f) ((channel_at downlink.side i).frames * cells) 1 → IsMatching downlink i f (record { pattern = record { len = len; kind = kind }; cells = cells })
matching_is downlink i f len cells kind good inside format long wide is =
    let bits : ℕ = bits_of downlink i f in
    let sent : ℕ = (channel_at downlink.side i).frames * cells in
    let pattern : ℕ → Kind → Pattern = λ l k. record { len = l; kind = k } in
    let suit = suits downlink i f good inside format in
    let all : sent ≤ 1048576 = cells_le downlink.side i cells good.side inside (omega (arith, wide, suit.few)) in
    let none : bits ≡ 0 → sent ≡ 0 = λ empty. ap (λ n. (channel_at downlink.side i).frames * n) (wide ∙ suit.none empty) ∙ mul-zero (channel_at downlink.side i).frames in
    let part : len ≤ bits = omega (arith, long, suit.part) in
    record {
      pattern = ap₂ pattern long (is ∙ ap (λ n. matched bits ((channel_at downlink.side i).frames * n) 1) wide);
      cells = wide;
      formed = subst (λ k. IsWellFormed (pattern len k)) (sym is) (matched_formed bits sent 1 len suit.short (omega arith) none (λ some. (omega arith, omega arith)) part);
      fits = subst (λ k. copies_below k len ≤ sent) (sym is) (omega (arith, below_le (matched bits sent 1) len bits part, matched_kept bits sent 1 suit.short (omega arith) none (λ some. (omega arith, omega arith))));
    }

-- a row with one matching more
pub row_more : (downlink : Downlink) (i n : ℕ) (row : List RateMatching) (matching : RateMatching) → IsRow downlink i n row → IsMatching downlink i n matching → IsRow downlink i (n + 1) (row ++ matching ∷ [])
row_more downlink i n row matching before here = record {
  width = length_push row matching ∙ ap (λ n. n + 1) before.width;
  matchings = below_more (λ f. IsMatching downlink i f (get_or (row ++ matching ∷ []) f no_matching)) n
      (λ f less. subst (IsMatching downlink i f) (sym (get_or_append_left row (matching ∷ []) no_matching f (omega (arith, before.width)))) (before.matchings f less))
      (subst (IsMatching downlink i n) (sym (get_or_push row matching no_matching n before.width)) here);
}

-- each row of a plan, with one row more
pub rows_more : (downlink : Downlink) (n : ℕ) (plan : List (List RateMatching)) (row : List RateMatching) → length plan ≡ n → ((i : ℕ) → i < n → IsRow downlink i (length (channel_at downlink.side i).formats) (row_at plan i)) → IsRow downlink n (length (channel_at downlink.side n).formats) row → (i : ℕ) → i < n + 1 → IsRow downlink i (length (channel_at downlink.side i).formats) (row_at (plan ++ row ∷ []) i)
rows_more downlink n plan row width before here = below_more (λ i. IsRow downlink i (length (channel_at downlink.side i).formats) (row_at (plan ++ row ∷ []) i)) n
    (λ i less. subst (IsRow downlink i (length (channel_at downlink.side i).formats)) (sym (get_or_append_left plan (row ∷ []) [] i (omega (arith, width)))) (before i less))
    (subst (IsRow downlink n (length (channel_at downlink.side n).formats)) (sym (get_or_push plan row [] n width)) here)

either_total : (b : Bool) (p q : ℕ → ℕ) (n m : ℕ) → total p n ≤ m → total q n ≤ m → total (λ i. cond b (p i) (q i)) n ≤ m
either_total true p q n m first second = first
either_total false p q n m first second = second

-- the places of a combination are within a radio frame
pub places_le : (downlink : Downlink) (c : ℕ) → c < length downlink.side.combinations → total (λ i. places_of downlink i (format_number downlink.side c i)) (length downlink.side.channels) ≤ frame_bits downlink
places_le downlink c inside =
    let side : Side = downlink.side in
    let ndata : ℕ = frame_bits downlink in
    either_total downlink.fixed (fixed_places side ndata) (λ i. places_after side ndata (length side.combinations) i (format_number side c i)) (length side.channels) ndata
    (omega (arith, total-shared (fixed_weight side) (length side.channels) ndata (length side.channels), shared_below_le (fixed_weight side) (length side.channels) ndata (length side.channels) (omega arith)))
    (fits_after side ndata c (length side.combinations) inside)

-- a plan by its rows
pub plan_is : (downlink : Downlink) (plan : List (List RateMatching)) → IsDownlink downlink → length plan ≡ length downlink.side.channels → ((i : ℕ) → i < length downlink.side.channels → IsRow downlink i (length (channel_at downlink.side i).formats) (row_at plan i)) → IsDownlinkPlan downlink plan
plan_is downlink plan good width rows = record {
  channels = width;
  rows = rows;
  room = λ c inside.
      let cells : ℕ → ℕ = λ i. (matching_at plan i (format_number downlink.side c i)).cells in
      let places : ℕ → ℕ = λ i. places_of downlink i (format_number downlink.side c i) in
      let each : (i : ℕ) → i < length downlink.side.channels → cells i ≡ places i = λ i channel. ((rows i channel).matchings (format_number downlink.side c i) ((good.side.combinations c inside).formats i channel)).cells in
      omega (arith, total_same cells places (length downlink.side.channels) each, places_le downlink c inside);
}
