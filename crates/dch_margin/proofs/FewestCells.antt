-- The fewest cells of each coded bit.
use Rattle.std.proofs.Common.{◌≡◌, ◌≢◌, ◌<◌, ◌≤◌, ◌+◌, ◌*◌, ℕ, suc, List, [], ◌∷◌, length, get_or, arith, refl, ap, sym, subst, ◌∙◌, inl, inr}
use Rattle.std.specs.Prelude.{replicate, slice_index}
use Rattle.std.proofs.lemmas.Bool.{cases_eq}
use Rattle.std.proofs.lemmas.List.{get_or-replicate, length-replicate}
use Rattle.dch_bits.specs.declared.bit.Bit.{Bit}
use Rattle.dch_bits.specs.declared.bit.Bit.TheVariants.{Zero, One}
use Rattle.dch_bits.specs.declared.bit.Vote.{Vote}
use Rattle.dch_types.specs.declared.channel.Coding.{Coding}
use Rattle.dch_types.specs.declared.channel.Side.{Side}
use Rattle.dch_types.specs.declared.config.Uplink.{Uplink}
use Rattle.dch_types.specs.Lengths.{coded_block}
use Rattle.dch_types.specs.Parts.{channel_at, format_number}
use Rattle.dch_inter.specs.Places.{frame_of, place_of}
use Rattle.dch_coding.specs.Chain.{coded_as}
use Rattle.dch_coding.specs.declared.cut.Plan.{Plan}
use Rattle.dch_coding.specs.Segments.{filler_of}
use Rattle.dch_trellis.specs.Distance.{copies_between}
use Rattle.dch_trellis.specs.Search.{no_votes}
use Rattle.dch_collision.specs.Clear.{Copies, block_copies}
use Rattle.dch_collision.specs.Copies.{bits_in, frame_copies, padded_in, uplink_copies}
use Rattle.dch_collision.specs.Sequences.{IsLegal, frames_of}
use Rattle.dch_margin.specs.Differ.{DifferBelow, DifferIn, DifferInFormat, IsLeast, IsLeastBelow, plan_in}
use Rattle.dch_margin.specs.Fewest.{AreFewest, IsCarriedIn, IsFewest, IsSureDistance, fewer}
use Rattle.dch_margin.specs.Sizes.{AreSizes}
use Rattle.dch_margin.specs.declared.distance.Least.{Least}
use Rattle.dch_margin.specs.declared.sizes.Sizes.{Sizes}
use Rattle.dch_margin.proofs.Differ.{inside_all, length-coded}

-- the votes of the first places are kept
pub record AreKept (counted old : List Vote) (k : ℕ) (votes : List Vote) : Type 0 where
  pub done : (m : ℕ) → m < k → get_or votes m no_votes ≡ fewer (get_or counted m no_votes) (get_or old m no_votes)
  pub rest : (m : ℕ) → k ≤ m → get_or votes m no_votes ≡ get_or old m no_votes

-- the places that the first radio frames carry are counted
abbrev pub AreFewestUpTo : Uplink → ℕ → ℕ → List Vote → ℕ → Type 0
AreFewestUpTo uplink i f votes n =
    let frames = (channel_at uplink.side i).frames in
    (j : ℕ) → j < length votes → frame_of frames (length votes) j < n → IsFewest uplink i f (frame_of frames (length votes) j) (length uplink.side.combinations) (place_of frames (length votes) j) (get_or votes j no_votes)

pub frame_more : (uplink : Uplink) (i f n frames : ℕ) (segment before after : List Vote) → frames ≡ (channel_at uplink.side i).frames → length before ≡ length after
    → ((j : ℕ) (d : Vote) → j < length after → frame_of frames (length after) j ≡ n → get_or after j d ≡ get_or segment (place_of frames (length after) j) d)
    → ((j : ℕ) (d : Vote) → j < length after → frame_of frames (length after) j ≢ n → get_or after j d ≡ get_or before j d)
    → ((j : ℕ) → j < length after → place_of frames (length after) j < length segment)
    → AreFewest uplink i f n (length uplink.side.combinations) segment → AreFewestUpTo uplink i f before n → AreFewestUpTo uplink i f after (n + 1)
frame_more uplink i f n frames segment before after whole stays carried same rows told done j inside early =
    let all : ℕ = (channel_at uplink.side i).frames in
    let count : ℕ = length uplink.side.combinations in
    let frame_is : frame_of frames (length after) j ≡ frame_of all (length after) j = ap (λ (f : ℕ). frame_of f (length after) j) whole in
    let place_is : place_of frames (length after) j ≡ place_of all (length after) j = ap (λ (f : ℕ). place_of f (length after) j) whole in
    elim (cases_eq (frame_of frames (length after) j) n) [
      | inl here ↦
          let place : ℕ = place_of frames (length after) j in
          subst (λ (n : ℕ). IsFewest uplink i f n count (place_of all (length after) j) (get_or after j no_votes)) (sym here ∙ frame_is)
          (subst (λ (place : ℕ). IsFewest uplink i f n count place (get_or after j no_votes)) place_is
          (subst (λ (v : Vote). IsFewest uplink i f n count place v) (sym (carried j no_votes inside here)) (told place (rows j inside))))
      | inr other ↦
          subst (λ (v : Vote). IsFewest uplink i f (frame_of all (length after) j) count (place_of all (length after) j) v) (sym (same j no_votes inside other))
          (subst (λ (len : ℕ). IsFewest uplink i f (frame_of all len j) count (place_of all len j) (get_or before j no_votes)) stays
          (done j (omega (arith, stays, inside)) (omega (arith, ap (λ (len : ℕ). frame_of all len j) stays, frame_is, early, other))))
    ]

-- a combination in each radio frame is a legal sequence
always : (side : Side) (i f c : ℕ) → c < length side.combinations → format_number side c i ≡ f → IsLegal side i f (replicate (frames_of side i) c)
always side i f c there has =
    let frames : ℕ = frames_of side i in
    let long : length (replicate frames c) ≡ frames = length-replicate frames c in
    let at : (n : ℕ) → n < length (replicate frames c) → slice_index (replicate frames c) n ≡ c = λ n inside. get_or-replicate frames n c 0 (omega (arith, inside, long)) in
    record {
      whole = long;
      there = λ n inside. omega (arith, at n inside, there);
      format = λ n inside. ap (λ (c : ℕ). format_number side c i) (at n inside) ∙ has;
      constant = λ j n m channel first second same. ap (λ (c : ℕ). format_number side c j) (at n first ∙ sym (at m second));
    }

-- the fewest over the combinations are the fewest over the legal sequences
pub least_carried : (uplink : Uplink) (i f j : ℕ) (vote : Vote) → frame_of (channel_at uplink.side i).frames (padded_in uplink.side i f) j < (channel_at uplink.side i).frames
    → IsFewest uplink i f (frame_of (channel_at uplink.side i).frames (padded_in uplink.side i f) j) (length uplink.side.combinations) (place_of (channel_at uplink.side i).frames (padded_in uplink.side i f) j) vote → IsLeast (IsCarriedIn uplink.side (uplink_copies uplink) i f j) vote.zeros
unfolding uplink_copies
least_carried uplink i f j vote below is =
    let frames : ℕ = (channel_at uplink.side i).frames in
    let n : ℕ = frame_of frames (padded_in uplink.side i f) j in
    let place : ℕ = place_of frames (padded_in uplink.side i f) j in
    let c : ℕ = is.carried.combination in
    record {
      has = record {
        sequence = replicate frames c;
        legal = always uplink.side i f c is.carried.there is.carried.has;
        is = ap (λ (c : ℕ). frame_copies uplink i n c place) (get_or-replicate frames n c 0 below) ∙ is.carried.is;
      };
      least = λ cells carried. omega (arith, carried.is, is.fewest (slice_index carried.sequence n) (carried.legal.there n (omega (arith, carried.legal.whole, below))) (carried.legal.format n (omega (arith, carried.legal.whole, below))));
    }

-- with fewer copies two codes differ in fewer
pub between-le : (sent other : ℕ → ℕ) (xs ys : List Bit) → ((j : ℕ) → j < length xs → sent j ≤ other j) → copies_between sent xs ys ≤ copies_between other xs ys
between-le sent other [] ys less = omega arith
between-le sent other (x ∷ xs) [] less = omega arith
between-le sent other (Zero ∷ xs) (Zero ∷ ys) less = omega (arith, between-le (λ j. sent (suc j)) (λ j. other (suc j)) xs ys (λ j within. less (suc j) (omega arith)))
between-le sent other (Zero ∷ xs) (One ∷ ys) less = omega (arith, less 0 (omega arith), between-le (λ j. sent (suc j)) (λ j. other (suc j)) xs ys (λ j within. less (suc j) (omega arith)))
between-le sent other (One ∷ xs) (Zero ∷ ys) less = omega (arith, less 0 (omega arith), between-le (λ j. sent (suc j)) (λ j. other (suc j)) xs ys (λ j within. less (suc j) (omega arith)))
between-le sent other (One ∷ xs) (One ∷ ys) less = omega (arith, between-le (λ j. sent (suc j)) (λ j. other (suc j)) xs ys (λ j within. less (suc j) (omega arith)))

-- so the least distance under the fewest copies is no more than under any sequence
pub sure_distance : (side : Side) (sent : Copies) (i f : ℕ) (fewest : ℕ → ℕ) (distance : ℕ) → (plan_in side i f).blocks * coded_block (channel_at side i).coding (plan_in side i f).size ≡ bits_in side i f
    → ((j : ℕ) → j < bits_in side i f → IsLeast (IsCarriedIn side sent i f j) (fewest j)) → IsLeast (DifferBelow (channel_at side i).coding (plan_in side i f) fewest (plan_in side i f).blocks) distance
    → (other : ℕ) → DifferInFormat side sent i f other → distance ≤ other
sure_distance side sent i f fewest distance whole are is other differ =
    let coding : Coding = (channel_at side i).coding in
    let plan : Plan = plan_in side i f in
    let coded : ℕ = coded_block coding plan.size in
    let r : ℕ = differ.pair.block in
    let pair : DifferIn (coded_as coding) plan.size (filler_of plan r) (block_copies coding plan (sent i f differ.sequence) r) other = differ.pair.pair in
    let cells : ℕ = copies_between (block_copies coding plan fewest r) (coded_as coding pair.first) (coded_as coding pair.second) in
    let under : DifferBelow coding plan fewest plan.blocks cells = record {
      block = r;
      there = differ.pair.there;
      pair = record { first = pair.first; second = pair.second; shape = pair.shape; other = pair.other; differ = pair.differ; between = refl };
    } in
    let long : length (coded_as coding pair.first) ≡ coded = length-coded coding pair.first ∙ ap (coded_block coding) pair.shape.sized in
    let fewer : cells ≤ copies_between (block_copies coding plan (sent i f differ.sequence) r) (coded_as coding pair.first) (coded_as coding pair.second) =
    between-le (block_copies coding plan fewest r) (block_copies coding plan (sent i f differ.sequence) r) (coded_as coding pair.first) (coded_as coding pair.second)
    (λ j inside. (are (r * coded + j) (omega (arith, inside_all r j plan.blocks coded differ.pair.there (omega (arith, inside, long)), whole))).least (sent i f differ.sequence (r * coded + j))
    (record { sequence = differ.sequence; legal = differ.legal; is = refl })) in
    omega (arith, is.least cells under, fewer, pair.between)

pub sure_in_format : (side : Side) (sent : Copies) (i f : ℕ) (sizes : Sizes) (fewest : ℕ → ℕ) (least : Least) → AreSizes side i f sizes → ((j : ℕ) → j < bits_in side i f → IsLeast (IsCarriedIn side sent i f j) (fewest j))
    → IsLeastBelow sizes.coding sizes.plan fewest sizes.plan.blocks least → IsSureDistance side sent i f least.cells
sure_in_format side sent i f sizes fewest least sized are found = record {
  fewest = fewest;
  are = are;
  least = is;
  sure = sure_distance side sent i f fewest least.cells whole are is;
}
  where
    whole : (plan_in side i f).blocks * coded_block (channel_at side i).coding (plan_in side i f).size ≡ bits_in side i f
    whole = subst (λ (plan : Plan). plan.blocks * coded_block (channel_at side i).coding plan.size ≡ bits_in side i f) sized.plan
        (subst (λ (coding : Coding). sizes.plan.blocks * coded_block coding sizes.plan.size ≡ bits_in side i f) sized.coding (sized.whole ∙ sized.bits))

    below : IsLeastBelow (channel_at side i).coding (plan_in side i f) fewest (plan_in side i f).blocks least
    below = subst (λ (plan : Plan). IsLeastBelow (channel_at side i).coding plan fewest plan.blocks least) sized.plan
        (subst (λ (coding : Coding). IsLeastBelow coding sizes.plan fewest sizes.plan.blocks least) sized.coding found)

    is : IsLeast (DifferBelow (channel_at side i).coding (plan_in side i f) fewest (plan_in side i f).blocks) least.cells
    is = record { has = record { block = least.block; there = below.there; pair = below.pair }; least = below.none }
