-- Code blocks of which few cells are changed are correctable.
use Rattle.std.proofs.Common.{◌≡◌, ◌+◌, ◌*◌, ◌<◌, ◌≤◌, ◌∙◌, ℕ, List, length, get_or, arith, ap, sym, subst}
use Rattle.dch_bits.specs.declared.bit.Bit.{Bit}
use Rattle.dch_bits.specs.declared.bit.Bit.TheVariants.{Zero}
use Rattle.dch_bits.specs.declared.bit.Vote.{Vote}
use Rattle.dch_types.specs.declared.channel.Coding.{Coding}
use Rattle.dch_types.specs.declared.channel.Side.{Side}
use Rattle.dch_types.specs.Lengths.{coded_block, tti_bits}
use Rattle.dch_types.specs.Parts.{channel_at, format_at}
use Rattle.dch_types.proofs.Sums.{total_none}
use Rattle.dch_coding.specs.Segments.{filler_of, plan_of}
use Rattle.dch_coding.specs.declared.cut.Plan.{Plan}
use Rattle.dch_coding.specs.Chain.{coded_blocks}
use Rattle.dch_coding.specs.Ttis.{IsCodedTti}
use Rattle.dch_trellis.specs.Distance.{damage}
use Rattle.dch_trellis.specs.Nearest.{disagreement}
use Rattle.dch_trellis.specs.Search.{no_votes}
use Rattle.dch_accept.specs.CollisionClear.{HasNoCollision, block_copies, joined_in}
use Rattle.dch_tti.specs.Corrected.{AreCorrectable, IsCorrectable, block_votes, coded_bits_of, least_distance}
use Rattle.dch_tti.proofs.Blocks.{coded_blocks-at}
use Rattle.dch_tti.proofs.Corrected.{told_in_coding}
use Rattle.dch_tti.proofs.Parts.{get_or-part, length-part, part_fits}
use Rattle.dch_tti.specs.Read.{coded_in}
use Rattle.dch_tti.specs.Damaged.{AreFewChanged, AreLittleChanged, block_changes}
use Rattle.dch_tti.proofs.Changed.{damage-changed, loses}
use Rattle.dch_tti.proofs.ToldApart.{told_apart}

-- place t of code block r is coded bit j of the TTI
place_lost : (coding : Coding) (plan : Plan) (votes : List Vote) (joined coded : List Bit) (sent changes : ℕ → ℕ) (r t : ℕ) → r < plan.blocks → t < coded_block coding plan.size → coded ≡ coded_blocks coding plan joined plan.blocks
    → loses (sent (r * coded_block coding plan.size + t)) (get_or votes (r * coded_block coding plan.size + t) no_votes) (get_or coded (r * coded_block coding plan.size + t) Zero) ≤ changes (r * coded_block coding plan.size + t)
    → loses (block_copies coding plan sent r t) (get_or (block_votes coding plan votes r) t no_votes) (get_or (coded_bits_of coding plan joined r) t Zero) ≤ changes (r * coded_block coding plan.size + t)
place_lost coding plan votes joined coded sent changes r t here small is few =
    let len : ℕ = coded_block coding plan.size in
    let j : ℕ = r * len + t in
    let vote : get_or (block_votes coding plan votes r) t no_votes ≡ get_or votes j no_votes = get_or-part votes len r t no_votes small in
    let bit : get_or coded j Zero ≡ get_or (coded_bits_of coding plan joined r) t Zero = ap (λ (bits : List Bit). get_or bits j Zero) is ∙ coded_blocks-at coding plan joined plan.blocks r t here small in
    subst (λ (vote : Vote). loses (sent j) vote (get_or (coded_bits_of coding plan joined r) t Zero) ≤ changes j) (sym vote)
    (subst (λ bit. loses (sent j) (get_or votes j no_votes) bit ≤ changes j) bit few)

-- so each code block is correctable
pub correctable : (side : Side) (i f : ℕ) (blocks : List Bit) (votes : List Vote) (sent changes : ℕ → ℕ) (coded : List Bit) (is : IsCodedTti (channel_at side i) (format_at (channel_at side i) f) blocks coded) → length votes ≡ coded_in side i f
    → ((j : ℕ) → j < length votes → loses (sent j) (get_or votes j no_votes) (get_or coded j Zero) ≤ changes j) → AreFewChanged side i f sent changes → AreCorrectable (channel_at side i).coding sent votes is.joined
unfolding tti_bits
correctable side i f blocks votes sent changes coded is long each few =
    let coding : Coding = (channel_at side i).coding in
    let joined : List Bit = is.joined in
    let plan : Plan = plan_of (joined_in side i f) coding in
    let len : ℕ = coded_block coding plan.size in
    let whole : length joined ≡ joined_in side i f = is.are.whole in
    let same : coded ≡ coded_blocks coding plan joined plan.blocks = is.coded ∙ ap (λ x. coded_blocks coding (plan_of x coding) joined (plan_of x coding).blocks) whole in
    subst (λ x. (r : ℕ) → r < (plan_of x coding).blocks → IsCorrectable coding (plan_of x coding) sent votes joined r) (sym whole) (λ r here.
    let width : length (block_votes coding plan votes r) ≡ len = length-part votes plan.blocks len r here (omega (arith, long)) in
    let little : disagreement (block_votes coding plan votes r) (coded_bits_of coding plan joined r) + damage (block_copies coding plan sent r) (block_votes coding plan votes r) (coded_bits_of coding plan joined r) ≤ block_changes coding plan changes r =
    damage-changed (block_copies coding plan sent r) (λ t. changes (r * len + t)) (block_votes coding plan votes r) (coded_bits_of coding plan joined r) len width
    (λ t within. place_lost coding plan votes joined coded sent changes r t here (omega (arith, within, width)) same (each (r * len + t) (omega (arith, long, within, width, part_fits plan.blocks len r here)))) in
    record { count = (few r here).count; apart = (few r here).apart; few = omega (arith, (few r here).few, little) })

-- with so many copies of each coded bit, so many times the least distance tell code blocks apart
pub few_changed : (side : Side) (i f least : ℕ) (copies changes : ℕ → ℕ) → ((j : ℕ) → j < coded_in side i f → least ≤ copies j) → AreLittleChanged side i f least changes → AreFewChanged side i f copies changes
unfolding tti_bits
few_changed side i f least copies changes some few r here =
    let coding : Coding = (channel_at side i).coding in
    let plan : Plan = plan_of (joined_in side i f) coding in
    let len : ℕ = coded_block coding plan.size in
    record {
      count = least * least_distance coding;
      apart = told_in_coding coding (block_copies coding plan copies r) plan.size (filler_of plan r) least (λ t within. some (r * len + t) (omega (arith, within, part_fits plan.blocks len r here)));
      few = few r here;
    }

-- and where nothing has changed and no two code blocks are sent alike, one copy does
pub none_changed : (side : Side) (i f : ℕ) (copies changes : ℕ → ℕ) → HasNoCollision (channel_at side i).coding (joined_in side i f) copies → ((j : ℕ) → changes j ≡ 0) → AreFewChanged side i f copies changes
none_changed side i f copies changes clear none r here =
    let coding : Coding = (channel_at side i).coding in
    let plan : Plan = plan_of (joined_in side i f) coding in
    let len : ℕ = coded_block coding plan.size in
    record {
      count = 1;
      apart = told_apart coding plan.size (filler_of plan r) (block_copies coding plan copies r) (clear r here);
      few = omega (arith, total_none (λ t. changes (r * len + t)) len (λ t. none (r * len + t)));
    }
