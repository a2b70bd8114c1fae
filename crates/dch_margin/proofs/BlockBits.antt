-- The bits of a code block among those of a TTI.
use Rattle.std.proofs.Common.{◌≡◌, ◌<◌, ◌+◌, ◌-◌, ◌*◌, ℕ, List, drop, arith, ap, sym, subst, ◌∙◌}
use Rattle.std.specs.List.{slice_range}
use Rattle.std.proofs.lemmas.List.{get_or-take, get_or-drop}
use Rattle.dch_bits.specs.declared.bit.Bit.{Bit}
use Rattle.dch_bits.specs.declared.bit.Vote.{Vote}
use Rattle.dch_types.specs.declared.channel.Coding.{Coding}
use Rattle.dch_types.specs.Lengths.{coded_block}
use Rattle.dch_coding.specs.declared.cut.Plan.{Plan}
use Rattle.dch_coding.specs.Chain.{coded_as}
use Rattle.dch_coding.specs.Segments.{filler_of}
use Rattle.dch_trellis.specs.Nearest.{copies}
use Rattle.dch_trellis.specs.Search.{no_votes}
use Rattle.dch_trellis.specs.Distance.{copies_at}
use Rattle.dch_collision.specs.Clear.{block_copies}
use Rattle.dch_margin.specs.Differ.{DifferIn, DifferInBlock, IsFromZeros, IsLeast}
use Rattle.dch_margin.specs.Worst.{IsNear}
use Rattle.dch_margin.proofs.Differ.{from_zeros_same, least_copies}

-- bit t of a part
part_at : (votes : List Vote) (from to t : ℕ) → t < to - from → copies_at (slice_range votes from to) t ≡ copies_at votes (from + t)
part_at votes from to t inside = ap copies (get_or-take (to - from) (drop from votes) t no_votes inside ∙ get_or-drop from votes t no_votes)

pub least_here : (coding : Coding) (plan : Plan) (votes : List Vote) (r coded filler n : ℕ) → coded ≡ coded_block coding plan.size → filler ≡ filler_of plan r
    → IsLeast (DifferIn (coded_as coding) plan.size filler (copies_at (slice_range votes (r * coded) (r * coded + coded)))) n → IsLeast (DifferInBlock coding plan (copies_at votes) r) n
least_here coding plan votes r coded filler n long filled is =
    let part : List Vote = slice_range votes (r * coded) (r * coded + coded) in
    least_copies coding plan.size (filler_of plan r) (copies_at part) (block_copies coding plan (copies_at votes) r) n
    (λ t inside. part_at votes (r * coded) (r * coded + coded) t (omega (arith, inside, long)) ∙ ap (λ (coded : ℕ). copies_at votes (r * coded + t)) long)
    (subst (λ (filler : ℕ). IsLeast (DifferIn (coded_as coding) plan.size filler (copies_at part)) n) filled is)

here_at : (coding : Coding) (plan : Plan) (votes : List Vote) (r coded t : ℕ) → coded ≡ coded_block coding plan.size → t < coded_block coding plan.size → copies_at (slice_range votes (r * coded) (r * coded + coded)) t ≡ block_copies coding plan (copies_at votes) r t
here_at coding plan votes r coded t long inside = part_at votes (r * coded) (r * coded + coded) t (omega (arith, inside, long)) ∙ ap (λ (coded : ℕ). copies_at votes (r * coded + t)) long

-- and back to the part
pub least_part : (coding : Coding) (plan : Plan) (votes : List Vote) (r coded size filler n : ℕ) → coded ≡ coded_block coding plan.size → size ≡ plan.size → filler ≡ filler_of plan r
    → IsLeast (DifferInBlock coding plan (copies_at votes) r) n → IsLeast (DifferIn (coded_as coding) size filler (copies_at (slice_range votes (r * coded) (r * coded + coded)))) n
least_part coding plan votes r coded size filler n long sized filled is =
    let part : List Vote = slice_range votes (r * coded) (r * coded + coded) in
    subst (λ (size : ℕ). IsLeast (DifferIn (coded_as coding) size filler (copies_at part)) n) (sym sized)
    (subst (λ (filler : ℕ). IsLeast (DifferIn (coded_as coding) plan.size filler (copies_at part)) n) (sym filled)
    (least_copies coding plan.size (filler_of plan r) (block_copies coding plan (copies_at votes) r) (copies_at part) n (λ t inside. sym (here_at coding plan votes r coded t long inside)) is))

-- a block that is found for the part
pub near_part : (coding : Coding) (plan : Plan) (votes : List Vote) (r coded size filler n : ℕ) (block code : List Bit) → coded ≡ coded_block coding plan.size → size ≡ plan.size → filler ≡ filler_of plan r
    → IsFromZeros (coded_as coding) size filler (copies_at (slice_range votes (r * coded) (r * coded + coded))) n block → code ≡ coded_as coding block → IsNear coding plan (copies_at votes) r n code
near_part coding plan votes r coded size filler n block code long sized filled is same =
    let part : List Vote = slice_range votes (r * coded) (r * coded + coded) in
    record {
      block = block;
      apart = from_zeros_same coding plan.size (filler_of plan r) (copies_at part) (block_copies coding plan (copies_at votes) r) n block (λ t inside. here_at coding plan votes r coded t long inside)
          (subst (λ (size : ℕ). IsFromZeros (coded_as coding) size (filler_of plan r) (copies_at part) n block) sized
          (subst (λ (filler : ℕ). IsFromZeros (coded_as coding) size filler (copies_at part) n block) filled is));
      coded = same;
    }
