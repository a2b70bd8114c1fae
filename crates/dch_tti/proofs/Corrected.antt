-- Joined bits that arrive with little damage are read as they were sent.
use Rattle.std.proofs.Common.{◌≡◌, ◌+◌, ◌*◌, ◌<◌, ◌≤◌, ◌^◌, ◌⊎◌, ℕ, List, [], ◌∷◌, length, map, arith, refl, ap, sym, ◌∙◌, subst, inl, inr}
use Rattle.std.proofs.lemmas.Bool.Decides.{nat_tests}
use Rattle.std.proofs.Math.Nat.{mul-le-mul_left}
use Rattle.dch_bits.specs.declared.bit.Bit.{Bit}
use Rattle.dch_bits.specs.declared.bit.Bit.TheVariants.{Zero, One}
use Rattle.dch_bits.specs.declared.bit.Vote.{Vote}
use Rattle.dch_bits.specs.Bits.{distance}
use Rattle.dch_types.specs.declared.channel.Coding.{Coding}
use Rattle.dch_types.specs.declared.channel.Coding.TheVariants.{Uncoded, Half, Third}
use Rattle.dch_types.specs.Lengths.{coded_block, coded_bits}
use Rattle.dch_coding.specs.declared.rate.Rate.TheVariants.{Half as HalfRate, Third as ThirdRate}
use Rattle.dch_coding.specs.Segments.{plan_of, filler_of}
use Rattle.dch_coding.specs.declared.cut.Plan.{Plan}
use Rattle.dch_coding.proofs.Sizes.{plan_whole}
use Rattle.dch_coding.specs.Chain.{coded_as, code_block}
use Rattle.dch_trellis.specs.Distance.{AreToldApart, HaveCopies, damage}
use Rattle.dch_trellis.specs.Nearest.{differing, disagreement, copies, IsBlock}
use Rattle.dch_trellis.specs.Search.{no_votes}
use Rattle.dch_coding.proofs.Linear.{same_or_not}
use Rattle.dch_trellis.proofs.Damage.{copies-distance, copies_between-le, damage-received, damage-same, received, told_by_copies}
use Rattle.dch_accept.specs.CollisionClear.{block_copies}
use Rattle.dch_tti.specs.Corrected.{least_distance, block_votes, coded_bits_of, AreCorrectable, AreFewWrong, IsCorrectable}
use Rattle.dch_tti.specs.JoinedBits.{majority, IsRead, AreRead}
use Rattle.dch_tti.proofs.Blocks.{code_block-filled, filler_short, length-coded_as, same_blocks}
use Rattle.dch_tti.proofs.Parts.{get_or-part, length-part, part_fits}

-- the majority differs from the fewest copies
majority-least : (vote : Vote) (b : Bit) → differing vote (majority vote) ≤ differing vote b
majority-least vote Zero = grind (arith, nat_tests)
majority-least vote One = grind (arith, nat_tests)

majorities-least : (votes : List Vote) (bits : List Bit) → length bits ≡ length votes → disagreement votes (map majority votes) ≤ disagreement votes bits
majorities-least [] bits long = omega arith
majorities-least (v ∷ votes) [] long = absurd (omega arith)
majorities-least (v ∷ votes) (b ∷ bits) long = omega (arith, majority-least v b, majorities-least votes bits (omega arith))

-- no block disagrees with fewer copies than the one that is read
read-least : (coding : Coding) (votes : List Vote) (size filler : ℕ) (found other : List Bit) → IsBlock size filler found → IsBlock size filler other → length votes ≡ coded_block coding size → IsRead coding votes filler found → disagreement votes (coded_as coding found) ≤ disagreement votes (coded_as coding other)
read-least Uncoded votes size filler found other is shape long read = rw read (majorities-least votes other (shape.sized ∙ sym long))
read-least Half votes size filler found other is shape long read = read.least other (subst (λ n. IsBlock n filler other) (sym is.sized) shape)
read-least Third votes size filler found other is shape long read = read.least other (subst (λ n. IsBlock n filler other) (sym is.sized) shape)

-- a block that disagrees with no more copies than the one that was sent is that one
found-sent : (code : List Bit → List Bit) (votes : List Vote) (size filler count : ℕ) (sent : ℕ → ℕ) (found block : List Bit) → length (code block) ≡ length votes → IsBlock size filler found → IsBlock size filler block
    → disagreement votes (code found) ≤ disagreement votes (code block) → AreToldApart code size filler sent count → disagreement votes (code block) + damage sent votes (code block) < count → found ≡ block
found-sent code votes size filler count sent found block long shape is near told few = elim (same_or_not found block) [
  | inl same ↦ same
  | inr differ ↦ absurd (omega (arith, told block found is shape (λ same. differ (sym same)), copies_between-le sent votes (code block) (code found) long))
]

-- a correctable code block is read as it was sent
block_corrected : (coding : Coding) (plan : Plan) (sent : ℕ → ℕ) (votes : List Vote) (joined bits : List Bit) (r : ℕ) → plan.filler ≤ plan.size → r < plan.blocks → length votes ≡ plan.blocks * coded_block coding plan.size → IsRead coding (block_votes coding plan votes r) (filler_of plan r) (code_block plan joined r) → IsCorrectable coding plan sent votes bits r → code_block plan joined r ≡ code_block plan bits r
block_corrected coding plan sent votes joined bits r short inside long read is =
    let found_is : IsBlock plan.size (filler_of plan r) (code_block plan joined r) = code_block-filled plan joined r short in
    let sent_is : IsBlock plan.size (filler_of plan r) (code_block plan bits r) = code_block-filled plan bits r short in
    let width : length (block_votes coding plan votes r) ≡ coded_block coding plan.size = length-part votes plan.blocks (coded_block coding plan.size) r inside (omega (arith, long)) in
    found-sent (coded_as coding) (block_votes coding plan votes r) plan.size (filler_of plan r) is.count (block_copies coding plan sent r) (code_block plan joined r) (code_block plan bits r)
    (length-coded_as coding (code_block plan bits r) ∙ ap (coded_block coding) sent_is.sized ∙ sym width) found_is sent_is
    (read-least coding (block_votes coding plan votes r) plan.size (filler_of plan r) (code_block plan joined r) (code_block plan bits r) found_is sent_is width read)
    is.apart is.few

-- and so are all joined bits
pub joined_corrected : (coding : Coding) (votes : List Vote) (joined bits : List Bit) (sent : ℕ → ℕ) → length joined ≤ 2 ^ 31 → length votes ≡ coded_bits coding (length joined) → length bits ≡ length joined → AreRead coding votes joined → AreCorrectable coding sent votes bits → joined ≡ bits
joined_corrected coding votes joined bits sent small long size read are =
    let plan : Plan = plan_of (length joined) coding in
    let here : (r : ℕ) → r < plan.blocks → IsCorrectable coding plan sent votes bits r =
    subst (λ n. (r : ℕ) → r < (plan_of n coding).blocks → IsCorrectable coding (plan_of n coding) sent votes bits r) size are in
    same_blocks plan joined bits (plan_whole plan (length joined, (coding, (small, refl)))) (sym size)
    (λ r inside. block_corrected coding plan sent votes joined bits r (omega (arith, filler_short (length joined) r coding inside)) inside long (read r inside) (here r inside))

-- lists that are not the same differ in a place
same_or_far : (a b : List Bit) → length a ≡ length b → (a ≡ b) ⊎ (1 ≤ distance a b)
same_or_far [] [] sized = inl refl
same_or_far [] (y ∷ b) sized = absurd (omega arith)
same_or_far (x ∷ a) [] sized = absurd (omega arith)
same_or_far (Zero ∷ a) (One ∷ b) sized = inr (omega arith)
same_or_far (One ∷ a) (Zero ∷ b) sized = inr (omega arith)
same_or_far (Zero ∷ a) (Zero ∷ b) sized = elim (same_or_far a b (omega arith)) [ inl same ↦ inl (ap (λ bits. Zero ∷ bits) same) | inr far ↦ inr (omega arith) ]
same_or_far (One ∷ a) (One ∷ b) sized = elim (same_or_far a b (omega arith)) [ inl same ↦ inl (ap (λ bits. One ∷ bits) same) | inr far ↦ inr (omega arith) ]

-- with so many copies of each coded bit, so many times the least distance tell code blocks apart
pub told_in_coding : (coding : Coding) (sent : ℕ → ℕ) (size filler least : ℕ) → ((t : ℕ) → t < coded_block coding size → least ≤ sent t) → AreToldApart (coded_as coding) size filler sent (least * least_distance coding)
told_in_coding Half sent size filler least some a b first second differ = told_by_copies HalfRate sent size filler least some a b first second differ
told_in_coding Third sent size filler least some a b first second differ = told_by_copies ThirdRate sent size filler least some a b first second differ
told_in_coding Uncoded sent size filler least some a b first second differ = elim (same_or_far a b (first.sized ∙ sym second.sized)) [
  | inl same ↦ absurd (differ same)
  | inr far ↦ omega (arith, mul-le-mul_left least far, copies-distance sent a b least (λ t within. some t (omega (arith, first.sized))))
]

-- code blocks of which few copies are wrong are correctable
pub few_correctable : (coding : Coding) (least : ℕ) (votes : List Vote) (joined : List Bit) → length votes ≡ coded_bits coding (length joined) → HaveCopies least votes → AreFewWrong coding least votes joined → AreCorrectable coding (received votes) votes joined
few_correctable coding least votes joined long some few r inside =
    let plan : Plan = plan_of (length joined) coding in
    let len : ℕ = coded_block coding plan.size in
    let here : List Vote = block_votes coding plan votes r in
    let width : length here ≡ len = length-part votes plan.blocks len r inside (omega (arith, long)) in
    record {
      count = least * least_distance coding;
      apart = told_in_coding coding (block_copies coding plan (received votes) r) plan.size (filler_of plan r) least
          (λ t within. some (r * len + t) no_votes (omega (arith, long, within, part_fits plan.blocks len r inside)));
      few = omega (
        arith,
        few r inside,
        damage-received here (coded_bits_of coding plan joined r),
        damage-same (received here) (block_copies coding plan (received votes) r) here (coded_bits_of coding plan joined r)
            (λ t within. ap copies (get_or-part votes len r t no_votes (omega (arith, width)))),
      );
    }
