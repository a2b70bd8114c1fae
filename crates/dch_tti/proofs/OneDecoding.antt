-- What is received of a TTI is determined by the votes for its coded bits.
use Rattle.std.proofs.Common.{◌≡◌, ◌+◌, ◌<◌, ◌≤◌, ◌^◌, ℕ, Bool, true, false, List, [], ◌∷◌, length, take, get_or, arith, refl, ap, sym, ◌∙◌, subst}
use Rattle.std.specs.Prelude.{IsTrue}
use Rattle.std.proofs.lemmas.List.{ext_get_or}
use Rattle.dch_bits.specs.declared.bit.Bit.{Bit}
use Rattle.dch_bits.specs.declared.bit.Bit.TheVariants.{Zero, One}
use Rattle.dch_bits.specs.declared.bit.Vote.{Vote}
use Rattle.dch_types.specs.declared.channel.Coding.{Coding}
use Rattle.dch_types.specs.declared.channel.Coding.TheVariants.{Uncoded, Half, Third}
use Rattle.dch_types.specs.declared.channel.Format.{Format}
use Rattle.dch_types.specs.declared.channel.Trch.{Trch}
use Rattle.dch_types.specs.Lengths.{coded_bits, coded_block, crc_size, tti_bits}
use Rattle.dch_coding.specs.Conv.{encoded}
use Rattle.dch_coding.specs.declared.rate.Rate.{Rate}
use Rattle.dch_coding.specs.declared.rate.Rate.TheVariants.{Half as HalfRate, Third as ThirdRate}
use Rattle.dch_coding.specs.Segments.{plan_of, filler_of}
use Rattle.dch_coding.specs.declared.cut.Plan.{Plan}
use Rattle.dch_coding.proofs.Sizes.{plan_whole}
use Rattle.dch_coding.specs.Chain.{code_block}
use Rattle.dch_coding.specs.Ttis.{part}
use Rattle.dch_coding.specs.Parity.{IsAttached}
use Rattle.dch_trellis.specs.Nearest.{disagreement, IsFirst, IsNearest}
use Rattle.dch_accept.specs.Blocks.{Held, block_at}
use Rattle.dch_tti.specs.JoinedBits.{IsRead, AreRead}
use Rattle.dch_tti.specs.Received.{IsReceived}
use Rattle.dch_accept.proofs.Parts.{same_parts}
use Rattle.dch_tti.proofs.Blocks.{code_block-filled, filler_short, same_blocks}
use Rattle.dch_tti.proofs.Lengths.{joined_le}

-- two blocks of one length, each of which is the first
first_one : (a b : List Bit) → length a ≡ length b → IsFirst a b → IsFirst b a → a ≡ b
first_one [] [] long one other = refl
first_one [] (y ∷ b) long one other = absurd (omega arith)
first_one (x ∷ a) [] long one other = absurd (omega arith)
first_one (Zero ∷ a) (Zero ∷ b) long one other = ap (λ c. Zero ∷ c) (first_one a b (omega arith) one other)
first_one (Zero ∷ a) (One ∷ b) long one other = absurd other
first_one (One ∷ a) (Zero ∷ b) long one other = absurd one
first_one (One ∷ a) (One ∷ b) long one other = ap (λ c. One ∷ c) (first_one a b (omega arith) one other)

-- the nearest block is one
nearest_one : (rate : Rate) (votes : List Vote) (size filler : ℕ) (a b : List Bit) → IsNearest rate votes size filler a → IsNearest rate votes size filler b → a ≡ b
nearest_one rate votes size filler a b one other =
    let same : disagreement votes (encoded rate b) ≡ disagreement votes (encoded rate a) = omega (arith, one.least b other.shape, other.least a one.shape) in
    first_one a b (one.shape.sized ∙ sym other.shape.sized) (one.first b other.shape same) (other.first a one.shape (sym same))

read_one : (coding : Coding) (votes : List Vote) (filler : ℕ) (a b : List Bit) → length a ≡ length b → IsRead coding votes filler a → IsRead coding votes filler b → a ≡ b
read_one Uncoded votes filler a b long one other = one ∙ sym other
read_one Half votes filler a b long one other = nearest_one HalfRate votes (length a) filler a b one (subst (λ n. IsNearest HalfRate votes n filler b) (sym long) other)
read_one Third votes filler a b long one other = nearest_one ThirdRate votes (length a) filler a b one (subst (λ n. IsNearest ThirdRate votes n filler b) (sym long) other)

-- and so are the joined bits
joined_one : (coding : Coding) (votes : List Vote) (a b : List Bit) → length a ≤ 2 ^ 31 → length a ≡ length b → AreRead coding votes a → AreRead coding votes b → a ≡ b
joined_one coding votes a b small long one other =
    let plan : Plan = plan_of (length a) coding in
    let there : (r : ℕ) → r < plan.blocks → IsRead coding (part r (coded_block coding plan.size) votes) (filler_of plan r) (code_block plan b r) =
    subst (λ n. (r : ℕ) → r < (plan_of n coding).blocks → IsRead coding (part r (coded_block coding (plan_of n coding).size) votes) (filler_of (plan_of n coding) r) (code_block (plan_of n coding) b r)) (sym long) other in
    same_blocks plan a b (plan_whole plan (length a, (coding, (small, refl)))) long (λ r inside.
    let short : plan.filler ≤ plan.size = omega (arith, filler_short (length a) r coding inside) in
    read_one coding (part r (coded_block coding plan.size) votes) (filler_of plan r) (code_block plan a r) (code_block plan b r)
    ((code_block-filled plan a r short).sized ∙ sym (code_block-filled plan b r short).sized) (one r inside) (there r inside))

same_truth : (x y : Bool) → (IsTrue x → IsTrue y) → (IsTrue y → IsTrue x) → x ≡ y
same_truth true true there back = refl
same_truth true false there back = sym (there refl)
same_truth false true there back = back refl
same_truth false false there back = refl

-- the blocks and their marks
pub received_one : (channel : Trch) (number : ℕ) (format : Format) (votes : List Vote) (one other : Held) → length votes ≡ tti_bits channel format → length votes ≤ 131072
    → IsReceived channel number format votes one → IsReceived channel number format votes other → one ≡ record other { room = one.room }
unfolding tti_bits
received_one channel number format votes one other sized short a b =
    let coding : Coding = channel.coding in
    let w : ℕ = format.size + crc_size channel.crc in
    let long : length votes ≡ coded_bits coding (length a.joined) = sized ∙ ap (coded_bits coding) (sym a.long) in
    let small : length a.joined ≤ 2 ^ 31 = omega (arith, joined_le (length a.joined) coding, long, short) in
    let same : a.joined ≡ b.joined = joined_one coding votes a.joined b.joined small (a.long ∙ sym b.long) a.read b.read in
    let block : (i : ℕ) → i < format.number → block_at one i ≡ block_at other i = λ i inside.
    (a.blocks i inside).front ∙ ap (λ (bits : List Bit). take format.size (part i w bits)) same ∙ sym (b.blocks i inside).front in
    let there : (i : ℕ) → i < format.number → IsAttached channel.crc (block_at one i) (part i w a.joined) ≡ IsAttached channel.crc (block_at other i) (part i w b.joined) = λ i inside.
    ap (λ (block : List Bit). IsAttached channel.crc block (part i w a.joined)) (block i inside) ∙ ap (λ (bits : List Bit). IsAttached channel.crc (block_at other i) (part i w bits)) same in
    let format_is : one.format ≡ other.format = a.numbered ∙ sym b.numbered in
    let size_is : one.size ≡ other.size = a.sized ∙ sym b.sized in
    let bits_is : one.bits ≡ other.bits = same_parts one.bits other.bits format.number format.size a.whole b.whole
    (λ i inside. ap (λ n. part i n one.bits) (sym a.sized) ∙ block i inside ∙ ap (λ n. part i n other.bits) b.sized) in
    let good_is : one.good ≡ other.good = ext_get_or false one.good other.good (a.counted ∙ sym b.counted) (λ i early.
    let inside : i < format.number = omega (arith, early, a.counted) in
    same_truth (get_or one.good i false) (get_or other.good i false)
    (λ good. (b.blocks i inside).fits.1 (subst (λ (P : Type 0). P) (there i inside) ((a.blocks i inside).fits.0 good)))
    (λ good. (a.blocks i inside).fits.1 (subst (λ (P : Type 0). P) (sym (there i inside)) ((b.blocks i inside).fits.0 good)))) in
    λ t. record { format = format_is t; size = size_is t; bits = bits_is t; good = good_is t; room = one.room }
