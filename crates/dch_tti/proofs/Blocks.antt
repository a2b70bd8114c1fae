-- Code blocks and the joined bits that they hold.
use Rattle.std.proofs.Common.{◌≡◌, ◌+◌, ◌-◌, ◌*◌, ◌/◌, ◌%◌, ◌<◌, ◌≤◌, ℕ, zero, suc, List, length, take, drop, get_or, arith, refl, ap, sym, ◌∙◌, subst, inl, inr, length-append}
use Rattle.std.specs.Prelude.{nat_lt, false}
use borrow.Rule.Slice.PartMut.{put_mid}
use Rattle.std.proofs.lemmas.Bool.{cases_lt}
use Rattle.std.proofs.lemmas.Bool.Decides.{nat_tests}
use Rattle.std.proofs.lemmas.List.{ext_get_or, get_or-drop, get_or_append_left, get_or-append_right}
use Rattle.std.proofs.lemmas.List.FromFn.{get_or-map-range_with_len, length-map-range_with_len}
use Rattle.std.proofs.lemmas.Nat.{div-add-mod', div_below, mod_below}
use Rattle.dch_bits.specs.declared.bit.Bit.{Bit}
use Rattle.dch_bits.specs.declared.bit.Bit.TheVariants.{Zero}
use Rattle.dch_bits.specs.declared.bit.Vote.{Vote}
use Rattle.dch_types.specs.declared.channel.Coding.{Coding}
use Rattle.dch_types.specs.declared.channel.Coding.TheVariants.{Uncoded, Half, Third}
use Rattle.dch_types.specs.Lengths.{coded_block, coded_bits}
use Rattle.dch_coding.proofs.Codes.{length-encoded}
use Rattle.dch_coding.specs.declared.rate.Rate.TheVariants.{Half as HalfRate, Third as ThirdRate}
use Rattle.dch_coding.specs.Segments.{plan_of, block_bit, filler_of}
use Rattle.dch_coding.specs.declared.cut.Plan.{Plan}
use Rattle.dch_coding.proofs.Sizes.{filler_few}
use Rattle.dch_coding.specs.Chain.{coded_as, code_block, coded_blocks}
use Rattle.dch_coding.specs.Cuts.{HoldsBlocks}
use Rattle.dch_coding.proofs.Blocks.{block_held}
use Rattle.dch_trellis.specs.Nearest.{IsBlock}
use Rattle.dch_coding.specs.Ttis.{part}
use Rattle.dch_tti.specs.JoinedBits.{IsRead}
use Rattle.dch_tti.proofs.Lengths.{blocks_le}
use Rattle.dch_tti.proofs.Parts.{part_fits, get_or-part, part-put_here, part-put_earlier}

-- no bits are cut into no blocks
pub some_bits : (x r : ℕ) (coding : Coding) → r < (plan_of x coding).blocks → 0 < x
some_bits zero r Uncoded inside = absurd (omega arith)
some_bits zero r Half inside = absurd (omega arith)
some_bits zero r Third inside = absurd (omega arith)
some_bits (suc x) r coding inside = omega arith

-- the filler is shorter than a block
pub filler_short : (x r : ℕ) (coding : Coding) → r < (plan_of x coding).blocks → (plan_of x coding).filler < (plan_of x coding).size
filler_short x r coding inside = filler_few x coding (some_bits x r coding inside)

later_filler : (plan : Plan) (r : ℕ) → filler_of plan (suc r) ≡ 0
later_filler plan r = grind (arith, nat_tests)

filler_first : (plan : Plan) (r k : ℕ) → k < filler_of plan r → (r ≡ 0) × (k < plan.filler)
filler_first plan zero k inside = (refl, inside)
filler_first plan (suc r) k inside = absurd (omega (arith, later_filler plan r))

pub length-code_block : (plan : Plan) (joined : List Bit) (r : ℕ) → length (code_block plan joined r) ≡ plan.size
length-code_block plan joined r = length-map-range_with_len (block_bit plan joined r) 0 plan.size

pub code_block-at : (plan : Plan) (joined : List Bit) (r k : ℕ) → k < plan.size → get_or (code_block plan joined r) k Zero ≡ block_bit plan joined r k
code_block-at plan joined r k inside = get_or-map-range_with_len (block_bit plan joined r) 0 plan.size k k Zero inside (omega arith)

-- each code block begins with its filler
pub code_block-filled : (plan : Plan) (joined : List Bit) (r : ℕ) → plan.filler ≤ plan.size → IsBlock plan.size (filler_of plan r) (code_block plan joined r)
code_block-filled plan joined r short = record {
  sized = length-code_block plan joined r;
  filled = λ k inside.
      let first = filler_first plan r k inside in
      let place : r * plan.size + k < plan.filler = rw first.0 (omega (arith, first.1)) in
      code_block-at plan joined r k (omega (arith, first.1)) ∙ grind (arith, nat_tests, place);
}

-- blocks whose first one begins with the filler hold the bits after it
pub blocks_hold : (plan : Plan) (joined blocks : List Bit) → joined ≡ drop plan.filler blocks → ((k : ℕ) → k < plan.filler → get_or blocks k Zero ≡ Zero) → HoldsBlocks plan joined blocks
blocks_hold plan joined blocks is filled r k inside within = elim (cases_lt (r * plan.size + k) plan.filler) [
  | inl early ↦ filled (r * plan.size + k) early ∙ grind (arith, nat_tests, early)
  | inr past ↦
      let n : ℕ = r * plan.size + k in
      let there : plan.filler + (n - plan.filler) ≡ n = omega arith in
      let test : nat_lt n plan.filler ≡ false = grind (arith, nat_tests, past) in
      let bit : get_or joined (n - plan.filler) Zero ≡ get_or blocks n Zero =
      ap (λ xs. get_or xs (n - plan.filler) Zero) is ∙ get_or-drop plan.filler blocks (n - plan.filler) Zero ∙ ap (λ i. get_or blocks i Zero) there in
      sym bit ∙ rw test refl
]

-- a block that is read begins with its filler
pub read_filled : (coding : Coding) (votes : List Vote) (filler : ℕ) (block : List Bit) (k : ℕ) → (coding ≡ Uncoded → filler ≡ 0) → IsRead coding votes filler block → k < filler → get_or block k Zero ≡ Zero
read_filled Uncoded votes filler block k none read inside = absurd (omega (arith, none refl))
read_filled Half votes filler block k none read inside = read.shape.filled k inside
read_filled Third votes filler block k none read inside = read.shape.filled k inside

uncoded_filler : (x : ℕ) → (plan_of x Uncoded).filler ≡ 0
uncoded_filler x = grind (arith, nat_tests)

pub no_filler : (x : ℕ) (coding : Coding) → coding ≡ Uncoded → (plan_of x coding).filler ≡ 0
no_filler x coding is = rw is (uncoded_filler x)

-- the joined bits are those of the blocks that are read
pub all_read : (coding : Coding) (plan : Plan) (votes : List Vote) (blocks joined : List Bit) → (0 < plan.blocks → plan.filler < plan.size) → (coding ≡ Uncoded → plan.filler ≡ 0) → length blocks ≡ plan.blocks * plan.size → joined ≡ drop plan.filler blocks → ((r : ℕ) → r < plan.blocks → IsRead coding (part r (coded_block coding plan.size) votes) (filler_of plan r) (part r plan.size blocks)) → (r : ℕ) → r < plan.blocks → IsRead coding (part r (coded_block coding plan.size) votes) (filler_of plan r) (code_block plan joined r)
all_read coding plan votes blocks joined short none long is read r inside =
    let some : 0 < plan.blocks = omega arith in
    let filled : (k : ℕ) → k < plan.filler → get_or blocks k Zero ≡ Zero = λ k early.
    let first : 0 * plan.size + k ≡ k = omega arith in
    ap (λ i. get_or blocks i Zero) (sym first)
    ∙ sym (get_or-part blocks plan.size 0 k Zero (omega (arith, short some)))
    ∙ read_filled coding (part 0 (coded_block coding plan.size) votes) plan.filler (part 0 plan.size blocks) k none (read 0 some) early in
    subst (λ block. IsRead coding (part r (coded_block coding plan.size) votes) (filler_of plan r) block) (block_held plan joined blocks r (blocks_hold plan joined blocks is filled) long inside) (read r inside)

-- the code of a block has one length
pub length-coded_as : (coding : Coding) (block : List Bit) → length (coded_as coding block) ≡ coded_block coding (length block)
length-coded_as Uncoded block = refl
length-coded_as Half block = length-encoded HalfRate block
length-coded_as Third block = length-encoded ThirdRate block

pub length-coded_blocks : (coding : Coding) (plan : Plan) (joined : List Bit) (n : ℕ) → length (coded_blocks coding plan joined n) ≡ n * coded_block coding plan.size
unfolding coded_blocks
length-coded_blocks coding plan joined zero = omega arith
length-coded_blocks coding plan joined (suc n) =
    length-append (coded_blocks coding plan joined n) (coded_as coding (code_block plan joined n))
    ∙ omega (arith, length-coded_blocks coding plan joined n, length-coded_as coding (code_block plan joined n), ap (coded_block coding) (length-code_block plan joined n))

-- the code of block r among all
pub coded_blocks-at : (coding : Coding) (plan : Plan) (joined : List Bit) (n r t : ℕ) → r < n → t < coded_block coding plan.size → get_or (coded_blocks coding plan joined n) (r * coded_block coding plan.size + t) Zero ≡ get_or (coded_as coding (code_block plan joined r)) t Zero
unfolding coded_blocks
coded_blocks-at coding plan joined zero r t inside within = absurd (omega arith)
coded_blocks-at coding plan joined (suc n) r t inside within =
    let len : ℕ = coded_block coding plan.size in
    let long : length (coded_blocks coding plan joined n) ≡ n * len = length-coded_blocks coding plan joined n in
    elim (cases_lt r n) [
      | inl early ↦
          get_or_append_left (coded_blocks coding plan joined n) (coded_as coding (code_block plan joined n)) Zero (r * len + t) (omega (arith, long, part_fits n len r early))
          ∙ coded_blocks-at coding plan joined n r t early within
      | inr last ↦
          let same : r ≡ n = omega arith in
          let place : r * len + t - n * len ≡ t = rw same (omega arith) in
          get_or-append_right (coded_blocks coding plan joined n) (coded_as coding (code_block plan joined n)) (n * len) (r * len + t) Zero long (rw same (omega arith))
          ∙ rw (place, same) refl
    ]

-- the joined bits stand in their code blocks
pub same_blocks : (plan : Plan) (joined sent : List Bit) → plan.filler + length joined ≡ plan.blocks * plan.size → length joined ≡ length sent → ((r : ℕ) → r < plan.blocks → code_block plan joined r ≡ code_block plan sent r) → joined ≡ sent
same_blocks plan joined sent whole long same = ext_get_or Zero joined sent long (λ i inside.
    let size : ℕ = plan.size in
    let n : ℕ = plan.filler + i in
    let within : n < plan.blocks * size = omega (arith, whole) in
    let some : 0 < size = some_size plan.blocks size n within in
    let r : ℕ = n / size in
    let k : ℕ = n % size in
    let row : r < plan.blocks = div_below n size plan.blocks some within in
    let small : k < size = mod_below n size some in
    let place : r * size + k ≡ n = div-add-mod' n size in
    sym (bit_at joined r k i small place)
    ∙ ap (λ block. get_or block k Zero) (same r row)
    ∙ bit_at sent r k i small place)
  where
    some_size : (blocks size n : ℕ) → n < blocks * size → 0 < size
    some_size blocks zero n inside = absurd (omega arith)
    some_size blocks (suc size) n inside = omega arith

    bit_at : (bits : List Bit) (r k i : ℕ) → k < plan.size → r * plan.size + k ≡ plan.filler + i → get_or (code_block plan bits r) k Zero ≡ get_or bits i Zero
    bit_at bits r k i small place =
        let test : nat_lt (r * plan.size + k) plan.filler ≡ false = grind (arith, nat_tests, place) in
        let rest : r * plan.size + k - plan.filler ≡ i = omega (arith, place) in
        code_block-at plan bits r k small ∙ rw (test, rest) refl

-- a step of the loop over the blocks
pub read_here : (coding : Coding) (plan : Plan) (votes : List Vote) (blocks new : List Bit) (r len f v k : ℕ) → r * plan.size ≤ length blocks → v ≡ len → f ≡ filler_of plan r → length new ≡ plan.size → IsRead coding (take v (drop (r * len) votes)) f new → IsRead coding (part r len votes) (filler_of plan r) (part r plan.size (put_mid (r * plan.size) k blocks new))
read_here coding plan votes blocks new r len f v k room width fill long read =
    subst (λ block. IsRead coding (part r len votes) (filler_of plan r) block) (sym (part-put_here blocks new plan.size r k room long))
    (subst (λ f. IsRead coding (part r len votes) f new) fill
    (subst (λ v. IsRead coding (take v (drop (r * len) votes)) f new) width read))

pub read_earlier : (coding : Coding) (plan : Plan) (votes : List Vote) (blocks new : List Bit) (r q len k : ℕ) → q < r → r * plan.size ≤ length blocks → IsRead coding (part q len votes) (filler_of plan q) (part q plan.size blocks) → IsRead coding (part q len votes) (filler_of plan q) (part q plan.size (put_mid (r * plan.size) k blocks new))
read_earlier coding plan votes blocks new r q len k earlier room read =
    subst (λ block. IsRead coding (part q len votes) (filler_of plan q) block) (sym (part-put_earlier blocks new plan.size r q k earlier room)) read

-- the plan of some bits
pub plan_short : (plan : Plan) (x : ℕ) (coding : Coding) → plan ≡ plan_of x coding → 0 < plan.blocks → plan.filler < plan.size
plan_short plan x coding is = rw is (filler_short x 0 coding)

pub plan_uncoded : (plan : Plan) (x : ℕ) (coding : Coding) → plan ≡ plan_of x coding → coding ≡ Uncoded → plan.filler ≡ 0
plan_uncoded plan x coding is = rw is (no_filler x coding)

pub plan_room : (plan : Plan) (x : ℕ) (coding : Coding) → plan ≡ plan_of x coding → plan.blocks * plan.size ≤ coded_bits coding x
plan_room plan x coding is = rw is (blocks_le x coding)
