-- The code blocks of a TTI, and their codes, as parts of all.
use Rattle.std.proofs.Common.{◌≡◌, ◌+◌, ◌*◌, ◌<◌, ◌≤◌, ℕ, List, ◌++◌, length, drop, replicate, get_or, arith, ap, ap₂, sym, subst, ◌∙◌, length-append}
use Rattle.std.proofs.lemmas.List.{drop_at, ext_get_or, get_or_append_left, get_or-replicate, length-replicate}
use Rattle.dch_bits.specs.declared.bit.Bit.{Bit}
use Rattle.dch_bits.specs.declared.bit.Bit.TheVariants.{Zero}
use Rattle.dch_types.specs.declared.channel.Coding.{Coding}
use Rattle.dch_types.specs.declared.channel.Format.{Format}
use Rattle.dch_types.specs.declared.channel.Trch.{Trch}
use Rattle.dch_types.specs.Lengths.{coded_bits, coded_block, joined_bits, tti_bits}
use Rattle.dch_coding.proofs.Blocks.{block_held}
use Rattle.dch_coding.proofs.Lengths.{joined_short}
use Rattle.dch_coding.specs.Chain.{coded_as, code_block, coded_blocks, coded_of}
use Rattle.dch_coding.specs.Cuts.{HoldsBlocks}
use Rattle.dch_coding.specs.Segments.{plan_of}
use Rattle.dch_coding.specs.Ttis.{part}
use Rattle.dch_coding.specs.declared.cut.Plan.{Plan}
use Rattle.dch_tti.proofs.Blocks.{blocks_hold, coded_blocks-at, length-code_block, length-coded_as, length-coded_blocks}
use Rattle.dch_tti.proofs.Parts.{get_or-part, length-part, part_fits}
use Rattle.dch_stages.specs.Coded.{AreCut, Coded}

-- the filler stands before the joined bits
filled_zero : (n k : ℕ) (joined : List Bit) → k < n → get_or (replicate n Zero ++ joined) k Zero ≡ Zero
filled_zero n k joined inside =
    get_or_append_left (replicate n Zero) joined Zero k (omega (arith, length-replicate n Zero)) ∙ get_or-replicate n k Zero Zero inside

filled_hold : (plan : Plan) (joined blocks : List Bit) → blocks ≡ replicate plan.filler Zero ++ joined → HoldsBlocks plan joined blocks
filled_hold plan joined blocks is =
    blocks_hold plan joined blocks
    (sym (drop_at (replicate plan.filler Zero) joined plan.filler (length-replicate plan.filler Zero)) ∙ sym (ap (λ xs. drop plan.filler xs) is))
    (λ k inside. ap (λ xs. get_or xs k Zero) is ∙ filled_zero plan.filler k joined inside)

-- part r of the blocks is code block r
pub part-blocks : (plan : Plan) (joined blocks : List Bit) (r : ℕ) → blocks ≡ replicate plan.filler Zero ++ joined → length blocks ≡ plan.blocks * plan.size → r < plan.blocks → part r plan.size blocks ≡ code_block plan joined r
part-blocks plan joined blocks r is long inside = block_held plan joined blocks r (filled_hold plan joined blocks is) long inside

-- part r of the coded bits is its code
pub part-coded_blocks : (coding : Coding) (plan : Plan) (joined : List Bit) (n r : ℕ) → r < n → part r (coded_block coding plan.size) (coded_blocks coding plan joined n) ≡ coded_as coding (code_block plan joined r)
part-coded_blocks coding plan joined n r inside =
    let len : ℕ = coded_block coding plan.size in
    let all : List Bit = coded_blocks coding plan joined n in
    let one : length (part r len all) ≡ len = length-part all n len r inside (omega (arith, length-coded_blocks coding plan joined n)) in
    let other : length (coded_as coding (code_block plan joined r)) ≡ len = length-coded_as coding (code_block plan joined r) ∙ ap (coded_block coding) (length-code_block plan joined r) in
    ext_get_or Zero (part r len all) (coded_as coding (code_block plan joined r)) (one ∙ sym other)
    (λ t within. get_or-part all len r t Zero (omega (arith, one, within)) ∙ coded_blocks-at coding plan joined n r t inside (omega (arith, one, within)))

-- the parts of the stages of a TTI by its plan
own_plan : (channel : Trch) (format : Format) (stages : Coded) (plan : Plan) → AreCut channel format stages → plan ≡ plan_of (joined_bits channel format) channel.coding → plan ≡ plan_of (length stages.joined) channel.coding
own_plan channel format stages plan cut is = is ∙ ap (λ x. plan_of x channel.coding) (sym cut.whole)

pub block-at : (channel : Trch) (format : Format) (stages : Coded) (plan : Plan) (r : ℕ) → AreCut channel format stages → plan ≡ plan_of (joined_bits channel format) channel.coding → plan.filler + joined_bits channel format ≡ plan.blocks * plan.size → r < (plan_of (length stages.joined) channel.coding).blocks → part r plan.size stages.blocks ≡ code_block (plan_of (length stages.joined) channel.coding) stages.joined r
block-at channel format stages plan r cut is whole inside =
    let own : Plan = plan_of (length stages.joined) channel.coding in
    let same : plan ≡ own = own_plan channel format stages plan cut is in
    let all : own.filler + joined_bits channel format ≡ own.blocks * own.size = subst (λ (p : Plan). p.filler + joined_bits channel format ≡ p.blocks * p.size) same whole in
    let long : length stages.blocks ≡ own.blocks * own.size = ap length cut.blocks ∙ length-append (replicate own.filler Zero) stages.joined ∙ ap₂ (λ (a b : ℕ). a + b) (length-replicate own.filler Zero) cut.whole ∙ all in
    subst (λ (p : Plan). part r p.size stages.blocks ≡ code_block own stages.joined r) (sym same) (part-blocks own stages.joined stages.blocks r cut.blocks long inside)

own_length : (channel : Trch) (format : Format) (stages : Coded) (plan : Plan) (len : ℕ) → AreCut channel format stages → plan ≡ plan_of (joined_bits channel format) channel.coding → len ≡ coded_block channel.coding plan.size → len ≡ coded_block channel.coding (plan_of (length stages.joined) channel.coding).size
own_length channel format stages plan len cut is long = long ∙ ap (λ (p : Plan). coded_block channel.coding p.size) (own_plan channel format stages plan cut is)

pub coded_fits : (channel : Trch) (format : Format) (stages : Coded) (plan : Plan) (len r : ℕ) → AreCut channel format stages → plan ≡ plan_of (joined_bits channel format) channel.coding → len ≡ coded_block channel.coding plan.size → r < (plan_of (length stages.joined) channel.coding).blocks → r * len + len ≤ length stages.coded
coded_fits channel format stages plan len r cut is long inside =
    let own : Plan = plan_of (length stages.joined) channel.coding in
    let size : ℕ = coded_block channel.coding own.size in
    let all : length stages.coded ≡ own.blocks * size = ap length cut.coded ∙ length-coded_blocks channel.coding own stages.joined own.blocks in
    subst (λ n. r * n + n ≤ length stages.coded) (sym (own_length channel format stages plan len cut is long)) (subst (λ n. r * size + size ≤ n) (sym all) (part_fits own.blocks size r inside))

pub coded-at : (channel : Trch) (format : Format) (stages : Coded) (plan : Plan) (len r : ℕ) → AreCut channel format stages → plan ≡ plan_of (joined_bits channel format) channel.coding → len ≡ coded_block channel.coding plan.size → r < (plan_of (length stages.joined) channel.coding).blocks → part r len stages.coded ≡ coded_as channel.coding (code_block (plan_of (length stages.joined) channel.coding) stages.joined r)
coded-at channel format stages plan len r cut is long inside =
    let own : Plan = plan_of (length stages.joined) channel.coding in
    ap (λ xs. part r len xs) cut.coded
    ∙ ap (λ n. part r n (coded_of channel.coding stages.joined)) (own_length channel format stages plan len cut is long)
    ∙ part-coded_blocks channel.coding own stages.joined own.blocks r inside

-- the coded bits are as many as the format has
pub coded_long : (channel : Trch) (format : Format) (stages : Coded) → AreCut channel format stages → length stages.coded ≡ tti_bits channel format
unfolding tti_bits
coded_long channel format stages cut =
    let own : Plan = plan_of (length stages.joined) channel.coding in
    ap length cut.coded ∙ length-coded_blocks channel.coding own stages.joined own.blocks ∙ ap (λ x. coded_bits channel.coding x) cut.whole

-- the joined bits are no more
pub joined_few : (channel : Trch) (format : Format) (stages : Coded) → AreCut channel format stages → length stages.joined ≤ tti_bits channel format
joined_few channel format stages cut = subst (λ n. n ≤ tti_bits channel format) (sym cut.whole) (joined_short channel format)
