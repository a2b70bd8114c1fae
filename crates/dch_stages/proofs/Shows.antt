-- What the cells of a loaded TTI show, and what comes in where a coded bit is put out.
use Rattle.std.proofs.Common.{◌≡◌, ◌+◌, ◌-◌, ◌*◌, ◌/◌, ◌%◌, ◌<◌, ◌≤◌, ◌∙◌, ℕ, List, IfSome, length, get_or, reverse, arith, refl, ap, sym, subst, inl, inr}
use Rattle.std.specs.Prelude.{nat_lt, true, false}
use Rattle.std.proofs.lemmas.Grind.{div_ceil_times}
use Rattle.std.proofs.lemmas.Bool.{cases_lt}
use Rattle.std.proofs.lemmas.Bool.Decides.{nat_tests}
use Rattle.std.proofs.lemmas.List.{get_or_append_left, get_or_past}
use Rattle.std.proofs.lemmas.Nat.{div-add-mod', mod_below}
use Rattle.std.proofs.Math.Nat.{div-lt_iff_lt-mul}
use Rattle.dch_bits.specs.declared.bit.Bit.{Bit}
use Rattle.dch_bits.specs.declared.bit.Bit.TheVariants.{Zero}
use Rattle.dch_types.specs.declared.channel.Coding.{Coding}
use Rattle.dch_types.specs.declared.channel.Coding.TheVariants.{Uncoded, Half, Third}
use Rattle.dch_types.specs.declared.channel.Dir.{Dir}
use Rattle.dch_types.specs.declared.channel.Dir.TheVariants.{Up, Down}
use Rattle.dch_types.specs.declared.channel.Format.{Format}
use Rattle.dch_types.specs.declared.channel.Trch.{Trch}
use Rattle.dch_types.proofs.Sizes.{block_count-some}
use Rattle.dch_types.specs.Lengths.{block_count, block_size, coded_bits, coded_block, crc_size, joined_bits, padded, tti_bits}
use Rattle.dch_types.specs.Parts.{channel_at, format_at}
use Rattle.dch_coding.proofs.Attached.{length-attached}
use Rattle.dch_coding.proofs.Codes.{encoded-at}
use Rattle.dch_coding.specs.Chain.{code_block, coded_as, coded_blocks}
use Rattle.dch_coding.specs.Segments.{block_bit as plan_bit, plan_of}
use Rattle.dch_coding.specs.Ttis.{AreJoined, IsCodedTti, part}
use Rattle.dch_coding.specs.declared.cut.Plan.{Plan}
use Rattle.dch_coding.specs.declared.rate.Rate.TheVariants.{Half as HalfRate, Third as ThirdRate}
use Rattle.dch_frame.specs.Stages.{as_cell}
use Rattle.dch_inter.specs.Places.{first_of}
use Rattle.dch_accept.specs.Plans.{Planned}
use Rattle.dch_tti.proofs.Blocks.{code_block-at, coded_blocks-at, length-code_block, length-coded_blocks}
use Rattle.dch_tti.proofs.Parts.{get_or-part, length-part, part_fits}
use Rattle.dch_tti.specs.Loaded.{Loaded}
use Rattle.dch_ulphy.specs.Loaded.{IsLoaded as IsUpLoaded}
use Rattle.dch_dlphy.specs.Loaded.{IsLoaded as IsDownLoaded, filled_cell, matching_of}
use Rattle.dch_frame.specs.Patterns.{copies_below}
use Rattle.dch_frame.specs.declared.pattern.Pattern.{Pattern}
use Rattle.dch_stages.proofs.PlaceBounds.{some_right}
use Rattle.dch_stages.specs.Places.{bit_of, block_bit, cells_of_tti, kept_bit, outputs_of, padded_bit, shown_at, step_bit}
use Rattle.dch_stages.specs.Shows.{AreShown, IsLoaded, IsPutOut, cell_of, output, plan_in, step_of}

-- ---- cells

coded_long : (channel : Trch) (format : Format) (bits coded : List Bit) → IsCodedTti channel format bits coded → length coded ≡ tti_bits channel format
unfolding tti_bits
coded_long channel format bits coded is =
    let own : Plan = plan_of (length is.joined) channel.coding in
    ap length is.coded ∙ length-coded_blocks channel.coding own is.joined own.blocks ∙ ap (λ x. coded_bits channel.coding x) is.are.whole

padded_cell : (channel : Trch) (format : Format) (coded : List Bit) (k : ℕ) → length coded ≡ tti_bits channel format → as_cell (get_or coded k Zero) ≡ cell_of Up coded (padded_bit channel format k)
padded_cell channel format coded k long = elim (cases_lt k (tti_bits channel format)) [
  | inl inside ↦ let test : nat_lt k (tti_bits channel format) ≡ true = grind (arith, nat_tests, inside) in rw test refl
  | inr past ↦ let test : nat_lt k (tti_bits channel format) ≡ false = grind (arith, nat_tests, past) in rw test (ap as_cell (get_or_past coded k Zero (omega (arith, long, past))))
]

kept_cell : (pattern : Pattern) (coded : List Bit) (k : ℕ) → filled_cell pattern coded k ≡ cell_of Down coded (kept_bit pattern k)
unfolding filled_cell
kept_cell pattern coded k = elim (cases_lt k (copies_below pattern.kind pattern.len)) [
  | inl inside ↦ let test : nat_lt k (copies_below pattern.kind pattern.len) ≡ true = grind (arith, nat_tests, inside) in rw test refl
  | inr past ↦ let test : nat_lt k (copies_below pattern.kind pattern.len) ≡ false = grind (arith, nat_tests, past) in rw test refl
]

up_shown : (planned : Planned) (i f : ℕ) (bits : List Bit) (loaded : Loaded) → IsUpLoaded planned i f bits loaded → AreShown planned Up i f bits loaded
unfolding shown_at
up_shown planned i f bits loaded is =
    let channel : Trch = channel_at planned.config.uplink.side i in
    let format : Format = format_at channel f in
    let long : length is.coded ≡ tti_bits channel format = coded_long channel format bits is.coded is.is in
    let all : length loaded.cells ≡ padded (tti_bits channel format) channel.frames = is.cells.long ∙ ap (λ n. padded n channel.frames) long in
    record {
      coded = is.coded;
      is = is.is;
      long = all;
      shown = λ p inside. is.cells.shown p (omega (arith, inside, all)) ∙ ap (λ n. as_cell (get_or is.coded (first_of channel.frames n p) Zero)) all
          ∙ padded_cell channel format is.coded (first_of channel.frames (padded (tti_bits channel format) channel.frames) p) long;
    }

down_shown : (planned : Planned) (i f : ℕ) (bits : List Bit) (loaded : Loaded) → IsDownLoaded planned i f bits loaded → AreShown planned Down i f bits loaded
unfolding shown_at
down_shown planned i f bits loaded is =
    let channel : Trch = channel_at planned.config.downlink.side i in
    let pattern : Pattern = (matching_of planned i f).pattern in
    record {
      coded = is.coded;
      is = is.is;
      long = is.cells.long;
      shown = λ p inside. is.cells.shown p (omega (arith, inside, is.cells.long)) ∙ ap (λ n. filled_cell pattern is.coded (first_of channel.frames n p)) is.cells.long
          ∙ kept_cell pattern is.coded (first_of channel.frames (cells_of_tti planned Down i f) p);
    }

pub are_shown : (planned : Planned) (dir : Dir) (i f : ℕ) (bits : List Bit) (loaded : Loaded) → IsLoaded planned dir i f bits loaded → AreShown planned dir i f bits loaded
are_shown planned Up i f bits loaded is = up_shown planned i f bits loaded is
are_shown planned Down i f bits loaded is = down_shown planned i f bits loaded is

-- ---- bits

-- coded bit n of all code blocks, in its own
coded_at : (coding : Coding) (plan : Plan) (joined : List Bit) (n : ℕ) → n < plan.blocks * coded_block coding plan.size → get_or (coded_blocks coding plan joined plan.blocks) n Zero
    ≡ get_or (coded_as coding (code_block plan joined (n / coded_block coding plan.size))) (n % coded_block coding plan.size) Zero
coded_at coding plan joined n inside =
    let long : ℕ = coded_block coding plan.size in
    let some : 0 < long = some_right plan.blocks long n inside in
    let row : n / long < plan.blocks = (div-lt_iff_lt-mul some).1 inside in
    ap (λ m. get_or (coded_blocks coding plan joined plan.blocks) m Zero) (sym (div-add-mod' n long))
    ∙ coded_blocks-at coding plan joined plan.blocks (n / long) (n % long) row (mod_below n long some)

-- bit m of a code, by its step
output_at : (coding : Coding) (block : List Bit) (m : ℕ) → m < coded_block coding (length block) → get_or (coded_as coding block) m Zero ≡ output coding block (m / outputs_of coding) (m % outputs_of coding)
output_at Uncoded block m inside = let same : m ≡ m / 1 = omega arith in ap (λ i. get_or block i Zero) same
output_at Half block m inside = encoded-at HalfRate block m inside
output_at Third block m inside = encoded-at ThirdRate block m inside

-- the transport block bit at a place of the joined bits
joined_bit : (channel : Trch) (format : Format) (bits joined : List Bit) (q : ℕ) → AreJoined channel format bits joined → q < joined_bits channel format
    → IfSome (block_bit format.size (format.size + crc_size channel.crc) q) (λ k. (k < format.number * format.size) × (get_or joined q Zero ≡ get_or bits k Zero))
unfolding block_bit
joined_bit channel format bits joined q are inside =
    let size : ℕ = format.size in
    let attached : ℕ = size + crc_size channel.crc in
    let some : 0 < attached = some_right format.number attached q inside in
    let i : ℕ = q / attached in
    let t : ℕ = q % attached in
    let row : i < format.number = (div-lt_iff_lt-mul some).1 inside in
    let within : t < attached = mod_below q attached some in
    elim (cases_lt t size) [
      | inl own ↦
          let test : nat_lt t size ≡ true = grind (arith, nat_tests, own) in
          let block : List Bit = part i size bits in
          let is = are.parts i row in
          let whole : length (part i attached joined) ≡ attached = length-part joined format.number attached i row (omega (arith, are.whole)) in
          let long : length block ≡ size = omega (arith, whole, length-attached channel.crc block (part i attached joined) is) in
          let same : get_or joined q Zero ≡ get_or bits (i * size + t) Zero =
          ap (λ n. get_or joined n Zero) (sym (div-add-mod' q attached)) ∙ sym (get_or-part joined attached i t Zero within)
          ∙ ap (λ xs. get_or xs t Zero) is.whole ∙ get_or_append_left block (reverse is.parity) Zero t (omega (arith, own, long)) ∙ get_or-part bits size i t Zero own in
          rw test (omega (arith, part_fits format.number size i row, own), same)
      | inr parity ↦ let test : nat_lt t size ≡ false = grind (arith, nat_tests, parity) in rw test tt
    ]

-- the one that comes in at a step of a code block
step_input : (channel : Trch) (format : Format) (bits joined : List Bit) (plan : Plan) (r step : ℕ) → AreJoined channel format bits joined → plan.filler + joined_bits channel format ≡ plan.blocks * plan.size → r < plan.blocks
    → IfSome (step_bit channel format plan r step) (λ k. (k < format.number * format.size) × (get_or (code_block plan joined r) step Zero ≡ get_or bits k Zero))
step_input channel format bits joined plan r step are whole row = elim (cases_lt step plan.size) [
  | inl inside ↦
      let test : nat_lt step plan.size ≡ true = grind (arith, nat_tests, inside) in
      let b : ℕ = r * plan.size + step in
      let here : get_or (code_block plan joined r) step Zero ≡ plan_bit plan joined r step = code_block-at plan joined r step inside in
      rw test (elim (cases_lt b plan.filler) [
        | inl filled ↦ let none : nat_lt b plan.filler ≡ true = grind (arith, nat_tests, filled) in rw none tt
        | inr past ↦
            let own : nat_lt b plan.filler ≡ false = grind (arith, nat_tests, past) in
            let q : b - plan.filler < joined_bits channel format = omega (arith, part_fits plan.blocks plan.size r row, whole, past, inside) in
            let bit : plan_bit plan joined r step ≡ get_or joined (b - plan.filler) Zero = rw own refl in
            rw own (moved channel format bits joined (b - plan.filler) (code_block plan joined r) step (here ∙ bit) (joined_bit channel format bits joined (b - plan.filler) are q))
      ])
  | inr tail ↦ let test : nat_lt step plan.size ≡ false = grind (arith, nat_tests, tail) in rw test tt
]
  where
    moved : (channel : Trch) (format : Format) (bits joined : List Bit) (q : ℕ) (block : List Bit) (step : ℕ) → get_or block step Zero ≡ get_or joined q Zero
        → IfSome (block_bit format.size (format.size + crc_size channel.crc) q) (λ k. (k < format.number * format.size) × (get_or joined q Zero ≡ get_or bits k Zero))
        → IfSome (block_bit format.size (format.size + crc_size channel.crc) q) (λ k. (k < format.number * format.size) × (get_or block step Zero ≡ get_or bits k Zero))
    moved channel format bits joined q block step same is = subst (λ (x : Bit). IfSome (block_bit format.size (format.size + crc_size channel.crc) q) (λ k. (k < format.number * format.size) × (x ≡ get_or bits k Zero))) (sym same) is

-- the filler and the joined bits fill the code blocks
covered : (x c : ℕ) → (0 < x → 0 < c) → x ≤ c * block_size x c
covered x c some = grind (arith, nat_tests, div_ceil_times x c)

whole_of : (x : ℕ) (coding : Coding) → (plan_of x coding).filler + x ≡ (plan_of x coding).blocks * (plan_of x coding).size
whole_of x coding = omega (arith, covered x (block_count x coding) (block_count-some x coding))

pub is_put_out : (channel : Trch) (format : Format) (bits joined : List Bit) (n : ℕ) → AreJoined channel format bits joined → n < tti_bits channel format → IsPutOut channel format bits joined n
unfolding tti_bits bit_of
is_put_out channel format bits joined n are inside =
    let coding : Coding = channel.coding in
    let plan : Plan = plan_in channel format in
    let long : ℕ = coded_block coding plan.size in
    let some : 0 < long = some_right plan.blocks long n inside in
    let r : ℕ = n / long in
    let row : r < plan.blocks = (div-lt_iff_lt-mul some).1 inside in
    let block : List Bit = code_block plan joined r in
    let within : n % long < coded_block coding (length block) = subst (λ k. n % long < coded_block coding k) (sym (length-code_block plan joined r)) (mod_below n long some) in
    record {
      out = ap (λ x. let p : Plan = plan_of x coding in get_or (coded_blocks coding p joined p.blocks) n Zero) are.whole ∙ coded_at coding plan joined n inside ∙ output_at coding block (n % long) within;
      comes = step_input channel format bits joined plan r (step_of channel format n) are (whole_of (joined_bits channel format) coding) row;
    }
