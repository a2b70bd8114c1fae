-- The cells of a TTI whose radio frames are kept as they were written.
use Rattle.std.proofs.Common.{◌≡◌, ◌+◌, ◌-◌, ◌*◌, ◌%◌, ◌/◌, ◌<◌, ◌≤◌, ℕ, zero, suc, List, length, get_or, arith, refl, ap, sym, ◌∙◌, inl, inr, add-one}
use Rattle.std.specs.Prelude.{nat_lt, true, slice_index}
use Rattle.std.proofs.lemmas.Bool.{cases_lt}
use Rattle.std.proofs.lemmas.Bool.Decides.{nat_tests}
use Rattle.std.proofs.Math.Nat.{mul-mod_right}
use Rattle.dch_bits.specs.declared.bit.Bit.{Bit}
use Rattle.dch_bits.specs.declared.bit.Bit.TheVariants.{Zero}
use Rattle.dch_bits.specs.declared.bit.Trit.TheVariants.{Off}
use Rattle.dch_types.specs.declared.channel.Dir.TheVariants.{Down}
use Rattle.dch_types.specs.declared.channel.Side.{Side}
use Rattle.dch_types.specs.Limits.{IsDownlink, IsFrames}
use Rattle.dch_types.specs.Parts.{channel_at}
use Rattle.dch_inter.specs.Places.{first_of, first_back_of, frame_of, place_of}
use Rattle.dch_inter.proofs.FirstColumns.{first_of-back, first_back_of-inside, frame_of-below, frame_place}
use Rattle.dch_frame.specs.declared.pattern.Pattern.{Pattern}
use Rattle.dch_frame.specs.Downlinks.{IsDownlinkPlan}
use Rattle.dch_types.specs.Lengths.{code_bits, frame_bits}
use Rattle.dch_frame.specs.Patterns.{copies_below}
use Rattle.dch_types.proofs.Sums.{part_le}
use Rattle.dch_frame.specs.Stages.{as_cell, code_back, origin_of}
use Rattle.dch_frame.proofs.Carried.{place_inside, rows_of, whole_rows}
use Rattle.dch_frame.proofs.Codes.{code_back-inside, code_place-back}
use Rattle.dch_accept.specs.Plans.{Planned}
use Rattle.dch_tti.specs.RxFrames.{RxFrame, RxFrames, frame_at}
use Rattle.dch_tti.specs.Loaded.{Loaded, loaded_at}
use Rattle.dch_tti.proofs.Sent.{sent_number}
use Rattle.dch_dlphy.specs.Frames.{multiplexed, multiplexed_cell, bits_before, bits_per_frame, sent_cell}
use Rattle.dch_dlphy.specs.Loaded.{filled_cell, matching_of, tti_cells}
use Rattle.dch_dlphy.specs.Read.{received_cell, tti_cell, tti_pattern}
use Rattle.dch_dlphy.specs.Sent.{IsSentFrame, IsSentTti}
use Rattle.dch_dlphy.proofs.Sent.{multiplexed_before, multiplexed_here}

add_less : (a q : ℕ) → a + q - a ≡ q
add_less a q = omega arith

-- a place of channel i shows what that channel sends, however many channels follow
multiplexed_at : (planned : Planned) (tti : List Loaded) (cfn c count i q : ℕ) → i < count → q < bits_per_frame planned c i → multiplexed_cell planned tti cfn c count (bits_before planned c i + q) ≡ sent_cell planned tti cfn c i q
multiplexed_at planned tti cfn c zero i q inside early = absurd (omega arith)
multiplexed_at planned tti cfn c (suc count) i q inside early =
    let more : count + 1 ≡ suc count = add-one count in
    elim (cases_lt i count) [
      | inl before ↦
          let room : bits_before planned c i + bits_per_frame planned c i ≤ bits_before planned c count = part_le (bits_per_frame planned c) i count before in
          ap (λ n. multiplexed_cell planned tti cfn c n (bits_before planned c i + q)) (sym more)
          ∙ multiplexed_before planned tti cfn c count (bits_before planned c i + q) (omega (arith, room, early))
          ∙ multiplexed_at planned tti cfn c count i q before early
      | inr past ↦
          let here : i ≡ count = omega arith in
          let low : bits_before planned c i + q - bits_before planned c i < bits_per_frame planned c i = omega (arith, early) in
          ap (λ n. multiplexed_cell planned tti cfn c n (bits_before planned c i + q)) (sym more)
          ∙ ap (λ n. multiplexed_cell planned tti cfn c (n + 1) (bits_before planned c i + q)) (sym here)
          ∙ multiplexed_here planned tti cfn c i (bits_before planned c i + q) (omega arith) low
          ∙ ap (sent_cell planned tti cfn c i) (add_less (bits_before planned c i) q)
    ]

-- a multiplexed cell of a frame that is kept as it was written
kept_cell : (planned : Planned) (i n c : ℕ) (loaded : Loaded) (kept : RxFrame) (sent : IsSentFrame planned i n c loaded kept) (p : ℕ) → IsDownlink planned.config.downlink → p < frame_bits planned.config.downlink → get_or kept.cells p Off ≡ multiplexed_cell planned sent.tti sent.cfn c (length planned.config.downlink.side.channels) p
kept_cell planned i n c loaded kept sent p good inside =
    let ndata : ℕ = frame_bits planned.config.downlink in
    let v : ℕ = code_bits planned.config.downlink in
    let long : length sent.frame.cells ≡ ndata = sent.written.long in
    let some : 0 < v = omega (arith, good.some_bits) in
    let whole : ndata % v ≡ 0 = mul-mod_right v planned.config.downlink.codes in
    let there : code_back v p < ndata = code_back-inside ndata v p whole some inside in
    sent.back.shown p (omega (arith, sent.back.whole, long, inside))
    ∙ sent.written.cells (code_back v p) (omega (arith, there, long))
    ∙ ap (multiplexed_cell planned sent.tti sent.cfn c (length planned.config.downlink.side.channels)) (code_place-back v p some)

-- the cell at place m of channel i in a frame that is kept as it was written
frame_arrived : (planned : Planned) (i n c m places : ℕ) (loaded : Loaded) (kept : RxFrame) (sent : IsSentFrame planned i n c loaded kept) → IsDownlink planned.config.downlink → IsDownlinkPlan planned.config.downlink planned.downlink
    → i < length planned.config.downlink.side.channels → c < length planned.config.downlink.side.combinations → bits_per_frame planned c i ≡ places → m < places
    → received_cell planned i kept.combination kept.cells m ≡ get_or loaded.cells (n * places + m) Off
unfolding sent_cell
frame_arrived planned i n c m places loaded kept sent good plan channel listed size early =
    let side : Side = planned.config.downlink.side in
    let before : ℕ = bits_before planned c i in
    let room : before + bits_per_frame planned c i ≤ frame_bits planned.config.downlink = omega (arith, part_le (bits_per_frame planned c) i (length side.channels) channel, plan.room c listed) in
    ap (λ combination. received_cell planned i combination kept.cells m) sent.found
    ∙ kept_cell planned i n c loaded kept sent (before + m) good (omega (arith, room, size, early))
    ∙ multiplexed_at planned sent.tti sent.cfn c (length side.channels) i m channel (omega (arith, size, early))
    ∙ ap (λ n. get_or (loaded_at sent.tti i).cells (n * bits_per_frame planned c i + m) Off) sent.number
    ∙ ap (λ (loaded : Loaded). get_or loaded.cells (n * bits_per_frame planned c i + m) Off) sent.holds
    ∙ ap (λ places. get_or loaded.cells (n * places + m) Off) size

-- the combinations of a TTI's radio frames are in the list
abbrev pub IsListed : Planned → ℕ → List ℕ → Type 0
IsListed planned i sequence = (n : ℕ) → n < (channel_at planned.config.downlink.side i).frames → slice_index sequence n < length planned.config.downlink.side.combinations

-- and so the cells of the TTI are those that were filled
pub cell_arrived : (planned : Planned) (reader : RxFrames) (i f p : ℕ) (sequence : List ℕ) (blocks : List Bit) (sent : IsSentTti planned reader i f sequence blocks) → IsDownlink planned.config.downlink → IsDownlinkPlan planned.config.downlink planned.downlink → IsListed planned i sequence
    → i < length planned.config.downlink.side.channels → p < tti_cells planned i f → tti_cell planned reader i (tti_cells planned i f) p ≡ filled_cell (tti_pattern planned i f) sent.from.coded p
cell_arrived planned reader i f p sequence blocks sent good plan listing channel inside =
    let side : Side = planned.config.downlink.side in
    let frames : ℕ = (channel_at side i).frames in
    let is : IsFrames frames = (good.side.channels i channel).frames in
    let some : 0 < frames = omega (arith, is) in
    let places : ℕ = (matching_of planned i f).cells in
    let len : ℕ = tti_cells planned i f in
    let whole : len ≡ places * frames = omega arith in
    let n : ℕ = frame_of frames len p in
    let m : ℕ = place_of frames len p in
    let below : n < frames = frame_of-below frames len p is (whole_rows frames places len some whole) inside in
    let low : m < places = place_inside frames places len p is some whole inside in
    let frame = sent.frames n below in
    let c : ℕ = slice_index sequence n in
    let size : bits_per_frame planned c i ≡ places = ap (λ f. (matching_of planned i f).cells) (sent_number planned Down (multiplexed planned) i f n c sent.loaded _ frame sent.from.format channel) in
    let listed : c < length side.combinations = listing n below in
    let height : len / frames ≡ places = rows_of frames places len some whole in
    let place : n * places + m ≡ first_back_of frames len p = ap (λ rows. n * rows + m) (sym height) ∙ frame_place frames len p in
    let there : first_back_of frames len p < len = first_back_of-inside frames len p is (whole_rows frames places len some whole) inside in
    let long : length sent.loaded.cells ≡ len = sent.from.cells.long in
    let coded : List Bit = sent.from.coded in
    frame_arrived planned i n c m places sent.loaded (frame_at side reader i n) frame good plan channel listed size low
    ∙ ap (λ k. get_or sent.loaded.cells k Off) place
    ∙ sent.from.cells.shown (first_back_of frames len p) (omega (arith, there, long))
    ∙ ap (λ len'. filled_cell (tti_pattern planned i f) coded (first_of frames len' (first_back_of frames len p))) long
    ∙ ap (filled_cell (tti_pattern planned i f) coded) (first_of-back frames len p is (whole_rows frames places len some whole) inside)

-- where rate matching keeps a bit
pub filled_kept : (pattern : Pattern) (coded : List Bit) (p : ℕ) → p < copies_below pattern.kind pattern.len → filled_cell pattern coded p ≡ as_cell (get_or coded (origin_of pattern p) Zero)
unfolding filled_cell
filled_kept pattern coded p inside =
    let test : nat_lt p (copies_below pattern.kind pattern.len) ≡ true = grind (arith, nat_tests) in
    rw test refl
