-- The radio frames of a TTI that came as they were sent are kept as they were sent.
use Rattle.std.proofs.Common.{◌≡◌, ◌<◌, ◌≤◌, ◌∙◌, ℕ, List, Option, Some, length, arith, sym, subst}
use Rattle.std.specs.Prelude.{map}
use Rattle.std.specs.List.{range_with_len}
use Rattle.std.proofs.lemmas.List.FromFn.{get_or-map-range_with_len}
use Rattle.std.proofs.lemmas.Nat.{mod_below}
use Rattle.dch_bits.specs.declared.bit.Bit.{Bit}
use Rattle.dch_bits.specs.declared.bit.Trit.{Trit}
use Rattle.dch_types.specs.declared.channel.Dir.{Dir}
use Rattle.dch_types.specs.declared.channel.Side.{Side}
use Rattle.dch_types.specs.Parts.{channel_at, side_of}
use Rattle.dch_accept.specs.Frames.{Frame}
use Rattle.dch_accept.specs.Plans.{Planned}
use Rattle.dch_node.specs.RxFrames.{AreHeard, KeepsRadio}
use Rattle.dch_node.specs.Values.{Radio}
use Rattle.dch_tti.specs.RxFrames.{IsKept, RxFrame, RxFrames, frame_at, rx_frame_at, tti_place}
use Rattle.dch_tti.specs.Sent.{AreSentFrames, IsSentFrame}
use Rattle.dch_tti.proofs.Written.{kept-written}
use Rattle.dch_tti.specs.Frames.{IsFrameOf}
use Rattle.dch_tti.specs.Loaded.{AreFormats, Loaded, frame_number, loaded_at}
use Rattle.dch_runlaw.proofs.ClearTtis.{HasRadio, Half}

-- a radio frame as it was sent in frame m of a TTI of channel i, in combination c, while this was loaded of the channel
pub record IsSentRadio (planned : Planned) (dir : Dir) (multiplexed : List Loaded → ℕ → ℕ → ℕ → Trit) (i m c : ℕ) (loaded : Loaded) (radio : Radio) : Type 0 where
  pub tti : List Loaded
  pub cfn : ℕ
  pub frame : Frame
  pub formats : AreFormats (side_of planned.config dir) c tti
  pub listed : c < length (side_of planned.config dir).combinations
  pub holds : loaded_at tti i ≡ loaded
  pub number : frame_number (side_of planned.config dir) i cfn ≡ m
  pub written : IsFrameOf planned dir (multiplexed tti cfn c) c frame
  pub tfci : radio.tfci ≡ frame.tfci
  pub cells : radio.cells ≡ frame.cells

-- is kept as it was sent
pub kept_sent : (planned : Planned) (dir : Dir) (multiplexed : List Loaded → ℕ → ℕ → ℕ → Trit) (i m c : ℕ) (loaded : Loaded) (o : Option Radio) (kept : RxFrame) → length (side_of planned.config dir).combinations ≤ 128
    → HasRadio (IsSentRadio planned dir multiplexed i m c loaded) o → KeepsRadio planned dir o kept → IsSentFrame planned dir multiplexed i m c loaded kept
kept_sent planned dir multiplexed i m c loaded o kept few has keeps =
    let s : IsSentRadio planned dir multiplexed i m c loaded has.radio = has.sent in
    let there : KeepsRadio planned dir (Some has.radio) kept = subst (λ (o : Option Radio). KeepsRadio planned dir o kept) has.is keeps in
    let here : IsKept planned dir s.frame.tfci s.frame.cells kept = subst (λ (cells : List Trit). IsKept planned dir s.frame.tfci cells kept) s.cells (subst (λ (tfci : List Bit). IsKept planned dir tfci has.radio.cells kept) s.tfci there) in
    let both = kept-written planned dir (multiplexed s.tti s.cfn c) c s.frame kept s.listed few s.written here in
    record {
      tti = s.tti;
      cfn = s.cfn;
      frame = s.frame;
      formats = s.formats;
      holds = s.holds;
      number = s.number;
      written = s.written;
      found = both.0;
      back = both.1;
    }

-- all frames of a TTI came as they were sent, so they are kept so
pub all_sent : (planned : Planned) (dir : Dir) (multiplexed : List Loaded → ℕ → ℕ → ℕ → Trit) (i cfn count : ℕ) (L : Loaded → Type 0) (R : ℕ → Type 0) (K : ℕ → ℕ → ℕ → Type 0) (frames : ℕ → Option Radio) (reader : RxFrames)
    → length (side_of planned.config dir).combinations ≤ 128 → AreHeard planned dir cfn frames reader
    → (half : Half (channel_at (side_of planned.config dir) i).frames L (IsSentRadio planned dir multiplexed i) R K cfn frames count) → count ≡ (channel_at (side_of planned.config dir) i).frames
    → AreSentFrames planned dir multiplexed reader i (map half.sequence (range_with_len 0 (channel_at (side_of planned.config dir) i).frames)) half.loaded
all_sent planned dir multiplexed i cfn count L R K frames reader few heard half all = λ n inside.
    let side : Side = side_of planned.config dir in
    let f : ℕ = (channel_at side i).frames in
    let k : ℕ = tti_place cfn f n in
    let c : ℕ = half.sequence n in
    let low : k < 8 = mod_below _ 8 (omega arith) in
    let here : IsSentFrame planned dir multiplexed i n c half.loaded (rx_frame_at reader.frames k) =
    kept_sent planned dir multiplexed i n c half.loaded (frames k) (rx_frame_at reader.frames k) few (half.sent n (omega (arith, inside, all))) (heard.kept k low) in
    let there : IsSentFrame planned dir multiplexed i n c half.loaded (frame_at side reader i n) =
    subst (λ m. IsSentFrame planned dir multiplexed i n c half.loaded (rx_frame_at reader.frames (tti_place m f n))) (sym heard.last) here in
    subst (λ c. IsSentFrame planned dir multiplexed i n c half.loaded (frame_at side reader i n)) (sym (get_or-map-range_with_len half.sequence 0 f n n 0 inside (omega arith))) there

-- the same radio frames came
pub heard_as : (planned : Planned) (dir : Dir) (cfn other : ℕ) (frames others : ℕ → Option Radio) (reader : RxFrames) → cfn ≡ other → ((k : ℕ) → others k ≡ frames k) → AreHeard planned dir cfn frames reader → AreHeard planned dir other others reader
heard_as planned dir cfn other frames others reader same alike heard = record {
  last = heard.last ∙ same;
  kept = λ k inside. subst (λ (o : Option Radio). KeepsRadio planned dir o (rx_frame_at reader.frames k)) (sym (alike k)) (heard.kept k inside);
}
