-- The format of a TTI whose radio frames are kept as they were written.
use Rattle.std.proofs.Common.{◌≡◌, ◌<◌, ℕ, List, length, arith, ap, sym, ◌∙◌, inl, inr}
use Rattle.std.specs.Prelude.{Some, slice_index}
use Rattle.dch_bits.specs.declared.bit.Trit.{Trit}
use Rattle.dch_types.specs.declared.channel.Dir.{Dir}
use Rattle.dch_types.specs.declared.channel.Side.{Side}
use Rattle.dch_types.specs.Parts.{channel_at, format_number, side_of}
use Rattle.dch_accept.specs.Plans.{Planned}
use Rattle.dch_tti.specs.Loaded.{Loaded}
use Rattle.dch_tti.specs.RxFrames.{RxFrame, RxFrames}
use Rattle.dch_tti.specs.Formats.{AllGive, IsBadFrame, IsFormatOf, format_in}
use Rattle.dch_tti.specs.Sent.{AreSentFrames, IsSentFrame}

-- a combination in which a frame was written gives the channel the format in which it was loaded
pub sent_number : (planned : Planned) (dir : Dir) (multiplexed : List Loaded → ℕ → ℕ → ℕ → Trit) (i f n c : ℕ) (loaded : Loaded) (kept : RxFrame) → IsSentFrame planned dir multiplexed i n c loaded kept → loaded.format ≡ Some f → i < length (side_of planned.config dir).channels → format_number (side_of planned.config dir) c i ≡ f
sent_number planned dir multiplexed i f n c loaded kept frame format channel =
    let both : Some (format_number (side_of planned.config dir) c i) ≡ Some f = sym (frame.formats i channel) ∙ ap (λ (loaded : Loaded). loaded.format) frame.holds ∙ format in
    cc

-- so all frames give it,
pub sent_formats : (planned : Planned) (dir : Dir) (multiplexed : List Loaded → ℕ → ℕ → ℕ → Trit) (reader : RxFrames) (i f : ℕ) (sequence : List ℕ) (loaded : Loaded) → AreSentFrames planned dir multiplexed reader i sequence loaded → loaded.format ≡ Some f → i < length (side_of planned.config dir).channels → AllGive (side_of planned.config dir) reader i f
sent_formats planned dir multiplexed reader i f sequence loaded sent format channel = λ n inside.
    ap (format_in (side_of planned.config dir) i) (sent n inside).found ∙ ap (λ f. Some f) (sent_number planned dir multiplexed i f n (slice_index sequence n) loaded _ (sent n inside) format channel)

-- it is the one that is found,
pub given_format : (side : Side) (reader : RxFrames) (i f g : ℕ) → AllGive side reader i f → 0 < (channel_at side i).frames → IsFormatOf side reader i g → g ≡ f
given_format side reader i f g all some is =
    let both : Some g ≡ Some f = sym (is.all 0 some) ∙ all 0 some in cc

-- and no frame is bad
pub none_bad : (side : Side) (reader : RxFrames) (i f n : ℕ) → AllGive side reader i f → IsBadFrame side reader i n → ⊥
none_bad side reader i f n all bad =
    let here = all n bad.inside in
    let first = all 0 (omega (arith, bad.inside)) in
    elim bad.bad [
      | inl none ↦ let both = sym none ∙ here in cc
      | inr differ ↦ differ (here ∙ sym first)
    ]
