-- The frames of a TTI that are taken one after another are kept when the last one is taken.
use Rattle.std.proofs.Common.{◌≡◌, ◌≢◌, ◌+◌, ◌-◌, ◌%◌, ◌<◌, ◌≤◌, ℕ, zero, suc, List, length, arith, ap, sym, ◌∙◌, subst, inl, inr}
use Rattle.std.specs.Prelude.{slice_index}
use Rattle.dch_bits.specs.declared.bit.Bit.{Bit}
use Rattle.dch_bits.specs.declared.bit.Trit.{Trit}
use Rattle.dch_types.specs.declared.channel.Dir.{Dir}
use Rattle.dch_types.specs.Limits.{IsFrames, IsSide}
use Rattle.dch_types.specs.Parts.{channel_at, side_of}
use Rattle.dch_accept.specs.Plans.{Planned}
use Rattle.dch_tti.specs.Loaded.{Loaded}
use Rattle.dch_tti.specs.RxFrames.{IsKept, RxFrame, RxFrames, frame_at, rx_frame_at, tti_place}
use Rattle.dch_tti.specs.Pushed.{AreSentAndPushed}
use Rattle.dch_tti.specs.Sent.{AreSentFrames, IsSentFrame}
use Rattle.dch_tti.proofs.Written.{kept-written}

-- the place of an earlier frame of the TTI is another one
apart : (first n k : ℕ) → n + 1 + k < 8 → (first + n) % 8 ≢ (first + (n + 1 + k)) % 8
apart first n k early same = omega (arith, same)

-- a frame is kept while the later ones of its TTI are taken
stays : (planned : Planned) (dir : Dir) (multiplexed : List Loaded → ℕ → ℕ → ℕ → Trit) (i first n k : ℕ) (sequence : List ℕ) (loaded : Loaded) (readers : ℕ → RxFrames)
    → AreSentAndPushed planned dir multiplexed i first sequence loaded readers → (channel_at (side_of planned.config dir) i).frames ≤ 8 → n + 1 + k ≤ (channel_at (side_of planned.config dir) i).frames
    → rx_frame_at (readers (n + 1 + k)).frames ((first + n) % 8) ≡ rx_frame_at (readers (n + 1)).frames ((first + n) % 8)
stays planned dir multiplexed i first n zero sequence loaded readers sent few inside = ap (λ m. rx_frame_at (readers m).frames ((first + n) % 8)) (omega arith)
stays planned dir multiplexed i first n (suc k) sequence loaded readers sent few inside =
    let step = sent (n + 1 + k) (omega (arith, inside)) in
    let next : n + 1 + suc k ≡ n + 1 + k + 1 = omega arith in
    ap (λ m. rx_frame_at (readers m).frames ((first + n) % 8)) next
    ∙ step.pushed.others ((first + n) % 8) (apart first n k (omega (arith, inside, few)))
    ∙ stays planned dir multiplexed i first n k sequence loaded readers sent few (omega (arith, inside))

few_frames : (frames : ℕ) → IsFrames frames → (0 < frames) × (frames ≤ 8)
few_frames frames is = (omega (arith, is), omega (arith, is))

-- a TTI starts where its CFN is a multiple of its frames
number_in : (frames first n : ℕ) → IsFrames frames → first % frames ≡ 0 → n < frames → (first + n) % frames ≡ n
number_in frames first n is starts inside = elim is [
  | inl one ↦ omega (arith, one, inside, ap (λ m. (first + n) % m) one)
  | inr more ↦ elim more [
    | inl two ↦ omega (arith, ap (λ m. (first + n) % m) two, sym (ap (λ m. first % m) two), starts, inside, two)
    | inr most ↦ elim most [
      | inl four ↦ omega (arith, ap (λ m. (first + n) % m) four, sym (ap (λ m. first % m) four), starts, inside, four)
      | inr eight ↦ omega (arith, ap (λ m. (first + n) % m) eight, sym (ap (λ m. first % m) eight), starts, inside, eight)
    ]
  ]
]

-- the place of frame n of the TTI to which the last frame belongs
place_in : (frames first n last : ℕ) → IsFrames frames → first % frames ≡ 0 → last < frames → tti_place (first + last) frames n ≡ (first + n) % 8
place_in frames first n last is starts inside = elim is [
  | inl one ↦ rw one (let none : last ≡ 0 = omega (arith, one, inside) in omega (arith, none))
  | inr more ↦ elim more [
    | inl two ↦ let zero : first % 2 ≡ 0 = sym (ap (λ m. first % m) two) ∙ starts in let low : last < 2 = omega (arith, two, inside) in rw two (omega (arith, zero, low))
    | inr most ↦ elim most [
      | inl four ↦ let zero : first % 4 ≡ 0 = sym (ap (λ m. first % m) four) ∙ starts in let low : last < 4 = omega (arith, four, inside) in rw four (omega (arith, zero, low))
      | inr eight ↦ let zero : first % 8 ≡ 0 = sym (ap (λ m. first % m) eight) ∙ starts in let low : last < 8 = omega (arith, eight, inside) in rw eight (omega (arith, zero, low))
    ]
  ]
]

-- and so all frames of the TTI are kept as they were written
pub sent_frames : (planned : Planned) (dir : Dir) (multiplexed : List Loaded → ℕ → ℕ → ℕ → Trit) (i first : ℕ) (sequence : List ℕ) (loaded : Loaded) (readers : ℕ → RxFrames)
    → IsSide (side_of planned.config dir) → i < length (side_of planned.config dir).channels → first % (channel_at (side_of planned.config dir) i).frames ≡ 0
    → AreSentAndPushed planned dir multiplexed i first sequence loaded readers → AreSentFrames planned dir multiplexed (readers (channel_at (side_of planned.config dir) i).frames) i sequence loaded
sent_frames planned dir multiplexed i first sequence loaded readers good channel starts sent = λ n inside.
    let frames : ℕ = (channel_at (side_of planned.config dir) i).frames in
    let is : IsFrames frames = (good.channels i channel).frames in
    let bounds = few_frames frames is in
    let push = sent n inside in
    let last : ℕ = frames - 1 in
    let low : last < frames = omega (arith, bounds.0) in
    let cfn_is : (readers frames).cfn ≡ first + last = ap (λ m. (readers m).cfn) (omega (arith, bounds.0)) ∙ (sent last low).pushed.last in
    let place : tti_place (readers frames).cfn frames n ≡ (first + n) % 8 = ap (λ cfn. tti_place cfn frames n) cfn_is ∙ place_in frames first n last is starts low in
    let k : ℕ = frames - (n + 1) in
    let till : frames ≡ n + 1 + k = omega (arith, inside) in
    let same : frame_at (side_of planned.config dir) (readers frames) i n ≡ rx_frame_at (readers (n + 1)).frames ((first + n) % 8) =
    ap (rx_frame_at (readers frames).frames) place
    ∙ ap (λ m. rx_frame_at (readers m).frames ((first + n) % 8)) till
    ∙ stays planned dir multiplexed i first n k sequence loaded readers sent bounds.1 (omega (arith, till)) in
    let here : IsKept planned dir push.frame.tfci push.frame.cells (rx_frame_at (readers (n + 1)).frames ((first + n) % 8)) =
    subst (λ (tfci : List Bit). IsKept planned dir tfci push.frame.cells (rx_frame_at (readers (n + 1)).frames ((first + n) % 8))) push.shown.tfci
    (subst (λ (cells : List Trit). IsKept planned dir push.view.tfci.now cells (rx_frame_at (readers (n + 1)).frames ((first + n) % 8))) push.shown.cells push.pushed.kept) in
    let both = kept-written planned dir (multiplexed push.tti (first + n) (slice_index sequence n)) (slice_index sequence n) push.frame _ push.listed good.few_combinations push.written here in
    subst (λ (kept : RxFrame). IsSentFrame planned dir multiplexed i n (slice_index sequence n) loaded kept) (sym same) (record {
      tti = push.tti;
      cfn = first + n;
      frame = push.frame;
      formats = push.formats;
      holds = push.holds;
      number = number_in frames first n is starts inside;
      written = push.written;
      found = both.0;
      back = both.1;
    })
