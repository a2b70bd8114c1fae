-- What is kept of a radio frame, and what is read of a TTI, is one.
use Rattle.std.proofs.Common.{◌≡◌, ◌<◌, ℕ, List, Option, Some, None, length, arith, refl, ap, sym, ◌∙◌, subst, inl, inr}
use Rattle.std.specs.Prelude.{Result, Ok, Err}
use Rattle.std.proofs.lemmas.Bool.{cases_lt}
use Rattle.std.proofs.lemmas.List.{ext_get_or}
use Rattle.dch_bits.specs.declared.bit.Bit.{Bit}
use Rattle.dch_bits.specs.declared.bit.Trit.{Trit}
use Rattle.dch_bits.specs.declared.bit.Trit.TheVariants.{Off}
use Rattle.dch_bits.specs.declared.bit.Vote.{Vote}
use Rattle.dch_types.specs.declared.channel.Dir.{Dir}
use Rattle.dch_types.specs.declared.channel.Side.{Side}
use Rattle.dch_types.specs.Limits.{IsSide}
use Rattle.dch_types.specs.Parts.{channel_at, format_at, side_of}
use Rattle.dch_tfci.specs.Tfci.{IsNearest}
use Rattle.dch_accept.specs.Blocks.{Held}
use Rattle.dch_accept.specs.Cells.{frame_cells}
use Rattle.dch_accept.specs.Plans.{Planned}
use Rattle.dch_tti.specs.Received.{IsReceived}
use Rattle.dch_tti.proofs.OneDecoding.{received_one}
use Rattle.dch_tti.specs.Formats.{FindsFormat, IsBadFrame}
use Rattle.dch_tti.specs.Read.{IsTtiRead, coded_in}
use Rattle.dch_tti.specs.RxFrames.{Finds, IsFound, IsKept, IsUnfit, RxFrame, RxFrames}
use Rattle.dch_tti.proofs.Sent.{given_format, none_bad}

-- the nearest index of TFCI bits is one
nearest_one : (tfci : List Bit) (c d away far : ℕ) → IsNearest tfci c away → IsNearest tfci d far → c ≡ d
nearest_one tfci c d away far one other = omega (arith, one.least d other.small, other.least c one.small, one.first d other.small, other.first c one.small)

-- where a combination is found, the TFCI is not unfit
found_some : (planned : Planned) (dir : Dir) (tfci : List Bit) (cells c : ℕ) → IsFound planned dir tfci cells c → IsUnfit planned dir tfci cells → ⊥
found_some planned dir tfci cells c one other =
    let same : other.index ≡ c = nearest_one tfci other.index c other.away one.away other.nearest one.nearest in
    elim other.unfit [
      | inl beyond ↦ absurd (omega (arith, beyond, same, one.listed))
      | inr long ↦ long (one.long ∙ ap (frame_cells planned dir) (sym same))
    ]

-- and so is the combination that is found
found_one : (planned : Planned) (dir : Dir) (tfci : List Bit) (cells : ℕ) (a b : Option ℕ) → Finds planned dir tfci cells a → Finds planned dir tfci cells b → a ≡ b
found_one planned dir tfci cells (Some c) (Some d) one other = ap (λ n. Some n) (nearest_one tfci c d one.away other.away one.nearest other.nearest)
found_one planned dir tfci cells None None one other = refl
found_one planned dir tfci cells (Some c) None one other = absurd (found_some planned dir tfci cells c one other)
found_one planned dir tfci cells None (Some c) one other = absurd (found_some planned dir tfci cells c other one)

-- what is kept of a frame is one
pub kept_one : (planned : Planned) (dir : Dir) (tfci : List Bit) (cells : List Trit) (one other : RxFrame) → IsKept planned dir tfci cells one → IsKept planned dir tfci cells other
    → (one.combination ≡ other.combination) × ((c : ℕ) → one.combination ≡ Some c → one.cells ≡ other.cells)
kept_one planned dir tfci cells one other a b =
    let same : one.combination ≡ other.combination = found_one planned dir tfci (length cells) one.combination other.combination a.found b.found in (
      same,
      λ c found.
          let here = a.back c found in
          let there = b.back c (sym same ∙ found) in
          ext_get_or Off one.cells other.cells (here.whole ∙ sym there.whole) (λ k inside. here.shown k inside ∙ sym (there.shown k (omega (arith, inside, here.whole, there.whole)))),
    )

-- no frame before the first bad one is bad
not_before : (side : Side) (reader : RxFrames) (i n m : ℕ) → IsBadFrame side reader i n → IsBadFrame side reader i m → n < m → ⊥
not_before side reader i n m one other early = elim one.bad [
  | inl none ↦ (other.first n early).0 none
  | inr differ ↦ differ (other.first n early).1
]

bad_one : (side : Side) (reader : RxFrames) (i n m : ℕ) → IsBadFrame side reader i n → IsBadFrame side reader i m → n ≡ m
bad_one side reader i n m one other = elim (cases_lt n m) [
  | inl early ↦ absurd (not_before side reader i n m one other early)
  | inr late ↦ elim (cases_lt m n) [
    | inl early ↦ absurd (not_before side reader i m n other one early)
    | inr both ↦ omega (arith, late, both)
  ]
]

-- the format of a TTI, or its first bad frame, is one
pub format_one : (side : Side) (reader : RxFrames) (i : ℕ) (one other : Result ℕ ℕ) → 0 < (channel_at side i).frames → FindsFormat side reader i one → FindsFormat side reader i other → one ≡ other
format_one side reader i (Ok f) (Ok g) some one other = ap (λ n. Ok n) (sym (given_format side reader i f g one.all some other))
format_one side reader i (Ok f) (Err n) some one other = absurd (none_bad side reader i f n one.all other)
format_one side reader i (Err n) (Ok f) some one other = absurd (none_bad side reader i f n other.all one)
format_one side reader i (Err n) (Err m) some one other = ap (λ n. Err n) (bad_one side reader i n m one other)

-- where a direction's votes are one, what is read of a TTI is one
pub reading_one : (planned : Planned) (dir : Dir) (AreVotes : RxFrames → ℕ → ℕ → List Vote → Type 0) (reader : RxFrames) (i : ℕ) (one other : Held)
    → ((f : ℕ) (xs ys : List Vote) → length xs ≡ length ys → AreVotes reader i f xs → AreVotes reader i f ys → xs ≡ ys)
    → IsSide (side_of planned.config dir) → i < length (side_of planned.config dir).channels → IsTtiRead planned dir AreVotes reader i one → IsTtiRead planned dir AreVotes reader i other → one ≡ record other { room = one.room }
reading_one planned dir AreVotes reader i one other alike good channel a b =
    let side : Side = side_of planned.config dir in
    let frames = (good.channels i channel).frames in
    let f : ℕ = one.format in
    let same : other.format ≡ f = given_format side reader i f other.format a.format.all (omega (arith, frames)) b.format in
    let long : length b.votes ≡ coded_in side i f = b.long ∙ ap (coded_in side i) same in
    let votes : a.votes ≡ b.votes = alike f a.votes b.votes (a.long ∙ sym long) a.are (subst (λ f. AreVotes reader i f b.votes) same b.are) in
    let there : IsReceived (channel_at side i) f (format_at (channel_at side i) f) a.votes other =
    subst (λ votes. IsReceived (channel_at side i) f (format_at (channel_at side i) f) votes other) (sym votes) (subst (λ f. IsReceived (channel_at side i) f (format_at (channel_at side i) f) b.votes other) same b.blocks) in
    received_one (channel_at side i) f (format_at (channel_at side i) f) a.votes one other a.long (omega (arith, a.long, ((good.channels i channel).formats f a.format.inside).bits)) a.blocks there
