-- A radio frame of which few TFCI bits are wrong is kept in the combination in which it was written.
use Rattle.std.proofs.Common.{◌≡◌, ◌<◌, ◌≤◌, ◌∙◌, ℕ, List, Option, Some, None, length, arith, ap, subst, sym, inl, inr}
use Rattle.dch_bits.specs.declared.bit.Bit.{Bit}
use Rattle.dch_bits.specs.declared.bit.Trit.{Trit}
use Rattle.dch_bits.specs.Bits.{distance}
use Rattle.dch_types.specs.declared.channel.Dir.{Dir}
use Rattle.dch_types.specs.Parts.{side_of}
use Rattle.dch_tfci.specs.Tfci.{IsSize, most_wrong, sent}
use Rattle.dch_tfci.proofs.Distances.{length-sent}
use Rattle.dch_tfci.proofs.Weights.{few_wrong}
use Rattle.dch_accept.specs.Cells.{frame_cells}
use Rattle.dch_accept.specs.Frames.{Frame, tfci_bits}
use Rattle.dch_accept.specs.Plans.{Planned}
use Rattle.dch_tti.specs.Damaged.{IsLittleDamaged}
use Rattle.dch_tti.specs.Frames.{IsFrameOf}
use Rattle.dch_tti.specs.RxFrames.{Finds, IsKept, RxFrame}
use Rattle.dch_tti.proofs.Frames.{size_of}

-- the combination that is found in it
found-damaged : (planned : Planned) (dir : Dir) (c cells : ℕ) (tfci : List Bit) (found : Option ℕ) → c < length (side_of planned.config dir).combinations → c < 1024 → IsSize (length tfci) → distance tfci (sent c (length tfci)) ≤ most_wrong (length tfci)
    → cells ≡ frame_cells planned dir c → Finds planned dir tfci cells found → found ≡ Some c
found-damaged planned dir c cells tfci (Some index) listed small sized close long finds = ap (λ n. Some n) (few_wrong tfci index finds.away c finds.nearest small sized close).0
found-damaged planned dir c cells tfci None listed small sized close long finds =
    let same : finds.index ≡ c = (few_wrong tfci finds.index finds.away c finds.nearest small sized close).0 in
    elim finds.unfit [
      | inl beyond ↦ absurd (omega arith)
      | inr other ↦ absurd (other (long ∙ ap (frame_cells planned dir) (sym same)))
    ]

pub kept-damaged : (planned : Planned) (dir : Dir) (multiplexed : ℕ → Trit) (c : ℕ) (frame : Frame) (tfci : List Bit) (cells : List Trit) (kept : RxFrame)
    → c < length (side_of planned.config dir).combinations → length (side_of planned.config dir).combinations ≤ 128 → IsFrameOf planned dir multiplexed c frame → IsLittleDamaged frame.tfci frame.cells tfci cells → IsKept planned dir tfci cells kept → kept.combination ≡ Some c
kept-damaged planned dir multiplexed c frame tfci cells kept listed few written damaged keeps =
    let size : length tfci ≡ tfci_bits planned.config dir = damaged.sized ∙ ap length written.tfci ∙ length-sent c (tfci_bits planned.config dir) in
    let sent_is : frame.tfci ≡ sent c (length tfci) = written.tfci ∙ ap (sent c) (sym size) in
    let close : distance tfci frame.tfci ≤ most_wrong (length tfci) = subst (λ n. distance tfci frame.tfci ≤ most_wrong n) (sym damaged.sized) damaged.close in
    found-damaged planned dir c (length cells) tfci kept.combination listed (omega arith) (subst IsSize (sym size) (size_of planned.config dir)) (subst (λ (bits : List Bit). distance tfci bits ≤ most_wrong (length tfci)) sent_is close) (damaged.whole ∙ written.long) keeps.found
