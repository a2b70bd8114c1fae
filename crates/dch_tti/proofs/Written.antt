-- A frame that is kept as it was written.
use Rattle.std.proofs.Common.{◌≡◌, ◌<◌, ◌≤◌, ℕ, List, Option, Some, None, length, arith, ap, ◌∙◌, sym, inl, inr}
use Rattle.dch_bits.specs.declared.bit.Bit.{Bit}
use Rattle.dch_bits.specs.declared.bit.Trit.{Trit}
use Rattle.dch_types.specs.declared.channel.Dir.{Dir}
use Rattle.dch_types.specs.Parts.{side_of}
use Rattle.dch_accept.specs.Cells.{code_cells, frame_cells}
use Rattle.dch_accept.specs.Frames.{Frame, tfci_bits}
use Rattle.dch_accept.specs.Plans.{Planned}
use Rattle.dch_tfci.specs.Tfci.{IsSize, sent}
use Rattle.dch_tti.specs.Frames.{IsFrameOf}
use Rattle.dch_tti.proofs.Frames.{size_of}
use Rattle.dch_tti.specs.RxFrames.{AreBack, Finds, IsKept, RxFrame}
use Rattle.dch_tti.proofs.Nearest.{nearest-sent}

-- the combination that is found in a frame as it was written
found-written : (planned : Planned) (dir : Dir) (size c cells : ℕ) (tfci : List Bit) (found : Option ℕ) → IsSize size → c < length (side_of planned.config dir).combinations → c < 1024 → tfci ≡ sent c size → cells ≡ frame_cells planned dir c → Finds planned dir tfci cells found → found ≡ Some c
found-written planned dir size c cells tfci (Some index) sized listed small bits long finds = ap (λ n. Some n) (nearest-sent size c index finds.away tfci sized small bits finds.nearest)
found-written planned dir size c cells tfci None sized listed small bits long finds =
    let same : finds.index ≡ c = nearest-sent size c finds.index finds.away tfci sized small bits finds.nearest in
    elim finds.unfit [
      | inl beyond ↦ absurd (omega arith)
      | inr other ↦ absurd (other (long ∙ ap (frame_cells planned dir) (sym same)))
    ]

-- and its cells in multiplexed order
pub kept-written : (planned : Planned) (dir : Dir) (multiplexed : ℕ → Trit) (c : ℕ) (frame : Frame) (kept : RxFrame) → c < length (side_of planned.config dir).combinations → length (side_of planned.config dir).combinations ≤ 128 → IsFrameOf planned dir multiplexed c frame → IsKept planned dir frame.tfci frame.cells kept → (kept.combination ≡ Some c) × AreBack (code_cells planned dir (length frame.cells)) frame.cells kept.cells
kept-written planned dir multiplexed c frame kept listed few written keeps =
    let found = found-written planned dir (tfci_bits planned.config dir) c (length frame.cells) frame.tfci kept.combination (size_of planned.config dir) listed (omega arith) written.tfci written.long keeps.found in
    (found, keeps.back c found)
