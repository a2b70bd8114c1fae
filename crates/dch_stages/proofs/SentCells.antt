-- The cells of a radio frame as a list.
use Rattle.std.proofs.Common.{◌≡◌, ◌≤◌, ℕ, List, length, take, map, arith, ◌∙◌, length-take}
use Rattle.std.specs.List.{range_with_len}
use Rattle.std.proofs.lemmas.List.{get_or-take}
use Rattle.std.proofs.lemmas.List.FromFn.{fill_by_all, get_or-map-range_with_len, length-map-range_with_len}
use Rattle.dch_bits.specs.declared.bit.Trit.{Trit}
use Rattle.dch_bits.specs.declared.bit.Trit.TheVariants.{Off}
use Rattle.dch_types.specs.declared.channel.Dir.{Dir}
use Rattle.dch_accept.specs.Cells.{frame_cells}
use Rattle.dch_accept.specs.Frames.{Frame}
use Rattle.dch_accept.specs.Plans.{Planned}
use Rattle.dch_tti.specs.Frames.{IsFrameOf, multiplexed_place}
use Rattle.dch_tti.specs.Loaded.{Loaded}
use Rattle.dch_stages.specs.FrameLines.{multiplexed, sent_cells}

-- those of a frame that was written
pub sent_shown : (planned : Planned) (dir : Dir) (tti : List Loaded) (cfn c : ℕ) (frame : Frame) → IsFrameOf planned dir (multiplexed planned dir tti cfn c) c frame → frame.cells ≡ sent_cells planned dir tti cfn c
unfolding sent_cells
sent_shown planned dir tti cfn c frame is = fill_by_all (λ k. multiplexed planned dir tti cfn c (multiplexed_place planned dir c k)) frame.cells (frame_cells planned dir c) Off is.long (λ k inside. is.cells k (omega (arith, inside, is.long)))

-- the first of the cells that a function gives
pub first_cells : (cell : ℕ → Trit) (m n : ℕ) → m ≤ n → take m (map cell (range_with_len 0 n)) ≡ map cell (range_with_len 0 m)
first_cells cell m n few =
    let all : List Trit = map cell (range_with_len 0 n) in
    let long : length (take m all) ≡ m = omega (arith, length-take m all, length-map-range_with_len cell 0 n) in
    fill_by_all cell (take m all) m Off long
    (λ k inside. get_or-take m all k Off inside ∙ get_or-map-range_with_len cell 0 n k k Off (omega (arith, inside, few)) (omega arith))
