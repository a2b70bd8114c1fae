-- A radio frame is determined by its multiplexed cells.
use Rattle.std.proofs.Common.{◌≡◌, ℕ, arith, sym, ◌∙◌}
use Rattle.std.proofs.lemmas.List.{ext_get_or}
use Rattle.dch_bits.specs.declared.bit.Trit.{Trit}
use Rattle.dch_bits.specs.declared.bit.Trit.TheVariants.{Off}
use Rattle.dch_types.specs.declared.channel.Dir.{Dir}
use Rattle.dch_accept.specs.Frames.{Frame}
use Rattle.dch_accept.specs.Plans.{Planned}
use Rattle.dch_tti.specs.Frames.{IsFrameOf}

pub frame_one : (planned : Planned) (dir : Dir) (multiplexed : ℕ → Trit) (c : ℕ) (one other : Frame) → IsFrameOf planned dir multiplexed c one → IsFrameOf planned dir multiplexed c other → (one.tfci ≡ other.tfci) × (one.cells ≡ other.cells)
frame_one planned dir multiplexed c one other a b =
    (a.tfci ∙ sym b.tfci, ext_get_or Off one.cells other.cells (a.long ∙ sym b.long) (λ k inside. a.cells k inside ∙ sym (b.cells k (omega (arith, inside, a.long, b.long)))))
