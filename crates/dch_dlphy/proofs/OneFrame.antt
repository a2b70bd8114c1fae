-- A radio frame is determined by what is loaded of the channels.
use Rattle.std.proofs.Common.{◌≡◌, ◌<◌, ℕ, zero, suc, List, length, arith, refl, ap, sym, ◌∙◌}
use Rattle.std.specs.Prelude.{◌-◌, slice_index_or, nat_lt, if◌then◌else◌, ◌*◌, ◌+◌}
use Rattle.std.proofs.lemmas.List.{ext_get_or}
use Rattle.dch_bits.specs.declared.bit.Trit.TheVariants.{Off}
use Rattle.dch_types.specs.declared.channel.Dir.TheVariants.{Down}
use Rattle.dch_accept.specs.Frames.{Frame}
use Rattle.dch_accept.specs.Plans.{Planned}
use Rattle.dch_tti.specs.Frames.{multiplexed_place}
use Rattle.dch_tti.specs.Loaded.{Loaded, frame_number, loaded_at}
use Rattle.dch_dlphy.specs.Frames.{IsFrame, bits_before, bits_per_frame, multiplexed_cell, sent_cell}

sent_same : (planned : Planned) (xs ys : List Loaded) (cfn c i q : ℕ) → loaded_at xs i ≡ loaded_at ys i → sent_cell planned xs cfn c i q ≡ sent_cell planned ys cfn c i q
unfolding sent_cell
sent_same planned xs ys cfn c i q same =
    ap (λ (l : Loaded). slice_index_or l.cells (frame_number planned.config.downlink.side i cfn * bits_per_frame planned c i + q) Off) same

multiplexed_same : (planned : Planned) (xs ys : List Loaded) (cfn c n p : ℕ) → ((i : ℕ) → i < n → loaded_at xs i ≡ loaded_at ys i) → multiplexed_cell planned xs cfn c n p ≡ multiplexed_cell planned ys cfn c n p
unfolding multiplexed_cell
multiplexed_same planned xs ys cfn c zero p same = refl
multiplexed_same planned xs ys cfn c (suc i) p same =
    let before : ℕ = bits_before planned c i in
    ap (λ cell. if nat_lt p before then cell else (if nat_lt (p - before) (bits_per_frame planned c i) then sent_cell planned xs cfn c i (p - before) else Off))
    (multiplexed_same planned xs ys cfn c i p (λ j inside. same j (omega arith)))
    ∙ ap (λ cell. if nat_lt p before then multiplexed_cell planned ys cfn c i p else (if nat_lt (p - before) (bits_per_frame planned c i) then cell else Off))
    (sent_same planned xs ys cfn c i (p - before) (same i (omega arith)))

-- the same of each channel gives the same frame
pub frame_same : (planned : Planned) (xs ys : List Loaded) (cfn c : ℕ) (one other : Frame) → ((i : ℕ) → i < length planned.config.downlink.side.channels → loaded_at xs i ≡ loaded_at ys i)
    → IsFrame planned xs cfn c one → IsFrame planned ys cfn c other → (one.tfci ≡ other.tfci) × (one.cells ≡ other.cells)
frame_same planned xs ys cfn c one other same a b = (
  a.tfci ∙ sym b.tfci,
  ext_get_or Off one.cells other.cells (a.long ∙ sym b.long) (λ k inside.
      a.cells k inside
      ∙ multiplexed_same planned xs ys cfn c (length planned.config.downlink.side.channels) (multiplexed_place planned Down c k) same
      ∙ sym (b.cells k (omega (arith, inside, a.long, b.long)))),
)
