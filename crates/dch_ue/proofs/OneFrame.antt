-- An uplink radio frame is one.
use Rattle.std.proofs.Common.{◌≡◌, ◌<◌, ◌∙◌, ◌+◌, ◌-◌, ◌*◌, ℕ, zero, suc, List, length, arith, refl, ap, sym, subst}
use Rattle.std.specs.Prelude.{nat_lt, if◌then◌else◌, slice_index_or}
use Rattle.std.proofs.lemmas.List.{ext_get_or}
use Rattle.dch_bits.specs.declared.bit.Trit.TheVariants.{Off}
use Rattle.dch_types.specs.declared.channel.Dir.TheVariants.{Up}
use Rattle.dch_accept.specs.Frames.{Frame}
use Rattle.dch_accept.specs.Plans.{Planned}
use Rattle.dch_collision.specs.Plans.{plan_at}
use Rattle.dch_frame.specs.Stages.{origin_of}
use Rattle.dch_frame.specs.declared.pattern.Pattern.{Pattern}
use Rattle.dch_tti.specs.Frames.{multiplexed_place}
use Rattle.dch_tti.specs.Loaded.{Loaded, frame_number, loaded_at}
use Rattle.dch_ulphy.specs.Frames.{IsFrame, bits_before, multiplexed_cell, pattern_of, sent_cell}
use Rattle.dch_ulphy.specs.Loaded.{IsLoaded}
use Rattle.dch_ulphy.proofs.One.{loaded_one}
use Rattle.dch_node.specs.Values.{Radio}
use Rattle.dch_layer2.specs.Layers.{Given, Layer}
use Rattle.dch_layer2.specs.Joined.{joined_bits}
use Rattle.dch_ue.specs.Steps.{IsRadioFrame}

sent_same : (planned : Planned) (xs ys : List Loaded) (cfn c i q : ℕ) → loaded_at xs i ≡ loaded_at ys i → sent_cell planned xs cfn c i q ≡ sent_cell planned ys cfn c i q
unfolding sent_cell
sent_same planned xs ys cfn c i q same =
    let pattern : Pattern = pattern_of planned cfn c i in
    ap (λ (l : Loaded). slice_index_or l.cells (frame_number planned.config.uplink.side i cfn * pattern.len + origin_of pattern q) Off) same

multiplexed_same : (planned : Planned) (xs ys : List Loaded) (cfn c n p : ℕ) → ((i : ℕ) → i < n → loaded_at xs i ≡ loaded_at ys i) → multiplexed_cell planned xs cfn c n p ≡ multiplexed_cell planned ys cfn c n p
unfolding multiplexed_cell
multiplexed_same planned xs ys cfn c zero p same = refl
multiplexed_same planned xs ys cfn c (suc i) p same =
    let before : ℕ = bits_before (plan_at planned.uplink c) i in
    ap (λ cell. if nat_lt p before then cell else sent_cell planned xs cfn c i (p - before)) (multiplexed_same planned xs ys cfn c i p (λ j inside. same j (omega arith)))
    ∙ ap (λ cell. if nat_lt p before then multiplexed_cell planned ys cfn c i p else cell) (sent_same planned xs ys cfn c i (p - before) (same i (omega arith)))

-- the same of each channel gives the same frame
frame_same : (planned : Planned) (xs ys : List Loaded) (cfn c : ℕ) (one other : Frame) → ((i : ℕ) → i < length planned.config.uplink.side.channels → loaded_at xs i ≡ loaded_at ys i)
    → IsFrame planned xs cfn c one → IsFrame planned ys cfn c other → (one.tfci ≡ other.tfci) × (one.cells ≡ other.cells)
frame_same planned xs ys cfn c one other same a b = (
  a.tfci ∙ sym b.tfci,
  ext_get_or Off one.cells other.cells (a.long ∙ sym b.long) (λ k inside.
      a.cells k inside
      ∙ multiplexed_same planned xs ys cfn c (length planned.config.uplink.side.channels) (multiplexed_place planned Up c k) same
      ∙ sym (b.cells k (omega (arith, inside, a.long, b.long)))),
)

-- the same given to each channel, sent in the same combination, gives one radio frame
pub radio_one : (planned : Planned) (cfn : ℕ) (layer other : Layer) (sent more : Radio) → other.running ≡ layer.running → ((i : ℕ) → i < length planned.config.uplink.side.channels → other.given i ≡ layer.given i)
    → IsRadioFrame planned cfn layer sent → IsRadioFrame planned cfn other more → more ≡ sent
radio_one planned cfn layer other sent more running same a b =
    let loaded : (i : ℕ) → i < length planned.config.uplink.side.channels → loaded_at b.tti i ≡ loaded_at a.tti i = λ i inside.
    loaded_one planned i (layer.given i).format (joined_bits (layer.given i).blocks) (loaded_at b.tti i) (loaded_at a.tti i)
    (subst (λ (g : Given). IsLoaded planned i g.format (joined_bits g.blocks) (loaded_at b.tti i)) (same i inside) (b.loaded i inside)) (a.loaded i inside) in
    let frames = frame_same planned b.tti a.tti cfn layer.running b.frame a.frame loaded (subst (λ c. IsFrame planned b.tti cfn c b.frame) running b.written) a.written in
    let tfci : more.tfci ≡ sent.tfci = b.tfci ∙ frames.0 ∙ sym a.tfci in
    let cells : more.cells ≡ sent.cells = b.cells ∙ frames.1 ∙ sym a.cells in
    λ t. record { tfci = tfci t; cells = cells t }
