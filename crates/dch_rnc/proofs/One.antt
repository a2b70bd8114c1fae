-- An Iub frame is taken in one way.
use Rattle.std.proofs.Common.{◌≡◌, ◌<◌, ◌∙◌, ◌++◌, ℕ, zero, suc, List, [], ◌∷◌, length, arith, refl, ap, ap₂, sym, subst, inl, inr, false}
use Rattle.std.specs.Prelude.{slice_index_or}
use Rattle.std.proofs.lemmas.Bool.Decides.{eqb_tells}
use Rattle.dch_bits.specs.declared.bit.Bit.{Bit}
use Rattle.dch_types.specs.declared.channel.Dir.TheVariants.{Up}
use Rattle.dch_types.specs.declared.config.Config.{Config}
use Rattle.dch_types.specs.Parts.{channel_at}
use Rattle.dch_accept.specs.Blocks.{Held, block_at}
use Rattle.dch_accept.specs.HeldSets.{HeldSet, held_at}
use Rattle.dch_accept.specs.Plans.{Planned}
use Rattle.dch_iub.specs.Answers.{IsCause}
use Rattle.dch_iub.specs.Back.{IsReadBack, IsSameTti}
use Rattle.dch_iub.specs.declared.error.IubError.{IubError}
use Rattle.dch_iub.proofs.Back.{one_reading}
use Rattle.dch_iub.proofs.Refused.{no_form}
use Rattle.dch_node.specs.IubFrames.{refusal_number}
use Rattle.dch_node.specs.Lines.{IubBad}
use Rattle.dch_node.specs.Values.{Output, says}
use Rattle.dch_node.proofs.IubFrames.{one_number}
use Rattle.dch_layer2.specs.Layers.{Came, Layer, Outcome, takes}
use Rattle.dch_layer2.specs.Coming.{came_below, came_of}
use Rattle.dch_layer2.specs.Reading.{Reading, reads, reads_below}
use Rattle.dch_rnc.specs.State.{IubFrame, State, no_readings, set_readings}
use Rattle.dch_rnc.specs.Steps.{IsArrival, IsReadFrame, Steps}
use Rattle.dch_rnc.proofs.Taking.{reading_off, reading_on}

-- the blocks of a TTI as they come
came_below-same : (old new : Held) (k : ℕ) → ((b : ℕ) → b < k → block_at new b ≡ block_at old b) → new.good ≡ old.good → came_below new k ≡ came_below old k
came_below-same old new zero same marks = refl
came_below-same old new (suc k) same marks =
    ap₂ (λ (cs : List Came) (c : Came). cs ++ c ∷ []) (came_below-same old new k (λ b early. same b (omega arith)) marks)
    (ap₂ (λ (bits : List Bit) good. record { bits = bits; good = slice_index_or good k false }) (same k (omega arith)) marks)

came_of-same : (old new : Held) → IsSameTti old new → new.good ≡ old.good → came_of new ≡ came_of old
came_of-same old new same marks = came_below-same old new (length new.good) same.blocks marks ∙ ap (λ n. came_below old n) same.count

-- what layer 2 does with readings that say the same
reads_below-same : (config : Config) (readings others : ℕ → Reading) (n : ℕ) (layer : Layer) → ((i : ℕ) → i < n → (now : Layer) → reads config Up i (others i) now ≡ reads config Up i (readings i) now)
    → reads_below config Up others n layer ≡ reads_below config Up readings n layer
reads_below-same config readings others zero layer same = refl
reads_below-same config readings others (suc n) layer same =
    let first : reads_below config Up others n layer ≡ reads_below config Up readings n layer = reads_below-same config readings others n layer (λ i early. same i (omega arith)) in
    ap (λ (o : Outcome). record { layer = (reads config Up n (others n) o.layer).layer; lines = o.lines ++ (reads config Up n (others n) o.layer).lines }) first
    ∙ ap (λ (o : Outcome). record { layer = o.layer; lines = (reads_below config Up readings n layer).lines ++ o.lines }) (same n (omega arith) (reads_below config Up readings n layer).layer)

-- two readings of a frame
pub frame_same : (planned : Planned) (set cfn qe other_cfn other_qe : ℕ) (held other : HeldSet) (layer : Layer) → IsReadBack Up planned.config.uplink.side set cfn other_cfn qe other_qe held other
    → reads_below planned.config Up (set_readings planned.config.uplink.side set other) (length planned.config.uplink.side.channels) layer
    ≡ reads_below planned.config Up (set_readings planned.config.uplink.side set held) (length planned.config.uplink.side.channels) layer
frame_same planned set cfn qe other_cfn other_qe held other layer back =
    let side = planned.config.uplink.side in
    reads_below-same planned.config (set_readings side set held) (set_readings side set other) (length side.channels) layer (λ i inside now. elim (eqb_tells (channel_at side i).set set) [
      | inl same ↦
          ap (λ (r : Reading). reads planned.config Up i r now) (reading_on side set other i inside same.1)
          ∙ ap (λ (cs : List Came). takes planned.config Up i 0 cs now) (came_of-same (held_at held.blocks i) (held_at other.blocks i) (back.ttis i inside same.1) (back.marks.marks i inside same.1))
          ∙ sym (ap (λ (r : Reading). reads planned.config Up i r now) (reading_on side set held i inside same.1))
      | inr apart ↦ ap (λ (r : Reading). reads planned.config Up i r now) (reading_off side set other i apart.1 ∙ sym (reading_off side set held i apart.1))
    ])

one_outcome : (planned : Planned) (old new older newer : State) (set : ℕ) (octets : List ℕ) (output more : Output) → older.layer ≡ old.layer → IsReadFrame planned old set octets new output → IsReadFrame planned older set octets newer more
    → (more ≡ output) × (newer.layer ≡ new.layer)
one_outcome planned old new older newer set octets output more layer a b =
    let side = planned.config.uplink.side in
    let back : IsReadBack Up side set a.cfn b.cfn a.qe b.qe a.held b.held = one_reading planned.config Up set a.cfn a.qe b.cfn b.qe octets a.held b.held a.read b.read in
    let same : reads_below planned.config Up (set_readings side set b.held) (length side.channels) older.layer ≡ reads_below planned.config Up (set_readings side set a.held) (length side.channels) old.layer =
    frame_same planned set a.cfn a.qe b.cfn b.qe a.held b.held older.layer back ∙ ap (λ (l : Layer). reads_below planned.config Up (set_readings side set a.held) (length side.channels) l) layer in
    (b.reported ∙ ap (λ (o : Outcome). says o.lines) same ∙ sym a.reported, ap (λ (s : State). s.layer) b.state ∙ ap (λ (o : Outcome). o.layer) same ∙ sym (ap (λ (s : State). s.layer) a.state))

answered : (planned : Planned) (old new older newer : State) (set : ℕ) (octets : List ℕ) (output more : Output) → older.layer ≡ old.layer → IsArrival planned old set octets new output → IsArrival planned older set octets newer more
    → (more ≡ output) × (newer.layer ≡ new.layer)
answered planned old new older newer set octets output more layer (inl a) (inl b) = one_outcome planned old new older newer set octets output more layer a b
answered planned old new older newer set octets output more layer (inl a) (inr b) = absurd (no_form planned.config Up set octets b.error b.cause a.cfn a.qe a.held a.read)
answered planned old new older newer set octets output more layer (inr a) (inl b) = absurd (no_form planned.config Up set octets a.error a.cause b.cfn b.qe b.held b.read)
answered planned old new older newer set octets output more layer (inr a) (inr b) = (
  b.reported
      ∙ ap (λ n. says (IubBad Up set n ∷ [])) (one_number Up planned.config.uplink.side planned.config.payload_check set octets a.error b.error a.cause b.cause)
      ∙ sym a.reported,
  ap (λ (s : State). s.layer) b.state ∙ layer ∙ sym (ap (λ (s : State). s.layer) a.state),
)

-- one answer
pub arrival_one : (old new older newer : State) (set : ℕ) (octets : List ℕ) (output more : Output) → older.planned ≡ old.planned → older.layer ≡ old.layer → Steps old (IubFrame set octets) new output
    → Steps older (IubFrame set octets) newer more → (more ≡ output) × (newer.layer ≡ new.layer)
arrival_one old new older newer set octets output more same layer a b =
    answered old.planned old new older newer set octets output more layer a (subst (λ (p : Planned). IsArrival p older set octets newer more) same b)

refused_so : (planned : Planned) (old new : State) (set : ℕ) (octets : List ℕ) (output : Output) (error : IubError) → IsCause planned.config Up set octets error → IsArrival planned old set octets new output
    → (new ≡ record old { readings = no_readings }) × (output ≡ says (IubBad Up set (refusal_number error) ∷ []))
refused_so planned old new set octets output error cause (inl a) = absurd (no_form planned.config Up set octets error cause a.cfn a.qe a.held a.read)
refused_so planned old new set octets output error cause (inr a) = (
  a.state,
  a.reported ∙ ap (λ n. says (IubBad Up set n ∷ [])) (one_number Up planned.config.uplink.side planned.config.payload_check set octets error a.error cause a.cause),
)

-- and a refusal for one cause
pub refusal_one : (old new : State) (set : ℕ) (octets : List ℕ) (output : Output) (error : IubError) → IsCause old.planned.config Up set octets error → Steps old (IubFrame set octets) new output
    → (new ≡ record old { readings = no_readings }) × (output ≡ says (IubBad Up set (refusal_number error) ∷ []))
refusal_one old new set octets output error cause step = refused_so old.planned old new set octets output error cause step
