-- What a step of each node sends fits its configuration.
use Rattle.std.proofs.Common.{◌≡◌, ◌<◌, ◌+◌, ◌∙◌, ℕ, zero, suc, List, [], length, true, arith, refl, ap, sym, subst, inl, inr, Option, Some, None}
use Rattle.std.proofs.lemmas.Bool.Decides.{eqb_tells}
use Rattle.std.proofs.Math.Bool.{or-true}
use Rattle.dch_bits.specs.declared.bit.Bit.{Bit}
use Rattle.dch_bits.specs.declared.bit.Trit.{Trit}
use Rattle.dch_types.specs.declared.channel.Dir.{Dir}
use Rattle.dch_types.specs.declared.channel.Dir.TheVariants.{Up, Down}
use Rattle.dch_types.specs.declared.channel.Side.{Side}
use Rattle.dch_types.specs.Parts.{channel_at, side_of}
use Rattle.dch_types.specs.Timing.{frames_among, has_set, is_set_among, set_frames, starts}
use Rattle.dch_tfci.proofs.Distances.{length-sent}
use Rattle.dch_accept.specs.Frames.{Frame, tfci_bits}
use Rattle.dch_accept.specs.HeldSets.{HeldSet}
use Rattle.dch_accept.specs.Plans.{Planned}
use Rattle.dch_iub.specs.Forms.{IsWrittenForm}
use Rattle.dch_tti.specs.Frames.{IsFrameOf}
use Rattle.dch_tti.specs.RxFrames.{RxFrames}
use Rattle.dch_node.specs.Lines.{Line}
use Rattle.dch_node.specs.Values.{Output, Radio, says}
use Rattle.dch_layer2.specs.Layers.{Layer}
use Rattle.dch_ue.specs.State.{Event as UeEvent, BlockedCombination as UeBlocked, Change as UeChange, DownlinkFrame, OfferedUnit as UeOffered, State as UeState, Tick as UeTicks}
use Rattle.dch_ue.specs.Steps.{Steps as UeSteps}
use Rattle.dch_nodeb.specs.State.{Change as NodeBChange, DownlinkDue, Event as NodeBEvent, IubFrame as IubDown, State as NodeBState, UplinkFrame}
use Rattle.dch_nodeb.specs.Steps.{DeliversSet, IsRadio, Steps as NodeBSteps}
use Rattle.dch_rnc.specs.State.{Event as RncEvent, BlockedCombination as RncBlocked, Change as RncChange, IubFrame as IubUp, OfferedUnit as RncOffered, State as RncState, Tick as RncTicks}
use Rattle.dch_rnc.specs.Steps.{IsSent, Steps as RncSteps}
use Rattle.dch_link.specs.Fitting.{Fits, FitsIub, FitsRadio, MayFitIub, MayFitRadio}

-- a step that sends nothing
pub says_fits : (planned : Planned) (radio iub : Dir) (output : Output) (lines : List Line) → output ≡ says lines → Fits planned radio iub output
says_fits planned radio iub output lines same = subst (λ (o : Output). Fits planned radio iub o) (sym same) (record { radio_is = tt; iub_is = λ s early. tt })

-- a frame as it is written
frame_fits : (planned : Planned) (dir : Dir) (cell : ℕ → Trit) (c : ℕ) (frame : Frame) (radio : Radio) → c < length (side_of planned.config dir).combinations → IsFrameOf planned dir cell c frame → radio.tfci ≡ frame.tfci → radio.cells ≡ frame.cells → FitsRadio planned dir radio
frame_fits planned dir cell c frame radio listed is tfci cells = record {
  tfci = ap (λ (l : List Bit). length l) (tfci ∙ is.tfci) ∙ length-sent c (tfci_bits planned.config dir);
  combination = c;
  listed = listed;
  cells = ap (λ (l : List Trit). length l) cells ∙ is.long;
}

-- a set that has TTIs is one that there is
among : (side : Side) (set i : ℕ) → 0 < frames_among side set i → is_set_among side set i ≡ true
among side set zero some = absurd (omega (arith, some))
among side set (suc i) some = elim (eqb_tells (channel_at side i).set set) [
  | inl same ↦ rw same.0 (or-true (is_set_among side set i))
  | inr other ↦ (let less : 0 < frames_among side set i = subst (λ n. 0 < n) (rw other.0 refl) some in rw (other.0, among side set i less) refl)
]

starts_some : (frames cfn : ℕ) → starts frames cfn ≡ true → 0 < frames
starts_some zero cfn is = cc is
starts_some (suc frames) cfn is = omega arith

set_there : (side : Side) (set cfn : ℕ) → starts (set_frames side set) cfn ≡ true → has_set side set ≡ true
set_there side set cfn is = among side set (length side.channels) (starts_some (set_frames side set) cfn is)

-- an Iub frame as it is written
written_fits : (planned : Planned) (dir : Dir) (set cfn qe : ℕ) (octets : List ℕ) (held : HeldSet) → has_set (side_of planned.config dir) set ≡ true → IsWrittenForm planned.config dir set octets cfn qe held → FitsIub planned dir set octets
written_fits planned dir set cfn qe octets held there is = record {
  there = there;
  numbers = is.read.numbers;
  formats = λ i inside member. subst (λ n. n < length (channel_at (side_of planned.config dir) i).formats) (is.read.numbered i inside member) (is.read.formats i inside member).there;
  long = is.read.long;
}

pub ue_fits : (planned : Planned) (old new : UeState) (event : UeEvent) (output : Output) → UeSteps old event new output → old.planned ≡ planned → new.layer.running < length planned.config.uplink.side.combinations → Fits planned Up Up output
ue_fits planned old new (UeOffered b octets bits) output step same runs = says_fits planned Up Up output _ step.reported
ue_fits planned old new (UeBlocked c on) output step same runs = says_fits planned Up Up output [] step.1
ue_fits planned old new (DownlinkFrame frame) output step same runs = says_fits planned Up Up output [] step.1
ue_fits planned old new UeTicks output step same runs = record {
  radio_is = subst (λ (r : Option Radio). MayFitRadio planned Up r) (sym step.sent)
      (subst (λ (p : Planned). new.layer.running < length p.config.uplink.side.combinations → FitsRadio p Up step.radio) same
      (λ listed. frame_fits old.planned Up _ new.layer.running step.written.frame step.radio listed step.written.written step.written.tfci step.written.cells) runs);
  iub_is = λ s early. subst (λ (o : Option (List ℕ)). MayFitIub planned Up s o) (sym (step.no_iub s early)) tt;
}
ue_fits planned old new (UeChange second) output step same runs = says_fits planned Up Up output [] step.quiet

radio_fits : (planned : Planned) (state : NodeBState) (radio : Option Radio) → IsRadio planned state radio → MayFitRadio planned Down radio
radio_fits planned state None is = tt
radio_fits planned state (Some radio) is = frame_fits planned Down _ is.combination is.frame radio is.listed is.written is.tfci is.cells

delivered_fits : (planned : Planned) (rx_frames : RxFrames) (set : ℕ) (lines : List Line) (iub : Option (List ℕ)) → DeliversSet planned rx_frames set lines iub → MayFitIub planned Up set iub
delivered_fits planned rx_frames set lines iub (inl waits) = subst (λ (o : Option (List ℕ)). MayFitIub planned Up set o) (sym waits.none) tt
delivered_fits planned rx_frames set lines iub (inr (inl lost)) = subst (λ (o : Option (List ℕ)). MayFitIub planned Up set o) (sym lost.none) tt
delivered_fits planned rx_frames set lines iub (inr (inr up)) =
    subst (λ (o : Option (List ℕ)). MayFitIub planned Up set o) (sym up.sent)
    (written_fits planned Up set _ planned.config.qe up.octets up.held (set_there planned.config.uplink.side set (rx_frames.cfn + 1) up.over) up.written)

pub node_b_fits : (planned : Planned) (old new : NodeBState) (event : NodeBEvent) (output : Output) → NodeBSteps old event new output → old.planned ≡ planned → Fits planned Down Up output
node_b_fits planned old new (IubDown set octets) output (inl kept) same = says_fits planned Down Up output [] kept.quiet
node_b_fits planned old new (IubDown set octets) output (inr refused) same = says_fits planned Down Up output _ refused.reported
node_b_fits planned old new DownlinkDue output step same = subst (λ (p : Planned). Fits p Down Up output) same (record {
  radio_is = radio_fits old.planned new output.sent step.radio;
  iub_is = λ s early. subst (λ (o : Option (List ℕ)). MayFitIub old.planned Up s o) (sym (step.no_iub s early)) tt;
})
node_b_fits planned old new (UplinkFrame frame) output step same = subst (λ (p : Planned). Fits p Down Up output) same (record {
  radio_is = subst (λ (r : Option Radio). MayFitRadio old.planned Down r) (sym step.no_radio) tt;
  iub_is = λ s early. delivered_fits old.planned step.rx_frames s (step.lines s) (output.iub s) (step.sets s early);
})
node_b_fits planned old new (NodeBChange second) output step same = says_fits planned Down Up output [] step.quiet

sent_fits : (planned : Planned) (cfn : ℕ) (layer : Layer) (set : ℕ) (iub : Option (List ℕ)) → IsSent planned.config cfn layer set iub → MayFitIub planned Down set iub
sent_fits planned cfn layer set None is = tt
sent_fits planned cfn layer set (Some octets) is = written_fits planned Down set cfn 0 octets is.1.held (set_there planned.config.downlink.side set cfn is.0) is.1.written

pub rnc_fits : (planned : Planned) (old new : RncState) (event : RncEvent) (output : Output) → RncSteps old event new output → old.planned ≡ planned → Fits planned Down Down output
rnc_fits planned old new (RncOffered b octets bits) output step same = says_fits planned Down Down output _ step.reported
rnc_fits planned old new (RncBlocked c on) output step same = says_fits planned Down Down output [] step.1
rnc_fits planned old new (IubUp set octets) output (inl read) same = says_fits planned Down Down output _ read.reported
rnc_fits planned old new (IubUp set octets) output (inr refused) same = says_fits planned Down Down output _ refused.reported
rnc_fits planned old new RncTicks output step same = subst (λ (p : Planned). Fits p Down Down output) same (record {
  radio_is = subst (λ (r : Option Radio). MayFitRadio old.planned Down r) (sym step.no_radio) tt;
  iub_is = λ s early. sent_fits old.planned old.cfn new.layer s (output.iub s) (step.iub s early);
})
rnc_fits planned old new (RncChange second) output step same = says_fits planned Down Down output [] step.quiet
