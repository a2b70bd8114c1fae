-- The Node B's blocks are as many bits as their format has, whatever Iub frames come.
use Rattle.std.proofs.Common.{◌≡◌, ◌<◌, ◌∙◌, ℕ, List, length, true, false, Option, Some, None, refl, sym, ap, subst, inl, inr}
use Rattle.std.specs.Prelude.{◌==◌}
use Rattle.std.proofs.lemmas.Bool.{cases_eq, eq-eqb, eqb-true, ne_eqb}
use Rattle.dch_types.specs.declared.channel.Side.{Side}
use Rattle.dch_types.specs.declared.channel.Trch.{Trch}
use Rattle.dch_types.specs.Limits.{IsChannel, idle_format}
use Rattle.dch_types.specs.Parts.{channel_at, format_at}
use Rattle.dch_types.specs.Timing.{set_frames, starts}
use Rattle.dch_accept.specs.Blocks.{bits_of}
use Rattle.dch_accept.specs.Plans.{Planned}
use Rattle.dch_iub.specs.Shape.{ForSet}
use Rattle.dch_node.specs.Lines.{Line}
use Rattle.dch_node.specs.Values.{Blocks, Output, idle_blocks}
use Rattle.dch_layer2.proofs.Openings.{idle_is_idle}
use Rattle.dch_linkcmd.specs.NodebState.{DownlinkIubFrame, State, given_now, keeping, kept_still, taken}
use Rattle.dch_linkcmd.specs.NodebSteps.{IsArrival}
use Rattle.dch_linkcmd.proofs.Steady.{tells}
use Rattle.dch_runlaw.specs.Frames.{MayArrive}

-- blocks are as many bits as their format has
abbrev pub IsWhole : Trch → Blocks → Type 0
IsWhole channel blocks = length blocks.bits ≡ bits_of (format_at channel blocks.format)

-- and so those of the kept Iub frames
abbrev pub FrameWhole : Side → ℕ → DownlinkIubFrame → Type 0
FrameWhole side s frame = ForSet side s (λ i. IsWhole (channel_at side i) (frame.blocks i))

abbrev pub KeptWhole : Side → (ℕ → Option DownlinkIubFrame) → Type 0
KeptWhole side kept = (s : ℕ) (frame : DownlinkIubFrame) → kept s ≡ Some frame → FrameWhole side s frame

-- and those that run
abbrev pub GivenWhole : Side → (ℕ → Blocks) → Type 0
GivenWhole side given = (i : ℕ) → i < length side.channels → IsWhole (channel_at side i) (given i)

pub idle_whole : (side : Side) (i : ℕ) → IsChannel (channel_at side i) → IsWhole (channel_at side i) (idle_blocks side i)
idle_whole side i good = sym (eqb-true (bits_of (format_at (channel_at side i) (idle_format (channel_at side i)))) 0 (idle_is_idle (channel_at side i) good))

keeping_whole : (side : Side) (old : State) (s : ℕ) (frame : DownlinkIubFrame) → FrameWhole side s frame → KeptWhole side old.kept → KeptWhole side (keeping old s frame).kept
keeping_whole side old s frame own before k other is = elim (cases_eq k s) [
  | inl here ↦ (
      let now : (keeping old s frame).kept k ≡ Some frame = rw (eq-eqb k s here) refl in
      let same : frame ≡ other = (let both : Some frame ≡ Some other = sym now ∙ is in cc) in
      subst (λ k. FrameWhole side k other) (sym here) (subst (FrameWhole side s) same own))
  | inr apart ↦ (
      let away : k ≡ s → ⊥ = apart in
      let now : (keeping old s frame).kept k ≡ old.kept k = rw (ne_eqb k s away) refl in
      before k other (sym now ∙ is))
]

-- what an Iub frame leaves at the Node B, kept or refused
pub record Stays (planned : Planned) (old new : State) : Type 0 where
  pub active : new.planned ≡ old.planned
  pub given : new.given ≡ old.given
  pub same_cfn : new.cfn ≡ old.cfn
  pub frames : new.frames ≡ old.frames
  pub whole : KeptWhole planned.config.downlink.side old.kept → KeptWhole planned.config.downlink.side new.kept

arrival_stays : (planned : Planned) (old : State) (s : ℕ) (octets : List ℕ) (new : State) (output : Output) → IsArrival planned old s octets new output → Stays planned old new
arrival_stays planned old s octets new output (inl k) = record {
  active = ap (λ (x : State). x.planned) k.state;
  given = ap (λ (x : State). x.given) k.state;
  same_cfn = ap (λ (x : State). x.cfn) k.state;
  frames = ap (λ (x : State). x.frames) k.state;
  whole = λ before. subst (λ (x : State). KeptWhole planned.config.downlink.side x.kept) (sym k.state)
      (keeping_whole planned.config.downlink.side old s _ (λ i inside member. (k.read.formats i inside member).long) before);
}
arrival_stays planned old s octets new output (inr r) = record {
  active = ap (λ (x : State). x.planned) r.state;
  given = ap (λ (x : State). x.given) r.state;
  same_cfn = ap (λ (x : State). x.cfn) r.state;
  frames = ap (λ (x : State). x.frames) r.state;
  whole = λ before. subst (λ (x : State). KeptWhole planned.config.downlink.side x.kept) (sym r.state) before;
}

pub may_stays : (planned : Planned) (s : ℕ) (o : Option (List ℕ)) (old new : State) (lines : List Line) → old.planned ≡ planned → MayArrive s o old new lines → Stays planned old new
may_stays planned s None old new lines active m = record {
  active = ap (λ (x : State). x.planned) m.0;
  given = ap (λ (x : State). x.given) m.0;
  same_cfn = ap (λ (x : State). x.cfn) m.0;
  frames = ap (λ (x : State). x.frames) m.0;
  whole = λ before. subst (λ (x : State). KeptWhole planned.config.downlink.side x.kept) (sym m.0) before;
}
may_stays planned s (Some octets) old new lines active m = arrival_stays planned old s octets new m.output (subst (λ (p : Planned). IsArrival p old s octets new m.output) active m.step)

-- where a TTI starts
taken_whole : (side : Side) (cfn : ℕ) (o : Option DownlinkIubFrame) (i : ℕ) → IsWhole (channel_at side i) (idle_blocks side i) → ((frame : DownlinkIubFrame) → o ≡ Some frame → IsWhole (channel_at side i) (frame.blocks i)) → IsWhole (channel_at side i) (taken side cfn o i)
taken_whole side cfn None i idle kept = idle
taken_whole side cfn (Some frame) i idle kept = elim (tells (frame.cfn == cfn)) [
  | inl here ↦ (
      let is : taken side cfn (Some frame) i ≡ frame.blocks i = rw here.0 refl in
      subst (IsWhole (channel_at side i)) (sym is) (kept frame refl))
  | inr other ↦ (
      let is : taken side cfn (Some frame) i ≡ idle_blocks side i = rw other.0 refl in
      subst (IsWhole (channel_at side i)) (sym is) idle)
]

pub given_still : (side : Side) (b : State) (i : ℕ) → starts (channel_at side i).frames b.cfn ≡ false → given_now side b i ≡ b.given i
given_still side b i off = rw off refl

given_new : (side : Side) (b : State) (i : ℕ) → starts (channel_at side i).frames b.cfn ≡ true → given_now side b i ≡ taken side b.cfn (b.kept (channel_at side i).set) i
given_new side b i on = rw on refl

pub now_whole : (side : Side) (b : State) → ((i : ℕ) → i < length side.channels → IsChannel (channel_at side i)) → KeptWhole side b.kept → GivenWhole side b.given → GivenWhole side (given_now side b)
now_whole side b good kept given i inside = elim (tells (starts (channel_at side i).frames b.cfn)) [
  | inl on ↦ subst (IsWhole (channel_at side i)) (sym (given_new side b i on.0))
      (taken_whole side b.cfn (b.kept (channel_at side i).set) i (idle_whole side i (good i inside)) (λ frame is. kept (channel_at side i).set frame is i inside refl))
  | inr off ↦ subst (IsWhole (channel_at side i)) (sym (given_still side b i off.0)) (given i inside)
]

pub still_whole : (side : Side) (b : State) → KeptWhole side b.kept → KeptWhole side (kept_still side b)
still_whole side b kept s frame is = elim (tells (starts (set_frames side s) b.cfn)) [
  | inl on ↦ (
      let none : kept_still side b s ≡ None = rw on.0 refl in
      absurd (let both : None ≡ Some frame = sym none ∙ is in cc))
  | inr off ↦ (
      let same : kept_still side b s ≡ b.kept s = rw off.0 refl in
      kept s frame (sym same ∙ is))
]
