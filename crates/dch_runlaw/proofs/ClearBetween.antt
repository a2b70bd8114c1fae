-- What happens between two radio frames leaves what the radio side knows.
use Rattle.std.proofs.Common.{◌≡◌, ◌<◌, ◌%◌, ◌∙◌, ℕ, List, Bool, Option, true, refl, sym, ap, subst}
use Rattle.dch_bits.specs.declared.bit.Bit.{Bit}
use Rattle.dch_bits.specs.declared.offer.Offer.{Offer}
use Rattle.dch_bits.specs.declared.offer.Offer.TheVariants.{Accepted, Full, WrongSize}
use Rattle.dch_types.specs.declared.channel.Dir.{Dir}
use Rattle.dch_types.specs.declared.channel.Dir.TheVariants.{Down, Up}
use Rattle.dch_types.specs.Parts.{channel_at, format_number}
use Rattle.dch_types.specs.Timing.{starts}
use Rattle.dch_accept.specs.Plans.{Planned}
use Rattle.dch_node.specs.Lines.{Line}
use Rattle.dch_node.specs.Values.{Output, Radio}
use Rattle.dch_layer2.specs.Bearings.{answers, line_of_answer}
use Rattle.dch_layer2.specs.Layers.{Given}
use Rattle.dch_linkcmd.specs.NodebState.{State as NodeBState}
use Rattle.dch_linkcmd.specs.RncState.{BlockedCombination as RncBlocked, Event as RncEvent, OfferedUnit as RncOffered, State as RncState}
use Rattle.dch_linkcmd.specs.RncSteps.{Steps as RncSteps}
use Rattle.dch_linkcmd.specs.UeState.{BlockedCombination as UeBlocked, Event as UeEvent, OfferedUnit as UeOffered, State as UeState}
use Rattle.dch_linkcmd.specs.UeSteps.{Steps as UeSteps}
use Rattle.dch_linkcmd.specs.Courses.{Course}
use Rattle.dch_linkcmd.specs.Events.{BlockedCombination, Damages, Event, Happens, OfferedUnit}
use Rattle.dch_linkcmd.specs.LinkLink.{LinkState}
use Rattle.dch_linkcmd.specs.LinkStages.{RncGoes, UeGoes}
use Rattle.dch_runlaw.proofs.Keeping.{but_rnc, but_ue, rnc_step, ue_step}
use Rattle.dch_runlaw.specs.ClearSound.{AreSound, is_sound}
use Rattle.dch_runlaw.proofs.ClearDown.{DownHalf, RunsGiven}
use Rattle.dch_runlaw.proofs.ClearDownFrame.{DownStand, down_side, frames_on}
use Rattle.dch_ue.proofs.Lasting.{GivesTheSame}
use Rattle.dch_runlaw.proofs.ClearUp.{UpHalf}
use Rattle.dch_runlaw.proofs.ClearUpFrame.{UpStand, up_side}

-- what the radio side knows of two states is the same
pub record Same (old new : LinkState) : Type 0 where
  pub ue_active : new.ue.state.planned ≡ old.ue.state.planned
  pub rnc_active : new.rnc.state.planned ≡ old.rnc.state.planned
  pub cfn : new.rnc.state.cfn ≡ old.rnc.state.cfn
  pub node_b : new.node_b.state ≡ old.node_b.state
  pub ue_cfn : new.ue.state.cfn ≡ old.ue.state.cfn
  pub ue_frames : new.ue.state.frames ≡ old.ue.state.frames
  pub rnc_layer : GivesTheSame old.rnc.state.layer new.rnc.state.layer
  pub ue_layer : GivesTheSame old.ue.state.layer new.ue.state.layer

-- so the downlink stands as it stood, and the uplink
pub stay_down : (planned : Planned) (old new : LinkState) → Same old new → DownStand planned old → DownStand planned new
stay_down planned old new r s = record {
  active = record { ue = r.ue_active ∙ s.active.ue; node_b = ap (λ (b : NodeBState). b.planned) r.node_b ∙ s.active.node_b; rnc = r.rnc_active ∙ s.active.rnc };
  node_b_cfn = ap (λ (b : NodeBState). b.cfn) r.node_b ∙ s.node_b_cfn ∙ sym r.cfn;
  ue_cfn = r.ue_cfn ∙ s.ue_cfn ∙ sym r.cfn;
  runs = λ j inside off. subst (λ (g : Given). RunsGiven (channel_at (down_side planned) j) g (new.node_b.state.given j)) (sym (r.rnc_layer.given j))
      (subst (λ (b : NodeBState). RunsGiven (channel_at (down_side planned) j) (old.rnc.state.layer.given j) (b.given j)) (sym r.node_b) (s.runs j inside (ap (starts (frames_on (down_side planned) j)) (sym r.cfn) ∙ off)));
  formats = λ j inside off. ap (λ (g : Given). g.format) (r.rnc_layer.given j) ∙ s.formats j inside (ap (starts (frames_on (down_side planned) j)) (sym r.cfn) ∙ off) ∙ ap (λ c. format_number (down_side planned) c j) (sym r.rnc_layer.running);
  half = λ i inside some.
      let f : ℕ = frames_on (down_side planned) i in
      subst (λ n. DownHalf planned i (new.rnc.state.layer.given i) n new.ue.state.frames (n % f)) (sym r.cfn)
      (subst (λ (g : Given). DownHalf planned i g old.rnc.state.cfn new.ue.state.frames (old.rnc.state.cfn % f)) (sym (r.rnc_layer.given i))
      (subst (λ (frames : ℕ → Option Radio). DownHalf planned i (old.rnc.state.layer.given i) old.rnc.state.cfn frames (old.rnc.state.cfn % f)) (sym r.ue_frames)
      (s.half i inside (subst (λ n. 0 < n % f) r.cfn some))));
}

pub stay_up : (planned : Planned) (old new : LinkState) → Same old new → UpStand planned old → UpStand planned new
stay_up planned old new r s = record {
  formats = λ j inside off. ap (λ (g : Given). g.format) (r.ue_layer.given j) ∙ s.formats j inside (ap (starts (frames_on (up_side planned) j)) (sym r.cfn) ∙ off) ∙ ap (λ c. format_number (up_side planned) c j) (sym r.ue_layer.running);
  half = λ i inside some.
      let f : ℕ = frames_on (up_side planned) i in
      subst (λ n. UpHalf planned i (new.ue.state.layer.given i) (λ c. c ≡ new.ue.state.layer.running) n new.node_b.state.frames (n % f)) (sym r.cfn)
      (subst (λ run. UpHalf planned i (new.ue.state.layer.given i) (λ c. c ≡ run) old.rnc.state.cfn new.node_b.state.frames (old.rnc.state.cfn % f)) (sym r.ue_layer.running)
      (subst (λ (g : Given). UpHalf planned i g (λ c. c ≡ old.ue.state.layer.running) old.rnc.state.cfn new.node_b.state.frames (old.rnc.state.cfn % f)) (sym (r.ue_layer.given i))
      (subst (λ (b : NodeBState). UpHalf planned i (old.ue.state.layer.given i) (λ c. c ≡ old.ue.state.layer.running) old.rnc.state.cfn b.frames (old.rnc.state.cfn % f)) (sym r.node_b)
      (s.half i inside (subst (λ n. 0 < n % f) r.cfn some)))));
}

-- a step of the terminal, or of the network controller, that leaves the CFN, the radio frames and the channels
record UeStays (old new : UeState) (lines : List Line) : Type 0 where
  active : new.planned ≡ old.planned
  cfn : new.cfn ≡ old.cfn
  frames : new.frames ≡ old.frames
  layer : GivesTheSame old.layer new.layer
  sound : AreSound lines

record RncStays (old new : RncState) (lines : List Line) : Type 0 where
  active : new.planned ≡ old.planned
  cfn : new.cfn ≡ old.cfn
  layer : GivesTheSame old.layer new.layer
  sound : AreSound lines

answer_sound : (dir : Dir) (b : ℕ) (answer : Offer) → is_sound (line_of_answer dir b answer) ≡ true
answer_sound dir b Accepted = refl
answer_sound dir b Full = refl
answer_sound dir b WrongSize = refl

said_sound : (output : Output) (said : Output) → output ≡ said → AreSound said.lines → AreSound output.lines
said_sound output said is sound = subst AreSound (sym (ap (λ (o : Output). o.lines) is)) sound

ue_offered : (old new : UeState) (b : ℕ) (octets : List ℕ) (bits : List Bit) (output : Output) → UeSteps old (UeOffered b octets bits) new output → UeStays old new output.lines
ue_offered old new b octets bits output step = record {
  active = ap (λ (x : UeState). x.planned) step.state;
  cfn = ap (λ (x : UeState). x.cfn) step.state;
  frames = ap (λ (x : UeState). x.frames) step.state;
  layer = record { given = λ j. ap (λ (x : UeState). x.layer.given j) step.state; running = ap (λ (x : UeState). x.layer.running) step.state };
  sound = said_sound output _ step.reported (answer_sound Up b (answers old.planned.config Up b octets bits (old.layer.bearings b)), tt);
}

ue_blocked : (old new : UeState) (c : ℕ) (on : Bool) (output : Output) → UeSteps old (UeBlocked c on) new output → UeStays old new output.lines
ue_blocked old new c on output step = record {
  active = ap (λ (x : UeState). x.planned) step.0;
  cfn = ap (λ (x : UeState). x.cfn) step.0;
  frames = ap (λ (x : UeState). x.frames) step.0;
  layer = record { given = λ j. ap (λ (x : UeState). x.layer.given j) step.0; running = ap (λ (x : UeState). x.layer.running) step.0 };
  sound = said_sound output _ step.1 tt;
}

rnc_offered : (old new : RncState) (b : ℕ) (octets : List ℕ) (bits : List Bit) (output : Output) → RncSteps old (RncOffered b octets bits) new output → RncStays old new output.lines
rnc_offered old new b octets bits output step = record {
  active = ap (λ (x : RncState). x.planned) step.state;
  cfn = ap (λ (x : RncState). x.cfn) step.state;
  layer = record { given = λ j. ap (λ (x : RncState). x.layer.given j) step.state; running = ap (λ (x : RncState). x.layer.running) step.state };
  sound = said_sound output _ step.reported (answer_sound Down b (answers old.planned.config Down b octets bits (old.layer.bearings b)), tt);
}

rnc_blocked : (old new : RncState) (c : ℕ) (on : Bool) (output : Output) → RncSteps old (RncBlocked c on) new output → RncStays old new output.lines
rnc_blocked old new c on output step = record {
  active = ap (λ (x : RncState). x.planned) step.0;
  cfn = ap (λ (x : RncState). x.cfn) step.0;
  layer = record { given = λ j. ap (λ (x : RncState). x.layer.given j) step.0; running = ap (λ (x : RncState). x.layer.running) step.0 };
  sound = said_sound output _ step.1 tt;
}

same_ue : (old new : LinkState) (event : UeEvent) → UeGoes old event new → UeStays old.ue.state new.ue.state new.ue.last.lines → Same old new
same_ue old new event goes stays =
    let others = but_ue old new event goes in
    record {
      ue_active = stays.active;
      rnc_active = ap (λ (c : Course RncState RncEvent). c.state.planned) others.rnc;
      cfn = ap (λ (c : Course RncState RncEvent). c.state.cfn) others.rnc;
      node_b = ap (λ c. c.state) others.node_b;
      ue_cfn = stays.cfn;
      ue_frames = stays.frames;
      rnc_layer = record { given = λ j. ap (λ (c : Course RncState RncEvent). c.state.layer.given j) others.rnc; running = ap (λ (c : Course RncState RncEvent). c.state.layer.running) others.rnc };
      ue_layer = stays.layer;
    }

same_rnc : (old new : LinkState) (event : RncEvent) → RncGoes old event new → RncStays old.rnc.state new.rnc.state new.rnc.last.lines → Same old new
same_rnc old new event goes stays =
    let others = but_rnc old new event goes in
    record {
      ue_active = ap (λ (c : Course UeState UeEvent). c.state.planned) others.ue;
      rnc_active = stays.active;
      cfn = stays.cfn;
      node_b = ap (λ c. c.state) others.node_b;
      ue_cfn = ap (λ (c : Course UeState UeEvent). c.state.cfn) others.ue;
      ue_frames = ap (λ (c : Course UeState UeEvent). c.state.frames) others.ue;
      rnc_layer = stays.layer;
      ue_layer = record { given = λ j. ap (λ (c : Course UeState UeEvent). c.state.layer.given j) others.ue; running = ap (λ (c : Course UeState UeEvent). c.state.layer.running) others.ue };
    }

-- an event between two radio frames
pub between : (old new : LinkState) (event : Event) (lines : List Line) → Happens old event new lines → Same old new × AreSound lines
between old new (OfferedUnit Up b octets bits) lines happens =
    let stays : UeStays old.ue.state new.ue.state new.ue.last.lines = ue_offered old.ue.state new.ue.state b octets bits new.ue.last (ue_step old new (UeOffered b octets bits) happens.0) in
    (same_ue old new (UeOffered b octets bits) happens.0 stays, subst AreSound (sym happens.1) stays.sound)
between old new (OfferedUnit Down b octets bits) lines happens =
    let stays : RncStays old.rnc.state new.rnc.state new.rnc.last.lines = rnc_offered old.rnc.state new.rnc.state b octets bits new.rnc.last (rnc_step old new (RncOffered b octets bits) happens.0) in
    (same_rnc old new (RncOffered b octets bits) happens.0 stays, subst AreSound (sym happens.1) stays.sound)
between old new (BlockedCombination Up c on) lines happens =
    let stays : UeStays old.ue.state new.ue.state new.ue.last.lines = ue_blocked old.ue.state new.ue.state c on new.ue.last (ue_step old new (UeBlocked c on) happens.0) in
    (same_ue old new (UeBlocked c on) happens.0 stays, subst AreSound (sym happens.1) stays.sound)
between old new (BlockedCombination Down c on) lines happens =
    let stays : RncStays old.rnc.state new.rnc.state new.rnc.last.lines = rnc_blocked old.rnc.state new.rnc.state c on new.rnc.last (rnc_step old new (RncBlocked c on) happens.0) in
    (same_rnc old new (RncBlocked c on) happens.0 stays, subst AreSound (sym happens.1) stays.sound)
between old new (Damages damage) lines happens = (
  record {
    ue_active = ap (λ (l : LinkState). l.ue.state.planned) happens.0;
    rnc_active = ap (λ (l : LinkState). l.rnc.state.planned) happens.0;
    cfn = ap (λ (l : LinkState). l.rnc.state.cfn) happens.0;
    node_b = ap (λ (l : LinkState). l.node_b.state) happens.0;
    ue_cfn = ap (λ (l : LinkState). l.ue.state.cfn) happens.0;
    ue_frames = ap (λ (l : LinkState). l.ue.state.frames) happens.0;
    rnc_layer = record { given = λ j. ap (λ (l : LinkState). l.rnc.state.layer.given j) happens.0; running = ap (λ (l : LinkState). l.rnc.state.layer.running) happens.0 };
    ue_layer = record { given = λ j. ap (λ (l : LinkState). l.ue.state.layer.given j) happens.0; running = ap (λ (l : LinkState). l.ue.state.layer.running) happens.0 };
  },
  subst AreSound (sym happens.1) tt,
)
