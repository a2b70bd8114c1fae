-- The steps of the nodes in a radio frame, in the configuration that is active at each of them.
use Rattle.std.proofs.Common.{◌≡◌, ◌≤◌, ◌+◌, ◌∙◌, ℕ, zero, suc, List, Option, Some, None, length, arith, sym, ap, subst, inl, inr}
use Rattle.dch_types.specs.declared.channel.Dir.TheVariants.{Up}
use Rattle.dch_accept.specs.Plans.{Planned}
use Rattle.dch_damage.specs.Damage.{iub_after}
use Rattle.dch_node.specs.Lines.{Line}
use Rattle.dch_node.specs.Values.{Output}
use Rattle.dch_layer2.specs.Layers.{Layer}
use Rattle.dch_linkcmd.specs.UeState.{State as UeState}
use Rattle.dch_linkcmd.specs.UeSteps.{IsTick as IsUeTick}
use Rattle.dch_linkcmd.specs.RncState.{State as RncState, set_readings}
use Rattle.dch_linkcmd.specs.RncSteps.{IsArrival, IsTick as IsRncTick}
use Rattle.dch_linkcmd.specs.LinkLink.{LinkState}
use Rattle.dch_runlaw.specs.Frames.{IsFrame, MayBeTaken, Taken}
use Rattle.dch_ue.proofs.Lasting.{GivesTheSame, reads_below-on}

-- a configuration is active at all three
pub record HavePlanned (planned : Planned) (link : LinkState) : Type 0 where
  pub ue : link.ue.state.planned ≡ planned
  pub node_b : link.node_b.state.planned ≡ planned
  pub rnc : link.rnc.state.planned ≡ planned

-- the ticks
pub rnc_tick : (planned : Planned) (old new : LinkState) (lines : List Line) (f : IsFrame old new lines) → HavePlanned planned old → IsRncTick planned old.rnc.state f.rnc f.rnc_output
rnc_tick planned old new lines f has = subst (λ (p : Planned). IsRncTick p old.rnc.state f.rnc f.rnc_output) has.rnc f.rnc_ticks

pub ue_tick : (planned : Planned) (old new : LinkState) (lines : List Line) (f : IsFrame old new lines) → HavePlanned planned old → IsUeTick planned f.kept new.ue.state f.ue_output
ue_tick planned old new lines f has = subst (λ (p : Planned). IsUeTick p f.kept new.ue.state f.ue_output) (ap (λ (x : UeState). x.planned) f.keeps.0 ∙ has.ue) f.ue_ticks

-- the configuration, the CFN, the channels and the combination of the network controller stay as it takes Iub frames
pub record Keeps (old new : RncState) : Type 0 where
  pub active : new.planned ≡ old.planned
  pub same_cfn : new.cfn ≡ old.cfn
  pub layer : GivesTheSame old.layer new.layer

keeps_step : (planned : Planned) (old new : RncState) (s : ℕ) (octets : List ℕ) (output : Output) → IsArrival planned old s octets new output → Keeps old new
keeps_step planned old new s octets output (inl read) =
    let below = reads_below-on planned.config Up (set_readings planned.config.uplink.side s read.held) (length planned.config.uplink.side.channels) old.layer in
    record {
      active = ap (λ (x : RncState). x.planned) read.state;
      same_cfn = ap (λ (x : RncState). x.cfn) read.state;
      layer = record { given = λ j. ap (λ (x : RncState). x.layer.given j) read.state ∙ below.given j; running = ap (λ (x : RncState). x.layer.running) read.state ∙ below.running };
    }
keeps_step planned old new s octets output (inr refused) = record {
  active = ap (λ (x : RncState). x.planned) refused.state;
  same_cfn = ap (λ (x : RncState). x.cfn) refused.state;
  layer = record { given = λ j. ap (λ (x : RncState). x.layer.given j) refused.state; running = ap (λ (x : RncState). x.layer.running) refused.state };
}

keeps_may : (planned : Planned) (s : ℕ) (o : Option (List ℕ)) (near : Layer) (old new : RncState) (taken : Taken) (lines : List Line) → MayBeTaken planned s o near old new taken lines → Keeps old new
keeps_may planned s None near old new taken lines m = record {
  active = ap (λ (x : RncState). x.planned) m.0;
  same_cfn = ap (λ (x : RncState). x.cfn) m.0;
  layer = record { given = λ j. ap (λ (x : RncState). x.layer.given j) m.0; running = ap (λ (x : RncState). x.layer.running) m.0 };
}
keeps_may planned s (Some octets) near old new taken lines m = keeps_step old.planned old new s octets m.output m.step

pub keeps_all : (old new : LinkState) (lines : List Line) (f : IsFrame old new lines) (s : ℕ) → s ≤ 8 → Keeps f.rnc (f.rncs s)
keeps_all old new lines f zero most = record {
  active = ap (λ (x : RncState). x.planned) f.rnc_first;
  same_cfn = ap (λ (x : RncState). x.cfn) f.rnc_first;
  layer = record { given = λ j. ap (λ (x : RncState). x.layer.given j) f.rnc_first; running = ap (λ (x : RncState). x.layer.running) f.rnc_first };
}
keeps_all old new lines f (suc s) most =
    let next : s + 1 ≡ suc s = omega arith in
    let before : Keeps f.rnc (f.rncs s) = keeps_all old new lines f s (omega arith) in
    let step : Keeps (f.rncs s) (f.rncs (s + 1)) =
    keeps_may old.rnc.state.planned s (iub_after old.damage Up s (f.up_output.iub s)) new.ue.state.layer (f.rncs s) (f.rncs (s + 1)) (f.taken s) (f.rnc_lines s) (f.takes s (omega arith)) in
    subst (λ k. Keeps f.rnc (f.rncs k)) next (record {
      active = step.active ∙ before.active;
      same_cfn = step.same_cfn ∙ before.same_cfn;
      layer = record { given = λ j. step.layer.given j ∙ before.layer.given j; running = step.layer.running ∙ before.layer.running };
    })

pub keeps_frame : (old new : LinkState) (lines : List Line) (f : IsFrame old new lines) → Keeps f.rnc new.rnc.state
keeps_frame old new lines f = subst (λ (r : RncState). Keeps f.rnc r) (sym f.rnc_last) (keeps_all old new lines f 8 (omega arith))
