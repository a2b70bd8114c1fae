-- What holds in every run of three nodes, whatever damage there is: the nodes agree on the configuration and the CFN.
use Rattle.std.proofs.Common.{◌≡◌, ◌≤◌, ◌+◌, ◌%◌, ◌∙◌, ℕ, zero, suc, List, [], ◌∷◌, arith, refl, sym, ap, subst}
use Rattle.dch_types.specs.declared.channel.Dir.TheVariants.{Down, Up}
use Rattle.dch_types.specs.declared.channel.Side.{Side}
use Rattle.dch_accept.specs.Plans.{IsPlanned, Planned}
use Rattle.dch_damage.specs.Damage.{iub_after, radio_after}
use Rattle.dch_node.specs.Lines.{Line}
use Rattle.dch_linkcmd.specs.NodebState.{State as NodeBState, given_now}
use Rattle.dch_linkcmd.specs.NodebSteps.{IsDeparture, IsReception}
use Rattle.dch_linkcmd.specs.RncSteps.{IsTick as IsRncTick}
use Rattle.dch_linkcmd.specs.RncState.{State as RncState}
use Rattle.dch_linkcmd.specs.UeState.{State as UeState}
use Rattle.dch_linkcmd.specs.UeSteps.{IsTick as IsUeTick}
use Rattle.dch_linkcmd.specs.LinkLink.{LinkState, opened_link}
use Rattle.dch_runlaw.specs.Frames.{IsFrame}
use Rattle.dch_runlaw.specs.Runs.{Between, Event, Frame, Runs}
use Rattle.dch_runlaw.proofs.ClearBetween.{Same, between}
use Rattle.dch_runlaw.proofs.ClearNodes.{HavePlanned, Keeps, keeps_frame, rnc_tick, ue_tick}
use Rattle.dch_runlaw.proofs.IntervalWhole.{GivenWhole, KeptWhole, Stays, idle_whole, may_stays, now_whole, still_whole}

abbrev pub down_side : Planned → Side
down_side planned = planned.config.downlink.side

pub record Agree (planned : Planned) (link : LinkState) : Type 0 where
  pub active : HavePlanned planned link
  pub node_b_cfn : link.node_b.state.cfn ≡ link.rnc.state.cfn
  pub ue_cfn : link.ue.state.cfn ≡ link.rnc.state.cfn
  pub kept : KeptWhole (down_side planned) link.node_b.state.kept
  pub given : GivenWhole (down_side planned) link.node_b.state.given

-- Iub frames of the first sets may have come
fed_all : (planned : Planned) (old new : LinkState) (lines : List Line) (f : IsFrame old new lines) → HavePlanned planned old → (s : ℕ) → s ≤ 8 → Stays planned old.node_b.state (f.fed s)
fed_all planned old new lines f has zero most = record {
  active = ap (λ (x : NodeBState). x.planned) f.fed_first;
  given = ap (λ (x : NodeBState). x.given) f.fed_first;
  same_cfn = ap (λ (x : NodeBState). x.cfn) f.fed_first;
  frames = ap (λ (x : NodeBState). x.frames) f.fed_first;
  whole = λ before. subst (λ (x : NodeBState). KeptWhole (down_side planned) x.kept) (sym f.fed_first) before;
}
fed_all planned old new lines f has (suc s) most =
    let next : s + 1 ≡ suc s = omega arith in
    let before : Stays planned old.node_b.state (f.fed s) = fed_all planned old new lines f has s (omega arith) in
    let step : Stays planned (f.fed s) (f.fed (s + 1)) = may_stays planned s (iub_after old.damage Down s (f.rnc_output.iub s)) (f.fed s) (f.fed (s + 1)) (f.fed_lines s) (before.active ∙ has.node_b) (f.feeds s (omega arith)) in
    subst (λ k. Stays planned old.node_b.state (f.fed k)) next (record {
      active = step.active ∙ before.active;
      given = step.given ∙ before.given;
      same_cfn = step.same_cfn ∙ before.same_cfn;
      frames = step.frames ∙ before.frames;
      whole = λ kept. step.whole (before.whole kept);
    })

-- the parts of a radio frame
pub record Parts (planned : Planned) (old new : LinkState) (lines : List Line) (f : IsFrame old new lines) : Type 0 where
  pub fed : Stays planned old.node_b.state (f.fed 8)
  pub departs : IsDeparture planned (f.fed 8) f.node_b f.down_output
  pub receives : IsReception planned f.node_b (radio_after old.damage Up f.ue_output.sent) new.node_b.state f.up_output
  pub ticks : IsUeTick planned f.kept new.ue.state f.ue_output
  pub next_cfn : new.rnc.state.cfn ≡ (old.rnc.state.cfn + 1) % 256
  pub node_b_cfn : f.node_b.cfn ≡ old.rnc.state.cfn
  pub kept_cfn : f.kept.cfn ≡ old.rnc.state.cfn
  pub given_is : (i : ℕ) → f.node_b.given i ≡ given_now (down_side planned) (f.fed 8) i
  pub given_new : (i : ℕ) → new.node_b.state.given i ≡ f.node_b.given i
  pub agree : Agree planned new

pub parts : (planned : Planned) (old new : LinkState) (lines : List Line) (f : IsFrame old new lines) → IsPlanned planned → Agree planned old → Parts planned old new lines f
parts planned old new lines f good a = record {
  fed = fed;
  departs = departs;
  receives = receives;
  ticks = ticks;
  next_cfn = next_cfn;
  node_b_cfn = node_b_cfn;
  kept_cfn = kept_cfn;
  given_is = λ i. ap (λ (x : NodeBState). x.given i) departs.state;
  given_new = λ i. ap (λ (x : NodeBState). x.given i) receives.state;
  agree = record {
    active = record {
      ue = ap (λ (x : UeState). x.planned) ticks.state ∙ ap (λ (x : UeState). x.planned) f.keeps.0 ∙ a.active.ue;
      node_b = ap (λ (x : NodeBState). x.planned) receives.state ∙ node_b_active;
      rnc = keeps.active ∙ ap (λ (x : RncState). x.planned) ticked.state ∙ a.active.rnc;
    };
    node_b_cfn = ap (λ (x : NodeBState). x.cfn) receives.state ∙ ap (λ n. (n + 1) % 256) node_b_cfn ∙ sym next_cfn;
    ue_cfn = ap (λ (x : UeState). x.cfn) ticks.state ∙ ap (λ n. (n + 1) % 256) kept_cfn ∙ sym next_cfn;
    kept = subst (λ (x : NodeBState). KeptWhole (down_side planned) x.kept) (sym receives.state) (subst (λ (x : NodeBState). KeptWhole (down_side planned) x.kept) (sym departs.state) (still_whole (down_side planned) (f.fed 8) (fed.whole a.kept)));
    given = subst (λ (x : NodeBState). GivenWhole (down_side planned) x.given) (sym receives.state) (subst (λ (x : NodeBState). GivenWhole (down_side planned) x.given) (sym departs.state)
        (now_whole (down_side planned) (f.fed 8) good.good.downlink.side.channels (fed.whole a.kept) (subst (GivenWhole (down_side planned)) (sym fed.given) a.given)));
  };
}
  where
    fed : Stays planned old.node_b.state (f.fed 8)
    fed = fed_all planned old new lines f a.active 8 (omega arith)

    fed_active : (f.fed 8).planned ≡ planned
    fed_active = fed.active ∙ a.active.node_b

    departs : IsDeparture planned (f.fed 8) f.node_b f.down_output
    departs = subst (λ (p : Planned). IsDeparture p (f.fed 8) f.node_b f.down_output) fed_active f.down

    node_b_active : f.node_b.planned ≡ planned
    node_b_active = ap (λ (x : NodeBState). x.planned) departs.state ∙ fed_active

    receives : IsReception planned f.node_b (radio_after old.damage Up f.ue_output.sent) new.node_b.state f.up_output
    receives = subst (λ (p : Planned). IsReception p f.node_b (radio_after old.damage Up f.ue_output.sent) new.node_b.state f.up_output) node_b_active f.up

    ticks : IsUeTick planned f.kept new.ue.state f.ue_output
    ticks = ue_tick planned old new lines f a.active

    ticked : IsRncTick planned old.rnc.state f.rnc f.rnc_output
    ticked = rnc_tick planned old new lines f a.active

    keeps : Keeps f.rnc new.rnc.state
    keeps = keeps_frame old new lines f

    next_cfn : new.rnc.state.cfn ≡ (old.rnc.state.cfn + 1) % 256
    next_cfn = keeps.same_cfn ∙ ap (λ (x : RncState). x.cfn) ticked.state

    node_b_cfn : f.node_b.cfn ≡ old.rnc.state.cfn
    node_b_cfn = ap (λ (x : NodeBState). x.cfn) departs.state ∙ fed.same_cfn ∙ a.node_b_cfn

    kept_cfn : f.kept.cfn ≡ old.rnc.state.cfn
    kept_cfn = ap (λ (x : UeState). x.cfn) f.keeps.0 ∙ a.ue_cfn

-- what happens between radio frames leaves it
pub stays : (planned : Planned) (old new : LinkState) → Same old new → Agree planned old → Agree planned new
stays planned old new r a = record {
  active = record { ue = r.ue_active ∙ a.active.ue; node_b = ap (λ (b : NodeBState). b.planned) r.node_b ∙ a.active.node_b; rnc = r.rnc_active ∙ a.active.rnc };
  node_b_cfn = ap (λ (b : NodeBState). b.cfn) r.node_b ∙ a.node_b_cfn ∙ sym r.cfn;
  ue_cfn = r.ue_cfn ∙ a.ue_cfn ∙ sym r.cfn;
  kept = subst (λ (b : NodeBState). KeptWhole (down_side planned) b.kept) (sym r.node_b) a.kept;
  given = subst (λ (b : NodeBState). GivenWhole (down_side planned) b.given) (sym r.node_b) a.given;
}

pub runs_agree : (planned : Planned) (events : List Event) (old new : LinkState) (lines : List Line) → Runs old events new lines → IsPlanned planned → Agree planned old → Agree planned new
runs_agree planned [] old new lines run good a = subst (Agree planned) (sym run.0) a
runs_agree planned (Between event ∷ events) old new lines run good a =
    runs_agree planned events run.next new run.rest run.later good (stays planned old run.next (between old run.next event run.own run.step).0 a)
runs_agree planned (Frame ∷ events) old new lines run good a =
    runs_agree planned events run.next new run.rest run.later good (parts planned old run.next run.own run.step.frame good a).agree

pub opened_agree : (planned : Planned) (first : ℕ) → IsPlanned planned → Agree planned (opened_link planned first)
opened_agree planned first good = record {
  active = record { ue = refl; node_b = refl; rnc = refl };
  node_b_cfn = refl;
  ue_cfn = refl;
  kept = λ s frame is. absurd (cc);
  given = λ i inside. idle_whole (down_side planned) i (good.good.downlink.side.channels i inside);
}
