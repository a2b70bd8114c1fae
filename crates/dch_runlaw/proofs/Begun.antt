-- Where a part of a run begins all TTIs are to come: what the three nodes know there.
use Rattle.std.proofs.Common.{◌≡◌, ◌∙◌, ℕ, List, [], ◌∷◌, None, Some, refl, ap, sym, subst, inl, inr}
use Rattle.dch_accept.specs.Plans.{IsPlanned, Planned}
use Rattle.dch_node.specs.Lines.{Line}
use Rattle.dch_node.specs.Values.{idle_blocks}
use Rattle.dch_linkcmd.specs.UeState.{State as UeState}
use Rattle.dch_linkcmd.specs.NodebState.{State as NodeBState}
use Rattle.dch_linkcmd.specs.RncState.{State as RncState}
use Rattle.dch_linkcmd.specs.LinkLink.{LinkState, opened_link}
use Rattle.dch_runlaw.specs.Parts.{Begins, BeginsSecond}
use Rattle.dch_runlaw.specs.Runs.{Event, Runs}
use Rattle.dch_runlaw.proofs.Changing.{IsChanged, changed_is}
use Rattle.dch_runlaw.proofs.HonestStaying.{AreFor, event_for}
use Rattle.dch_runlaw.proofs.SizedRuns.{Both, changed_both, opened_both, run_both}
use Rattle.dch_runlaw.proofs.IntervalAgree.{Agree, down_side, opened_agree, runs_agree}
use Rattle.dch_runlaw.proofs.IntervalWhole.{GivenWhole, idle_whole}

-- the configuration is active at all three, their CFNs are the same, and no channel of an end has a block
pub record Fresh (planned : Planned) (link : LinkState) : Type 0 where
  pub are : AreFor planned link
  pub ue_cfn : link.ue.state.cfn ≡ link.rnc.state.cfn
  pub node_b_cfn : link.node_b.state.cfn ≡ link.rnc.state.cfn
  pub ue_none : (i : ℕ) → (link.ue.state.layer.given i).blocks ≡ []
  pub rnc_none : (i : ℕ) → (link.rnc.state.layer.given i).blocks ≡ []

pub opened_fresh : (planned : Planned) (first : ℕ) → Fresh planned (opened_link planned first)
opened_fresh planned first = record { are = record { ue = refl; node_b = refl; rnc = refl }; ue_cfn = refl; node_b_cfn = refl; ue_none = λ i. refl; rnc_none = λ i. refl }

pub changed_for : (second : Planned) (old new : LinkState) → IsChanged second old new → AreFor second new
changed_for second old new is = record { ue = ap (λ (x : UeState). x.planned) is.ue; node_b = ap (λ (x : NodeBState). x.planned) is.node_b; rnc = ap (λ (x : RncState). x.planned) is.rnc }

pub changed_fresh : (second : Planned) (old new : LinkState) → IsChanged second old new → old.ue.state.cfn ≡ old.rnc.state.cfn → old.node_b.state.cfn ≡ old.rnc.state.cfn → Fresh second new
changed_fresh second old new is ue_cfn node_b_cfn =
    let rnc_cfn : new.rnc.state.cfn ≡ old.rnc.state.cfn = ap (λ (x : RncState). x.cfn) is.rnc in
    record {
      are = changed_for second old new is;
      ue_cfn = ap (λ (x : UeState). x.cfn) is.ue ∙ ue_cfn ∙ sym rnc_cfn;
      node_b_cfn = ap (λ (x : NodeBState). x.cfn) is.node_b ∙ node_b_cfn ∙ sym rnc_cfn;
      ue_none = λ i. ap (λ (x : UeState). (x.layer.given i).blocks) is.ue;
      rnc_none = λ i. ap (λ (x : RncState). (x.layer.given i).blocks) is.rnc;
    }

-- besides, the bearers fit the configuration, and the Node B keeps no Iub frame and runs the idle formats
pub record Begun (planned : Planned) (link : LinkState) : Type 0 where
  pub fresh : Fresh planned link
  pub both : Both planned link
  pub kept : (s : ℕ) → link.node_b.state.kept s ≡ None
  pub given : link.node_b.state.given ≡ idle_blocks planned.config.downlink.side

pub opened_begun : (planned : Planned) (first : ℕ) → IsPlanned planned → Begun planned (opened_link planned first)
opened_begun planned first good = record { fresh = opened_fresh planned first; both = opened_both planned first good; kept = λ s. refl; given = refl }

second_begun : (planned : Planned) (start : LinkState) → IsPlanned planned → BeginsSecond planned start → Begun planned start
second_begun planned start good b =
    let is : IsChanged planned b.over.last start = changed_is planned b.over.last start b.over.changes in
    let opened : LinkState = opened_link b.before b.first in
    let agree : Agree b.before b.over.last = runs_agree b.before b.events opened b.over.last b.lines b.over.run b.good (opened_agree b.before b.first b.good) in
    record {
      fresh = changed_fresh planned b.over.last start is agree.ue_cfn agree.node_b_cfn;
      both = changed_both b.before planned b.over.last start good b.kept is (run_both b.before b.events opened b.over.last b.lines b.over.run b.good (opened_both b.before b.first b.good));
      kept = λ s. ap (λ (x : NodeBState). x.kept s) is.node_b;
      given = ap (λ (x : NodeBState). x.given) is.node_b;
    }

pub begun : (planned : Planned) (start : LinkState) → IsPlanned planned → Begins planned start → Begun planned start
begun planned start good (inl first) = subst (Begun planned) (sym first.is) (opened_begun planned first.first good)
begun planned start good (inr second) = second_begun planned start good second

-- so the nodes agree there
pub begun_agree : (planned : Planned) (start : LinkState) → IsPlanned planned → Begun planned start → Agree planned start
begun_agree planned start good b = record {
  active = record { ue = b.fresh.are.ue; node_b = b.fresh.are.node_b; rnc = b.fresh.are.rnc };
  node_b_cfn = b.fresh.node_b_cfn;
  ue_cfn = b.fresh.ue_cfn;
  kept = λ s frame is. (let none : None ≡ Some frame = sym (b.kept s) ∙ is in absurd (cc));
  given = subst (GivenWhole (down_side planned)) (sym b.given) (λ i inside. idle_whole (down_side planned) i (good.good.downlink.side.channels i inside));
}

-- the configuration that is active where a part begins, and over it
pub begins_for : (planned : Planned) (start : LinkState) → Begins planned start → AreFor planned start
begins_for planned start (inl first) = subst (AreFor planned) (sym first.is) (record { ue = refl; node_b = refl; rnc = refl })
begins_for planned start (inr second) = changed_for planned second.over.last start (changed_is planned second.over.last start second.over.changes)

pub run_for : (planned : Planned) (events : List Event) (old new : LinkState) (lines : List Line) → Runs old events new lines → AreFor planned old → AreFor planned new
run_for planned [] old new lines run are = subst (AreFor planned) (sym run.0) are
run_for planned (event ∷ events) old new lines run are = run_for planned events run.next new run.rest run.later (event_for planned old event run.next run.own run.step are)
