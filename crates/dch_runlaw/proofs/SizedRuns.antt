-- Both ends in a run of three nodes.
use Rattle.std.proofs.Common.{◌≡◌, ◌<◌, ◌+◌, ◌∙◌, ℕ, zero, suc, List, [], ◌∷◌, Option, Some, None, length, arith, refl, sym, ap, subst, ⊎_elim}
use Rattle.dch_types.specs.declared.channel.Dir.TheVariants.{Up, Down}
use Rattle.dch_accept.specs.Plans.{IsPlanned, Planned}
use Rattle.dch_layer2.specs.Layers.{Layer, offers, ticks}
use Rattle.dch_node.specs.Lines.{Line}
use Rattle.dch_node.specs.Values.{Output}
use Rattle.dch_damage.specs.Damage.{iub_after, radio_after}
use Rattle.dch_linkcmd.specs.UeState.{BlockedCombination as UeBlocked, Change as UeChange, DownlinkFrame, Event as UeEvent, OfferedUnit as UeOffered, State as UeState, Tick as UeTicks}
use Rattle.dch_linkcmd.specs.UeSteps.{IsTick as IsUeTick, Steps as UeSteps, has_read}
use Rattle.dch_linkcmd.specs.RncState.{BlockedCombination as RncBlocked, Change as RncChange, Event as RncEvent, IubFrame, OfferedUnit as RncOffered, State as RncState, Tick as RncTicks, set_readings}
use Rattle.dch_linkcmd.specs.RncSteps.{IsReadFrame, IsRefusedFrame, IsTick as IsRncTick, Steps as RncSteps}
use Rattle.dch_linkcmd.specs.Courses.{Course}
use Rattle.dch_linkcmd.specs.Events.{BlockedCombination, Damages, Event as LinkEvent, OfferedUnit}
use Rattle.dch_linkcmd.specs.LinkLink.{LinkState, opened_link}
use Rattle.dch_linkcmd.specs.LinkStages.{RncGoes, UeGoes}
use Rattle.dch_linkcmd.specs.Within.{RncWithin, UeWithin}
use Rattle.dch_runlaw.specs.Frames.{IsFrame, MayBeTaken, Taken}
use Rattle.dch_runlaw.specs.Runs.{Between, Event, Frame, Runs, Steps}
use Rattle.dch_runlaw.specs.Parts.{KeepsAll}
use Rattle.dch_runlaw.proofs.Changing.{IsChanged}
use Rattle.dch_runlaw.proofs.Keeping.{but_rnc, but_ue, rnc_step, ue_step}
use Rattle.dch_runlaw.specs.SizedLinks.{IsSized, LineSized}
use Rattle.dch_runlaw.proofs.SizedEnds.{below_stand, blocks_stand, offers_stand, ticks_stand}
use Rattle.dch_runlaw.proofs.SizedStarts.{Stands, changed_stands, opened_stands, start_stands}

-- an end in its configuration
pub record UeStands (planned : Planned) (s : UeState) : Type 0 where
  pub planned_is : s.planned ≡ planned
  pub layer : Stands planned.config Up s.layer

pub record RncStands (planned : Planned) (s : RncState) : Type 0 where
  pub planned_is : s.planned ≡ planned
  pub layer : Stands planned.config Down s.layer

-- a step of the terminal, but a change
pub ue_stands : (planned : Planned) (old : UeState) (event : UeEvent) (new : UeState) (output : Output) → IsPlanned planned → UeWithin event → UeSteps old event new output → UeStands planned old → UeStands planned new
ue_stands planned old (UeOffered b octets bits) new output good within step s =
    let kept : Stands planned.config Up (offers planned.config Up b octets bits old.layer).layer = offers_stand planned.config Up b octets bits old.layer s.layer in
    let offered = subst (λ (p : Planned). Stands planned.config Up (offers p.config Up b octets bits old.layer).layer) (sym s.planned_is) kept in
    subst (UeStands planned) (sym step.state) (record { planned_is = s.planned_is; layer = offered })
ue_stands planned old (UeBlocked c on) new output good within step s = subst (UeStands planned) (sym step.0) (record { planned_is = s.planned_is; layer = blocks_stand planned.config Up c on old.layer s.layer })
ue_stands planned old (DownlinkFrame frame) new output good within step s = subst (UeStands planned) (sym step.0) (record { planned_is = s.planned_is; layer = s.layer })
ue_stands planned old UeTicks new output good within step s = record {
  planned_is = ap (λ (x : UeState). x.planned) step.state ∙ s.planned_is;
  layer = ticked (subst (λ (p : Planned). IsUeTick p old new output) s.planned_is step);
}
  where
    ticked : IsUeTick planned old new output → Stands planned.config Up new.layer
    ticked tick = start_stands planned.config Up old.cfn (has_read planned new.readings old.layer).layer new.layer good.good tick.start
        (below_stand planned.config Up Down new.readings (length planned.config.downlink.side.channels) (ticks planned.config old.layer) (ticks_stand planned.config Up old.layer s.layer))
ue_stands planned old (UeChange second) new output good within step s = absurd within

-- a step of the network controller, but a change
pub rnc_stands : (planned : Planned) (old : RncState) (event : RncEvent) (new : RncState) (output : Output) → IsPlanned planned → RncWithin event → RncSteps old event new output → RncStands planned old → RncStands planned new
rnc_stands planned old (RncOffered b octets bits) new output good within step s =
    let kept : Stands planned.config Down (offers planned.config Down b octets bits old.layer).layer = offers_stand planned.config Down b octets bits old.layer s.layer in
    let offered = subst (λ (p : Planned). Stands planned.config Down (offers p.config Down b octets bits old.layer).layer) (sym s.planned_is) kept in
    subst (RncStands planned) (sym step.state) (record { planned_is = s.planned_is; layer = offered })
rnc_stands planned old (RncBlocked c on) new output good within step s = subst (RncStands planned) (sym step.0) (record { planned_is = s.planned_is; layer = blocks_stand planned.config Down c on old.layer s.layer })
rnc_stands planned old (IubFrame set octets) new output good within step s = ⊎_elim
    (λ (read : IsReadFrame old.planned old set octets new output). reads (subst (λ (p : Planned). IsReadFrame p old set octets new output) s.planned_is read))
    (λ (refused : IsRefusedFrame old.planned old set octets new output). subst (RncStands planned) (sym refused.state) (record { planned_is = s.planned_is; layer = s.layer }))
    step
  where
    reads : IsReadFrame planned old set octets new output → RncStands planned new
    reads read = subst (RncStands planned) (sym read.state) (record {
      planned_is = s.planned_is;
      layer = below_stand planned.config Down Up (set_readings planned.config.uplink.side set read.held) (length planned.config.uplink.side.channels) old.layer s.layer;
    })
rnc_stands planned old RncTicks new output good within step s = record {
  planned_is = ap (λ (x : RncState). x.planned) step.state ∙ s.planned_is;
  layer = ticked (subst (λ (p : Planned). IsRncTick p old new output) s.planned_is step);
}
  where
    ticked : IsRncTick planned old new output → Stands planned.config Down new.layer
    ticked tick = start_stands planned.config Down old.cfn (ticks planned.config old.layer) new.layer good.good tick.start (ticks_stand planned.config Down old.layer s.layer)
rnc_stands planned old (RncChange second) new output good within step s = absurd within

-- both ends
pub record Both (planned : Planned) (link : LinkState) : Type 0 where
  pub ue : UeStands planned link.ue.state
  pub rnc : RncStands planned link.rnc.state

both_ue : (planned : Planned) (old new : LinkState) (event : UeEvent) → IsPlanned planned → UeWithin event → UeGoes old event new → Both planned old → Both planned new
both_ue planned old new event good within goes h = record {
  ue = ue_stands planned old.ue.state event new.ue.state new.ue.last good within (ue_step old new event goes) h.ue;
  rnc = subst (λ (c : Course RncState RncEvent). RncStands planned c.state) (sym (but_ue old new event goes).rnc) h.rnc;
}

both_rnc : (planned : Planned) (old new : LinkState) (event : RncEvent) → IsPlanned planned → RncWithin event → RncGoes old event new → Both planned old → Both planned new
both_rnc planned old new event good within goes h = record {
  ue = subst (λ (c : Course UeState UeEvent). UeStands planned c.state) (sym (but_rnc old new event goes).ue) h.ue;
  rnc = rnc_stands planned old.rnc.state event new.rnc.state new.rnc.last good within (rnc_step old new event goes) h.rnc;
}

-- what happens between radio frames
between : (planned : Planned) (old : LinkState) (event : LinkEvent) (new : LinkState) (lines : List Line) → IsPlanned planned → Steps old (Between event) new lines → Both planned old → Both planned new
between planned old (OfferedUnit Up b octets bits) new lines good step h = both_ue planned old new (UeOffered b octets bits) good tt step.0 h
between planned old (OfferedUnit Down b octets bits) new lines good step h = both_rnc planned old new (RncOffered b octets bits) good tt step.0 h
between planned old (BlockedCombination Up c on) new lines good step h = both_ue planned old new (UeBlocked c on) good tt step.0 h
between planned old (BlockedCombination Down c on) new lines good step h = both_rnc planned old new (RncBlocked c on) good tt step.0 h
between planned old (Damages damage) new lines good step h = subst (Both planned) (sym step.0) (record { ue = h.ue; rnc = h.rnc })

-- the network controller takes Iub frames set by set
may_stand : (planned active : Planned) (set : ℕ) (octets : Option (List ℕ)) (near : Layer) (old new : RncState) (taken : Taken) (lines : List Line) → IsPlanned planned → MayBeTaken active set octets near old new taken lines → RncStands planned old → RncStands planned new
may_stand planned active set None near old new taken lines good may s = subst (RncStands planned) (sym may.0) s
may_stand planned active set (Some octets) near old new taken lines good may s = rnc_stands planned old (IubFrame set octets) new may.output good tt may.step s

sets_stand : (planned : Planned) (old new : LinkState) (lines : List Line) → IsPlanned planned → (f : IsFrame old new lines) → RncStands planned f.rnc → (s : ℕ) → s < 9 → RncStands planned (f.rncs s)
sets_stand planned old new lines good f h zero l = subst (RncStands planned) (sym f.rnc_first) h
sets_stand planned old new lines good f h (suc s) l =
    subst (λ k. RncStands planned (f.rncs k)) (omega arith)
    (may_stand planned old.rnc.state.planned s (iub_after old.damage Up s (f.up_output.iub s)) new.ue.state.layer (f.rncs s) (f.rncs (s + 1)) (f.taken s) (f.rnc_lines s) good (f.takes s (omega (arith, l))) (sets_stand planned old new lines good f h s (omega (arith, l))))

-- an event leaves both ends so, and its TTIs start so
record Done (planned : Planned) (old : LinkState) (event : Event) (new : LinkState) (lines : List Line) (step : Steps old event new lines) : Type 0 where
  stand : Both planned new
  sized : LineSized planned old event new lines step

done : (planned : Planned) (old : LinkState) (event : Event) (new : LinkState) (lines : List Line) (step : Steps old event new lines) → IsPlanned planned → Both planned old → Done planned old event new lines step
done planned old (Between event) new lines step good h = record { stand = between planned old event new lines good step h; sized = tt }
done planned old Frame new lines step good h =
    let f = step.frame in
    let rnc : RncStands planned f.rnc = rnc_stands planned old.rnc.state RncTicks f.rnc f.rnc_output good tt f.rnc_ticks h.rnc in
    let kept : UeStands planned f.kept = ue_stands planned old.ue.state (DownlinkFrame (radio_after old.damage Down f.down_output.sent)) f.kept f.kept_output good tt f.keeps h.ue in
    let ue : UeStands planned new.ue.state = ue_stands planned f.kept UeTicks new.ue.state f.ue_output good tt f.ue_ticks kept in
    record {
      stand = record { ue = ue; rnc = subst (RncStands planned) (sym f.rnc_last) (sets_stand planned old new lines good f rnc 8 (omega arith)) };
      sized = (rnc.layer.given.sized, ue.layer.given.sized, ue.layer.given.whole, rnc.layer.given.whole);
    }

pub is_sized : (planned : Planned) (events : List Event) (old new : LinkState) (lines : List Line) (run : Runs old events new lines) → IsPlanned planned → Both planned old → IsSized planned events old new lines run
is_sized planned [] old new lines run good h = tt
is_sized planned (event ∷ events) old new lines run good h =
    let a : Done planned old event run.next run.own run.step = done planned old event run.next run.own run.step good h in
    (a.sized, is_sized planned events run.next new run.rest run.later good a.stand)

pub run_both : (planned : Planned) (events : List Event) (old new : LinkState) (lines : List Line) → Runs old events new lines → IsPlanned planned → Both planned old → Both planned new
run_both planned [] old new lines run good h = subst (Both planned) (sym run.0) h
run_both planned (event ∷ events) old new lines run good h = run_both planned events run.next new run.rest run.later good (done planned old event run.next run.own run.step good h).stand

-- at opening, and where another configuration becomes active in which every bearer goes on
pub opened_both : (planned : Planned) (first : ℕ) → IsPlanned planned → Both planned (opened_link planned first)
opened_both planned first good = record {
  ue = record { planned_is = refl; layer = opened_stands planned.config Up good.good };
  rnc = record { planned_is = refl; layer = opened_stands planned.config Down good.good };
}

pub changed_both : (planned second : Planned) (old new : LinkState) → IsPlanned second → KeepsAll planned second → IsChanged second old new → Both planned old → Both second new
changed_both planned second old new good kept is h = record {
  ue = subst (UeStands second) (sym is.ue) (record { planned_is = refl; layer = changed_stands planned.config second.config Up old.ue.state.layer good.good kept h.ue.layer });
  rnc = subst (RncStands second) (sym is.rnc) (record { planned_is = refl; layer = changed_stands planned.config second.config Down old.rnc.state.layer good.good kept h.rnc.layer });
}
