-- Twenty stages as one frame.
use Rattle.std.proofs.Common.{◌≡◌, ◌<◌, ◌≤◌, ◌+◌, ◌∙◌, ◌++◌, ℕ, zero, suc, List, Option, append_assoc, append-nil, arith, refl, ap, sym, subst}
use Rattle.dch_types.specs.declared.channel.Dir.TheVariants.{Up, Down}
use Rattle.dch_accept.specs.Plans.{Planned}
use Rattle.dch_layer2.specs.Layers.{Layer}
use Rattle.dch_node.specs.Lines.{Line, joined}
use Rattle.dch_damage.specs.Damage.{Damage, iub_after, radio_after}
use Rattle.dch_linkcmd.specs.UeState.{DownlinkFrame, Event as UeEvent, State as UeState, Tick as UeTicks}
use Rattle.dch_linkcmd.specs.UeSteps.{Steps as UeSteps}
use Rattle.dch_linkcmd.specs.NodebState.{DownlinkDue, Event as NodeBEvent, State as NodeBState, UplinkFrame}
use Rattle.dch_linkcmd.specs.NodebSteps.{Steps as NodeBSteps}
use Rattle.dch_linkcmd.specs.RncState.{Event as RncEvent, State as RncState, Tick as RncTicks}
use Rattle.dch_linkcmd.specs.Courses.{Course}
use Rattle.dch_linkcmd.specs.LinkLink.{LinkState, active}
use Rattle.dch_linkcmd.specs.LinkStages.{AreCompared, AtStage, MayGoDown, MayGoUp}
use Rattle.dch_linkcmd.proofs.Staying.{stage_stays}
use Rattle.dch_runlaw.specs.Frames.{IsFrame, MayArrive, MayBeTaken, Taken, lines_below, stage_at}
use Rattle.dch_runlaw.proofs.Eight.{by_eight, joined-split}
use Rattle.dch_runlaw.proofs.Keeping.{SameButNodeB, SameButRnc, also_node_b, also_rnc, arrives_as, but_down, but_node_b, but_rnc, but_ue, but_up, node_b_step, rnc_lines, rnc_step, taken_as, taken_at, taken_lines, ue_lines, ue_step}

-- the stages of a frame
abbrev pub AreStages : (ℕ → LinkState) → (ℕ → List Line) → Type 0
AreStages states lines = (k : ℕ) → k < 20 → AtStage (stage_at k) (states k) (states (k + 1)) (lines k)

-- Iub frames that went down set by set, where the network controller's are those of its tick
pub fed_by : (states : ℕ → LinkState) (lines : ℕ → List Line) (s : ℕ) (old : LinkState) → SameButNodeB old (states (1 + s)) → (damage : List Damage) → old.damage ≡ damage
    → MayGoDown s (iub_after (states (1 + s)).damage Down s ((states (1 + s)).rnc.last.iub s)) (states (1 + s)) (states (1 + (s + 1))) (lines (1 + s))
    → MayArrive s (iub_after damage Down s (old.rnc.last.iub s)) (states (1 + s)).node_b.state (states (1 + (s + 1))).node_b.state (lines (1 + s))
fed_by states lines s old same damage hit goes =
    let sent : (states (1 + s)).rnc.last.iub s ≡ old.rnc.last.iub s = ap (λ (c : Course RncState RncEvent). c.last.iub s) same.rnc in
    let octets : iub_after (states (1 + s)).damage Down s ((states (1 + s)).rnc.last.iub s) ≡ iub_after damage Down s (old.rnc.last.iub s) =
    ap (λ (d : List Damage). iub_after d Down s ((states (1 + s)).rnc.last.iub s)) (same.damage ∙ hit) ∙ ap (iub_after damage Down s) sent in
    subst (λ (o : Option (List ℕ)). MayArrive s o (states (1 + s)).node_b.state (states (1 + (s + 1))).node_b.state (lines (1 + s))) octets
    (arrives_as s (iub_after (states (1 + s)).damage Down s ((states (1 + s)).rnc.last.iub s)) (states (1 + s)) (states (1 + (s + 1))) (lines (1 + s)) goes)

-- what the network controller takes at the stages of the Iub up, and the stages
abbrev pub taken_of : (ℕ → LinkState) → ℕ → Taken
taken_of states s = taken_at (iub_after (states (12 + s)).damage Up s ((states (12 + s)).node_b.last.iub s)) (states (12 + (s + 1)))

abbrev pub GoesUp : (ℕ → LinkState) → (ℕ → List Line) → ℕ → Type 0
GoesUp states lines s = MayGoUp s (iub_after (states (12 + s)).damage Up s ((states (12 + s)).node_b.last.iub s)) (states (12 + s)) (states (12 + (s + 1))) (lines (12 + s))

-- its lines go on by those that it reports of them
pub taken_all : (states : ℕ → LinkState) (lines : ℕ → List Line) → ((s : ℕ) → s < 8 → GoesUp states lines s) → (n : ℕ) → n ≤ 8 → (states (12 + n)).rnc.lines ≡ (states 12).rnc.lines ++ lines_below (taken_of states) n
taken_all states lines goes zero within = sym (append-nil (states 12).rnc.lines)
taken_all states lines goes (suc n) within =
    let here : n + 1 ≡ suc n = omega arith in
    let one : (states (12 + (n + 1))).rnc.lines ≡ (states (12 + n)).rnc.lines ++ (taken_of states n).lines =
    taken_lines n (iub_after (states (12 + n)).damage Up n ((states (12 + n)).node_b.last.iub n)) (states (12 + n)) (states (12 + (n + 1))) (lines (12 + n)) (goes n (omega (arith, within))) in
    ap (λ k. (states (12 + k)).rnc.lines) (sym here)
    ∙ one
    ∙ ap (λ (l : List Line). l ++ (taken_of states n).lines) (taken_all states lines goes n (omega (arith, within)))
    ∙ append_assoc (states 12).rnc.lines (lines_below (taken_of states) n) (taken_of states n).lines

-- and up
pub taken_by : (states : ℕ → LinkState) (lines : ℕ → List Line) (s : ℕ) (old : LinkState) → SameButRnc old (states (12 + s)) → SameButRnc old (states (12 + (s + 1))) → (damage : List Damage) → old.damage ≡ damage → (planned : Planned) → active (states (12 + s)) ≡ planned → (near : Layer) → old.ue.state.layer ≡ near
    → MayGoUp s (iub_after (states (12 + s)).damage Up s ((states (12 + s)).node_b.last.iub s)) (states (12 + s)) (states (12 + (s + 1))) (lines (12 + s))
    → MayBeTaken planned s (iub_after damage Up s (old.node_b.last.iub s)) near (states (12 + s)).rnc.state (states (12 + (s + 1))).rnc.state (taken_of states s) (lines (12 + s))
taken_by states lines s old same next damage hit planned now near layer goes =
    let sent : (states (12 + s)).node_b.last.iub s ≡ old.node_b.last.iub s = ap (λ (c : Course NodeBState NodeBEvent). c.last.iub s) same.node_b in
    let octets : iub_after (states (12 + s)).damage Up s ((states (12 + s)).node_b.last.iub s) ≡ iub_after damage Up s (old.node_b.last.iub s) =
    ap (λ (d : List Damage). iub_after d Up s ((states (12 + s)).node_b.last.iub s)) (same.damage ∙ hit) ∙ ap (iub_after damage Up s) sent in
    subst (λ (o : Option (List ℕ)). MayBeTaken planned s o near (states (12 + s)).rnc.state (states (12 + (s + 1))).rnc.state (taken_of states s) (lines (12 + s))) octets
    (taken_as planned near s (iub_after (states (12 + s)).damage Up s ((states (12 + s)).node_b.last.iub s)) (states (12 + s)) (states (12 + (s + 1))) (lines (12 + s)) now (ap (λ (c : Course UeState UeEvent). c.state.layer) next.ue ∙ layer) goes)

-- the configuration stays
stays_to : (states : ℕ → LinkState) (lines : ℕ → List Line) → AreStages states lines → (k : ℕ) → k ≤ 20 → active (states k) ≡ active (states 0)
stays_to states lines stages zero within = refl
stays_to states lines stages (suc k) within =
    let here : k + 1 ≡ suc k = omega arith in
    subst (λ n. active (states n) ≡ active (states k)) here (stage_stays (stage_at k) (states k) (states (k + 1)) (lines k) (stages k (omega (arith, within)))) ∙ stays_to states lines stages k (omega (arith, within))

-- a stage of the Iub down or up leaves the other nodes as they were
down_same : (states : ℕ → LinkState) (lines : ℕ → List Line) (s : ℕ) → MayGoDown s (iub_after (states (1 + s)).damage Down s ((states (1 + s)).rnc.last.iub s)) (states (1 + s)) (states (1 + (s + 1))) (lines (1 + s)) → SameButNodeB (states (1 + s)) (states (1 + (s + 1)))
down_same states lines s goes = but_down s (iub_after (states (1 + s)).damage Down s ((states (1 + s)).rnc.last.iub s)) (states (1 + s)) (states (1 + (s + 1))) (lines (1 + s)) goes

up_same : (states : ℕ → LinkState) (lines : ℕ → List Line) (s : ℕ) → MayGoUp s (iub_after (states (12 + s)).damage Up s ((states (12 + s)).node_b.last.iub s)) (states (12 + s)) (states (12 + (s + 1))) (lines (12 + s)) → SameButRnc (states (12 + s)) (states (12 + (s + 1)))
up_same states lines s goes = but_up s (iub_after (states (12 + s)).damage Up s ((states (12 + s)).node_b.last.iub s)) (states (12 + s)) (states (12 + (s + 1))) (lines (12 + s)) goes

-- the lines of all stages, by what reports them
lines_are : (lines : ℕ → List Line) (first down ue checks up : List Line) → lines 0 ≡ first → lines 9 ≡ down → lines 10 ≡ ue ++ checks → lines 11 ≡ up
    → joined lines 20 ≡ first ++ joined (λ s. lines (1 + s)) 8 ++ down ++ (ue ++ checks) ++ up ++ joined (λ s. lines (12 + s)) 8
lines_are lines first down ue checks up zeroth ninth tenth eleventh =
    let nine : joined lines 9 ≡ first ++ joined (λ s. lines (1 + s)) 8 = joined-split lines 1 8 ∙ ap (λ (l : List Line). l ++ joined (λ s. lines (1 + s)) 8) zeroth in
    joined-split lines 12 8
    ∙ ap (λ (l : List Line). l ++ lines 9 ++ lines 10 ++ lines 11 ++ joined (λ s. lines (12 + s)) 8) nine
    ∙ ap (λ (l : List Line). first ++ joined (λ s. lines (1 + s)) 8 ++ l ++ lines 10 ++ lines 11 ++ joined (λ s. lines (12 + s)) 8) ninth
    ∙ ap (λ (l : List Line). first ++ joined (λ s. lines (1 + s)) 8 ++ down ++ l ++ lines 11 ++ joined (λ s. lines (12 + s)) 8) tenth
    ∙ ap (λ (l : List Line). first ++ joined (λ s. lines (1 + s)) 8 ++ down ++ (ue ++ checks) ++ l ++ joined (λ s. lines (12 + s)) 8) eleventh

pub frame_is : (states : ℕ → LinkState) (lines : ℕ → List Line) → AreStages states lines → IsFrame (states 0) (states 20) (joined lines 20) × ((states 20).damage ≡ (states 0).damage)
frame_is states lines stages =
    let planned : Planned = active (states 0) in
    let tick = stages 0 (omega arith) in
    let t = but_rnc (states 0) (states 1) RncTicks tick.0 in
    let e0 = stages 1 (omega arith) in
    let e1 = stages 2 (omega arith) in
    let e2 = stages 3 (omega arith) in
    let e3 = stages 4 (omega arith) in
    let e4 = stages 5 (omega arith) in
    let e5 = stages 6 (omega arith) in
    let e6 = stages 7 (omega arith) in
    let e7 = stages 8 (omega arith) in
    let f0 : SameButNodeB (states 1) (states 1) = record { ue = refl; rnc = refl; damage = refl } in
    let f1 : SameButNodeB (states 1) (states 2) = also_node_b (states 1) (states 1) (states 2) f0 (down_same states lines 0 e0) in
    let f2 : SameButNodeB (states 1) (states 3) = also_node_b (states 1) (states 2) (states 3) f1 (down_same states lines 1 e1) in
    let f3 : SameButNodeB (states 1) (states 4) = also_node_b (states 1) (states 3) (states 4) f2 (down_same states lines 2 e2) in
    let f4 : SameButNodeB (states 1) (states 5) = also_node_b (states 1) (states 4) (states 5) f3 (down_same states lines 3 e3) in
    let f5 : SameButNodeB (states 1) (states 6) = also_node_b (states 1) (states 5) (states 6) f4 (down_same states lines 4 e4) in
    let f6 : SameButNodeB (states 1) (states 7) = also_node_b (states 1) (states 6) (states 7) f5 (down_same states lines 5 e5) in
    let f7 : SameButNodeB (states 1) (states 8) = also_node_b (states 1) (states 7) (states 8) f6 (down_same states lines 6 e6) in
    let f8 : SameButNodeB (states 1) (states 9) = also_node_b (states 1) (states 8) (states 9) f7 (down_same states lines 7 e7) in
    let down = stages 9 (omega arith) in
    let f9 : SameButNodeB (states 1) (states 10) = also_node_b (states 1) (states 9) (states 10) f8 (but_node_b (states 9) (states 10) DownlinkDue down.0) in
    let ue = stages 10 (omega arith) in
    let u = but_ue (states 10) ue.mid (DownlinkFrame (radio_after (states 10).damage Down (states 10).node_b.last.sent)) ue.comes in
    let v = but_ue ue.mid (states 11) UeTicks ue.ticks in
    let up = stages 11 (omega arith) in
    let w = but_node_b (states 11) (states 12) (UplinkFrame (radio_after (states 11).damage Up (states 11).ue.last.sent)) up.0 in
    let h0 = stages 12 (omega arith) in
    let h1 = stages 13 (omega arith) in
    let h2 = stages 14 (omega arith) in
    let h3 = stages 15 (omega arith) in
    let h4 = stages 16 (omega arith) in
    let h5 = stages 17 (omega arith) in
    let h6 = stages 18 (omega arith) in
    let h7 = stages 19 (omega arith) in
    let g0 : SameButRnc (states 12) (states 12) = record { ue = refl; node_b = refl; damage = refl } in
    let g1 : SameButRnc (states 12) (states 13) = also_rnc (states 12) (states 12) (states 13) g0 (up_same states lines 0 h0) in
    let g2 : SameButRnc (states 12) (states 14) = also_rnc (states 12) (states 13) (states 14) g1 (up_same states lines 1 h1) in
    let g3 : SameButRnc (states 12) (states 15) = also_rnc (states 12) (states 14) (states 15) g2 (up_same states lines 2 h2) in
    let g4 : SameButRnc (states 12) (states 16) = also_rnc (states 12) (states 15) (states 16) g3 (up_same states lines 3 h3) in
    let g5 : SameButRnc (states 12) (states 17) = also_rnc (states 12) (states 16) (states 17) g4 (up_same states lines 4 h4) in
    let g6 : SameButRnc (states 12) (states 18) = also_rnc (states 12) (states 17) (states 18) g5 (up_same states lines 5 h5) in
    let g7 : SameButRnc (states 12) (states 19) = also_rnc (states 12) (states 18) (states 19) g6 (up_same states lines 6 h6) in
    let g8 : SameButRnc (states 12) (states 20) = also_rnc (states 12) (states 19) (states 20) g7 (up_same states lines 7 h7) in
    let hit_down : (states 10).damage ≡ (states 0).damage = f9.damage ∙ t.damage in
    let hit_mid : (states 11).damage ≡ (states 0).damage = v.damage ∙ u.damage ∙ hit_down in
    let hit_up : (states 12).damage ≡ (states 0).damage = w.damage ∙ hit_mid in
    let rnc_down : (states 11).rnc ≡ (states 1).rnc = v.rnc ∙ u.rnc ∙ f9.rnc in
    let ue_last : (states 20).ue ≡ (states 11).ue = g8.ue ∙ w.ue in
    let ups : (s : ℕ) → s < 8 → GoesUp states lines s = by_eight (GoesUp states lines) h0 h1 h2 h3 h4 h5 h6 h7 in
    let near : (states 12).ue.state.layer ≡ (states 20).ue.state.layer = ap (λ (c : Course UeState UeEvent). c.state.layer) (sym g8.ue) in (
      record {
        rnc = (states 1).rnc.state;
        rnc_output = (states 1).rnc.last;
        rnc_ticks = rnc_step (states 0) (states 1) RncTicks tick.0;
        fed = λ s. (states (1 + s)).node_b.state;
        fed_lines = λ s. lines (1 + s);
        fed_first = ap (λ (c : Course NodeBState NodeBEvent). c.state) t.node_b;
        feeds = by_eight (λ s. MayArrive s (iub_after (states 0).damage Down s ((states 1).rnc.last.iub s)) (states (1 + s)).node_b.state (states (1 + (s + 1))).node_b.state (lines (1 + s)))
            (fed_by states lines 0 (states 1) f0 (states 0).damage t.damage e0)
            (fed_by states lines 1 (states 1) f1 (states 0).damage t.damage e1)
            (fed_by states lines 2 (states 1) f2 (states 0).damage t.damage e2)
            (fed_by states lines 3 (states 1) f3 (states 0).damage t.damage e3)
            (fed_by states lines 4 (states 1) f4 (states 0).damage t.damage e4)
            (fed_by states lines 5 (states 1) f5 (states 0).damage t.damage e5)
            (fed_by states lines 6 (states 1) f6 (states 0).damage t.damage e6)
            (fed_by states lines 7 (states 1) f7 (states 0).damage t.damage e7);
        node_b = (states 10).node_b.state;
        down_output = (states 10).node_b.last;
        down = node_b_step (states 9) (states 10) DownlinkDue down.0;
        kept = ue.mid.ue.state;
        kept_output = ue.mid.ue.last;
        keeps = subst (λ (d : List Damage). UeSteps (states 0).ue.state (DownlinkFrame (radio_after d Down (states 10).node_b.last.sent)) ue.mid.ue.state ue.mid.ue.last) hit_down
            (subst (λ (c : Course UeState UeEvent). UeSteps c.state (DownlinkFrame (radio_after (states 10).damage Down (states 10).node_b.last.sent)) ue.mid.ue.state ue.mid.ue.last) (f9.ue ∙ t.ue)
            (ue_step (states 10) ue.mid (DownlinkFrame (radio_after (states 10).damage Down (states 10).node_b.last.sent)) ue.comes));
        ue_output = (states 11).ue.last;
        ue_ticks = subst (λ (c : Course UeState UeEvent). UeSteps ue.mid.ue.state UeTicks c.state (states 11).ue.last) (sym ue_last) (ue_step ue.mid (states 11) UeTicks ue.ticks);
        checks = ue.checks;
        compared = subst (λ (c : Course UeState UeEvent). AreCompared Down planned.config.downlink.side c.state.readings (states 1).rnc.state.layer ue.checks) (sym ue_last)
            (subst (λ (c : Course RncState RncEvent). AreCompared Down planned.config.downlink.side (states 11).ue.state.readings c.state.layer ue.checks) rnc_down
            (subst (λ (p : Planned). AreCompared Down p.config.downlink.side (states 11).ue.state.readings (states 11).rnc.state.layer ue.checks) (stays_to states lines stages 10 (omega arith)) ue.compared));
        up_output = (states 12).node_b.last;
        up = subst (λ (c : Course NodeBState NodeBEvent). NodeBSteps (states 10).node_b.state (UplinkFrame (radio_after (states 0).damage Up (states 11).ue.last.sent)) c.state (states 12).node_b.last) (sym g8.node_b)
            (subst (λ (d : List Damage). NodeBSteps (states 10).node_b.state (UplinkFrame (radio_after d Up (states 11).ue.last.sent)) (states 12).node_b.state (states 12).node_b.last) hit_mid
            (subst (λ (c : Course NodeBState NodeBEvent). NodeBSteps c.state (UplinkFrame (radio_after (states 11).damage Up (states 11).ue.last.sent)) (states 12).node_b.state (states 12).node_b.last) (v.node_b ∙ u.node_b)
            (node_b_step (states 11) (states 12) (UplinkFrame (radio_after (states 11).damage Up (states 11).ue.last.sent)) up.0)));
        rncs = λ s. (states (12 + s)).rnc.state;
        taken = taken_of states;
        rnc_lines = λ s. lines (12 + s);
        rnc_first = ap (λ (c : Course RncState RncEvent). c.state) (w.rnc ∙ rnc_down);
        takes = by_eight (λ s. MayBeTaken planned s (iub_after (states 0).damage Up s ((states 12).node_b.last.iub s)) (states 20).ue.state.layer (states (12 + s)).rnc.state (states (12 + (s + 1))).rnc.state (taken_of states s) (lines (12 + s)))
            (taken_by states lines 0 (states 12) g0 g1 (states 0).damage hit_up planned (stays_to states lines stages 12 (omega arith)) (states 20).ue.state.layer near h0)
            (taken_by states lines 1 (states 12) g1 g2 (states 0).damage hit_up planned (stays_to states lines stages 13 (omega arith)) (states 20).ue.state.layer near h1)
            (taken_by states lines 2 (states 12) g2 g3 (states 0).damage hit_up planned (stays_to states lines stages 14 (omega arith)) (states 20).ue.state.layer near h2)
            (taken_by states lines 3 (states 12) g3 g4 (states 0).damage hit_up planned (stays_to states lines stages 15 (omega arith)) (states 20).ue.state.layer near h3)
            (taken_by states lines 4 (states 12) g4 g5 (states 0).damage hit_up planned (stays_to states lines stages 16 (omega arith)) (states 20).ue.state.layer near h4)
            (taken_by states lines 5 (states 12) g5 g6 (states 0).damage hit_up planned (stays_to states lines stages 17 (omega arith)) (states 20).ue.state.layer near h5)
            (taken_by states lines 6 (states 12) g6 g7 (states 0).damage hit_up planned (stays_to states lines stages 18 (omega arith)) (states 20).ue.state.layer near h6)
            (taken_by states lines 7 (states 12) g7 g8 (states 0).damage hit_up planned (stays_to states lines stages 19 (omega arith)) (states 20).ue.state.layer near h7);
        rnc_last = refl;
        ue_reported = ap (λ (c : Course UeState UeEvent). c.lines) ue_last
            ∙ ue_lines ue.mid (states 11) UeTicks ue.ticks
            ∙ ap (λ (l : List Line). l ++ (states 11).ue.last.lines) (ue_lines (states 10) ue.mid (DownlinkFrame (radio_after (states 10).damage Down (states 10).node_b.last.sent)) ue.comes)
            ∙ ap (λ (c : Course UeState UeEvent). (c.lines ++ ue.mid.ue.last.lines) ++ (states 11).ue.last.lines) (f9.ue ∙ t.ue)
            ∙ append_assoc (states 0).ue.lines ue.mid.ue.last.lines (states 11).ue.last.lines;
        rnc_reported = taken_all states lines ups 8 (omega arith)
            ∙ ap (λ (c : Course RncState RncEvent). c.lines ++ lines_below (taken_of states) 8) (w.rnc ∙ rnc_down)
            ∙ ap (λ (l : List Line). l ++ lines_below (taken_of states) 8) (rnc_lines (states 0) (states 1) RncTicks tick.0)
            ∙ append_assoc (states 0).rnc.lines (states 1).rnc.last.lines (lines_below (taken_of states) 8);
        reported = lines_are lines (states 1).rnc.last.lines (states 10).node_b.last.lines (states 11).ue.last.lines ue.checks (states 12).node_b.last.lines tick.1 down.1 ue.all up.1;
      },
      g8.damage ∙ hit_up,
    )
