-- A run of three nodes, as a run of the terminal and the network controller.
use Rattle.std.proofs.Common.{◌≡◌, ◌∙◌, ℕ, List, [], ◌∷◌, ◌++◌, refl, sym, ap, subst}
use Rattle.std.proofs.lemmas.List.{append-nil}
use Rattle.dch_types.specs.declared.channel.Dir.TheVariants.{Up, Down}
use Rattle.dch_accept.specs.Plans.{Planned}
use Rattle.dch_node.specs.Lines.{Line}
use Rattle.dch_layer2.specs.Reading.{Nothing, Reading}
use Rattle.dch_linkcmd.specs.UeState.{BlockedCombination as UeBlocked, Event as UeEvent, OfferedUnit as UeOffered, State as UeState}
use Rattle.dch_linkcmd.specs.NodebState.{Event as NodeBEvent, State as NodeBState}
use Rattle.dch_linkcmd.specs.RncState.{BlockedCombination as RncBlocked, Event as RncEvent, OfferedUnit as RncOffered, State as RncState}
use Rattle.dch_linkcmd.specs.Checks.{good_in}
use Rattle.dch_linkcmd.specs.Courses.{Course}
use Rattle.dch_linkcmd.specs.Events.{BlockedCombination, Damages, Event as LinkEvent, Happens, OfferedUnit}
use Rattle.dch_linkcmd.specs.LinkLink.{LinkState}
use Rattle.dch_linkcmd.specs.LinkStages.{RncGoes, UeGoes}
use Rattle.dch_linkcmd.specs.Within.{RncWithin, UeWithin}
use Rattle.dch_runlaw.specs.Runs.{Between, Event, Frame, Runs, Steps}
use Rattle.dch_runlaw.proofs.Keeping.{but_rnc, but_ue, rnc_lines, rnc_step, ue_lines, ue_step}
use Rattle.dch_runlaw.specs.Worlds.{no_log}
use Rattle.dch_runlaw.specs.Nodes.{AtRnc, AtUe, given_by_rnc, given_by_ue}
use Rattle.dch_runlaw.specs.EndEvents.{between, end_events, in_step}
use Rattle.dch_runlaw.specs.HonestFits.{EventFits, RunFits}
use Rattle.dch_runlaw.proofs.Begun.{Fresh}
use Rattle.dch_runlaw.proofs.HonestFrames.{frame_goes}
use Rattle.dch_runlaw.proofs.HonestPhases.{Phase, phase_holds}
use Rattle.dch_runlaw.proofs.HonestStanding.{Onward, Setting, Stand, down_frames, nodes_of, runs-append, up_frames}
use Rattle.dch_runlaw.proofs.HonestStaying.{AreFor, event_for}

-- a step of the terminal that neither gives nor takes
ue_quiet : (planned : Planned) (up down : ℕ) (g : Setting planned up down) (old new : LinkState) (e : UeEvent) (s : Stand planned up down g old) → UeWithin e → UeGoes old e new → AreFor planned new
    → ((i : ℕ) → given_by_ue old.ue.state e new.ue.state i ≡ []) → ((i : ℕ) → new.ue.state.readings i ≡ Nothing) → new.ue.state.cfn ≡ old.ue.state.cfn → ((i : ℕ) → new.ue.state.layer.given i ≡ old.ue.state.layer.given i) → Onward planned up down g (nodes_of planned up down g old s) (AtUe e ∷ []) new
ue_quiet planned up down g old new e s within goes are none taken cfn given = record {
  stand = stand;
  run = record {
    next = nodes_of planned up down g new stand;
    first = record {
      within = within;
      output = new.ue.last;
      step = ue_step old new e goes;
      reported = ue_lines old new e goes;
      rnc = rnc;
      rnc_lines = ap (λ (c : Course RncState RncEvent). c.lines) (but_ue old new e goes).rnc;
      up = λ i. sym (ap (λ l. record { given = (s.ul i).given ++ l; taken = (s.ul i).taken }) (none i) ∙ ap (λ l. record { given = l; taken = (s.ul i).taken }) (append-nil (s.ul i).given));
      down = λ i. sym (ap (λ (r : Reading). record { given = (s.dl i).given; taken = (s.dl i).taken ++ good_in r }) (taken i) ∙ ap (λ l. record { given = (s.dl i).given; taken = l }) (append-nil (s.dl i).taken));
    };
    holds = g.build (nodes_of planned up down g new stand) (phase_holds g.UpFits g.UpHolds (up_frames planned up) old.rnc.state.cfn (s.ul up) (old.ue.state.layer.given up).blocks g.up_joins s.up_phase) (phase_holds g.DownFits g.DownHolds (down_frames planned down) old.rnc.state.cfn (s.dl down) (old.rnc.state.layer.given down).blocks g.down_joins s.down_phase);
    later = refl;
  };
}
  where
    rnc : new.rnc.state ≡ old.rnc.state
    rnc = ap (λ (c : Course RncState RncEvent). c.state) (but_ue old new e goes).rnc

    stand : Stand planned up down g new
    stand = record {
      ul = s.ul;
      dl = s.dl;
      are = are;
      ue_cfn = cfn ∙ s.ue_cfn ∙ sym (ap (λ (r : RncState). r.cfn) rnc);
      node_b_cfn = ap (λ (c : Course NodeBState NodeBEvent). c.state.cfn) (but_ue old new e goes).node_b ∙ s.node_b_cfn ∙ sym (ap (λ (r : RncState). r.cfn) rnc);
      up_phase = subst (λ (r : RncState). Phase g.UpFits (up_frames planned up) r.cfn (s.ul up) (new.ue.state.layer.given up).blocks) (sym rnc) (subst (λ b. Phase g.UpFits (up_frames planned up) old.rnc.state.cfn (s.ul up) b.blocks) (sym (given up)) s.up_phase);
      down_phase = subst (λ (r : RncState). Phase g.DownFits (down_frames planned down) r.cfn (s.dl down) (r.layer.given down).blocks) (sym rnc) s.down_phase;
    }

-- and one of the network controller
rnc_quiet : (planned : Planned) (up down : ℕ) (g : Setting planned up down) (old new : LinkState) (e : RncEvent) (s : Stand planned up down g old) → RncWithin e → RncGoes old e new → AreFor planned new
    → ((i : ℕ) → given_by_rnc old.rnc.state e new.rnc.state i ≡ []) → ((i : ℕ) → new.rnc.state.readings i ≡ Nothing) → new.rnc.state.cfn ≡ old.rnc.state.cfn → ((i : ℕ) → new.rnc.state.layer.given i ≡ old.rnc.state.layer.given i) → Onward planned up down g (nodes_of planned up down g old s) (AtRnc e ∷ []) new
rnc_quiet planned up down g old new e s within goes are none taken cfn given = record {
  stand = stand;
  run = record {
    next = nodes_of planned up down g new stand;
    first = record {
      within = within;
      output = new.rnc.last;
      step = rnc_step old new e goes;
      reported = rnc_lines old new e goes;
      ue = ue;
      ue_lines = ap (λ (c : Course UeState UeEvent). c.lines) (but_rnc old new e goes).ue;
      down = λ i. sym (ap (λ l. record { given = (s.dl i).given ++ l; taken = (s.dl i).taken }) (none i) ∙ ap (λ l. record { given = l; taken = (s.dl i).taken }) (append-nil (s.dl i).given));
      up = λ i. sym (ap (λ (r : Reading). record { given = (s.ul i).given; taken = (s.ul i).taken ++ good_in r }) (taken i) ∙ ap (λ l. record { given = (s.ul i).given; taken = l }) (append-nil (s.ul i).taken));
    };
    holds = g.build (nodes_of planned up down g new stand) (phase_holds g.UpFits g.UpHolds (up_frames planned up) old.rnc.state.cfn (s.ul up) (old.ue.state.layer.given up).blocks g.up_joins s.up_phase) (phase_holds g.DownFits g.DownHolds (down_frames planned down) old.rnc.state.cfn (s.dl down) (old.rnc.state.layer.given down).blocks g.down_joins s.down_phase);
    later = refl;
  };
}
  where
    ue : new.ue.state ≡ old.ue.state
    ue = ap (λ (c : Course UeState UeEvent). c.state) (but_rnc old new e goes).ue

    stand : Stand planned up down g new
    stand = record {
      ul = s.ul;
      dl = s.dl;
      are = are;
      ue_cfn = ap (λ (x : UeState). x.cfn) ue ∙ s.ue_cfn ∙ sym cfn;
      node_b_cfn = ap (λ (c : Course NodeBState NodeBEvent). c.state.cfn) (but_rnc old new e goes).node_b ∙ s.node_b_cfn ∙ sym cfn;
      up_phase = subst (λ c. Phase g.UpFits (up_frames planned up) c (s.ul up) (new.ue.state.layer.given up).blocks) (sym cfn) (subst (λ (x : UeState). Phase g.UpFits (up_frames planned up) old.rnc.state.cfn (s.ul up) (x.layer.given up).blocks) (sym ue) s.up_phase);
      down_phase = subst (λ c. Phase g.DownFits (down_frames planned down) c (s.dl down) (new.rnc.state.layer.given down).blocks) (sym cfn) (subst (λ b. Phase g.DownFits (down_frames planned down) old.rnc.state.cfn (s.dl down) b.blocks) (sym (given down)) s.down_phase);
    }

-- damage that waits changes no node
waiting : (planned : Planned) (up down : ℕ) (g : Setting planned up down) (old new : LinkState) (s : Stand planned up down g old) → new.ue ≡ old.ue → new.node_b ≡ old.node_b → new.rnc ≡ old.rnc → AreFor planned new → Onward planned up down g (nodes_of planned up down g old s) [] new
waiting planned up down g old new s ue node_b rnc are = record {
  stand = record {
    ul = s.ul;
    dl = s.dl;
    are = are;
    ue_cfn = ap (λ (c : Course UeState UeEvent). c.state.cfn) ue ∙ s.ue_cfn ∙ sym (ap (λ (c : Course RncState RncEvent). c.state.cfn) rnc);
    node_b_cfn = ap (λ (c : Course NodeBState NodeBEvent). c.state.cfn) node_b ∙ s.node_b_cfn ∙ sym (ap (λ (c : Course RncState RncEvent). c.state.cfn) rnc);
    up_phase = subst (λ (c : Course UeState UeEvent). Phase g.UpFits (up_frames planned up) new.rnc.state.cfn (s.ul up) (c.state.layer.given up).blocks) (sym ue)
        (subst (λ (c : Course RncState RncEvent). Phase g.UpFits (up_frames planned up) c.state.cfn (s.ul up) (old.ue.state.layer.given up).blocks) (sym rnc) s.up_phase);
    down_phase = subst (λ (c : Course RncState RncEvent). Phase g.DownFits (down_frames planned down) c.state.cfn (s.dl down) (c.state.layer.given down).blocks) (sym rnc) s.down_phase;
  };
  run = ap (λ (c : Course UeState UeEvent). record { ue = c.state; rnc = new.rnc.state; ue_lines = c.lines; rnc_lines = new.rnc.lines; up = s.ul; down = s.dl }) ue
      ∙ ap (λ (c : Course RncState RncEvent). record { ue = old.ue.state; rnc = c.state; ue_lines = old.ue.lines; rnc_lines = c.lines; up = s.ul; down = s.dl }) rnc;
}

-- what happens between two radio frames
between_goes : (planned : Planned) (up down : ℕ) (g : Setting planned up down) (old : LinkState) (event : LinkEvent) (new : LinkState) (lines : List Line) → Happens old event new lines → AreFor planned new → (s : Stand planned up down g old) → Onward planned up down g (nodes_of planned up down g old s) (between event) new
between_goes planned up down g old (OfferedUnit Up b octets bits) new lines h are s =
    let state = (ue_step old new (UeOffered b octets bits) h.0).state in
    ue_quiet planned up down g old new (UeOffered b octets bits) s tt h.0 are (λ i. refl) (λ i. ap (λ (x : UeState). x.readings i) state) (ap (λ (x : UeState). x.cfn) state) (λ i. ap (λ (x : UeState). x.layer.given i) state)
between_goes planned up down g old (OfferedUnit Down b octets bits) new lines h are s =
    let state = (rnc_step old new (RncOffered b octets bits) h.0).state in
    rnc_quiet planned up down g old new (RncOffered b octets bits) s tt h.0 are (λ i. refl) (λ i. ap (λ (x : RncState). x.readings i) state) (ap (λ (x : RncState). x.cfn) state) (λ i. ap (λ (x : RncState). x.layer.given i) state)
between_goes planned up down g old (BlockedCombination Up c on) new lines h are s =
    let state = (ue_step old new (UeBlocked c on) h.0).0 in
    ue_quiet planned up down g old new (UeBlocked c on) s tt h.0 are (λ i. refl) (λ i. ap (λ (x : UeState). x.readings i) state) (ap (λ (x : UeState). x.cfn) state) (λ i. ap (λ (x : UeState). x.layer.given i) state)
between_goes planned up down g old (BlockedCombination Down c on) new lines h are s =
    let state = (rnc_step old new (RncBlocked c on) h.0).0 in
    rnc_quiet planned up down g old new (RncBlocked c on) s tt h.0 are (λ i. refl) (λ i. ap (λ (x : RncState). x.readings i) state) (ap (λ (x : RncState). x.cfn) state) (λ i. ap (λ (x : RncState). x.layer.given i) state)
between_goes planned up down g old (Damages d) new lines h are s =
    waiting planned up down g old new s (ap (λ (x : LinkState). x.ue) h.0) (ap (λ (x : LinkState). x.node_b) h.0) (ap (λ (x : LinkState). x.rnc) h.0) are

-- an event, and a run
event_goes : (planned : Planned) (up down : ℕ) (g : Setting planned up down) (old : LinkState) (event : Event) (new : LinkState) (lines : List Line) (step : Steps old event new lines) → EventFits g.UpFits planned Up up old event new lines step → EventFits g.DownFits planned Down down old event new lines step → (s : Stand planned up down g old) → Onward planned up down g (nodes_of planned up down g old s) (in_step event old new lines step) new
event_goes planned up down g old (Between event) new lines step up_fits down_fits s = between_goes planned up down g old event new lines step (event_for planned old (Between event) new lines step s.are) s
event_goes planned up down g old Frame new lines step up_fits down_fits s = frame_goes planned up down g old new lines step.frame up_fits down_fits s

pub run_goes : (planned : Planned) (up down : ℕ) (g : Setting planned up down) (events : List Event) (old new : LinkState) (lines : List Line) (run : Runs old events new lines) → RunFits g.UpFits planned Up up events old new lines run → RunFits g.DownFits planned Down down events old new lines run → (s : Stand planned up down g old) → Onward planned up down g (nodes_of planned up down g old s) (end_events events old new lines run) new
run_goes planned up down g [] old new lines run up_fits down_fits s = subst (λ (x : LinkState). Onward planned up down g (nodes_of planned up down g old s) [] x) (sym run.0) (record { stand = s; run = refl })
run_goes planned up down g (event ∷ events) old new lines run up_fits down_fits s =
    let a = event_goes planned up down g old event run.next run.own run.step up_fits.0 down_fits.0 s in
    let b = run_goes planned up down g events run.next new run.rest run.later up_fits.1 down_fits.1 a.stand in
    record {
      stand = b.stand;
      run = runs-append g.H (nodes_of planned up down g old s) (nodes_of planned up down g run.next a.stand) (nodes_of planned up down g new b.stand) (in_step event old run.next run.own run.step) (end_events events run.next new run.rest run.later) a.run b.run;
    }

-- where a part begins nothing has gone over a channel
abbrev pub fresh_stand : (planned : Planned) (up down : ℕ) (g : Setting planned up down) (link : LinkState) → Fresh planned link → Stand planned up down g link
fresh_stand planned up down g link f = record {
  ul = λ i. no_log;
  dl = λ i. no_log;
  are = f.are;
  ue_cfn = f.ue_cfn;
  node_b_cfn = f.node_b_cfn;
  up_phase = record { on = λ _. record { ended = []; is = sym (f.ue_none up); holds = g.up_joins.none }; over = λ _. g.up_joins.none };
  down_phase = record { on = λ _. record { ended = []; is = sym (f.rnc_none down); holds = g.down_joins.none }; over = λ _. g.down_joins.none };
}
