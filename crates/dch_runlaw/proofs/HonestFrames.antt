-- A radio frame of three nodes, as a run of the terminal and the network controller.
use Rattle.std.proofs.Common.{◌≡◌, ◌+◌, ◌∙◌, ℕ, List, [], ◌++◌, arith, length, refl, sym, ap, subst, append_assoc}
use Rattle.std.specs.Prelude.{◌%◌}
use Rattle.std.proofs.lemmas.List.{append-nil}
use Rattle.dch_types.specs.declared.channel.Dir.TheVariants.{Up, Down}
use Rattle.dch_types.specs.Timing.{ends, starts}
use Rattle.dch_accept.specs.Plans.{Planned}
use Rattle.dch_node.specs.Lines.{Line}
use Rattle.dch_layer2.specs.Layers.{ticks}
use Rattle.dch_linkcmd.specs.UeState.{State as UeState}
use Rattle.dch_linkcmd.specs.UeSteps.{IsTick as IsUeTick, has_read}
use Rattle.dch_linkcmd.specs.NodebState.{State as NodeBState}
use Rattle.dch_linkcmd.specs.RncState.{State as RncState, Tick as RncTicks}
use Rattle.dch_linkcmd.specs.RncSteps.{IsTick as IsRncTick, Steps as RncSteps}
use Rattle.dch_linkcmd.specs.Checks.{good_in}
use Rattle.dch_linkcmd.specs.LinkLink.{LinkState}
use Rattle.dch_runlaw.specs.Frames.{IsFrame, lines_below}
use Rattle.dch_runlaw.specs.Nodes.{Nodes, Runs, given_at}
use Rattle.dch_runlaw.specs.EndEvents.{until_set}
use Rattle.dch_runlaw.specs.HonestFits.{FrameFits}
use Rattle.dch_runlaw.proofs.HonestPhases.{On, Phase, next_is, on_holds, phase_holds, reads_log, same_on, same_phase, starts_log}
use Rattle.dch_runlaw.proofs.HonestSets.{Sets, all_sets}
use Rattle.dch_runlaw.proofs.HonestStanding.{Onward, Setting, Stand, down_frames, nodes_at, nodes_of, up_frames}
use Rattle.dch_runlaw.proofs.HonestStaying.{frame_for, left_cfn}
use Rattle.dch_runlaw.proofs.HonestSteps.{below_given, goes_on, start_on}

pub frame_goes : (planned : Planned) (up down : ℕ) (g : Setting planned up down) (old new : LinkState) (lines : List Line) (f : IsFrame old new lines) → FrameFits g.UpFits planned Up up old new lines f → FrameFits g.DownFits planned Down down old new lines f → (s : Stand planned up down g old) → Onward planned up down g (nodes_of planned up down g old s) (until_set old new lines f 8) new
frame_goes planned up down g old new lines f up_fits down_fits s = record {
  stand = record {
    ul = t.ul;
    dl = t.dl;
    are = frame_for planned old new lines f s.are;
    ue_cfn = ap (λ (x : UeState). x.cfn) ue_tick.state ∙ ap (λ k. (k + 1) % 256) kept_cfn ∙ sym last_cfn;
    node_b_cfn = ap (λ (x : NodeBState). x.cfn) f.up.state ∙ ap (λ k. (k + 1) % 256) (left_cfn old new lines f ∙ s.node_b_cfn) ∙ sym last_cfn;
    up_phase = subst (λ k. Phase g.UpFits (up_frames planned up) k (t.ul up) (new.ue.state.layer.given up).blocks) (sym last_cfn) (t.after g.up_channel.small);
    down_phase = subst (λ k. Phase g.DownFits (down_frames planned down) k (t.dl down) (new.rnc.state.layer.given down).blocks) (sym last_cfn) (subst (λ b. Phase g.DownFits (down_frames planned down) ((c + 1) % 256) (t.dl down) b.blocks) (sym (ap (λ (r : RncState). r.layer.given down) f.rnc_last ∙ t.given down)) t.down_phase);
  };
  run = subst (λ (x : List Line). Runs g.H n (until_set old new lines f 8) (nodes_at new.ue.state new.rnc.state new.ue.lines x t.ul t.dl)) (append_assoc old.rnc.lines f.rnc_output.lines (lines_below f.taken 8) ∙ sym f.rnc_reported)
      (subst (λ (x : List Line). Runs g.H n (until_set old new lines f 8) (nodes_at new.ue.state new.rnc.state x (n1.rnc_lines ++ lines_below f.taken 8) t.ul t.dl)) (append_assoc old.ue.lines f.kept_output.lines f.ue_output.lines ∙ sym f.ue_reported)
      (subst (λ (r : RncState). Runs g.H n (until_set old new lines f 8) (nodes_at new.ue.state r n3.ue_lines (n1.rnc_lines ++ lines_below f.taken 8) t.ul t.dl)) (sym f.rnc_last) t.run));
}
  where
    n : Nodes
    n = nodes_of planned up down g old s

    c : ℕ
    c = old.rnc.state.cfn

    -- the network controller ticks
    r0 : RncState
    r0 = f.rncs 0

    ticks0 : RncSteps old.rnc.state RncTicks r0 f.rnc_output
    ticks0 = subst (λ r. RncSteps old.rnc.state RncTicks r f.rnc_output) (sym f.rnc_first) f.rnc_ticks

    rnc_tick : IsRncTick planned old.rnc.state r0 f.rnc_output
    rnc_tick = subst (λ (p : Planned). IsRncTick p old.rnc.state r0 f.rnc_output) s.are.rnc ticks0

    n1 : Nodes
    n1 = nodes_at old.ue.state r0 old.ue.lines (old.rnc.lines ++ f.rnc_output.lines) (λ i. record { given = (s.ul i).given; taken = (s.ul i).taken ++ good_in (r0.readings i) }) (λ i. record { given = (s.dl i).given ++ given_at old.rnc.state.planned.config.downlink.side old.rnc.state.cfn r0.layer i; taken = (s.dl i).taken })

    up1 : Phase g.UpFits (up_frames planned up) c (n1.up up) (old.ue.state.layer.given up).blocks
    up1 = same_phase g.UpFits (up_frames planned up) c (s.ul up) (n1.up up) (old.ue.state.layer.given up).blocks (ap (λ (r : RncState). record { given = (s.ul up).given; taken = (s.ul up).taken ++ good_in (r.readings up) }) rnc_tick.state ∙ ap (λ l. record { given = (s.ul up).given; taken = l }) (append-nil (s.ul up).taken)) s.up_phase

    down1 : On g.DownFits (n1.down down) (r0.layer.given down).blocks
    down1 = starts_log g.DownFits (down_frames planned down) c (s.dl down) (n1.down down) (given_at planned.config.downlink.side c r0.layer down) (old.rnc.state.layer.given down).blocks (r0.layer.given down).blocks
        (ap (λ (p : Planned). record { given = (s.dl down).given ++ given_at p.config.downlink.side c r0.layer down; taken = (s.dl down).taken }) s.are.rnc)
        (λ q. rw q refl)
        (λ q. (rw q refl, ap (λ b. b.blocks) (start_on planned.config Down c (ticks planned.config old.rnc.state.layer) r0.layer down rnc_tick.start q)))
        s.down_phase

    -- the terminal gets the radio frame
    n2 : Nodes
    n2 = nodes_at f.kept r0 (old.ue.lines ++ f.kept_output.lines) n1.rnc_lines (λ i. record { given = (n1.up i).given ++ []; taken = (n1.up i).taken }) (λ i. record { given = (n1.down i).given; taken = (n1.down i).taken ++ good_in (f.kept.readings i) })

    up2 : Phase g.UpFits (up_frames planned up) c (n2.up up) (f.kept.layer.given up).blocks
    up2 = subst (λ (x : UeState). Phase g.UpFits (up_frames planned up) c (n2.up up) (x.layer.given up).blocks) (sym f.keeps.0) (same_phase g.UpFits (up_frames planned up) c (n1.up up) (n2.up up) (old.ue.state.layer.given up).blocks (ap (λ l. record { given = l; taken = (n1.up up).taken }) (append-nil (n1.up up).given)) up1)

    down2 : On g.DownFits (n2.down down) (r0.layer.given down).blocks
    down2 = same_on g.DownFits (n1.down down) (n2.down down) (r0.layer.given down).blocks (ap (λ (x : UeState). record { given = (n1.down down).given; taken = (n1.down down).taken ++ good_in (x.readings down) }) f.keeps.0 ∙ ap (λ l. record { given = (n1.down down).given; taken = l }) (append-nil (n1.down down).taken)) down1

    kept_cfn : f.kept.cfn ≡ c
    kept_cfn = ap (λ (x : UeState). x.cfn) f.keeps.0 ∙ s.ue_cfn

    kept_planned : f.kept.planned ≡ planned
    kept_planned = ap (λ (x : UeState). x.planned) f.keeps.0 ∙ s.are.ue

    -- and ticks
    ue_tick : IsUeTick planned f.kept new.ue.state f.ue_output
    ue_tick = subst (λ (p : Planned). IsUeTick p f.kept new.ue.state f.ue_output) kept_planned f.ue_ticks

    n3 : Nodes
    n3 = nodes_at new.ue.state r0 (n2.ue_lines ++ f.ue_output.lines) n1.rnc_lines (λ i. record { given = (n2.up i).given ++ given_at f.kept.planned.config.uplink.side f.kept.cfn new.ue.state.layer i; taken = (n2.up i).taken }) (λ i. record { given = (n2.down i).given; taken = (n2.down i).taken ++ good_in (new.ue.state.readings i) })

    up3 : On g.UpFits (n3.up up) (new.ue.state.layer.given up).blocks
    up3 = starts_log g.UpFits (up_frames planned up) c (n2.up up) (n3.up up) (given_at planned.config.uplink.side c new.ue.state.layer up) (f.kept.layer.given up).blocks (new.ue.state.layer.given up).blocks
        (ap (λ (p : Planned). record { given = (n2.up up).given ++ given_at p.config.uplink.side f.kept.cfn new.ue.state.layer up; taken = (n2.up up).taken }) kept_planned ∙ ap (λ k. record { given = (n2.up up).given ++ given_at planned.config.uplink.side k new.ue.state.layer up; taken = (n2.up up).taken }) kept_cfn)
        (λ q. rw q refl)
        (λ q. (rw q refl, ap (λ b. b.blocks) (start_on planned.config Up f.kept.cfn (has_read planned new.ue.state.readings f.kept.layer).layer new.ue.state.layer up ue_tick.start (ap (λ k. starts (up_frames planned up) k) kept_cfn ∙ q) ∙ below_given planned.config Down new.ue.state.readings (length planned.config.downlink.side.channels) (ticks planned.config f.kept.layer) up)))
        up2

    rx_cfn : ue_tick.rx_frames.cfn ≡ c
    rx_cfn = ue_tick.kept.last ∙ kept_cfn

    given0 : (j : ℕ) → r0.layer.given j ≡ f.rnc.layer.given j
    given0 j = ap (λ (r : RncState). r.layer.given j) f.rnc_first

    down3 : Phase g.DownFits (down_frames planned down) ((c + 1) % 256) (n3.down down) (f.rnc.layer.given down).blocks
    down3 = reads_log g.DownFits g.DownHolds (down_frames planned down) c ((c + 1) % 256) (n2.down down) (n3.down down) (good_in (new.ue.state.readings down)) (f.rnc.layer.given down).blocks g.down_joins refl
        (next_is (down_frames planned down) c g.down_channel.divides)
        down_fits
        (λ e. goes_on planned ue_tick.rx_frames down (new.ue.state.readings down) (ap (ends (down_frames planned down)) rx_cfn ∙ e) (ue_tick.readings down g.down_channel.there))
        (subst (λ b. On g.DownFits (n2.down down) b.blocks) (given0 down) down2)

    run : Runs g.H n (until_set old new lines f 0) n3
    run = record {
      next = n1;
      first = record { within = tt; output = f.rnc_output; step = ticks0; reported = refl; ue = refl; ue_lines = refl; down = λ i. refl; up = λ i. refl };
      holds = g.build n1 (phase_holds g.UpFits g.UpHolds (up_frames planned up) c (n1.up up) (old.ue.state.layer.given up).blocks g.up_joins up1) (on_holds g.DownFits g.DownHolds (n1.down down) (r0.layer.given down).blocks g.down_joins down1);
      later = record {
        next = n2;
        first = record { within = tt; output = f.kept_output; step = f.keeps; reported = refl; rnc = refl; rnc_lines = refl; up = λ i. refl; down = λ i. refl };
        holds = g.build n2 (phase_holds g.UpFits g.UpHolds (up_frames planned up) c (n2.up up) (f.kept.layer.given up).blocks g.up_joins up2) (on_holds g.DownFits g.DownHolds (n2.down down) (r0.layer.given down).blocks g.down_joins down2);
        later = record {
          next = n3;
          first = record { within = tt; output = f.ue_output; step = f.ue_ticks; reported = refl; rnc = refl; rnc_lines = refl; up = λ i. refl; down = λ i. refl };
          holds = g.build n3 (on_holds g.UpFits g.UpHolds (n3.up up) (new.ue.state.layer.given up).blocks g.up_joins up3) (phase_holds g.DownFits g.DownHolds (down_frames planned down) ((c + 1) % 256) (n3.down down) (f.rnc.layer.given down).blocks g.down_joins down3);
          later = refl;
        };
      };
    }

    -- and the Iub frames up come
    t : Sets planned up down g old new lines f n3.ue_lines n1.rnc_lines n 8
    t = all_sets planned up down g old new lines f n3.ue_lines n1.rnc_lines n 8 up_fits s.are s.node_b_cfn (omega arith) (record {
      ul = n3.up;
      dl = n3.down;
      run = subst (λ (x : List Line). Runs g.H n (until_set old new lines f 0) (nodes_at new.ue.state r0 n3.ue_lines x n3.up n3.down)) (sym (append-nil n1.rnc_lines)) run;
      before = λ le. up3;
      after = λ lt. absurd (omega (arith, lt));
      down_phase = down3;
      cfn = ap (λ (r : RncState). r.cfn) rnc_tick.state;
      given = given0;
    })

    last_cfn : new.rnc.state.cfn ≡ (c + 1) % 256
    last_cfn = ap (λ (r : RncState). r.cfn) f.rnc_last ∙ t.cfn
