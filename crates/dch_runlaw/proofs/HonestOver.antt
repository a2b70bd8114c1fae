-- What a run of three nodes in two parts hands up of bearers.
use Rattle.std.proofs.Common.{◌≡◌, ◌<◌, ◌%◌, ◌∙◌, ◌++◌, ℕ, List, true, length, refl, sym, ap, subst₂}
use Rattle.std.proofs.lemmas.List.{append-nil}
use Rattle.dch_types.specs.declared.channel.Dir.TheVariants.{Up, Down}
use Rattle.dch_types.specs.declared.channel.Side.{Side}
use Rattle.dch_types.specs.Limits.{IsSide}
use Rattle.dch_types.specs.Parts.{channel_at}
use Rattle.dch_types.specs.Timing.{starts}
use Rattle.dch_config.specs.Changes.{KeepsBearer}
use Rattle.dch_accept.specs.Plans.{Planned}
use Rattle.dch_amlaw.specs.Pair.{At}
use Rattle.dch_node.specs.Lines.{Differs, Line}
use Rattle.dch_node.specs.Values.{no_output}
use Rattle.dch_linkcmd.proofs.Steady.{starts-eighth}
use Rattle.dch_linkcmd.specs.RncState.{State as RncState}
use Rattle.dch_linkcmd.specs.Checks.{IsSublist}
use Rattle.dch_linkcmd.specs.LinkLink.{LinkState, opened_link}
use Rattle.dch_runlaw.specs.Worlds.{IsFront}
use Rattle.dch_runlaw.proofs.Bearers.{is_am_bearer, is_tm_bearer, is_um_bearer}
use Rattle.dch_runlaw.specs.Runs.{Event, Runs}
use Rattle.dch_runlaw.specs.Parts.{GoesOver}
use Rattle.dch_runlaw.specs.EndEvents.{end_events}
use Rattle.dch_runlaw.specs.NodesCalls.{nodes_calls}
use Rattle.dch_runlaw.specs.Nodes.{Any, Changes, Event as NodesEvent, IsAmHistoryOver, IsWholeAmHistory, Nodes, RunsInTwo, opened_nodes}
use Rattle.dch_runlaw.specs.HonestBearers.{AreReachedOver, Both, HasHistoryOver, HasKnownDownOver, HasKnownUpOver, HasSomeDownOver, HasSomeUpOver, HasTmDown, HasTmUp, HasUmDown, HasUmUp, HasWholeHistory, IsAcknowledged, IsTransparent, IsUnacknowledged, down_way, up_way}
use Rattle.dch_runlaw.specs.HonestFits.{IsUndamaged, IsUndamagedOn, RunFits}
use Rattle.dch_runlaw.specs.HonestSilent.{IsSilent, Lacks}
use Rattle.dch_runlaw.proofs.Begun.{Fresh, changed_for, changed_fresh, opened_fresh}
use Rattle.dch_runlaw.proofs.Changing.{IsChanged, changed_is}
use Rattle.dch_runlaw.proofs.NodesParts.{tm_down_two, tm_down_whole, tm_up_two, tm_up_whole, two_history, two_whole, um_down_two, um_down_whole, um_up_two, um_up_whole}
use Rattle.dch_runlaw.proofs.HonestHanded.{AreChannels, am_channels, down_channels, down_setting, honest_setting, silent_honest, up_channels, up_setting, whole_setting}
use Rattle.dch_runlaw.proofs.HonestPhases.{honest, phase_holds, undamaged, whole_phase}
use Rattle.dch_runlaw.proofs.HonestRuns.{fresh_stand, run_goes}
use Rattle.dch_runlaw.proofs.HonestSilence.{any_fits}
use Rattle.dch_runlaw.proofs.HonestStaying.{AreFor}
use Rattle.dch_runlaw.proofs.HonestStanding.{Onward, Setting, any-called, any-run, down_frames, nodes_of, up_frames}

-- how the terminal and the network controller stand where the second part begins
abbrev fresh_nodes : (second : Planned) (up down : ℕ) (h : Setting second up down) (start : LinkState) → Fresh second start → Nodes
fresh_nodes second up down h start f = nodes_of second up down h start (fresh_stand second up down h start f)

-- and how they got there, and on from there
record WentOver (planned second : Planned) (first up down up_later down_later : ℕ) (g : Setting planned up down) (h : Setting second up_later down_later) (last start new : LinkState) (earlier later : List NodesEvent) : Type 0 where
  before : Onward planned up down g (opened_nodes planned first first) earlier last
  fresh : Fresh second start
  changes : Changes second (nodes_of planned up down g last before.stand) (fresh_nodes second up_later down_later h start fresh)
  behind : Onward second up_later down_later h (fresh_nodes second up_later down_later h start fresh) later new

goes_over : (planned second : Planned) (first up down up_later down_later : ℕ) (g : Setting planned up down) (h : Setting second up_later down_later) (before after : List Event) (start new : LinkState) (xs ys : List Line) (o : GoesOver planned second first before xs start) (run : Runs start after new ys)
    → RunFits g.UpFits planned Up up before (opened_link planned first) o.last xs o.run → RunFits g.DownFits planned Down down before (opened_link planned first) o.last xs o.run
    → RunFits h.UpFits second Up up_later after start new ys run → RunFits h.DownFits second Down down_later after start new ys run
    → WentOver planned second first up down up_later down_later g h o.last start new (end_events before (opened_link planned first) o.last xs o.run) (end_events after start new ys run)
goes_over planned second first up down up_later down_later g h before after start new xs ys o run up_fits down_fits up_later_fits down_later_fits =
    let one : Onward planned up down g (opened_nodes planned first first) (end_events before (opened_link planned first) o.last xs o.run) o.last =
    run_goes planned up down g before (opened_link planned first) o.last xs o.run up_fits down_fits (fresh_stand planned up down g (opened_link planned first) (opened_fresh planned first)) in
    let is : IsChanged second o.last start = changed_is second o.last start o.changes in
    let fresh : Fresh second start = changed_fresh second o.last start is one.stand.ue_cfn one.stand.node_b_cfn in
    record {
      before = one;
      fresh = fresh;
      changes = record {
        ue_output = no_output;
        rnc_output = no_output;
        ue = record { state = is.ue; quiet = refl };
        rnc = record { state = is.rnc; quiet = refl };
        ue_reported = is.ue_said ∙ sym (append-nil o.last.ue.lines);
        rnc_reported = is.rnc_said ∙ sym (append-nil o.last.rnc.lines);
        up = λ i. refl;
        down = λ i. refl;
      };
      behind = run_goes second up_later down_later h after start new ys run up_later_fits down_later_fits (fresh_stand second up_later down_later h start fresh);
    }

abbrev in_two : (planned second : Planned) (first up down up_later down_later : ℕ) (g : Setting planned up down) (h : Setting second up_later down_later) (last start new : LinkState) (earlier later : List NodesEvent) (w : WentOver planned second first up down up_later down_later g h last start new earlier later)
    → RunsInTwo planned second g.H h.H first first earlier later (nodes_of second up_later down_later h new w.behind.stand)
in_two planned second first up down up_later down_later g h last start new earlier later w = record {
  mid = nodes_of planned up down g last w.before.stand;
  next = fresh_nodes second up_later down_later h start w.fresh;
  before = w.before.run;
  changes = w.changes;
  behind = w.behind.run;
}

-- the two nodes were reached, whatever holds after each event
abbrev reached_over : (planned second : Planned) (first up down up_later down_later : ℕ) (g : Setting planned up down) (h : Setting second up_later down_later) (last start new : LinkState) (earlier later : List NodesEvent) (w : WentOver planned second first up down up_later down_later g h last start new earlier later)
    → AreReachedOver planned second first earlier later last new
reached_over planned second first up down up_later down_later g h last start new earlier later w = record {
  nodes = nodes_of second up_later down_later h new w.behind.stand;
  run = record {
    mid = nodes_of planned up down g last w.before.stand;
    next = fresh_nodes second up_later down_later h start w.fresh;
    before = any-run g.H (opened_nodes planned first first) (nodes_of planned up down g last w.before.stand) earlier w.before.run;
    changes = w.changes;
    behind = any-run h.H (fresh_nodes second up_later down_later h start w.fresh) (nodes_of second up_later down_later h new w.behind.stand) later w.behind.run;
  };
  are_mid = record { ue = refl; rnc = refl; ue_lines = refl; rnc_lines = refl };
  are = record { ue = refl; rnc = refl; ue_lines = refl; rnc_lines = refl };
}

-- the configuration that is active where the second part begins, and the CFN
over_for : (planned second : Planned) (first : ℕ) (before : List Event) (xs : List Line) (start : LinkState) → GoesOver planned second first before xs start → AreFor second start
over_for planned second first before xs start o = changed_for second o.last start (changed_is second o.last start o.changes)

same_cfn : (planned second : Planned) (first : ℕ) (before : List Event) (xs : List Line) (start : LinkState) (o : GoesOver planned second first before xs start) → start.rnc.state.cfn % 8 ≡ 0 → o.last.rnc.state.cfn % 8 ≡ 0
same_cfn planned second first before xs start o eighth = ap (λ n. n % 8) (sym (ap (λ (x : RncState). x.cfn) (changed_is second o.last start o.changes).rnc)) ∙ eighth

-- where the TTIs of all channels have ended
all_over : (side : Side) (i cfn : ℕ) → IsSide side → i < length side.channels → cfn % 8 ≡ 0 → starts (channel_at side i).frames cfn ≡ true
all_over side i cfn good inside eighth = starts-eighth (channel_at side i).frames cfn (good.channels i inside).frames eighth

-- acknowledged bearers
pub silent_over : (planned second : Planned) (first b up down up_later down_later : ℕ) (before after : List Event) (start new : LinkState) (xs ys : List Line) (o : GoesOver planned second first before xs start) (run : Runs start after new ys) → KeepsBearer planned.config second.config b
    → IsAcknowledged planned b up down → IsAcknowledged second b up_later down_later → IsSilent up down xs → IsSilent up_later down_later ys → HasHistoryOver planned second first b (end_events before (opened_link planned first) o.last xs o.run) (end_events after start new ys run) o.last new
silent_over planned second first b up down up_later down_later before after start new xs ys o run keeps is later silent silent_later =
    let are : AreChannels planned up down = am_channels planned b up down is in
    let on : AreChannels second up_later down_later = am_channels second b up_later down_later later in
    let g : Setting planned up down = honest_setting planned up down are in
    let h : Setting second up_later down_later = honest_setting second up_later down_later on in
    let one : List NodesEvent = end_events before (opened_link planned first) o.last xs o.run in
    let two : List NodesEvent = end_events after start new ys run in
    let w : WentOver planned second first up down up_later down_later g h o.last start new one two = goes_over planned second first up down up_later down_later g h before after start new xs ys o run
    (silent_honest planned Up up before (opened_link planned first) o.last xs o.run is.good (opened_fresh planned first).are are.up_is.there silent.up_silent)
    (silent_honest planned Down down before (opened_link planned first) o.last xs o.run is.good (opened_fresh planned first).are are.down_is.there silent.down_silent)
    (silent_honest second Up up_later after start new ys run later.good (over_for planned second first before xs start o) on.up_is.there silent_later.up_silent)
    (silent_honest second Down down_later after start new ys run later.good (over_for planned second first before xs start o) on.down_is.there silent_later.down_silent) in
    let mid : Nodes = nodes_of planned up down g o.last w.before.stand in
    let next : Nodes = fresh_nodes second up_later down_later h start w.fresh in
    let nodes : Nodes = nodes_of second up_later down_later h new w.behind.stand in
    let reached : AreReachedOver planned second first one two o.last new = reached_over planned second first up down up_later down_later g h o.last start new one two w in
    record {
      reached = reached;
      history = subst₂ (λ (calls calls_later : List At). IsAmHistoryOver second b calls calls_later mid nodes) {v = nodes_calls second.config b Any reached.run.next two reached.nodes reached.run.behind}
          (any-called planned.config b g.H (opened_nodes planned first first) mid one w.before.run) (any-called second.config b h.H next nodes two w.behind.run)
          (two_history planned second first first b up down up_later down_later one two nodes keeps
          (is_am_bearer planned.config b up down is.good is.there is.mode is.up_is is.down_is) (is_am_bearer second.config b up_later down_later later.good later.there later.mode later.up_is later.down_is)
          (in_two planned second first up down up_later down_later g h o.last start new one two w));
    }

pub undamaged_over : (planned second : Planned) (first b up down up_later down_later : ℕ) (before after : List Event) (start new : LinkState) (xs ys : List Line) (o : GoesOver planned second first before xs start) (run : Runs start after new ys) → KeepsBearer planned.config second.config b → start.rnc.state.cfn % 8 ≡ 0
    → IsAcknowledged planned b up down → IsAcknowledged second b up_later down_later → IsUndamaged planned up down before (opened_link planned first) o.last xs o.run → IsUndamaged second up_later down_later after start new ys run
    → HasWholeHistory (Both planned second first (end_events before (opened_link planned first) o.last xs o.run) (end_events after start new ys run) o.last) b up_later down_later new
undamaged_over planned second first b up down up_later down_later before after start new xs ys o run keeps eighth is later fits fits_later =
    let are : AreChannels planned up down = am_channels planned b up down is in
    let on : AreChannels second up_later down_later = am_channels second b up_later down_later later in
    let g : Setting planned up down = whole_setting planned up down are in
    let h : Setting second up_later down_later = whole_setting second up_later down_later on in
    let one : List NodesEvent = end_events before (opened_link planned first) o.last xs o.run in
    let two : List NodesEvent = end_events after start new ys run in
    let w : WentOver planned second first up down up_later down_later g h o.last start new one two = goes_over planned second first up down up_later down_later g h before after start new xs ys o run fits.up_is fits.down_is fits_later.up_is fits_later.down_is in
    let over : o.last.rnc.state.cfn % 8 ≡ 0 = same_cfn planned second first before xs start o eighth in
    let mid : Nodes = nodes_of planned up down g o.last w.before.stand in
    let next : Nodes = fresh_nodes second up_later down_later h start w.fresh in
    let nodes : Nodes = nodes_of second up_later down_later h new w.behind.stand in
    record {
      reached = reached_over planned second first up down up_later down_later g h o.last start new one two w;
      up_taken = whole_phase (up_frames second up_later) new.rnc.state.cfn (w.behind.stand.ul up_later) (new.ue.state.layer.given up_later).blocks w.behind.stand.up_phase;
      down_taken = whole_phase (down_frames second down_later) new.rnc.state.cfn (w.behind.stand.dl down_later) (new.rnc.state.layer.given down_later).blocks w.behind.stand.down_phase;
      history = subst₂ (λ (calls calls_later : List At). IsWholeAmHistory second b up_later down_later (calls ++ calls_later) nodes)
          (any-called planned.config b g.H (opened_nodes planned first first) mid one w.before.run) (any-called second.config b h.H next nodes two w.behind.run)
          (two_whole planned second first first b up down up_later down_later one two nodes keeps
          (is_am_bearer planned.config b up down is.good is.there is.mode is.up_is is.down_is) (is_am_bearer second.config b up_later down_later later.good later.there later.mode later.up_is later.down_is)
          (in_two planned second first up down up_later down_later g h o.last start new one two w)
          (record {
            up_is = sym (w.before.stand.up_phase.over (all_over planned.config.uplink.side up o.last.rnc.state.cfn is.good.uplink.side are.up_is.there over));
            down_is = sym (w.before.stand.down_phase.over (all_over planned.config.downlink.side down o.last.rnc.state.cfn is.good.downlink.side are.down_is.there over));
          }));
    }

-- unacknowledged bearers
pub um_up_silent_over : (planned second : Planned) (first b up up_later : ℕ) (before after : List Event) (start new : LinkState) (xs ys : List Line) (o : GoesOver planned second first before xs start) (run : Runs start after new ys) → IsUnacknowledged planned Up b up → IsUnacknowledged second Up b up_later
    → Lacks xs (Differs Up up) → Lacks ys (Differs Up up_later) → HasKnownUpOver planned second first b up up_later (end_events before (opened_link planned first) o.last xs o.run) (end_events after start new ys run) o.last new
um_up_silent_over planned second first b up up_later before after start new xs ys o run is later lacks lacks_later =
    let are : AreChannels planned up 0 = up_channels planned b up is.good is.there is.channel in
    let on : AreChannels second up_later 0 = up_channels second b up_later later.good later.there later.channel in
    let g : Setting planned up 0 = up_setting IsSublist IsSublist planned up 0 honest are in
    let h : Setting second up_later 0 = up_setting IsSublist IsSublist second up_later 0 honest on in
    let one : List NodesEvent = end_events before (opened_link planned first) o.last xs o.run in
    let two : List NodesEvent = end_events after start new ys run in
    let w : WentOver planned second first up 0 up_later 0 g h o.last start new one two = goes_over planned second first up 0 up_later 0 g h before after start new xs ys o run
    (silent_honest planned Up up before (opened_link planned first) o.last xs o.run is.good (opened_fresh planned first).are are.up_is.there lacks)
    (any_fits planned Down 0 before (opened_link planned first) o.last xs o.run)
    (silent_honest second Up up_later after start new ys run later.good (over_for planned second first before xs start o) on.up_is.there lacks_later)
    (any_fits second Down 0 after start new ys run) in
    record {
      reached = record {
        nodes = nodes_of second up_later 0 h new w.behind.stand;
        run = in_two planned second first up 0 up_later 0 g h o.last start new one two w;
        are_mid = record { ue = refl; rnc = refl; ue_lines = refl; rnc_lines = refl };
        are = record { ue = refl; rnc = refl; ue_lines = refl; rnc_lines = refl };
      };
      known = um_up_two planned second first first b up up_later one two (nodes_of second up_later 0 h new w.behind.stand) (is_um_bearer planned.config Up b up is.good is.there is.mode is.channel) (is_um_bearer second.config Up b up_later later.good later.there later.mode later.channel) (in_two planned second first up 0 up_later 0 g h o.last start new one two w)
          (phase_holds IsSublist IsSublist (up_frames planned up) o.last.rnc.state.cfn (w.before.stand.ul up) (o.last.ue.state.layer.given up).blocks honest w.before.stand.up_phase)
          (phase_holds IsSublist IsSublist (up_frames second up_later) new.rnc.state.cfn (w.behind.stand.ul up_later) (new.ue.state.layer.given up_later).blocks honest w.behind.stand.up_phase);
    }

pub um_up_undamaged_over : (planned second : Planned) (first b up up_later : ℕ) (before after : List Event) (start new : LinkState) (xs ys : List Line) (o : GoesOver planned second first before xs start) (run : Runs start after new ys) → start.rnc.state.cfn % 8 ≡ 0 → IsUnacknowledged planned Up b up → IsUnacknowledged second Up b up_later
    → IsUndamagedOn planned Up up before (opened_link planned first) o.last xs o.run → IsUndamagedOn second Up up_later after start new ys run → HasUmUp second b up_later new
um_up_undamaged_over planned second first b up up_later before after start new xs ys o run eighth is later fits fits_later =
    let are : AreChannels planned up 0 = up_channels planned b up is.good is.there is.channel in
    let on : AreChannels second up_later 0 = up_channels second b up_later later.good later.there later.channel in
    let g : Setting planned up 0 = up_setting (λ a b. a ≡ b) IsFront planned up 0 undamaged are in
    let h : Setting second up_later 0 = up_setting (λ a b. a ≡ b) IsFront second up_later 0 undamaged on in
    let one : List NodesEvent = end_events before (opened_link planned first) o.last xs o.run in
    let two : List NodesEvent = end_events after start new ys run in
    let w : WentOver planned second first up 0 up_later 0 g h o.last start new one two = goes_over planned second first up 0 up_later 0 g h before after start new xs ys o run
    fits
    (any_fits planned Down 0 before (opened_link planned first) o.last xs o.run)
    fits_later
    (any_fits second Down 0 after start new ys run) in
    um_up_whole planned second first first b up up_later one two (nodes_of second up_later 0 h new w.behind.stand) (up_way second up_later new) (is_um_bearer planned.config Up b up is.good is.there is.mode is.channel) (is_um_bearer second.config Up b up_later later.good later.there later.mode later.channel) (in_two planned second first up 0 up_later 0 g h o.last start new one two w)
    (sym (w.before.stand.up_phase.over (all_over planned.config.uplink.side up o.last.rnc.state.cfn is.good.uplink.side are.up_is.there (same_cfn planned second first before xs start o eighth))))
    (whole_phase (up_frames second up_later) new.rnc.state.cfn (w.behind.stand.ul up_later) (new.ue.state.layer.given up_later).blocks w.behind.stand.up_phase)

pub um_down_silent_over : (planned second : Planned) (first b down down_later : ℕ) (before after : List Event) (start new : LinkState) (xs ys : List Line) (o : GoesOver planned second first before xs start) (run : Runs start after new ys) → IsUnacknowledged planned Down b down → IsUnacknowledged second Down b down_later
    → Lacks xs (Differs Down down) → Lacks ys (Differs Down down_later) → HasKnownDownOver planned second first b down down_later (end_events before (opened_link planned first) o.last xs o.run) (end_events after start new ys run) o.last new
um_down_silent_over planned second first b down down_later before after start new xs ys o run is later lacks lacks_later =
    let are : AreChannels planned 0 down = down_channels planned b down is.good is.there is.channel in
    let on : AreChannels second 0 down_later = down_channels second b down_later later.good later.there later.channel in
    let g : Setting planned 0 down = down_setting IsSublist IsSublist planned 0 down honest are in
    let h : Setting second 0 down_later = down_setting IsSublist IsSublist second 0 down_later honest on in
    let one : List NodesEvent = end_events before (opened_link planned first) o.last xs o.run in
    let two : List NodesEvent = end_events after start new ys run in
    let w : WentOver planned second first 0 down 0 down_later g h o.last start new one two = goes_over planned second first 0 down 0 down_later g h before after start new xs ys o run
    (any_fits planned Up 0 before (opened_link planned first) o.last xs o.run)
    (silent_honest planned Down down before (opened_link planned first) o.last xs o.run is.good (opened_fresh planned first).are are.down_is.there lacks)
    (any_fits second Up 0 after start new ys run)
    (silent_honest second Down down_later after start new ys run later.good (over_for planned second first before xs start o) on.down_is.there lacks_later) in
    record {
      reached = record {
        nodes = nodes_of second 0 down_later h new w.behind.stand;
        run = in_two planned second first 0 down 0 down_later g h o.last start new one two w;
        are_mid = record { ue = refl; rnc = refl; ue_lines = refl; rnc_lines = refl };
        are = record { ue = refl; rnc = refl; ue_lines = refl; rnc_lines = refl };
      };
      known = um_down_two planned second first first b down down_later one two (nodes_of second 0 down_later h new w.behind.stand) (is_um_bearer planned.config Down b down is.good is.there is.mode is.channel) (is_um_bearer second.config Down b down_later later.good later.there later.mode later.channel) (in_two planned second first 0 down 0 down_later g h o.last start new one two w)
          (phase_holds IsSublist IsSublist (down_frames planned down) o.last.rnc.state.cfn (w.before.stand.dl down) (o.last.rnc.state.layer.given down).blocks honest w.before.stand.down_phase)
          (phase_holds IsSublist IsSublist (down_frames second down_later) new.rnc.state.cfn (w.behind.stand.dl down_later) (new.rnc.state.layer.given down_later).blocks honest w.behind.stand.down_phase);
    }

pub um_down_undamaged_over : (planned second : Planned) (first b down down_later : ℕ) (before after : List Event) (start new : LinkState) (xs ys : List Line) (o : GoesOver planned second first before xs start) (run : Runs start after new ys) → start.rnc.state.cfn % 8 ≡ 0 → IsUnacknowledged planned Down b down → IsUnacknowledged second Down b down_later
    → IsUndamagedOn planned Down down before (opened_link planned first) o.last xs o.run → IsUndamagedOn second Down down_later after start new ys run → HasUmDown second b down_later new
um_down_undamaged_over planned second first b down down_later before after start new xs ys o run eighth is later fits fits_later =
    let are : AreChannels planned 0 down = down_channels planned b down is.good is.there is.channel in
    let on : AreChannels second 0 down_later = down_channels second b down_later later.good later.there later.channel in
    let g : Setting planned 0 down = down_setting (λ a b. a ≡ b) IsFront planned 0 down undamaged are in
    let h : Setting second 0 down_later = down_setting (λ a b. a ≡ b) IsFront second 0 down_later undamaged on in
    let one : List NodesEvent = end_events before (opened_link planned first) o.last xs o.run in
    let two : List NodesEvent = end_events after start new ys run in
    let w : WentOver planned second first 0 down 0 down_later g h o.last start new one two = goes_over planned second first 0 down 0 down_later g h before after start new xs ys o run
    (any_fits planned Up 0 before (opened_link planned first) o.last xs o.run)
    fits
    (any_fits second Up 0 after start new ys run)
    fits_later in
    um_down_whole planned second first first b down down_later one two (nodes_of second 0 down_later h new w.behind.stand) (down_way second down_later new) (is_um_bearer planned.config Down b down is.good is.there is.mode is.channel) (is_um_bearer second.config Down b down_later later.good later.there later.mode later.channel) (in_two planned second first 0 down 0 down_later g h o.last start new one two w)
    (sym (w.before.stand.down_phase.over (all_over planned.config.downlink.side down o.last.rnc.state.cfn is.good.downlink.side are.down_is.there (same_cfn planned second first before xs start o eighth))))
    (whole_phase (down_frames second down_later) new.rnc.state.cfn (w.behind.stand.dl down_later) (new.rnc.state.layer.given down_later).blocks w.behind.stand.down_phase)

-- transparent bearers
pub tm_up_silent_over : (planned second : Planned) (first b up up_later : ℕ) (before after : List Event) (start new : LinkState) (xs ys : List Line) (o : GoesOver planned second first before xs start) (run : Runs start after new ys) → IsTransparent planned Up b up → IsTransparent second Up b up_later
    → Lacks xs (Differs Up up) → Lacks ys (Differs Up up_later) → HasSomeUpOver planned second first b up up_later (end_events before (opened_link planned first) o.last xs o.run) (end_events after start new ys run) o.last new
tm_up_silent_over planned second first b up up_later before after start new xs ys o run is later lacks lacks_later =
    let are : AreChannels planned up 0 = up_channels planned b up is.good is.there is.channel in
    let on : AreChannels second up_later 0 = up_channels second b up_later later.good later.there later.channel in
    let g : Setting planned up 0 = up_setting IsSublist IsSublist planned up 0 honest are in
    let h : Setting second up_later 0 = up_setting IsSublist IsSublist second up_later 0 honest on in
    let one : List NodesEvent = end_events before (opened_link planned first) o.last xs o.run in
    let two : List NodesEvent = end_events after start new ys run in
    let w : WentOver planned second first up 0 up_later 0 g h o.last start new one two = goes_over planned second first up 0 up_later 0 g h before after start new xs ys o run
    (silent_honest planned Up up before (opened_link planned first) o.last xs o.run is.good (opened_fresh planned first).are are.up_is.there lacks)
    (any_fits planned Down 0 before (opened_link planned first) o.last xs o.run)
    (silent_honest second Up up_later after start new ys run later.good (over_for planned second first before xs start o) on.up_is.there lacks_later)
    (any_fits second Down 0 after start new ys run) in
    record {
      reached = record {
        nodes = nodes_of second up_later 0 h new w.behind.stand;
        run = in_two planned second first up 0 up_later 0 g h o.last start new one two w;
        are_mid = record { ue = refl; rnc = refl; ue_lines = refl; rnc_lines = refl };
        are = record { ue = refl; rnc = refl; ue_lines = refl; rnc_lines = refl };
      };
      some = tm_up_two planned second first first b up up_later one two (nodes_of second up_later 0 h new w.behind.stand) (is_tm_bearer planned.config Up b up is.good is.there is.mode is.channel) (is_tm_bearer second.config Up b up_later later.good later.there later.mode later.channel) (in_two planned second first up 0 up_later 0 g h o.last start new one two w)
          (phase_holds IsSublist IsSublist (up_frames planned up) o.last.rnc.state.cfn (w.before.stand.ul up) (o.last.ue.state.layer.given up).blocks honest w.before.stand.up_phase)
          (phase_holds IsSublist IsSublist (up_frames second up_later) new.rnc.state.cfn (w.behind.stand.ul up_later) (new.ue.state.layer.given up_later).blocks honest w.behind.stand.up_phase);
    }

pub tm_up_undamaged_over : (planned second : Planned) (first b up up_later : ℕ) (before after : List Event) (start new : LinkState) (xs ys : List Line) (o : GoesOver planned second first before xs start) (run : Runs start after new ys) → start.rnc.state.cfn % 8 ≡ 0 → IsTransparent planned Up b up → IsTransparent second Up b up_later
    → IsUndamagedOn planned Up up before (opened_link planned first) o.last xs o.run → IsUndamagedOn second Up up_later after start new ys run → HasTmUp second b up_later new
tm_up_undamaged_over planned second first b up up_later before after start new xs ys o run eighth is later fits fits_later =
    let are : AreChannels planned up 0 = up_channels planned b up is.good is.there is.channel in
    let on : AreChannels second up_later 0 = up_channels second b up_later later.good later.there later.channel in
    let g : Setting planned up 0 = up_setting (λ a b. a ≡ b) IsFront planned up 0 undamaged are in
    let h : Setting second up_later 0 = up_setting (λ a b. a ≡ b) IsFront second up_later 0 undamaged on in
    let one : List NodesEvent = end_events before (opened_link planned first) o.last xs o.run in
    let two : List NodesEvent = end_events after start new ys run in
    let w : WentOver planned second first up 0 up_later 0 g h o.last start new one two = goes_over planned second first up 0 up_later 0 g h before after start new xs ys o run
    fits
    (any_fits planned Down 0 before (opened_link planned first) o.last xs o.run)
    fits_later
    (any_fits second Down 0 after start new ys run) in
    tm_up_whole planned second first first b up up_later one two (nodes_of second up_later 0 h new w.behind.stand) (up_way second up_later new) (is_tm_bearer planned.config Up b up is.good is.there is.mode is.channel) (is_tm_bearer second.config Up b up_later later.good later.there later.mode later.channel) (in_two planned second first up 0 up_later 0 g h o.last start new one two w)
    (sym (w.before.stand.up_phase.over (all_over planned.config.uplink.side up o.last.rnc.state.cfn is.good.uplink.side are.up_is.there (same_cfn planned second first before xs start o eighth))))
    (whole_phase (up_frames second up_later) new.rnc.state.cfn (w.behind.stand.ul up_later) (new.ue.state.layer.given up_later).blocks w.behind.stand.up_phase)

pub tm_down_silent_over : (planned second : Planned) (first b down down_later : ℕ) (before after : List Event) (start new : LinkState) (xs ys : List Line) (o : GoesOver planned second first before xs start) (run : Runs start after new ys) → IsTransparent planned Down b down → IsTransparent second Down b down_later
    → Lacks xs (Differs Down down) → Lacks ys (Differs Down down_later) → HasSomeDownOver planned second first b down down_later (end_events before (opened_link planned first) o.last xs o.run) (end_events after start new ys run) o.last new
tm_down_silent_over planned second first b down down_later before after start new xs ys o run is later lacks lacks_later =
    let are : AreChannels planned 0 down = down_channels planned b down is.good is.there is.channel in
    let on : AreChannels second 0 down_later = down_channels second b down_later later.good later.there later.channel in
    let g : Setting planned 0 down = down_setting IsSublist IsSublist planned 0 down honest are in
    let h : Setting second 0 down_later = down_setting IsSublist IsSublist second 0 down_later honest on in
    let one : List NodesEvent = end_events before (opened_link planned first) o.last xs o.run in
    let two : List NodesEvent = end_events after start new ys run in
    let w : WentOver planned second first 0 down 0 down_later g h o.last start new one two = goes_over planned second first 0 down 0 down_later g h before after start new xs ys o run
    (any_fits planned Up 0 before (opened_link planned first) o.last xs o.run)
    (silent_honest planned Down down before (opened_link planned first) o.last xs o.run is.good (opened_fresh planned first).are are.down_is.there lacks)
    (any_fits second Up 0 after start new ys run)
    (silent_honest second Down down_later after start new ys run later.good (over_for planned second first before xs start o) on.down_is.there lacks_later) in
    record {
      reached = record {
        nodes = nodes_of second 0 down_later h new w.behind.stand;
        run = in_two planned second first 0 down 0 down_later g h o.last start new one two w;
        are_mid = record { ue = refl; rnc = refl; ue_lines = refl; rnc_lines = refl };
        are = record { ue = refl; rnc = refl; ue_lines = refl; rnc_lines = refl };
      };
      some = tm_down_two planned second first first b down down_later one two (nodes_of second 0 down_later h new w.behind.stand) (is_tm_bearer planned.config Down b down is.good is.there is.mode is.channel) (is_tm_bearer second.config Down b down_later later.good later.there later.mode later.channel) (in_two planned second first 0 down 0 down_later g h o.last start new one two w)
          (phase_holds IsSublist IsSublist (down_frames planned down) o.last.rnc.state.cfn (w.before.stand.dl down) (o.last.rnc.state.layer.given down).blocks honest w.before.stand.down_phase)
          (phase_holds IsSublist IsSublist (down_frames second down_later) new.rnc.state.cfn (w.behind.stand.dl down_later) (new.rnc.state.layer.given down_later).blocks honest w.behind.stand.down_phase);
    }

pub tm_down_undamaged_over : (planned second : Planned) (first b down down_later : ℕ) (before after : List Event) (start new : LinkState) (xs ys : List Line) (o : GoesOver planned second first before xs start) (run : Runs start after new ys) → start.rnc.state.cfn % 8 ≡ 0 → IsTransparent planned Down b down → IsTransparent second Down b down_later
    → IsUndamagedOn planned Down down before (opened_link planned first) o.last xs o.run → IsUndamagedOn second Down down_later after start new ys run → HasTmDown second b down_later new
tm_down_undamaged_over planned second first b down down_later before after start new xs ys o run eighth is later fits fits_later =
    let are : AreChannels planned 0 down = down_channels planned b down is.good is.there is.channel in
    let on : AreChannels second 0 down_later = down_channels second b down_later later.good later.there later.channel in
    let g : Setting planned 0 down = down_setting (λ a b. a ≡ b) IsFront planned 0 down undamaged are in
    let h : Setting second 0 down_later = down_setting (λ a b. a ≡ b) IsFront second 0 down_later undamaged on in
    let one : List NodesEvent = end_events before (opened_link planned first) o.last xs o.run in
    let two : List NodesEvent = end_events after start new ys run in
    let w : WentOver planned second first 0 down 0 down_later g h o.last start new one two = goes_over planned second first 0 down 0 down_later g h before after start new xs ys o run
    (any_fits planned Up 0 before (opened_link planned first) o.last xs o.run)
    fits
    (any_fits second Up 0 after start new ys run)
    fits_later in
    tm_down_whole planned second first first b down down_later one two (nodes_of second 0 down_later h new w.behind.stand) (down_way second down_later new) (is_tm_bearer planned.config Down b down is.good is.there is.mode is.channel) (is_tm_bearer second.config Down b down_later later.good later.there later.mode later.channel) (in_two planned second first 0 down 0 down_later g h o.last start new one two w)
    (sym (w.before.stand.down_phase.over (all_over planned.config.downlink.side down o.last.rnc.state.cfn is.good.downlink.side are.down_is.there (same_cfn planned second first before xs start o eighth))))
    (whole_phase (down_frames second down_later) new.rnc.state.cfn (w.behind.stand.dl down_later) (new.rnc.state.layer.given down_later).blocks w.behind.stand.down_phase)
