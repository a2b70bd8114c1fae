-- What a run of three nodes hands up of bearers.
use Rattle.std.proofs.Common.{◌≡◌, ◌<◌, ℕ, List, Some, arith, length, refl, subst}
use Rattle.dch_bits.specs.declared.bit.Bit.{Bit}
use Rattle.dch_types.specs.declared.channel.Dir.{Dir}
use Rattle.dch_types.specs.declared.channel.Dir.TheVariants.{Up, Down}
use Rattle.dch_types.specs.Parts.{side_of}
use Rattle.dch_config.specs.Good.{IsGood}
use Rattle.dch_accept.specs.Plans.{Planned}
use Rattle.dch_node.specs.Lines.{Differs, Line}
use Rattle.dch_amlaw.specs.Pair.{At}
use Rattle.dch_layer2.specs.Bearings.{channel_of}
use Rattle.dch_linkcmd.specs.Checks.{IsSublist}
use Rattle.dch_linkcmd.specs.LinkLink.{LinkState, opened_link}
use Rattle.dch_runlaw.specs.Worlds.{IsFront, turned}
use Rattle.dch_runlaw.proofs.Bearers.{is_am_bearer, is_tm_bearer, is_um_bearer}
use Rattle.dch_runlaw.proofs.Tm.{tm_carried}
use Rattle.dch_runlaw.proofs.UmWhole.{um_carried}
use Rattle.dch_runlaw.specs.Runs.{Event, Runs}
use Rattle.dch_runlaw.specs.EndEvents.{end_events}
use Rattle.dch_runlaw.specs.Nodes.{Any, AreFaithful, AreWhole, Event as NodesEvent, IsAmHistory, IsWholeAmHistory, Nodes, opened_nodes, world_of}
use Rattle.dch_runlaw.proofs.NodesEvents.{nodes_history, nodes_whole_history, tm_down, tm_down_history, tm_up, tm_up_history, um_down, um_down_history, um_up, um_up_history}
use Rattle.dch_runlaw.specs.HonestBearers.{Alone, HasHistory, HasKnownDown, HasKnownUp, HasSomeDown, HasSomeUp, HasTmDown, HasTmUp, HasUmDown, HasUmUp, HasWholeHistory, IsAcknowledged, IsTransparent, IsUnacknowledged, down_way, up_way}
use Rattle.dch_runlaw.specs.HonestFits.{IsChannel, IsHonest, IsUndamaged, IsUndamagedOn, RunFits}
use Rattle.dch_runlaw.specs.HonestSilent.{IsSilent, Lacks}
use Rattle.dch_runlaw.specs.Parts.{Begins}
use Rattle.dch_runlaw.proofs.Begun.{begins_for, opened_fresh}
use Rattle.dch_runlaw.proofs.HonestStaying.{AreFor}
use Rattle.dch_runlaw.proofs.HonestChannels.{is_channel}
use Rattle.dch_runlaw.proofs.HonestPhases.{Anything, Joins, anything, honest, phase_holds, undamaged, whole_phase}
use Rattle.dch_runlaw.proofs.HonestRuns.{fresh_stand, run_goes}
use Rattle.dch_runlaw.proofs.HonestSilence.{any_fits, run_fits}
use Rattle.dch_runlaw.proofs.HonestStanding.{Onward, Setting, any-called, any-run, down_frames, nodes_of, up_frames}

-- two channels of good directions
pub record AreChannels (planned : Planned) (up down : ℕ) : Type 0 where
  pub up_is : IsChannel planned.config.uplink.side up
  pub down_is : IsChannel planned.config.downlink.side down

abbrev pub honest_setting : (planned : Planned) (up down : ℕ) → AreChannels planned up down → Setting planned up down
honest_setting planned up down are = record { UpFits = IsSublist; UpHolds = IsSublist; DownFits = IsSublist; DownHolds = IsSublist; H = AreFaithful up down; up_joins = honest; down_joins = honest; build = λ n a b. record { up_is = a; down_is = b }; up_channel = are.up_is; down_channel = are.down_is }

abbrev pub whole_setting : (planned : Planned) (up down : ℕ) → AreChannels planned up down → Setting planned up down
whole_setting planned up down are = record { UpFits = λ a b. a ≡ b; UpHolds = IsFront; DownFits = λ a b. a ≡ b; DownHolds = IsFront; H = AreWhole up down; up_joins = undamaged; down_joins = undamaged; build = λ n a b. record { up_is = a; down_is = b }; up_channel = are.up_is; down_channel = are.down_is }

-- and where something is asked of one of them alone
abbrev pub up_setting : (P Q : List (List Bit) → List (List Bit) → Type 0) (planned : Planned) (up down : ℕ) → Joins P Q → AreChannels planned up down → Setting planned up down
up_setting P Q planned up down joins are = record { UpFits = P; UpHolds = Q; DownFits = Anything; DownHolds = Anything; H = Any; up_joins = joins; down_joins = anything; build = λ n a b. tt; up_channel = are.up_is; down_channel = are.down_is }

abbrev pub down_setting : (P Q : List (List Bit) → List (List Bit) → Type 0) (planned : Planned) (up down : ℕ) → Joins P Q → AreChannels planned up down → Setting planned up down
down_setting P Q planned up down joins are = record { UpFits = Anything; UpHolds = Anything; DownFits = P; DownHolds = Q; H = Any; up_joins = anything; down_joins = joins; build = λ n a b. tt; up_channel = are.up_is; down_channel = are.down_is }

-- a channel of a good direction
own_channel : (planned : Planned) (dir : Dir) (i : ℕ) → IsGood planned.config → i < length (side_of planned.config dir).channels → IsChannel (side_of planned.config dir) i
own_channel planned Up i good l = is_channel planned.config.uplink.side i good.uplink.side l
own_channel planned Down i good l = is_channel planned.config.downlink.side i good.downlink.side l

pub silent_honest : (planned : Planned) (dir : Dir) (i : ℕ) (events : List Event) (start new : LinkState) (lines : List Line) (run : Runs start events new lines) → IsGood planned.config → AreFor planned start → i < length (side_of planned.config dir).channels → Lacks lines (Differs dir i) → IsHonest planned dir i events start new lines run
silent_honest planned dir i events start new lines run good are l lacks = run_fits planned dir i events start new lines run (own_channel planned dir i good l) are lacks

pub part_honest : (planned : Planned) (dir : Dir) (i : ℕ) (events : List Event) (start new : LinkState) (lines : List Line) (run : Runs start events new lines) → IsGood planned.config → Begins planned start → i < length (side_of planned.config dir).channels → Lacks lines (Differs dir i) → IsHonest planned dir i events start new lines run
part_honest planned dir i events start new lines run good begins l lacks = silent_honest planned dir i events start new lines run good (begins_for planned start begins) l lacks

-- where the nodes of a run stand at last
goes : (planned : Planned) (first up down : ℕ) (g : Setting planned up down) (events : List Event) (new : LinkState) (lines : List Line) (run : Runs (opened_link planned first) events new lines)
    → RunFits g.UpFits planned Up up events (opened_link planned first) new lines run → RunFits g.DownFits planned Down down events (opened_link planned first) new lines run
    → Onward planned up down g (nodes_of planned up down g (opened_link planned first) (fresh_stand planned up down g (opened_link planned first) (opened_fresh planned first))) (end_events events (opened_link planned first) new lines run) new
goes planned first up down g events new lines run up_fits down_fits = run_goes planned up down g events (opened_link planned first) new lines run up_fits down_fits (fresh_stand planned up down g (opened_link planned first) (opened_fresh planned first))

-- acknowledged bearers
pub am_channels : (planned : Planned) (b up down : ℕ) → IsAcknowledged planned b up down → AreChannels planned up down
am_channels planned b up down is = record {
  up_is = is_channel planned.config.uplink.side up is.good.uplink.side ((is.good.bearers b is.there).up.there up is.up_is);
  down_is = is_channel planned.config.downlink.side down is.good.downlink.side ((is.good.bearers b is.there).down.there down is.down_is);
}

pub silent_history : (planned : Planned) (first b up down : ℕ) (events : List Event) (new : LinkState) (lines : List Line) (run : Runs (opened_link planned first) events new lines) → IsAcknowledged planned b up down → IsSilent up down lines → HasHistory planned first b (end_events events (opened_link planned first) new lines run) new
silent_history planned first b up down events new lines run is silent =
    let are = am_channels planned b up down is in
    let o = goes planned first up down (honest_setting planned up down are) events new lines run (silent_honest planned Up up events (opened_link planned first) new lines run is.good (opened_fresh planned first).are are.up_is.there silent.up_silent) (silent_honest planned Down down events (opened_link planned first) new lines run is.good (opened_fresh planned first).are are.down_is.there silent.down_silent) in
    let nodes : Nodes = nodes_of planned up down (honest_setting planned up down are) new o.stand in
    let happened : List NodesEvent = end_events events (opened_link planned first) new lines run in
    record {
      reached = record {
        nodes = nodes;
        run = any-run (AreFaithful up down) (opened_nodes planned first first) nodes happened o.run;
        are = record { ue = refl; rnc = refl; ue_lines = refl; rnc_lines = refl };
      };
      history = subst (λ (calls : List At). IsAmHistory planned b calls nodes) (any-called planned.config b (AreFaithful up down) (opened_nodes planned first first) nodes happened o.run)
          (nodes_history planned first first b up down happened nodes (is_am_bearer planned.config b up down is.good is.there is.mode is.up_is is.down_is) o.run);
    }

pub undamaged_history : (planned : Planned) (first b up down : ℕ) (events : List Event) (new : LinkState) (lines : List Line) (run : Runs (opened_link planned first) events new lines) → IsAcknowledged planned b up down → IsUndamaged planned up down events (opened_link planned first) new lines run → HasWholeHistory (Alone planned first (end_events events (opened_link planned first) new lines run)) b up down new
undamaged_history planned first b up down events new lines run is fits =
    let are = am_channels planned b up down is in
    let o = goes planned first up down (whole_setting planned up down are) events new lines run fits.up_is fits.down_is in
    let nodes : Nodes = nodes_of planned up down (whole_setting planned up down are) new o.stand in
    let happened : List NodesEvent = end_events events (opened_link planned first) new lines run in
    record {
      reached = record {
        nodes = nodes;
        run = any-run (AreWhole up down) (opened_nodes planned first first) nodes happened o.run;
        are = record { ue = refl; rnc = refl; ue_lines = refl; rnc_lines = refl };
      };
      up_taken = whole_phase (up_frames planned up) new.rnc.state.cfn (o.stand.ul up) (new.ue.state.layer.given up).blocks o.stand.up_phase;
      down_taken = whole_phase (down_frames planned down) new.rnc.state.cfn (o.stand.dl down) (new.rnc.state.layer.given down).blocks o.stand.down_phase;
      history = subst (λ (calls : List At). IsWholeAmHistory planned b up down calls nodes) (any-called planned.config b (AreWhole up down) (opened_nodes planned first first) nodes happened o.run)
          (nodes_whole_history planned first first b up down happened nodes (is_am_bearer planned.config b up down is.good is.there is.mode is.up_is is.down_is) o.run);
    }

-- a bearer's own channel, and any channel of the other direction
pub up_channels : (planned : Planned) (b up : ℕ) → IsGood planned.config → b < length planned.config.bearers → channel_of planned.config Up b ≡ Some up → AreChannels planned up 0
up_channels planned b up good there is = record {
  up_is = is_channel planned.config.uplink.side up good.uplink.side ((good.bearers b there).up.there up is);
  down_is = is_channel planned.config.downlink.side 0 good.downlink.side (omega (arith, good.downlink.side.some));
}

pub down_channels : (planned : Planned) (b down : ℕ) → IsGood planned.config → b < length planned.config.bearers → channel_of planned.config Down b ≡ Some down → AreChannels planned 0 down
down_channels planned b down good there is = record {
  up_is = is_channel planned.config.uplink.side 0 good.uplink.side (omega (arith, good.uplink.side.some));
  down_is = is_channel planned.config.downlink.side down good.downlink.side ((good.bearers b there).down.there down is);
}

-- unacknowledged bearers
pub um_silent_up : (planned : Planned) (first b up : ℕ) (events : List Event) (new : LinkState) (lines : List Line) (run : Runs (opened_link planned first) events new lines) → IsUnacknowledged planned Up b up → Lacks lines (Differs Up up) → HasKnownUp planned first b up (end_events events (opened_link planned first) new lines run) new
um_silent_up planned first b up events new lines run is lacks =
    let are = up_channels planned b up is.good is.there is.channel in
    let o = goes planned first up 0 (up_setting IsSublist IsSublist planned up 0 honest are) events new lines run (silent_honest planned Up up events (opened_link planned first) new lines run is.good (opened_fresh planned first).are are.up_is.there lacks) (any_fits planned Down 0 events (opened_link planned first) new lines run) in
    record {
      reached = record { nodes = nodes_of planned up 0 (up_setting IsSublist IsSublist planned up 0 honest are) new o.stand; run = o.run; are = record { ue = refl; rnc = refl; ue_lines = refl; rnc_lines = refl } };
      known = um_up planned first first b up (end_events events (opened_link planned first) new lines run) (nodes_of planned up 0 (up_setting IsSublist IsSublist planned up 0 honest are) new o.stand) (is_um_bearer planned.config Up b up is.good is.there is.mode is.channel) o.run (phase_holds IsSublist IsSublist (up_frames planned up) new.rnc.state.cfn (o.stand.ul up) (new.ue.state.layer.given up).blocks honest o.stand.up_phase);
    }

pub um_silent_down : (planned : Planned) (first b down : ℕ) (events : List Event) (new : LinkState) (lines : List Line) (run : Runs (opened_link planned first) events new lines) → IsUnacknowledged planned Down b down → Lacks lines (Differs Down down) → HasKnownDown planned first b down (end_events events (opened_link planned first) new lines run) new
um_silent_down planned first b down events new lines run is lacks =
    let are = down_channels planned b down is.good is.there is.channel in
    let o = goes planned first 0 down (down_setting IsSublist IsSublist planned 0 down honest are) events new lines run (any_fits planned Up 0 events (opened_link planned first) new lines run) (silent_honest planned Down down events (opened_link planned first) new lines run is.good (opened_fresh planned first).are are.down_is.there lacks) in
    record {
      reached = record { nodes = nodes_of planned 0 down (down_setting IsSublist IsSublist planned 0 down honest are) new o.stand; run = o.run; are = record { ue = refl; rnc = refl; ue_lines = refl; rnc_lines = refl } };
      known = um_down planned first first b down (end_events events (opened_link planned first) new lines run) (nodes_of planned 0 down (down_setting IsSublist IsSublist planned 0 down honest are) new o.stand) (is_um_bearer planned.config Down b down is.good is.there is.mode is.channel) o.run (phase_holds IsSublist IsSublist (down_frames planned down) new.rnc.state.cfn (o.stand.dl down) (new.rnc.state.layer.given down).blocks honest o.stand.down_phase);
    }

pub um_undamaged_up : (planned : Planned) (first b up : ℕ) (events : List Event) (new : LinkState) (lines : List Line) (run : Runs (opened_link planned first) events new lines) → IsUnacknowledged planned Up b up → IsUndamagedOn planned Up up events (opened_link planned first) new lines run → HasUmUp planned b up new
um_undamaged_up planned first b up events new lines run is fits =
    let are = up_channels planned b up is.good is.there is.channel in
    let o = goes planned first up 0 (up_setting (λ a b. a ≡ b) IsFront planned up 0 undamaged are) events new lines run fits (any_fits planned Down 0 events (opened_link planned first) new lines run) in
    let h = um_up_history planned first first b up (end_events events (opened_link planned first) new lines run) (nodes_of planned up 0 (up_setting (λ a b. a ≡ b) IsFront planned up 0 undamaged are) new o.stand) (is_um_bearer planned.config Up b up is.good is.there is.mode is.channel) o.run in
    um_carried planned.config Up b up (world_of (nodes_of planned up 0 (up_setting (λ a b. a ≡ b) IsFront planned up 0 undamaged are) new o.stand)) (up_way planned up new) h
    (whole_phase (up_frames planned up) new.rnc.state.cfn (o.stand.ul up) (new.ue.state.layer.given up).blocks o.stand.up_phase)

pub um_undamaged_down : (planned : Planned) (first b down : ℕ) (events : List Event) (new : LinkState) (lines : List Line) (run : Runs (opened_link planned first) events new lines) → IsUnacknowledged planned Down b down → IsUndamagedOn planned Down down events (opened_link planned first) new lines run → HasUmDown planned b down new
um_undamaged_down planned first b down events new lines run is fits =
    let are = down_channels planned b down is.good is.there is.channel in
    let o = goes planned first 0 down (down_setting (λ a b. a ≡ b) IsFront planned 0 down undamaged are) events new lines run (any_fits planned Up 0 events (opened_link planned first) new lines run) fits in
    let h = um_down_history planned first first b down (end_events events (opened_link planned first) new lines run) (nodes_of planned 0 down (down_setting (λ a b. a ≡ b) IsFront planned 0 down undamaged are) new o.stand) (is_um_bearer planned.config Down b down is.good is.there is.mode is.channel) o.run in
    um_carried planned.config Down b down (turned (world_of (nodes_of planned 0 down (down_setting (λ a b. a ≡ b) IsFront planned 0 down undamaged are) new o.stand))) (down_way planned down new) h
    (whole_phase (down_frames planned down) new.rnc.state.cfn (o.stand.dl down) (new.rnc.state.layer.given down).blocks o.stand.down_phase)

-- transparent bearers
pub tm_silent_up : (planned : Planned) (first b up : ℕ) (events : List Event) (new : LinkState) (lines : List Line) (run : Runs (opened_link planned first) events new lines) → IsTransparent planned Up b up → Lacks lines (Differs Up up) → HasSomeUp planned first b up (end_events events (opened_link planned first) new lines run) new
tm_silent_up planned first b up events new lines run is lacks =
    let are = up_channels planned b up is.good is.there is.channel in
    let o = goes planned first up 0 (up_setting IsSublist IsSublist planned up 0 honest are) events new lines run (silent_honest planned Up up events (opened_link planned first) new lines run is.good (opened_fresh planned first).are are.up_is.there lacks) (any_fits planned Down 0 events (opened_link planned first) new lines run) in
    record {
      reached = record { nodes = nodes_of planned up 0 (up_setting IsSublist IsSublist planned up 0 honest are) new o.stand; run = o.run; are = record { ue = refl; rnc = refl; ue_lines = refl; rnc_lines = refl } };
      some = tm_up planned first first b up (end_events events (opened_link planned first) new lines run) (nodes_of planned up 0 (up_setting IsSublist IsSublist planned up 0 honest are) new o.stand) (is_tm_bearer planned.config Up b up is.good is.there is.mode is.channel) o.run (phase_holds IsSublist IsSublist (up_frames planned up) new.rnc.state.cfn (o.stand.ul up) (new.ue.state.layer.given up).blocks honest o.stand.up_phase);
    }

pub tm_silent_down : (planned : Planned) (first b down : ℕ) (events : List Event) (new : LinkState) (lines : List Line) (run : Runs (opened_link planned first) events new lines) → IsTransparent planned Down b down → Lacks lines (Differs Down down) → HasSomeDown planned first b down (end_events events (opened_link planned first) new lines run) new
tm_silent_down planned first b down events new lines run is lacks =
    let are = down_channels planned b down is.good is.there is.channel in
    let o = goes planned first 0 down (down_setting IsSublist IsSublist planned 0 down honest are) events new lines run (any_fits planned Up 0 events (opened_link planned first) new lines run) (silent_honest planned Down down events (opened_link planned first) new lines run is.good (opened_fresh planned first).are are.down_is.there lacks) in
    record {
      reached = record { nodes = nodes_of planned 0 down (down_setting IsSublist IsSublist planned 0 down honest are) new o.stand; run = o.run; are = record { ue = refl; rnc = refl; ue_lines = refl; rnc_lines = refl } };
      some = tm_down planned first first b down (end_events events (opened_link planned first) new lines run) (nodes_of planned 0 down (down_setting IsSublist IsSublist planned 0 down honest are) new o.stand) (is_tm_bearer planned.config Down b down is.good is.there is.mode is.channel) o.run (phase_holds IsSublist IsSublist (down_frames planned down) new.rnc.state.cfn (o.stand.dl down) (new.rnc.state.layer.given down).blocks honest o.stand.down_phase);
    }

pub tm_undamaged_up : (planned : Planned) (first b up : ℕ) (events : List Event) (new : LinkState) (lines : List Line) (run : Runs (opened_link planned first) events new lines) → IsTransparent planned Up b up → IsUndamagedOn planned Up up events (opened_link planned first) new lines run → HasTmUp planned b up new
tm_undamaged_up planned first b up events new lines run is fits =
    let are = up_channels planned b up is.good is.there is.channel in
    let o = goes planned first up 0 (up_setting (λ a b. a ≡ b) IsFront planned up 0 undamaged are) events new lines run fits (any_fits planned Down 0 events (opened_link planned first) new lines run) in
    let h = tm_up_history planned first first b up (end_events events (opened_link planned first) new lines run) (nodes_of planned up 0 (up_setting (λ a b. a ≡ b) IsFront planned up 0 undamaged are) new o.stand) (is_tm_bearer planned.config Up b up is.good is.there is.mode is.channel) o.run in
    tm_carried planned.config Up b up (world_of (nodes_of planned up 0 (up_setting (λ a b. a ≡ b) IsFront planned up 0 undamaged are) new o.stand)) (up_way planned up new) h
    (whole_phase (up_frames planned up) new.rnc.state.cfn (o.stand.ul up) (new.ue.state.layer.given up).blocks o.stand.up_phase)

pub tm_undamaged_down : (planned : Planned) (first b down : ℕ) (events : List Event) (new : LinkState) (lines : List Line) (run : Runs (opened_link planned first) events new lines) → IsTransparent planned Down b down → IsUndamagedOn planned Down down events (opened_link planned first) new lines run → HasTmDown planned b down new
tm_undamaged_down planned first b down events new lines run is fits =
    let are = down_channels planned b down is.good is.there is.channel in
    let o = goes planned first 0 down (down_setting (λ a b. a ≡ b) IsFront planned 0 down undamaged are) events new lines run (any_fits planned Up 0 events (opened_link planned first) new lines run) fits in
    let h = tm_down_history planned first first b down (end_events events (opened_link planned first) new lines run) (nodes_of planned 0 down (down_setting (λ a b. a ≡ b) IsFront planned 0 down undamaged are) new o.stand) (is_tm_bearer planned.config Down b down is.good is.there is.mode is.channel) o.run in
    tm_carried planned.config Down b down (turned (world_of (nodes_of planned 0 down (down_setting (λ a b. a ≡ b) IsFront planned 0 down undamaged are) new o.stand))) (down_way planned down new) h
    (whole_phase (down_frames planned down) new.rnc.state.cfn (o.stand.dl down) (new.rnc.state.layer.given down).blocks o.stand.down_phase)
