-- Over a run in which just what channels were given is taken of them, all lines of the terminal and the network controller are known.
use Rattle.std.proofs.Common.{◌≡◌, ◌<◌, ◌≤◌, ◌+◌, ◌∙◌, ℕ, zero, suc, List, [], ◌∷◌, ◌++◌, true, Option, Some, None, length, arith, ap, refl, sym, subst, ⊎_elim}
use Rattle.std.specs.Prelude.{◌==◌, ◌%◌}
use Rattle.dch_types.specs.declared.channel.Dir.TheVariants.{Up, Down}
use Rattle.dch_types.specs.Parts.{channel_at}
use Rattle.dch_types.specs.Timing.{ends, set_frames}
use Rattle.dch_config.specs.Good.{IsGood}
use Rattle.dch_accept.specs.HeldSets.{HeldSet}
use Rattle.dch_accept.specs.Plans.{Planned}
use Rattle.dch_damage.specs.Damage.{iub_after, radio_after}
use Rattle.dch_node.specs.Lines.{Line, Phy}
use Rattle.dch_node.specs.Values.{Output}
use Rattle.dch_layer2.specs.Layers.{Layer, ticks}
use Rattle.dch_layer2.specs.Reading.{reads_below}
use Rattle.dch_linkcmd.specs.UeState.{State as UeState}
use Rattle.dch_linkcmd.specs.UeSteps.{IsTick as IsUeTick, has_read}
use Rattle.dch_linkcmd.specs.NodebState.{State as NodeBState}
use Rattle.dch_linkcmd.specs.NodebSteps.{IsReception}
use Rattle.dch_linkcmd.specs.RncState.{State as RncState, set_readings}
use Rattle.dch_linkcmd.specs.RncSteps.{IsReadFrame, IsRefusedFrame, IsTick as IsRncTick, sent_line, sent_lines}
use Rattle.dch_linkcmd.specs.Checks.{good_in}
use Rattle.dch_linkcmd.specs.LinkChanging.{Changes}
use Rattle.dch_linkcmd.specs.LinkLink.{LinkState, opened_link}
use Rattle.dch_runlaw.proofs.Names.{number_same}
use Rattle.dch_runlaw.proofs.Sublists.{either}
use Rattle.dch_runlaw.specs.Parts.{KeepsAll}
use Rattle.dch_runlaw.proofs.Begun.{Fresh, changed_fresh, opened_fresh}
use Rattle.dch_runlaw.proofs.Changing.{IsChanged, changed_is}
use Rattle.dch_runlaw.proofs.HonestKept.{known_kept}
use Rattle.dch_runlaw.proofs.HonestSteps.{set_none, below_given, goes_on, iub_cfn, iub_given, serves_none}
use Rattle.dch_runlaw.specs.Frames.{IsFrame, MayBeTaken, Taken, lines_below}
use Rattle.dch_runlaw.proofs.HonestChannels.{is_channel}
use Rattle.dch_runlaw.proofs.HonestStaying.{AreFor, frame_for, left_cfn, left_planned, rncs_planned}
use Rattle.dch_runlaw.proofs.PlainKnown.{AreKnown, known-append}
use Rattle.dch_runlaw.proofs.PlainReaching.{AllReach, GivenReach, kept_reaches, start_reaches}
use Rattle.dch_runlaw.proofs.PlainRead.{below_known}

-- in a radio frame just what was given for the TTIs that end is taken
pub record TakesGiven (planned : Planned) (old new : LinkState) (lines : List Line) (f : IsFrame old new lines) : Type 0 where
  pub down : (i : ℕ) → i < length planned.config.downlink.side.channels → ends (channel_at planned.config.downlink.side i).frames old.rnc.state.cfn ≡ true → good_in (new.ue.state.readings i) ≡ (f.rnc.layer.given i).blocks
  pub up : (i : ℕ) → i < length planned.config.uplink.side.channels → ends (channel_at planned.config.uplink.side i).frames old.rnc.state.cfn ≡ true
      → good_in ((f.taken (channel_at planned.config.uplink.side i).set).readings i) ≡ (new.ue.state.layer.given i).blocks

-- how the nodes stand before a radio frame
pub record Level (planned : Planned) (link : LinkState) : Type 0 where
  pub are : AreFor planned link
  pub ue_cfn : link.ue.state.cfn ≡ link.rnc.state.cfn
  pub node_b_cfn : link.node_b.state.cfn ≡ link.rnc.state.cfn
  pub ue_reach : GivenReach planned.config Up link.ue.state.layer
  pub rnc_reach : GivenReach planned.config Down link.rnc.state.layer
  pub ue_known : AreKnown planned.config Down link.ue.lines
  pub rnc_known : AreKnown planned.config Up link.rnc.lines

pub begun_level : (planned : Planned) (start : LinkState) → Fresh planned start → AreKnown planned.config Down start.ue.lines → AreKnown planned.config Up start.rnc.lines → Level planned start
begun_level planned start f ue rnc = record {
  are = f.are;
  ue_cfn = f.ue_cfn;
  node_b_cfn = f.node_b_cfn;
  ue_reach = λ i. subst (AllReach planned.config Up i) (sym (f.ue_none i)) tt;
  rnc_reach = λ i. subst (AllReach planned.config Down i) (sym (f.rnc_none i)) tt;
  ue_known = ue;
  rnc_known = rnc;
}

-- at opening, and where another configuration becomes active in which every bearer goes on
pub opened_level : (planned : Planned) (first : ℕ) → Level planned (opened_link planned first)
opened_level planned first = begun_level planned (opened_link planned first) (opened_fresh planned first) tt tt

pub changed_level : (planned second : Planned) (old new : LinkState) → KeepsAll planned second → Changes second old new → Level planned old → Level second new
changed_level planned second old new kept changes v =
    let is : IsChanged second old new = changed_is second old new changes in
    begun_level second new (changed_fresh second old new is v.ue_cfn v.node_b_cfn)
    (known_kept planned.config second.config Down new.ue.lines kept (subst (AreKnown planned.config Down) (sym is.ue_said) v.ue_known))
    (known_kept planned.config second.config Up new.rnc.lines kept (subst (AreKnown planned.config Up) (sym is.rnc_said) v.rnc_known))

-- the lines on Iub frames that are sent
line_known : (planned : Planned) (s : ℕ) (o : Option (List ℕ)) → AreKnown planned.config Up (sent_line s o)
line_known planned s None = tt
line_known planned s (Some octets) = (tt, tt)

sent_known : (planned : Planned) (iub : ℕ → Option (List ℕ)) (n : ℕ) → AreKnown planned.config Up (sent_lines iub n)
sent_known planned iub zero = tt
sent_known planned iub (suc s) = known-append planned.config Up (sent_lines iub s) (sent_line s (iub s)) (sent_known planned iub s) (line_known planned s (iub s))

-- and one of its set what is just what was given
set_reaches : (planned : Planned) (layer : Layer) (s i : ℕ) (held : HeldSet) → GivenReach planned.config Up layer → ((channel_at planned.config.uplink.side i).set ≡ s → good_in (set_readings planned.config.uplink.side s held i) ≡ (layer.given i).blocks)
    → AllReach planned.config Up i (good_in (set_readings planned.config.uplink.side s held i))
set_reaches planned layer s i held reach same = either ((channel_at planned.config.uplink.side i).set == s)
    (λ e. subst (AllReach planned.config Up i) (sym (same (number_same (channel_at planned.config.uplink.side i).set s e))) (reach i))
    (λ e. subst (λ r. AllReach planned.config Up i (good_in r)) (sym (set_none planned.config.uplink.side s i held e)) tt)

-- what the network controller reports of an Iub frame
taken_known : (planned : Planned) (s : ℕ) (o : Option (List ℕ)) (near : Layer) (old new : RncState) (taken : Taken) (lines : List Line) → old.planned ≡ planned → GivenReach planned.config Up near
    → ((octets : List ℕ) → o ≡ Some octets → (i : ℕ) → i < length planned.config.uplink.side.channels → (channel_at planned.config.uplink.side i).set ≡ s → good_in (taken.readings i) ≡ (near.given i).blocks)
    → MayBeTaken planned s o near old new taken lines → AreKnown planned.config Up taken.lines
taken_known planned s None near old new taken lines active reach same m = subst (λ (t : Taken). AreKnown planned.config Up t.lines) (sym m.1) tt
taken_known planned s (Some octets) near old new taken lines active reach same m = subst (λ (t : Taken). AreKnown planned.config Up t.lines) (sym m.is) (⊎_elim
    (λ (f : IsReadFrame old.planned old s octets new m.output). read f)
    (λ (r : IsRefusedFrame old.planned old s octets new m.output). subst (λ (out : Output). AreKnown planned.config Up out.lines) (sym r.reported) (tt, tt))
    m.step)
  where
    read : IsReadFrame old.planned old s octets new m.output → AreKnown planned.config Up m.output.lines
    read f =
        let readings : (i : ℕ) → taken.readings i ≡ set_readings planned.config.uplink.side s f.held i = λ i. ap (λ (t : Taken). t.readings i) m.is ∙ ap (λ (x : RncState). x.readings i) f.state ∙ ap (λ (p : Planned). set_readings p.config.uplink.side s f.held i) active in
        subst (λ (out : Output). AreKnown planned.config Up out.lines) (sym f.reported)
        (subst (λ (p : Planned). AreKnown planned.config Up (reads_below p.config Up (set_readings p.config.uplink.side s f.held) (length p.config.uplink.side.channels) old.layer).lines) (sym active)
        (below_known planned.config Up (set_readings planned.config.uplink.side s f.held) (length planned.config.uplink.side.channels) old.layer
        (λ i inside. set_reaches planned near s i f.held reach (λ is. ap good_in (sym (readings i)) ∙ same octets refl i inside is))))

below_lines_known : (planned : Planned) (taken : ℕ → Taken) (n : ℕ) → ((s : ℕ) → s < n → AreKnown planned.config Up (taken s).lines) → AreKnown planned.config Up (lines_below taken n)
below_lines_known planned taken zero each = tt
below_lines_known planned taken (suc s) each = known-append planned.config Up (lines_below taken s) (taken s).lines (below_lines_known planned taken s (λ k early. each k (omega (arith, early)))) (each s (omega arith))

-- what the network controller was given for its channels, and its CFN, stay as it takes Iub frames
record Stays (old new : RncState) : Type 0 where
  given : (j : ℕ) → new.layer.given j ≡ old.layer.given j
  cfn : new.cfn ≡ old.cfn

taken_stays : (planned : Planned) (s : ℕ) (o : Option (List ℕ)) (near : Layer) (old new : RncState) (taken : Taken) (lines : List Line) → MayBeTaken planned s o near old new taken lines → Stays old new
taken_stays planned s None near old new taken lines m = record { given = λ j. ap (λ (r : RncState). r.layer.given j) m.0; cfn = ap (λ (r : RncState). r.cfn) m.0 }
taken_stays planned s (Some octets) near old new taken lines m = record { given = λ j. iub_given old new s octets m.output m.step j; cfn = iub_cfn old new s octets m.output m.step }

all_stay : (old new : LinkState) (lines : List Line) (f : IsFrame old new lines) (s : ℕ) → s ≤ 8 → Stays f.rnc (f.rncs s)
all_stay old new lines f zero most = record { given = λ j. ap (λ (r : RncState). r.layer.given j) f.rnc_first; cfn = ap (λ (r : RncState). r.cfn) f.rnc_first }
all_stay old new lines f (suc s) most =
    let next : s + 1 ≡ suc s = omega arith in
    let one = taken_stays old.rnc.state.planned s (iub_after old.damage Up s (f.up_output.iub s)) new.ue.state.layer (f.rncs s) (f.rncs (s + 1)) (f.taken s) (f.rnc_lines s) (f.takes s (omega (arith, most))) in
    let before = all_stay old new lines f s (omega (arith, most)) in
    subst (λ k. Stays f.rnc (f.rncs k)) next (record { given = λ j. one.given j ∙ before.given j; cfn = one.cfn ∙ before.cfn })

-- over a radio frame
pub frame_level : (planned : Planned) (old new : LinkState) (lines : List Line) (f : IsFrame old new lines) → IsGood planned.config → TakesGiven planned old new lines f → Level planned old → Level planned new
frame_level planned old new lines f good fits v = record {
  are = frame_for planned old new lines f v.are;
  ue_cfn = ap (λ (x : UeState). x.cfn) ue_tick.state ∙ ap (λ k. (k + 1) % 256) kept_cfn ∙ sym last_cfn;
  node_b_cfn = ap (λ (x : NodeBState). x.cfn) f.up.state ∙ ap (λ k. (k + 1) % 256) (left_cfn old new lines f ∙ v.node_b_cfn) ∙ sym last_cfn;
  ue_reach = ue_reach;
  rnc_reach = kept_reaches planned.config Down f.rnc.layer new.rnc.state.layer (λ j. ap (λ (r : RncState). r.layer.given j) f.rnc_last ∙ stays.given j) rnc_reach;
  ue_known = subst (AreKnown planned.config Down) (sym f.ue_reported) (known-append planned.config Down old.ue.lines (f.kept_output.lines ++ f.ue_output.lines) v.ue_known
      (known-append planned.config Down f.kept_output.lines f.ue_output.lines (subst (λ (out : Output). AreKnown planned.config Down out.lines) (sym f.keeps.1) tt) ue_said));
  rnc_known = subst (AreKnown planned.config Up) (sym f.rnc_reported) (known-append planned.config Up old.rnc.lines (f.rnc_output.lines ++ lines_below f.taken 8) v.rnc_known
      (known-append planned.config Up f.rnc_output.lines (lines_below f.taken 8) (subst (AreKnown planned.config Up) (sym rnc_tick.reported) (sent_known planned f.rnc_output.iub 8)) (below_lines_known planned f.taken 8 taken)));
}
  where
    c : ℕ
    c = old.rnc.state.cfn

    rnc_tick : IsRncTick planned old.rnc.state f.rnc f.rnc_output
    rnc_tick = subst (λ (p : Planned). IsRncTick p old.rnc.state f.rnc f.rnc_output) v.are.rnc f.rnc_ticks

    rnc_reach : GivenReach planned.config Down f.rnc.layer
    rnc_reach = start_reaches planned.config Down c (ticks planned.config old.rnc.state.layer) f.rnc.layer good rnc_tick.start v.rnc_reach

    kept_cfn : f.kept.cfn ≡ c
    kept_cfn = ap (λ (x : UeState). x.cfn) f.keeps.0 ∙ v.ue_cfn

    ue_tick : IsUeTick planned f.kept new.ue.state f.ue_output
    ue_tick = subst (λ (p : Planned). IsUeTick p f.kept new.ue.state f.ue_output) (ap (λ (x : UeState). x.planned) f.keeps.0 ∙ v.are.ue) f.ue_ticks

    rx_cfn : ue_tick.rx_frames.cfn ≡ c
    rx_cfn = ue_tick.kept.last ∙ kept_cfn

    ue_reach : GivenReach planned.config Up new.ue.state.layer
    ue_reach = start_reaches planned.config Up f.kept.cfn (has_read planned new.ue.state.readings f.kept.layer).layer new.ue.state.layer good ue_tick.start
        (kept_reaches planned.config Up old.ue.state.layer (has_read planned new.ue.state.readings f.kept.layer).layer
        (λ j. below_given planned.config Down new.ue.state.readings (length planned.config.downlink.side.channels) (ticks planned.config f.kept.layer) j ∙ ap (λ (x : UeState). x.layer.given j) f.keeps.0) v.ue_reach)

    down_reach : (i : ℕ) → i < length planned.config.downlink.side.channels → AllReach planned.config Down i (good_in (new.ue.state.readings i))
    down_reach i inside = either (ends (channel_at planned.config.downlink.side i).frames c)
        (λ e. subst (AllReach planned.config Down i) (sym (fits.down i inside e)) (rnc_reach i))
        (λ e. subst (AllReach planned.config Down i) (sym (goes_on planned ue_tick.rx_frames i (new.ue.state.readings i) (ap (ends (channel_at planned.config.downlink.side i).frames) rx_cfn ∙ e) (ue_tick.readings i inside))) tt)

    ue_said : AreKnown planned.config Down f.ue_output.lines
    ue_said = subst (AreKnown planned.config Down) (sym ue_tick.reported) (known-append planned.config Down (has_read planned new.ue.state.readings f.kept.layer).lines (Phy Up ue_tick.radio.tfci ue_tick.radio.cells ∷ [])
        (below_known planned.config Down new.ue.state.readings (length planned.config.downlink.side.channels) (ticks planned.config f.kept.layer) down_reach) (tt, tt))

    heard : IsReception planned f.node_b (radio_after old.damage Up f.ue_output.sent) new.node_b.state f.up_output
    heard = subst (λ (p : Planned). IsReception p f.node_b (radio_after old.damage Up f.ue_output.sent) new.node_b.state f.up_output) (left_planned old new lines f ∙ v.are.node_b) f.up

    heard_cfn : heard.rx_frames.cfn ≡ c
    heard_cfn = heard.kept.last ∙ left_cfn old new lines f ∙ v.node_b_cfn

    -- an Iub frame arrives only where a TTI of its set ends
    over : (s : ℕ) → s < 8 → (octets : List ℕ) → iub_after old.damage Up s (f.up_output.iub s) ≡ Some octets → ends (set_frames planned.config.uplink.side s) c ≡ true
    over s l octets e = either (ends (set_frames planned.config.uplink.side s) c)
        (λ q. q)
        (λ q. let none : f.up_output.iub s ≡ None = serves_none planned heard.rx_frames s (heard.lines s) (f.up_output.iub s) (ap (ends (set_frames planned.config.uplink.side s)) heard_cfn ∙ q) (heard.sets s l) in
        let lost : iub_after old.damage Up s (f.up_output.iub s) ≡ None = ap (iub_after old.damage Up s) none in
        absurd (cc))

    up_same : (s : ℕ) → s < 8 → (octets : List ℕ) → iub_after old.damage Up s (f.up_output.iub s) ≡ Some octets → (i : ℕ) → i < length planned.config.uplink.side.channels → (channel_at planned.config.uplink.side i).set ≡ s → good_in ((f.taken s).readings i) ≡ (new.ue.state.layer.given i).blocks
    up_same s l octets e i inside is =
        let frames : set_frames planned.config.uplink.side s ≡ (channel_at planned.config.uplink.side i).frames = ap (set_frames planned.config.uplink.side) (sym is) ∙ (is_channel planned.config.uplink.side i good.uplink.side inside).set in
        ap (λ k. good_in ((f.taken k).readings i)) (sym is) ∙ fits.up i inside (ap (λ n. ends n c) (sym frames) ∙ over s l octets e)

    taken : (s : ℕ) → s < 8 → AreKnown planned.config Up (f.taken s).lines
    taken s l = taken_known planned s (iub_after old.damage Up s (f.up_output.iub s)) new.ue.state.layer (f.rncs s) (f.rncs (s + 1)) (f.taken s) (f.rnc_lines s) (rncs_planned old new lines f s (omega (arith, l)) ∙ v.are.rnc) ue_reach (up_same s l)
        (subst (λ (p : Planned). MayBeTaken p s (iub_after old.damage Up s (f.up_output.iub s)) new.ue.state.layer (f.rncs s) (f.rncs (s + 1)) (f.taken s) (f.rnc_lines s)) v.are.rnc (f.takes s l))

    stays : Stays f.rnc (f.rncs 8)
    stays = all_stay old new lines f 8 (omega arith)

    last_cfn : new.rnc.state.cfn ≡ (c + 1) % 256
    last_cfn = ap (λ (r : RncState). r.cfn) f.rnc_last ∙ stays.cfn ∙ ap (λ (r : RncState). r.cfn) rnc_tick.state
