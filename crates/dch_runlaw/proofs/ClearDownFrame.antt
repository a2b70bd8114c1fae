-- A radio frame in which no damage has an effect: what is read of each downlink channel, and how the downlink stands afterwards.
use Rattle.std.proofs.Common.{◌≡◌, ◌<◌, ◌≤◌, ◌+◌, ◌%◌, ◌∙◌, ◌++◌, ℕ, zero, suc, List, [], length, true, false, Option, Some, None, arith, refl, sym, ap, subst, inl, inr}
use Rattle.std.specs.Prelude.{◌==◌, if◌then◌else◌}
use Rattle.std.proofs.lemmas.Bool.{cases_eq, eq-eqb}
use Rattle.dch_types.specs.declared.channel.Dir.TheVariants.{Down, Up}
use Rattle.dch_types.specs.declared.channel.Side.{Side}
use Rattle.dch_types.specs.Limits.{IsFrames, IsSide}
use Rattle.dch_types.specs.Parts.{channel_at, format_number}
use Rattle.dch_types.specs.Timing.{ends, set_frames, starts}
use Rattle.dch_accept.specs.Plans.{IsPlanned, Planned}
use Rattle.dch_tti.specs.Loaded.{loaded_at}
use Rattle.dch_dlphy.specs.Frames.{multiplexed}
use Rattle.dch_dlphy.specs.Loaded.{IsLoaded}
use Rattle.dch_dlphy.specs.Sent.{WasSent}
use Rattle.dch_dlphy.proofs.One.{loaded_one}
use Rattle.dch_damage.specs.Damage.{radio_after}
use Rattle.dch_node.specs.Lines.{Line, joined}
use Rattle.dch_node.specs.RxFrames.{AreHeard}
use Rattle.dch_node.specs.Values.{Blocks, Radio}
use Rattle.dch_layer2.specs.Layers.{Given, ticks}
use Rattle.dch_layer2.specs.Joined.{joined_bits}
use Rattle.dch_linkcmd.specs.NodebState.{DownlinkIubFrame, State as NodeBState, given_now, taken}
use Rattle.dch_linkcmd.specs.NodebSteps.{IsDeparture, IsRadio, IsRadioFrame, IsReception}
use Rattle.dch_linkcmd.proofs.Steady.{set_frames-member, tells}
use Rattle.dch_linkcmd.specs.RncSteps.{IsTick as IsRncTick}
use Rattle.dch_linkcmd.specs.RncState.{State as RncState}
use Rattle.dch_linkcmd.specs.UeState.{State as UeState, frames_now}
use Rattle.dch_linkcmd.specs.UeSteps.{IsTick as IsUeTick}
use Rattle.dch_linkcmd.specs.Checks.{good_in}
use Rattle.dch_linkcmd.specs.LinkLink.{LinkState}
use Rattle.dch_runlaw.specs.Frames.{IsFrame, MayArrive}
use Rattle.dch_runlaw.specs.Clear.{FrameClear}
use Rattle.dch_runlaw.specs.Sized.{AreAllSized}
use Rattle.dch_runlaw.proofs.ClearClean.{IsClean}
use Rattle.dch_runlaw.proofs.ClearDown.{AnyLast, AnyStep, DownHalf, DownLoaded, HoldsFrame, RunsGiven, comes, reads_back, reads_nothing, whole_sent}
use Rattle.dch_runlaw.proofs.ClearKept.{start_format, start_same}
use Rattle.dch_runlaw.proofs.ClearNodes.{HavePlanned, Keeps, keeps_frame, rnc_tick, ue_tick}
use Rattle.dch_runlaw.proofs.ClearSent.{IsSentRadio, heard_as}
use Rattle.dch_runlaw.proofs.ClearTtis.{half_more, half_next, over_or_on, some_frames, starts_off}

abbrev pub down_side : Planned → Side
down_side planned = planned.config.downlink.side

abbrev pub frames_on : Side → ℕ → ℕ
frames_on side i = (channel_at side i).frames

-- the downlink before a radio frame
pub record DownStand (planned : Planned) (link : LinkState) : Type 0 where
  pub active : HavePlanned planned link
  pub node_b_cfn : link.node_b.state.cfn ≡ link.rnc.state.cfn
  pub ue_cfn : link.ue.state.cfn ≡ link.rnc.state.cfn
  pub runs : (j : ℕ) → j < length (down_side planned).channels → starts (frames_on (down_side planned) j) link.rnc.state.cfn ≡ false → RunsGiven (channel_at (down_side planned) j) (link.rnc.state.layer.given j) (link.node_b.state.given j)
  pub formats : (j : ℕ) → j < length (down_side planned).channels → starts (frames_on (down_side planned) j) link.rnc.state.cfn ≡ false → (link.rnc.state.layer.given j).format ≡ format_number (down_side planned) link.rnc.state.layer.running j
  pub half : (i : ℕ) → i < length (down_side planned).channels → 0 < link.rnc.state.cfn % frames_on (down_side planned) i → DownHalf planned i (link.rnc.state.layer.given i) link.rnc.state.cfn link.ue.state.frames (link.rnc.state.cfn % frames_on (down_side planned) i)

-- Iub frames of the first sets have come
pub record Fed (planned : Planned) (old new : LinkState) (lines : List Line) (f : IsFrame old new lines) (s : ℕ) : Type 0 where
  pub active : (f.fed s).planned ≡ planned
  pub given : (f.fed s).given ≡ old.node_b.state.given
  pub same_cfn : (f.fed s).cfn ≡ old.node_b.state.cfn
  pub frames : (f.fed s).frames ≡ old.node_b.state.frames
  pub quiet : joined f.fed_lines s ≡ []
  pub held : (k : ℕ) → k < s → starts (set_frames (down_side planned) k) old.rnc.state.cfn ≡ true → HoldsFrame planned old.rnc.state.cfn f.rnc.layer k ((f.fed s).kept k)

pub fed_all : (planned : Planned) (old new : LinkState) (lines : List Line) (f : IsFrame old new lines) → HavePlanned planned old → FrameClear old new lines f → (s : ℕ) → s ≤ 8 → Fed planned old new lines f s
fed_all planned old new lines f has clear zero most = record {
  active = ap (λ (x : NodeBState). x.planned) f.fed_first ∙ has.node_b;
  given = ap (λ (x : NodeBState). x.given) f.fed_first;
  same_cfn = ap (λ (x : NodeBState). x.cfn) f.fed_first;
  frames = ap (λ (x : NodeBState). x.frames) f.fed_first;
  quiet = refl;
  held = λ k low on. absurd (omega (arith, low));
}
fed_all planned old new lines f has clear (suc s) most =
    let next : s + 1 ≡ suc s = omega arith in
    let inside : s < 8 = omega arith in
    let tick : IsRncTick planned old.rnc.state f.rnc f.rnc_output = rnc_tick planned old new lines f has in
    let before : Fed planned old new lines f s = fed_all planned old new lines f has clear s (omega arith) in
    let may : MayArrive s (f.rnc_output.iub s) (f.fed s) (f.fed (s + 1)) (f.fed_lines s) = subst (λ o. MayArrive s o (f.fed s) (f.fed (s + 1)) (f.fed_lines s)) (clear.iub_down s inside) (f.feeds s inside) in
    let step = comes planned old.rnc.state.cfn f.rnc.layer s (f.rnc_output.iub s) (f.fed s) (f.fed (s + 1)) (f.fed_lines s) before.active (tick.iub s inside) may in
    let quiet : joined f.fed_lines (suc s) ≡ [] = ap (λ (l : List Line). joined f.fed_lines s ++ l) step.quiet ∙ ap (λ (l : List Line). l ++ []) before.quiet in
    subst (Fed planned old new lines f) next (record {
      active = step.active ∙ before.active;
      given = step.given ∙ before.given;
      same_cfn = step.same_cfn ∙ before.same_cfn;
      frames = step.frames ∙ before.frames;
      quiet = ap (joined f.fed_lines) next ∙ quiet;
      held = λ k low on. elim (cases_eq k s) [
        | inl e ↦ subst (λ k. HoldsFrame planned old.rnc.state.cfn f.rnc.layer k ((f.fed (s + 1)).kept k)) (sym e) (step.held (subst (λ k. starts (set_frames (down_side planned) k) old.rnc.state.cfn ≡ true) e on))
        | inr e ↦ (let apart : k ≡ s → ⊥ = e in subst (HoldsFrame planned old.rnc.state.cfn f.rnc.layer k) (sym (step.others k apart)) (before.held k (omega (arith, low, apart)) on))
      ];
    })

given_new : (side : Side) (b : NodeBState) (i : ℕ) (frame : DownlinkIubFrame) → starts (channel_at side i).frames b.cfn ≡ true → b.kept (channel_at side i).set ≡ Some frame → frame.cfn ≡ b.cfn → given_now side b i ≡ frame.blocks i
given_new side b i frame on is named =
    let first : given_now side b i ≡ taken side b.cfn (b.kept (channel_at side i).set) i = rw on refl in
    let same : (frame.cfn == b.cfn) ≡ true = eq-eqb frame.cfn b.cfn named in
    let last : taken side b.cfn (Some frame) i ≡ frame.blocks i = rw same refl in
    first ∙ ap (λ o. taken side b.cfn o i) is ∙ last

given_still : (side : Side) (b : NodeBState) (i : ℕ) → starts (channel_at side i).frames b.cfn ≡ false → given_now side b i ≡ b.given i
given_still side b i off = rw off refl

-- the downlink radio frame of the Node B, and the uplink one
pub departure : (planned : Planned) (old new : LinkState) (lines : List Line) (f : IsFrame old new lines) → Fed planned old new lines f 8 → IsDeparture planned (f.fed 8) f.node_b f.down_output
departure planned old new lines f fed = subst (λ (p : Planned). IsDeparture p (f.fed 8) f.node_b f.down_output) fed.active f.down

pub node_b_active : (planned : Planned) (old new : LinkState) (lines : List Line) (f : IsFrame old new lines) → Fed planned old new lines f 8 → f.node_b.planned ≡ planned
node_b_active planned old new lines f fed = ap (λ (x : NodeBState). x.planned) (departure planned old new lines f fed).state ∙ fed.active

pub reception : (planned : Planned) (old new : LinkState) (lines : List Line) (f : IsFrame old new lines) → Fed planned old new lines f 8 → IsReception planned f.node_b (radio_after old.damage Up f.ue_output.sent) new.node_b.state f.up_output
reception planned old new lines f fed = subst (λ (p : Planned). IsReception p f.node_b (radio_after old.damage Up f.ue_output.sent) new.node_b.state f.up_output) (node_b_active planned old new lines f fed) f.up

-- the channels run at the Node B what the network controller gave
channel_runs : (planned : Planned) (old new : LinkState) (lines : List Line) (f : IsFrame old new lines) → IsPlanned planned → FrameClear old new lines f → DownStand planned old → (i : ℕ) → i < length (down_side planned).channels → RunsGiven (channel_at (down_side planned) i) (f.rnc.layer.given i) (f.node_b.given i)
channel_runs planned old new lines f good clear s i inside = elim (tells (starts (frames_on side i) c)) [
  | inl on ↦ (
      let held : HoldsFrame planned c f.rnc.layer set ((f.fed 8).kept set) = fed.held set small (ap (λ n. starts n c) (set_frames-member side i is inside) ∙ on.0) in
      let same : f.node_b.given i ≡ held.frame.blocks i = here ∙ given_new side (f.fed 8) i held.frame (ap (starts (frames_on side i)) cfn ∙ on.0) held.is (held.named ∙ sym cfn) in
      subst (RunsGiven (channel_at side i) (f.rnc.layer.given i)) (sym same) (held.blocks i inside refl))
  | inr off ↦ (
      let same : f.node_b.given i ≡ old.node_b.state.given i = here ∙ given_still side (f.fed 8) i (ap (starts (frames_on side i)) cfn ∙ off.0) ∙ ap (λ (g : ℕ → Blocks). g i) fed.given in
      let given : f.rnc.layer.given i ≡ old.rnc.state.layer.given i = start_same planned.config Down c (ticks planned.config old.rnc.state.layer) f.rnc.layer i tick.start off.0 in
      subst (RunsGiven (channel_at side i) (f.rnc.layer.given i)) (sym same) (subst (λ (g : Given). RunsGiven (channel_at side i) g (old.node_b.state.given i)) (sym given) (s.runs i inside off.0)))
]
  where
    side : Side
    side = down_side planned

    set : ℕ
    set = (channel_at side i).set

    c : ℕ
    c = old.rnc.state.cfn

    is : IsSide side
    is = good.good.downlink.side

    small : set < 8
    small = omega (arith, (is.channels i inside).set)

    fed : Fed planned old new lines f 8
    fed = fed_all planned old new lines f s.active clear 8 (omega arith)

    cfn : (f.fed 8).cfn ≡ c
    cfn = fed.same_cfn ∙ s.node_b_cfn

    tick : IsRncTick planned old.rnc.state f.rnc f.rnc_output
    tick = rnc_tick planned old new lines f s.active

    here : f.node_b.given i ≡ given_now side (f.fed 8) i
    here = ap (λ (x : NodeBState). x.given i) (departure planned old new lines f fed).state

-- a radio frame is sent
pub record Sends (planned : Planned) (b : NodeBState) (o : Option Radio) : Type 0 where
  pub radio : Radio
  pub is : o ≡ Some radio
  pub frame : IsRadioFrame planned b radio

sends : (planned : Planned) (b : NodeBState) (c : ℕ) (o : Option Radio) → IsRadio planned b o → c < length (down_side planned).combinations → ((j : ℕ) → j < length (down_side planned).channels → (b.given j).format ≡ format_number (down_side planned) c j) → Sends planned b o
sends planned b c None is there running = absurd (is c there running)
sends planned b c (Some radio) is there running = record { radio = radio; is = refl; frame = is }

-- what a radio frame does to the downlink
pub record DownFrame (planned : Planned) (old new : LinkState) (lines : List Line) (f : IsFrame old new lines) : Type 0 where
  pub taken_is : (i : ℕ) → i < length (down_side planned).channels → ends (frames_on (down_side planned) i) old.rnc.state.cfn ≡ true → good_in (new.ue.state.readings i) ≡ (f.rnc.layer.given i).blocks
  pub none_is : (i : ℕ) → i < length (down_side planned).channels → ends (frames_on (down_side planned) i) old.rnc.state.cfn ≡ false → good_in (new.ue.state.readings i) ≡ []
  pub clean : (i : ℕ) → i < length (down_side planned).channels → IsClean (new.ue.state.readings i)
  pub sends : Sends planned f.node_b f.down_output.sent
  pub stand : DownStand planned new

pub down_frame : (planned : Planned) (old new : LinkState) (lines : List Line) (f : IsFrame old new lines) → IsPlanned planned → FrameClear old new lines f → AreAllSized (down_side planned) f.rnc.layer → DownStand planned old → DownFrame planned old new lines f
down_frame planned old new lines f good clear sized s = record {
  taken_is = λ i inside over. (ended i inside over).0;
  none_is = λ i inside on. (reads_nothing planned i tick.rx_frames (new.ue.state.readings i) (ap (ends (frames_on side i)) rx_cfn ∙ on) (tick.readings i inside)).0;
  clean = λ i inside. elim (over_or_on (frames_on side i) c (frames i inside)) [
    | inl over ↦ (ended i inside over.2).1
    | inr on ↦ (reads_nothing planned i tick.rx_frames (new.ue.state.readings i) (ap (ends (frames_on side i)) rx_cfn ∙ on.1) (tick.readings i inside)).1
  ];
  sends = sent;
  stand = record {
    active = record {
      ue = ap (λ (x : UeState). x.planned) tick.state ∙ ap (λ (x : UeState). x.planned) f.keeps.0 ∙ s.active.ue;
      node_b = ap (λ (x : NodeBState). x.planned) received.state ∙ node_b_active planned old new lines f fed;
      rnc = keeps.active ∙ ap (λ (x : RncState). x.planned) ticked.state ∙ s.active.rnc;
    };
    node_b_cfn = ap (λ (x : NodeBState). x.cfn) received.state ∙ ap (λ n. (n + 1) % 256) node_b_cfn ∙ sym next_cfn;
    ue_cfn = ap (λ (x : UeState). x.cfn) tick.state ∙ ap (λ n. (n + 1) % 256) kept_cfn ∙ sym next_cfn;
    runs = λ j inside off. subst (λ (g : Given). RunsGiven (channel_at side j) g (new.node_b.state.given j)) (sym (keeps.layer.given j)) (subst (RunsGiven (channel_at side j) (f.rnc.layer.given j)) (sym (ap (λ (x : NodeBState). x.given j) received.state)) (runs j inside));
    formats = λ j inside off. ap (λ (g : Given). g.format) (keeps.layer.given j) ∙ formats j inside ∙ ap (λ r. format_number side r j) (sym keeps.layer.running);
    half = λ i inside some.
        let on : 0 < ((c + 1) % 256) % frames_on side i = subst (λ n. 0 < n % frames_on side i) next_cfn some in
        subst (λ n. DownHalf planned i (new.rnc.state.layer.given i) n new.ue.state.frames (n % frames_on side i)) (sym next_cfn)
        (subst (λ (g : Given). DownHalf planned i g ((c + 1) % 256) new.ue.state.frames (((c + 1) % 256) % frames_on side i)) (sym (keeps.layer.given i))
        (half_next (frames_on side i) (DownLoaded planned i (f.rnc.layer.given i)) (IsSentRadio planned Down (multiplexed planned) i) AnyLast AnyStep c new.ue.state.frames (frames i inside) (half i inside) on));
  };
}
  where
    side : Side
    side = down_side planned

    c : ℕ
    c = old.rnc.state.cfn

    fed : Fed planned old new lines f 8
    fed = fed_all planned old new lines f s.active clear 8 (omega arith)

    ticked : IsRncTick planned old.rnc.state f.rnc f.rnc_output
    ticked = rnc_tick planned old new lines f s.active

    tick : IsUeTick planned f.kept new.ue.state f.ue_output
    tick = ue_tick planned old new lines f s.active

    received : IsReception planned f.node_b (radio_after old.damage Up f.ue_output.sent) new.node_b.state f.up_output
    received = reception planned old new lines f fed

    left : IsDeparture planned (f.fed 8) f.node_b f.down_output
    left = departure planned old new lines f fed

    keeps : Keeps f.rnc new.rnc.state
    keeps = keeps_frame old new lines f

    next_cfn : new.rnc.state.cfn ≡ (c + 1) % 256
    next_cfn = keeps.same_cfn ∙ ap (λ (x : RncState). x.cfn) ticked.state

    frames : (i : ℕ) → i < length side.channels → IsFrames (frames_on side i)
    frames i inside = (good.good.downlink.side.channels i inside).frames

    node_b_cfn : f.node_b.cfn ≡ c
    node_b_cfn = ap (λ (x : NodeBState). x.cfn) left.state ∙ fed.same_cfn ∙ s.node_b_cfn

    kept_cfn : f.kept.cfn ≡ c
    kept_cfn = ap (λ (x : UeState). x.cfn) f.keeps.0 ∙ s.ue_cfn

    rx_cfn : tick.rx_frames.cfn ≡ c
    rx_cfn = tick.kept.last ∙ kept_cfn

    runs : (i : ℕ) → i < length side.channels → RunsGiven (channel_at side i) (f.rnc.layer.given i) (f.node_b.given i)
    runs i inside = channel_runs planned old new lines f good clear s i inside

    formats : (i : ℕ) → i < length side.channels → (f.rnc.layer.given i).format ≡ format_number side f.rnc.layer.running i
    formats i inside = start_format planned.config Down c (ticks planned.config old.rnc.state.layer) f.rnc.layer i ticked.start inside (s.formats i inside)

    sent : Sends planned f.node_b f.down_output.sent
    sent = sends planned f.node_b f.rnc.layer.running f.down_output.sent left.radio ticked.start.best.candidate.there (λ j inside. (runs j inside).format ∙ formats j inside)

    came : f.kept.came ≡ Some sent.radio
    came = ap (λ (x : UeState). x.came) f.keeps.0 ∙ clear.radio_down ∙ sent.is

    now_are : (k : ℕ) → frames_now f.kept k ≡ (if k == c % 8 then Some sent.radio else old.ue.state.frames k)
    now_are k =
        ap (λ n. if k == n % 8 then f.kept.came else f.kept.frames k) kept_cfn
        ∙ ap (λ (o : Option Radio). if k == c % 8 then o else f.kept.frames k) came
        ∙ ap (λ (x : UeState). if k == c % 8 then Some sent.radio else x.frames k) f.keeps.0

    frames_are : (k : ℕ) → new.ue.state.frames k ≡ (if k == c % 8 then Some sent.radio else old.ue.state.frames k)
    frames_are k = ap (λ (x : UeState). x.frames k) tick.state ∙ now_are k

    heard : AreHeard planned Down c new.ue.state.frames tick.rx_frames
    heard = heard_as planned Down f.kept.cfn c (frames_now f.kept) new.ue.state.frames tick.rx_frames kept_cfn (λ k. ap (λ (x : UeState). x.frames k) tick.state) tick.kept

    half : (i : ℕ) → i < length side.channels → DownHalf planned i (f.rnc.layer.given i) c new.ue.state.frames (c % frames_on side i + 1)
    half i inside =
        half_more (frames_on side i) (DownLoaded planned i (f.rnc.layer.given i)) (IsSentRadio planned Down (multiplexed planned) i) AnyLast AnyLast AnyStep c old.ue.state.frames new.ue.state.frames sent.radio sent.frame.combination (loaded_at sent.frame.tti i)
        (frames i inside)
        (loaded_one planned i (f.rnc.layer.given i).format (joined_bits (f.rnc.layer.given i).blocks))
        frames_are
        (subst (λ n. IsLoaded planned i n (joined_bits (f.rnc.layer.given i).blocks) (loaded_at sent.frame.tti i)) (runs i inside).format (subst (λ bits. IsLoaded planned i (f.node_b.given i).format bits (loaded_at sent.frame.tti i)) (runs i inside).bits (sent.frame.loaded i inside)))
        (record {
          tti = sent.frame.tti;
          cfn = f.node_b.cfn;
          frame = sent.frame.frame;
          formats = λ j within. (sent.frame.loaded j within).format ∙ ap (λ n. Some n) (sent.frame.formats j within);
          listed = sent.frame.listed;
          holds = refl;
          number = ap (λ n. n % frames_on side i) node_b_cfn;
          written = sent.frame.written;
          tfci = sent.frame.tfci;
          cells = sent.frame.cells;
        })
        tt
        (λ some d last. tt)
        (λ some. subst (λ (g : Given). DownHalf planned i g c old.ue.state.frames (c % frames_on side i)) (sym (start_same planned.config Down c (ticks planned.config old.rnc.state.layer) f.rnc.layer i ticked.start (starts_off (frames_on side i) c (some_frames (frames_on side i) (frames i inside)) (λ e. omega (arith, e, some))))) (s.half i inside some))

    was : (i : ℕ) → i < length side.channels → c % frames_on side i + 1 ≡ frames_on side i → WasSent planned tick.rx_frames i (f.rnc.layer.given i).format (joined_bits (f.rnc.layer.given i).blocks)
    was i inside all = whole_sent planned i c (c % frames_on side i + 1) (f.rnc.layer.given i) new.ue.state.frames tick.rx_frames good.good.downlink.side.few_combinations heard (half i inside) all (runs i inside).whole

    ended : (i : ℕ) → i < length side.channels → ends (frames_on side i) c ≡ true → (good_in (new.ue.state.readings i) ≡ (f.rnc.layer.given i).blocks) × IsClean (new.ue.state.readings i)
    ended i inside is = elim (over_or_on (frames_on side i) c (frames i inside)) [
      | inl over ↦
          reads_back planned c new.ue.state.frames i (f.rnc.layer.given i) tick.rx_frames (new.ue.state.readings i) good inside heard (was i inside over.0) (sized i inside) (ap (ends (frames_on side i)) rx_cfn ∙ is) (tick.readings i inside)
      | inr on ↦ (let off : ends (frames_on side i) c ≡ false = on.1 in absurd (let both : false ≡ true = sym off ∙ is in cc))
    ]
