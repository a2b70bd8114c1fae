-- A radio frame in which no damage has an effect: what is taken of each uplink channel, and how the uplink stands afterwards.
use Rattle.std.proofs.Common.{◌≡◌, ◌<◌, ◌+◌, ◌%◌, ◌∙◌, ℕ, List, length, true, false, Option, Some, arith, refl, sym, ap, subst, inl, inr}
use Rattle.std.specs.Prelude.{◌==◌, if◌then◌else◌}
use Rattle.dch_types.specs.declared.channel.Dir.TheVariants.{Down, Up}
use Rattle.dch_types.specs.declared.channel.Side.{Side}
use Rattle.dch_types.specs.Limits.{IsFrames}
use Rattle.dch_types.specs.Parts.{channel_at, format_number}
use Rattle.dch_types.specs.Timing.{ends, starts}
use Rattle.dch_accept.specs.Plans.{IsPlanned, Planned}
use Rattle.dch_tti.specs.Loaded.{loaded_at}
use Rattle.dch_ulphy.specs.Frames.{multiplexed}
use Rattle.dch_ulphy.proofs.One.{loaded_one}
use Rattle.dch_damage.specs.Damage.{radio_after}
use Rattle.dch_node.specs.Lines.{Line, joined}
use Rattle.dch_node.specs.RxFrames.{AreHeard}
use Rattle.dch_node.specs.Values.{Radio}
use Rattle.dch_layer2.specs.Layers.{Given, Layer, ticks}
use Rattle.dch_layer2.specs.Starting.{IsStart}
use Rattle.dch_layer2.specs.Joined.{joined_bits}
use Rattle.dch_linkcmd.specs.NodebState.{State as NodeBState}
use Rattle.dch_linkcmd.specs.NodebSteps.{IsDeparture, IsReception}
use Rattle.dch_linkcmd.specs.RncState.{State as RncState}
use Rattle.dch_linkcmd.specs.RncSteps.{IsTick as IsRncTick}
use Rattle.dch_linkcmd.specs.UeState.{State as UeState}
use Rattle.dch_linkcmd.specs.UeSteps.{IsRadioFrame, IsTick as IsUeTick, has_read}
use Rattle.dch_linkcmd.specs.Checks.{good_in}
use Rattle.dch_linkcmd.specs.LinkLink.{LinkState}
use Rattle.dch_runlaw.specs.Frames.{IsFrame, MayBeTaken}
use Rattle.dch_runlaw.specs.Clear.{FrameClear}
use Rattle.dch_runlaw.specs.Sized.{AreAllSized, AreAllWhole}
use Rattle.dch_runlaw.specs.ClearSound.{AreSound}
use Rattle.dch_runlaw.proofs.ClearDownFrame.{DownStand, Fed, departure, fed_all, frames_on, reception}
use Rattle.dch_ue.proofs.Lasting.{GivesTheSame, reads_below-on}
use Rattle.dch_runlaw.proofs.ClearKept.{start_format, start_same}
use Rattle.dch_runlaw.proofs.ClearNodes.{Keeps, keeps_all, keeps_frame, rnc_tick, ue_tick}
use Rattle.dch_runlaw.proofs.ClearSent.{IsSentRadio, heard_as}
use Rattle.dch_runlaw.proofs.ClearTtis.{by_four, half_more, half_next, over_or_on, some_frames, starts_off}
use Rattle.dch_runlaw.proofs.ClearUp.{KeepsFormats, UpHalf, UpLoaded, whole_sent}
use Rattle.dch_runlaw.proofs.ClearUpSets.{SetDone, WereSent, set_done}

abbrev pub up_side : Planned → Side
up_side planned = planned.config.uplink.side

-- the uplink before a radio frame
pub record UpStand (planned : Planned) (link : LinkState) : Type 0 where
  pub formats : (j : ℕ) → j < length (up_side planned).channels → starts (frames_on (up_side planned) j) link.rnc.state.cfn ≡ false → (link.ue.state.layer.given j).format ≡ format_number (up_side planned) link.ue.state.layer.running j
  pub half : (i : ℕ) → i < length (up_side planned).channels → 0 < link.rnc.state.cfn % frames_on (up_side planned) i
      → UpHalf planned i (link.ue.state.layer.given i) (λ c. c ≡ link.ue.state.layer.running) link.rnc.state.cfn link.node_b.state.frames (link.rnc.state.cfn % frames_on (up_side planned) i)

-- inside a TTI of one channel a TTI of another one starts at a multiple of its frames only
pub start_inside : (f g c : ℕ) → IsFrames f → IsFrames g → 0 < c % f → ((c % f) % g ≡ 0 → ⊥) → c % g ≡ 0 → ⊥
start_inside f g c is are = by_four f (λ f. 0 < c % f → ((c % f) % g ≡ 0 → ⊥) → c % g ≡ 0 → ⊥) is
    (λ some ne e. omega (arith, some))
    (by_four g (λ g. 0 < c % 2 → ((c % 2) % g ≡ 0 → ⊥) → c % g ≡ 0 → ⊥) are (λ some ne e. ne (omega arith)) (λ some ne e. omega (arith, some, e)) (λ some ne e. omega (arith, some, e)) (λ some ne e. omega (arith, some, e)))
    (by_four g (λ g. 0 < c % 4 → ((c % 4) % g ≡ 0 → ⊥) → c % g ≡ 0 → ⊥) are (λ some ne e. ne (omega arith)) (λ some ne e. ne (omega (arith, e))) (λ some ne e. omega (arith, some, e)) (λ some ne e. omega (arith, some, e)))
    (by_four g (λ g. 0 < c % 8 → ((c % 8) % g ≡ 0 → ⊥) → c % g ≡ 0 → ⊥) are (λ some ne e. ne (omega arith)) (λ some ne e. ne (omega (arith, e))) (λ some ne e. ne (omega (arith, e))) (λ some ne e. omega (arith, some, e)))

-- what a radio frame does to the uplink; the lines of the first sets are those of the Node B
pub record UpFrame (planned : Planned) (old new : LinkState) (lines : List Line) (f : IsFrame old new lines) : Type 0 where
  pub taken_is : (i : ℕ) → i < length (up_side planned).channels → ends (frames_on (up_side planned) i) old.rnc.state.cfn ≡ true
      → good_in ((f.taken (channel_at (up_side planned) i).set).readings i) ≡ (new.ue.state.layer.given i).blocks
  pub said : ℕ → List Line
  pub all_said : f.up_output.lines ≡ joined said 8
  pub sound_said : (s : ℕ) → s < 8 → AreSound (said s)
  pub sound_taken : (s : ℕ) → s < 8 → AreSound (f.rnc_lines s)
  pub stand : UpStand planned new

pub up_frame : (planned : Planned) (old new : LinkState) (lines : List Line) (f : IsFrame old new lines) → IsPlanned planned → FrameClear old new lines f → AreAllSized (up_side planned) new.ue.state.layer → AreAllWhole (up_side planned) new.ue.state.layer → DownStand planned old → UpStand planned old → UpFrame planned old new lines f
up_frame planned old new lines f good clear sized wholes d s = record {
  taken_is = λ i inside over.
      let set : ℕ = (channel_at side i).set in
      let small : set < 8 = omega (arith, (good.good.uplink.side.channels i inside).set) in
      (done set small).fits i inside refl (ap (ends (frames_on side i)) rx_cfn ∙ over);
  said = received.lines;
  all_said = received.reported;
  sound_said = λ n small. (done n small).sound;
  sound_taken = λ n small. (done n small).sound_taken;
  stand = record {
    formats = λ j inside off. formats j inside;
    half = λ i inside some.
        let on : 0 < ((c + 1) % 256) % frames_on side i = subst (λ n. 0 < n % frames_on side i) next_cfn some in
        subst (λ n. UpHalf planned i (new.ue.state.layer.given i) Runs n new.node_b.state.frames (n % frames_on side i)) (sym next_cfn)
        (half_next (frames_on side i) (UpLoaded planned i (new.ue.state.layer.given i)) (IsSentRadio planned Up (multiplexed planned) i) Runs (KeepsFormats side) c new.node_b.state.frames (frames i inside) (half i inside) on);
  };
}
  where
    side : Side
    side = up_side planned

    c : ℕ
    c = old.rnc.state.cfn

    -- the combination of the last radio frame is the one that runs
    Runs : ℕ → Type 0
    Runs n = n ≡ new.ue.state.layer.running

    Ran : ℕ → Type 0
    Ran n = n ≡ old.ue.state.layer.running

    ticked : IsRncTick planned old.rnc.state f.rnc f.rnc_output
    ticked = rnc_tick planned old new lines f d.active

    tick : IsUeTick planned f.kept new.ue.state f.ue_output
    tick = ue_tick planned old new lines f d.active

    fed : Fed planned old new lines f 8
    fed = fed_all planned old new lines f d.active clear 8 (omega arith)

    left : IsDeparture planned (f.fed 8) f.node_b f.down_output
    left = departure planned old new lines f fed

    received : IsReception planned f.node_b (radio_after old.damage Up f.ue_output.sent) new.node_b.state f.up_output
    received = reception planned old new lines f fed

    keeps : Keeps f.rnc new.rnc.state
    keeps = keeps_frame old new lines f

    next_cfn : new.rnc.state.cfn ≡ (c + 1) % 256
    next_cfn = keeps.same_cfn ∙ ap (λ (x : RncState). x.cfn) ticked.state

    frames : (i : ℕ) → i < length side.channels → IsFrames (frames_on side i)
    frames i inside = (good.good.uplink.side.channels i inside).frames

    node_b_cfn : f.node_b.cfn ≡ c
    node_b_cfn = ap (λ (x : NodeBState). x.cfn) left.state ∙ fed.same_cfn ∙ d.node_b_cfn

    node_b_frames : f.node_b.frames ≡ old.node_b.state.frames
    node_b_frames = ap (λ (x : NodeBState). x.frames) left.state ∙ fed.frames

    kept_cfn : f.kept.cfn ≡ c
    kept_cfn = ap (λ (x : UeState). x.cfn) f.keeps.0 ∙ d.ue_cfn

    rx_cfn : received.rx_frames.cfn ≡ c
    rx_cfn = received.kept.last ∙ node_b_cfn

    mid : Layer
    mid = (has_read planned new.ue.state.readings f.kept.layer).layer

    mid_keeps : GivesTheSame (ticks planned.config f.kept.layer) mid
    mid_keeps = reads_below-on planned.config Down new.ue.state.readings (length planned.config.downlink.side.channels) (ticks planned.config f.kept.layer)

    mid_given : (i : ℕ) → mid.given i ≡ old.ue.state.layer.given i
    mid_given i = mid_keeps.given i ∙ ap (λ (x : UeState). x.layer.given i) f.keeps.0

    mid_running : mid.running ≡ old.ue.state.layer.running
    mid_running = mid_keeps.running ∙ ap (λ (x : UeState). x.layer.running) f.keeps.0

    start : IsStart planned.config Up c mid new.ue.state.layer
    start = subst (λ n. IsStart planned.config Up n mid new.ue.state.layer) kept_cfn tick.start

    formats : (i : ℕ) → i < length side.channels → (new.ue.state.layer.given i).format ≡ format_number side new.ue.state.layer.running i
    formats i inside = start_format planned.config Up c mid new.ue.state.layer i start inside (λ off. ap (λ (g : Given). g.format) (mid_given i) ∙ s.formats i inside off ∙ ap (λ r. format_number side r i) (sym mid_running))

    written : IsRadioFrame planned f.kept.cfn new.ue.state.layer tick.radio
    written = tick.written

    frames_are : (k : ℕ) → new.node_b.state.frames k ≡ (if k == c % 8 then Some tick.radio else old.node_b.state.frames k)
    frames_are k =
        ap (λ (x : NodeBState). x.frames k) received.state
        ∙ ap (λ n. if k == n % 8 then radio_after old.damage Up f.ue_output.sent else f.node_b.frames k) node_b_cfn
        ∙ ap (λ (o : Option Radio). if k == c % 8 then o else f.node_b.frames k) (clear.radio_up ∙ tick.sent)
        ∙ ap (λ (g : ℕ → Option Radio). if k == c % 8 then Some tick.radio else g k) node_b_frames

    heard : AreHeard planned Up c new.node_b.state.frames received.rx_frames
    heard = heard_as planned Up f.node_b.cfn c new.node_b.state.frames new.node_b.state.frames received.rx_frames node_b_cfn (λ k. refl) received.kept

    half : (i : ℕ) → i < length side.channels → UpHalf planned i (new.ue.state.layer.given i) Runs c new.node_b.state.frames (c % frames_on side i + 1)
    half i inside =
        half_more (frames_on side i) (UpLoaded planned i (new.ue.state.layer.given i)) (IsSentRadio planned Up (multiplexed planned) i) Ran Runs (KeepsFormats side) c old.node_b.state.frames new.node_b.state.frames tick.radio new.ue.state.layer.running (loaded_at written.tti i)
        (frames i inside)
        (loaded_one planned i (new.ue.state.layer.given i).format (joined_bits (new.ue.state.layer.given i).blocks))
        frames_are
        (written.loaded i inside)
        (record {
          tti = written.tti;
          cfn = f.kept.cfn;
          frame = written.frame;
          formats = λ j within. (written.loaded j within).format ∙ ap (λ n. Some n) (formats j within);
          listed = start.best.candidate.there;
          holds = refl;
          number = ap (λ n. n % frames_on side i) kept_cfn;
          written = written.written;
          tfci = written.tfci;
          cells = written.cells;
        })
        refl
        (λ some r last j within ne.
        ap (λ r. format_number side r j) (last ∙ sym mid_running)
        ∙ sym (start.best.candidate.kept j within (starts_off (frames_on side j) c (some_frames (frames_on side j) (frames j within)) (start_inside (frames_on side i) (frames_on side j) c (frames i inside) (frames j within) some ne))))
        (λ some. subst (λ (g : Given). UpHalf planned i g Ran c old.node_b.state.frames (c % frames_on side i))
        (sym (start_same planned.config Up c mid new.ue.state.layer i start (starts_off (frames_on side i) c (some_frames (frames_on side i) (frames i inside)) (λ e. omega (arith, e, some))) ∙ mid_given i)) (s.half i inside some))

    were : WereSent planned received.rx_frames new.ue.state.layer
    were i inside is = elim (over_or_on (frames_on side i) c (frames i inside)) [
      | inl over ↦ whole_sent planned i c (c % frames_on side i + 1) (new.ue.state.layer.given i) Runs new.node_b.state.frames received.rx_frames good inside heard (half i inside) over.0 (wholes i inside)
      | inr on ↦ absurd (let both : false ≡ true = sym on.1 ∙ sym (ap (ends (frames_on side i)) rx_cfn) ∙ is in cc)
    ]

    done : (n : ℕ) → n < 8 → SetDone side new.ue.state.layer received.rx_frames n (f.taken n) (received.lines n) (f.rnc_lines n)
    done n small =
        let may : MayBeTaken planned n (f.up_output.iub n) new.ue.state.layer (f.rncs n) (f.rncs (n + 1)) (f.taken n) (f.rnc_lines n) =
        subst (λ (p : Planned). MayBeTaken p n (f.up_output.iub n) new.ue.state.layer (f.rncs n) (f.rncs (n + 1)) (f.taken n) (f.rnc_lines n)) d.active.rnc
        (subst (λ (o : Option (List ℕ)). MayBeTaken old.rnc.state.planned n o new.ue.state.layer (f.rncs n) (f.rncs (n + 1)) (f.taken n) (f.rnc_lines n)) (clear.iub_up n small) (f.takes n small)) in
        let active : (f.rncs n).planned ≡ planned = (keeps_all old new lines f n (omega (arith, small))).active ∙ ap (λ (x : RncState). x.planned) ticked.state ∙ d.active.rnc in
        set_done planned received.rx_frames new.ue.state.layer n (received.lines n) (f.rnc_lines n) (f.up_output.iub n) (f.rncs n) (f.rncs (n + 1)) (f.taken n) good were sized active (received.sets n small) may
