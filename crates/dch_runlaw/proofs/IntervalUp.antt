-- An uplink TTI of a set, as its radio frames were sent.
use Rattle.std.proofs.Common.{◌≡◌, ◌<◌, ◌+◌, ◌%◌, ◌∙◌, ℕ, List, [], ◌∷◌, length, false, Option, Some, arith, refl, sym, ap, subst}
use Rattle.std.specs.Prelude.{◌==◌, if◌then◌else◌}
use Rattle.dch_types.specs.declared.channel.Dir.TheVariants.{Down, Up}
use Rattle.dch_types.specs.declared.channel.Side.{Side}
use Rattle.dch_types.specs.Limits.{IsFrames}
use Rattle.dch_types.specs.Parts.{channel_at, format_number}
use Rattle.dch_types.specs.Timing.{starts}
use Rattle.dch_accept.specs.Plans.{IsPlanned, Planned}
use Rattle.dch_tti.specs.Loaded.{loaded_at}
use Rattle.dch_ulphy.specs.Frames.{multiplexed}
use Rattle.dch_ulphy.proofs.One.{loaded_one}
use Rattle.dch_node.specs.Lines.{Line}
use Rattle.dch_node.specs.Values.{Radio}
use Rattle.dch_layer2.specs.Layers.{Given, Layer, ticks}
use Rattle.dch_layer2.specs.Starting.{IsStart}
use Rattle.dch_layer2.specs.Joined.{joined_bits}
use Rattle.dch_linkcmd.specs.UeState.{State as UeState}
use Rattle.dch_linkcmd.specs.UeSteps.{IsRadioFrame, has_read}
use Rattle.dch_linkcmd.specs.LinkLink.{LinkState}
use Rattle.dch_runlaw.specs.Frames.{IsFrame}
use Rattle.dch_runlaw.specs.Runs.{Between, Event, Frame, Runs}
use Rattle.dch_runlaw.proofs.ClearBetween.{Same, between}
use Rattle.dch_ue.proofs.Lasting.{GivesTheSame, reads_below-on}
use Rattle.dch_runlaw.proofs.ClearKept.{start_format, start_same}
use Rattle.dch_runlaw.proofs.ClearSent.{IsSentRadio}
use Rattle.dch_runlaw.proofs.ClearTtis.{half_more, half_next, some_frames, starts_off}
use Rattle.dch_runlaw.proofs.ClearUp.{KeepsFormats, UpHalf, UpLoaded}
use Rattle.dch_runlaw.proofs.ClearUpFrame.{start_inside}
use Rattle.dch_runlaw.specs.Intervals.{frames_sent, with_sent}
use Rattle.dch_runlaw.proofs.IntervalAgree.{Agree, Parts, parts, stays}
use Rattle.dch_runlaw.proofs.IntervalCounting.{Watch}

abbrev pub up_side : Planned → Side
up_side planned = planned.config.uplink.side

abbrev pub frames_of : Planned → ℕ → ℕ
frames_of planned i = (channel_at (up_side planned) i).frames

-- the formats of the channels whose TTI goes on are those of the combination that runs
abbrev pub InRunning : Planned → LinkState → Type 0
InRunning planned link = (j : ℕ) → j < length (up_side planned).channels → starts (frames_of planned j) link.rnc.state.cfn ≡ false → (link.ue.state.layer.given j).format ≡ format_number (up_side planned) link.ue.state.layer.running j

-- the first radio frames of a TTI of channel i were sent, the last one in the combination that runs
abbrev pub UpOn : Planned → ℕ → (ℕ → Option Radio) → LinkState → Type 0
UpOn planned i g link = 0 < link.rnc.state.cfn % frames_of planned i → UpHalf planned i (link.ue.state.layer.given i) (λ c. c ≡ link.ue.state.layer.running) link.rnc.state.cfn g (link.rnc.state.cfn % frames_of planned i)

-- how layer 2 of the terminal starts TTIs in a radio frame
pub record Starts (planned : Planned) (old new : LinkState) (lines : List Line) (f : IsFrame old new lines) : Type 0 where
  pub mid : Layer
  pub given : (i : ℕ) → mid.given i ≡ old.ue.state.layer.given i
  pub running : mid.running ≡ old.ue.state.layer.running
  pub start : IsStart planned.config Up old.rnc.state.cfn mid new.ue.state.layer

pub starts_in : (planned : Planned) (old new : LinkState) (lines : List Line) (f : IsFrame old new lines) → IsPlanned planned → Agree planned old → Starts planned old new lines f
starts_in planned old new lines f good a =
    let p : Parts planned old new lines f = parts planned old new lines f good a in
    let mid : Layer = (has_read planned new.ue.state.readings f.kept.layer).layer in
    let keeps : GivesTheSame (ticks planned.config f.kept.layer) mid = reads_below-on planned.config Down new.ue.state.readings (length planned.config.downlink.side.channels) (ticks planned.config f.kept.layer) in
    record {
      mid = mid;
      given = λ i. keeps.given i ∙ ap (λ (x : UeState). x.layer.given i) f.keeps.0;
      running = keeps.running ∙ ap (λ (x : UeState). x.layer.running) f.keeps.0;
      start = subst (λ n. IsStart planned.config Up n mid new.ue.state.layer) p.kept_cfn p.ticks.start;
    }

-- a channel whose TTI goes on keeps what it was given
pub still_given : (planned : Planned) (old new : LinkState) (lines : List Line) (f : IsFrame old new lines) (i : ℕ) → IsPlanned planned → Agree planned old → starts (frames_of planned i) old.rnc.state.cfn ≡ false → new.ue.state.layer.given i ≡ old.ue.state.layer.given i
still_given planned old new lines f i good a off =
    let s : Starts planned old new lines f = starts_in planned old new lines f good a in
    start_same planned.config Up old.rnc.state.cfn s.mid new.ue.state.layer i s.start off ∙ s.given i

abbrev pub up_watch : (planned : Planned) (i frames : ℕ) → IsPlanned planned → frames ≡ frames_of planned i → Watch planned frames Given
up_watch planned i frames good are = record {
  value = λ link. link.ue.state.layer.given i;
  frame_value = λ old new lines f. new.ue.state.layer.given i;
  same = λ old new r. r.ue_layer.given i;
  after = λ old new lines f a. refl;
  before = λ old new lines f a off. still_given planned old new lines f i good a (ap (λ n. starts n old.rnc.state.cfn) (sym are) ∙ off);
}

pub frame_formats : (planned : Planned) (old new : LinkState) (lines : List Line) (f : IsFrame old new lines) → IsPlanned planned → Agree planned old → InRunning planned old → (i : ℕ) → i < length (up_side planned).channels
    → (new.ue.state.layer.given i).format ≡ format_number (up_side planned) new.ue.state.layer.running i
frame_formats planned old new lines f good a before i inside =
    let s : Starts planned old new lines f = starts_in planned old new lines f good a in
    start_format planned.config Up old.rnc.state.cfn s.mid new.ue.state.layer i s.start inside (λ off. ap (λ (g : Given). g.format) (s.given i) ∙ before i inside off ∙ ap (λ r. format_number (up_side planned) r i) (sym s.running))

pub between_formats : (planned : Planned) (old new : LinkState) → Same old new → InRunning planned old → InRunning planned new
between_formats planned old new r before = λ j inside off.
    ap (λ (g : Given). g.format) (r.ue_layer.given j) ∙ before j inside (ap (starts (frames_of planned j)) (sym r.cfn) ∙ off) ∙ ap (λ c. format_number (up_side planned) c j) (sym r.ue_layer.running)

pub run_formats : (planned : Planned) (events : List Event) (old new : LinkState) (lines : List Line) → Runs old events new lines → IsPlanned planned → Agree planned old → InRunning planned old → InRunning planned new
run_formats planned [] old new lines run good a before = subst (InRunning planned) (sym run.0) before
run_formats planned (Between event ∷ events) old new lines run good a before =
    let same : Same old run.next = (between old run.next event run.own run.step).0 in
    run_formats planned events run.next new run.rest run.later good (stays planned old run.next same a) (between_formats planned old run.next same before)
run_formats planned (Frame ∷ events) old new lines run good a before =
    let f : IsFrame old run.next run.own = run.step.frame in
    run_formats planned events run.next new run.rest run.later good (parts planned old run.next run.own f good a).agree (λ j inside off. frame_formats planned old run.next run.own f good a before j inside)

-- one radio frame more was sent
pub frame_half : (planned : Planned) (old new : LinkState) (lines : List Line) (f : IsFrame old new lines) (i : ℕ) (g : ℕ → Option Radio) → IsPlanned planned → i < length (up_side planned).channels → Agree planned old → InRunning planned old → UpOn planned i g old
    → UpHalf planned i (new.ue.state.layer.given i) (λ c. c ≡ new.ue.state.layer.running) old.rnc.state.cfn (with_sent Up old new lines f g) (old.rnc.state.cfn % frames_of planned i + 1)
frame_half planned old new lines f i g good inside a before on =
    half_more (frames_of planned i) (UpLoaded planned i (new.ue.state.layer.given i)) (IsSentRadio planned Up (multiplexed planned) i) Ran Running (KeepsFormats (up_side planned)) c g (with_sent Up old new lines f g) p.ticks.radio new.ue.state.layer.running (loaded_at written.tti i)
    (frames i inside)
    (loaded_one planned i (new.ue.state.layer.given i).format (joined_bits (new.ue.state.layer.given i).blocks))
    frames_are
    (written.loaded i inside)
    (record {
      tti = written.tti;
      cfn = f.kept.cfn;
      frame = written.frame;
      formats = λ j within. (written.loaded j within).format ∙ ap (λ n. Some n) (frame_formats planned old new lines f good a before j within);
      listed = s.start.best.candidate.there;
      holds = refl;
      number = ap (λ n. n % frames_of planned i) p.kept_cfn;
      written = written.written;
      tfci = written.tfci;
      cells = written.cells;
    })
    refl
    (λ some r last j within ne.
    ap (λ r. format_number (up_side planned) r j) (last ∙ sym s.running)
    ∙ sym (s.start.best.candidate.kept j within (starts_off (frames_of planned j) c (some_frames (frames_of planned j) (frames j within)) (start_inside (frames_of planned i) (frames_of planned j) c (frames i inside) (frames j within) some ne))))
    (λ some. subst (λ (given : Given). UpHalf planned i given Ran c g (c % frames_of planned i)) (sym (still_given planned old new lines f i good a (off some))) (on some))
  where
    c : ℕ
    c = old.rnc.state.cfn

    Running : ℕ → Type 0
    Running n = n ≡ new.ue.state.layer.running

    Ran : ℕ → Type 0
    Ran n = n ≡ old.ue.state.layer.running

    frames : (j : ℕ) → j < length (up_side planned).channels → IsFrames (frames_of planned j)
    frames j within = (good.good.uplink.side.channels j within).frames

    p : Parts planned old new lines f
    p = parts planned old new lines f good a

    s : Starts planned old new lines f
    s = starts_in planned old new lines f good a

    off : 0 < c % frames_of planned i → starts (frames_of planned i) c ≡ false
    off some = starts_off (frames_of planned i) c (some_frames (frames_of planned i) (frames i inside)) (λ e. omega (arith, e, some))

    written : IsRadioFrame planned f.kept.cfn new.ue.state.layer p.ticks.radio
    written = p.ticks.written

    frames_are : (k : ℕ) → with_sent Up old new lines f g k ≡ (if k == c % 8 then Some p.ticks.radio else g k)
    frames_are k = ap (λ (o : Option Radio). if k == c % 8 then o else g k) p.ticks.sent

frame_on : (planned : Planned) (old new : LinkState) (lines : List Line) (f : IsFrame old new lines) (i : ℕ) (g : ℕ → Option Radio) → IsPlanned planned → i < length (up_side planned).channels → Agree planned old → InRunning planned old → UpOn planned i g old → UpOn planned i (with_sent Up old new lines f g) new
frame_on planned old new lines f i g good inside a before on = λ some.
    let p : Parts planned old new lines f = parts planned old new lines f good a in
    let c : ℕ = old.rnc.state.cfn in
    let h : ℕ → Option Radio = with_sent Up old new lines f g in
    let more : 0 < ((c + 1) % 256) % frames_of planned i = subst (λ n. 0 < n % frames_of planned i) p.next_cfn some in
    subst (λ n. UpHalf planned i (new.ue.state.layer.given i) (λ c. c ≡ new.ue.state.layer.running) n h (n % frames_of planned i)) (sym p.next_cfn)
    (half_next (frames_of planned i) (UpLoaded planned i (new.ue.state.layer.given i)) (IsSentRadio planned Up (multiplexed planned) i) (λ c. c ≡ new.ue.state.layer.running) (KeepsFormats (up_side planned)) c h (good.good.uplink.side.channels i inside).frames
    (frame_half planned old new lines f i g good inside a before on) more)

between_on : (planned : Planned) (old new : LinkState) (i : ℕ) (g : ℕ → Option Radio) → Same old new → UpOn planned i g old → UpOn planned i g new
between_on planned old new i g r on = λ some.
    let n : ℕ = frames_of planned i in
    subst (λ c. UpHalf planned i (new.ue.state.layer.given i) (λ c. c ≡ new.ue.state.layer.running) c g (c % n)) (sym r.cfn)
    (subst (λ run. UpHalf planned i (new.ue.state.layer.given i) (λ c. c ≡ run) old.rnc.state.cfn g (old.rnc.state.cfn % n)) (sym r.ue_layer.running)
    (subst (λ (given : Given). UpHalf planned i given (λ c. c ≡ old.ue.state.layer.running) old.rnc.state.cfn g (old.rnc.state.cfn % n)) (sym (r.ue_layer.given i))
    (on (subst (λ c. 0 < c % n) r.cfn some))))

pub run_on : (planned : Planned) (events : List Event) (old new : LinkState) (lines : List Line) (run : Runs old events new lines) (i : ℕ) (g : ℕ → Option Radio) → IsPlanned planned → i < length (up_side planned).channels → Agree planned old → InRunning planned old
    → UpOn planned i g old → UpOn planned i (frames_sent Up events old new lines run g) new
run_on planned [] old new lines run i g good inside a before on = subst (UpOn planned i g) (sym run.0) on
run_on planned (Between event ∷ events) old new lines run i g good inside a before on =
    let same : Same old run.next = (between old run.next event run.own run.step).0 in
    run_on planned events run.next new run.rest run.later i g good inside (stays planned old run.next same a) (between_formats planned old run.next same before) (between_on planned old run.next i g same on)
run_on planned (Frame ∷ events) old new lines run i g good inside a before on =
    let f : IsFrame old run.next run.own = run.step.frame in
    run_on planned events run.next new run.rest run.later i (with_sent Up old run.next run.own f g) good inside (parts planned old run.next run.own f good a).agree (λ j within off. frame_formats planned old run.next run.own f good a before j within)
    (frame_on planned old run.next run.own f i g good inside a before on)
