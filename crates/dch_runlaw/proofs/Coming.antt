-- The uplink radio frames of a TTI that the terminal sent to a leg, and those that came to it.
use Rattle.std.proofs.Common.{◌≡◌, ◌<◌, ◌+◌, ◌%◌, ◌∙◌, ℕ, length, false, Option, Some, arith, refl, sym, ap, subst}
use Rattle.std.specs.Prelude.{◌==◌, if◌then◌else◌}
use Rattle.dch_types.specs.declared.channel.Dir.TheVariants.{Up}
use Rattle.dch_types.specs.Limits.{IsFrames}
use Rattle.dch_types.specs.Parts.{format_number}
use Rattle.dch_types.specs.Timing.{starts}
use Rattle.dch_accept.specs.Plans.{IsPlanned, Planned}
use Rattle.dch_tti.specs.Loaded.{Loaded, loaded_at}
use Rattle.dch_ulphy.specs.Frames.{multiplexed}
use Rattle.dch_ulphy.proofs.One.{loaded_one}
use Rattle.dch_damage.specs.Damage.{radio_after}
use Rattle.dch_node.specs.Values.{Radio}
use Rattle.dch_layer2.specs.Layers.{Given}
use Rattle.dch_layer2.specs.Joined.{joined_bits}
use Rattle.dch_linkcmd.specs.NodebState.{State as NodeBState}
use Rattle.dch_linkcmd.specs.UeState.{Event as UeEvent, State as UeState}
use Rattle.dch_linkcmd.specs.UeSteps.{IsRadioFrame}
use Rattle.dch_linkcmd.specs.Courses.{Course}
use Rattle.dch_linkcmd.specs.LinkSoft.{SoftState, framed}
use Rattle.dch_runlaw.proofs.ClearKept.{start_same}
use Rattle.dch_runlaw.proofs.ClearSent.{IsSentRadio}
use Rattle.dch_runlaw.proofs.ClearTtis.{Half, half_more, half_next, some_frames, starts_off}
use Rattle.dch_runlaw.proofs.ClearUp.{KeepsFormats, UpHalf, UpLoaded}
use Rattle.dch_runlaw.proofs.ClearUpFrame.{start_inside}
use Rattle.dch_runlaw.proofs.Agreeing.{Agree, IsLate, Receives, Ticks, frames_of, up_side}
use Rattle.dch_runlaw.proofs.Changes.{Stays}
use Rattle.dch_runlaw.proofs.Phases.{Before, Middle, Over, Phase, Sent, Taken}

-- the first radio frames of a TTI of channel i that were sent, given its blocks, the combination that runs, the CFN and the
-- radio frames: those before that of the CFN, and then that one, too
abbrev pub HalfOf : Planned → ℕ → Phase → Given → ℕ → ℕ → (ℕ → Option Radio) → Type 0
HalfOf planned i Before given running cfn frames = 0 < cfn % frames_of planned i → UpHalf planned i given (λ c. c ≡ running) cfn frames (cfn % frames_of planned i)
HalfOf planned i Middle given running cfn frames = 0 < cfn % frames_of planned i → UpHalf planned i given (λ c. KeepsFormats (up_side planned) (cfn % frames_of planned i) c running) cfn frames (cfn % frames_of planned i)
HalfOf planned i Sent given running cfn frames = UpHalf planned i given (λ c. c ≡ running) cfn frames (cfn % frames_of planned i + 1)
HalfOf planned i Taken given running cfn frames = UpHalf planned i given (λ c. c ≡ running) cfn frames (cfn % frames_of planned i + 1)
HalfOf planned i Over given running cfn frames = UpHalf planned i given (λ c. c ≡ running) cfn frames (cfn % frames_of planned i + 1)

abbrev pub HalfIn : Planned → ℕ → Phase → (ℕ → Option Radio) → SoftState → Type 0
HalfIn planned i phase frames soft = HalfOf planned i phase (soft.ue.state.layer.given i) soft.ue.state.layer.running soft.cfn frames

half_moves : (planned : Planned) (i : ℕ) (phase : Phase) (given given' : Given) (running running' cfn cfn' : ℕ) (frames : ℕ → Option Radio) → given' ≡ given → running' ≡ running → cfn' ≡ cfn
    → HalfOf planned i phase given running cfn frames → HalfOf planned i phase given' running' cfn' frames
half_moves planned i phase given given' running running' cfn cfn' frames e f g half =
    subst (λ (x : Given). HalfOf planned i phase x running' cfn' frames) (sym e)
    (subst (λ (x : ℕ). HalfOf planned i phase given x cfn' frames) (sym f)
    (subst (λ (x : ℕ). HalfOf planned i phase given running x frames) (sym g) half))

pub half_stays : (planned : Planned) (k i : ℕ) (phase : Phase) (frames : ℕ → Option Radio) (old new : SoftState) → Stays k old new → HalfIn planned i phase frames old → HalfIn planned i phase frames new
half_stays planned k i phase frames old new r half =
    half_moves planned i phase (old.ue.state.layer.given i) (new.ue.state.layer.given i) old.ue.state.layer.running new.ue.state.layer.running old.cfn new.cfn frames
    (r.ue_layer.given i) r.ue_layer.running r.cfn half

-- the same in each phase in which the radio frame has come
half_sent : (planned : Planned) (i : ℕ) (phase : Phase) (given : Given) (running cfn : ℕ) (frames : ℕ → Option Radio) → IsLate phase → HalfOf planned i phase given running cfn frames → HalfOf planned i Sent given running cfn frames
half_sent planned i Before given running cfn frames late half = absurd late
half_sent planned i Middle given running cfn frames late half = absurd late
half_sent planned i Sent given running cfn frames late half = half
half_sent planned i Taken given running cfn frames late half = half
half_sent planned i Over given running cfn frames late half = half

half_late : (planned : Planned) (i : ℕ) (phase : Phase) (given : Given) (running cfn : ℕ) (frames : ℕ → Option Radio) → IsLate phase → HalfOf planned i Sent given running cfn frames → HalfOf planned i phase given running cfn frames
half_late planned i Before given running cfn frames late half = absurd late
half_late planned i Middle given running cfn frames late half = absurd late
half_late planned i Sent given running cfn frames late half = half
half_late planned i Taken given running cfn frames late half = half
half_late planned i Over given running cfn frames late half = half

pub half_goes_on : (planned : Planned) (k i : ℕ) (p q : Phase) (frames : ℕ → Option Radio) (old new : SoftState) → IsLate p → IsLate q → Stays k old new → HalfIn planned i p frames old → HalfIn planned i q frames new
half_goes_on planned k i p q frames old new is are r half =
    half_late planned i q (new.ue.state.layer.given i) new.ue.state.layer.running new.cfn frames are
    (half_stays planned k i Sent frames old new r (half_sent planned i p (old.ue.state.layer.given i) old.ue.state.layer.running old.cfn frames is half))

-- less is known of the last combination
weaken : (f : ℕ) (L : Loaded → Type 0) (S : ℕ → ℕ → Loaded → Radio → Type 0) (R R' : ℕ → Type 0) (K : ℕ → ℕ → ℕ → Type 0) (cfn : ℕ) (frames : ℕ → Option Radio) (count : ℕ) → ((c : ℕ) → R c → R' c) → Half f L S R K cfn frames count → Half f L S R' K cfn frames count
weaken f L S R R' K cfn frames count follows half = record {
  loaded = half.loaded;
  from = half.from;
  sequence = half.sequence;
  sent = half.sent;
  last = λ m e. follows (half.sequence m) (half.last m e);
  steps = half.steps;
}

pub frames_are : (planned : Planned) (i : ℕ) → IsPlanned planned → i < length (up_side planned).channels → IsFrames (frames_of planned i)
frames_are planned i good inside = (good.good.uplink.side.channels i inside).frames

-- a channel whose TTI goes on keeps what it was given where 10 ms pass at the terminal
pub tick_same : (planned : Planned) (i : ℕ) (old new : SoftState) → IsPlanned planned → i < length (up_side planned).channels → Ticks planned old new → 0 < old.cfn % frames_of planned i → new.ue.state.layer.given i ≡ old.ue.state.layer.given i
tick_same planned i old new good inside t some =
    let f : ℕ = frames_of planned i in
    let off : starts f old.cfn ≡ false = starts_off f old.cfn (some_frames f (frames_are planned i good inside)) (λ e. omega (arith, e, some)) in
    start_same planned.config Up old.cfn t.mid new.ue.state.layer i t.start off ∙ t.given i

pub half_tick : (planned : Planned) (i : ℕ) (frames : ℕ → Option Radio) (old new : SoftState) → IsPlanned planned → i < length (up_side planned).channels → Ticks planned old new → HalfIn planned i Before frames old → HalfIn planned i Middle frames new
half_tick planned i frames old new good inside t half =
    half_moves planned i Middle (new.ue.state.layer.given i) (new.ue.state.layer.given i) new.ue.state.layer.running new.ue.state.layer.running c new.cfn frames
    refl refl t.cfn here
  where
    c : ℕ
    c = old.cfn

    here : HalfOf planned i Middle (new.ue.state.layer.given i) new.ue.state.layer.running c frames
    here some = subst (λ (g : Given). UpHalf planned i g (λ d. KeepsFormats (up_side planned) (c % frames_of planned i) d new.ue.state.layer.running) c frames (c % frames_of planned i)) (sym (tick_same planned i old new good inside t some))
        (weaken (frames_of planned i) (UpLoaded planned i (old.ue.state.layer.given i)) (IsSentRadio planned Up (multiplexed planned) i) (λ d. d ≡ old.ue.state.layer.running) (λ d. KeepsFormats (up_side planned) (c % frames_of planned i) d new.ue.state.layer.running) (KeepsFormats (up_side planned)) c frames (c % frames_of planned i)
        (λ d ran j within ne.
        ap (λ r. format_number (up_side planned) r j) (ran ∙ sym t.running)
        ∙ sym (t.start.best.candidate.kept j within (starts_off (frames_of planned j) c (some_frames (frames_of planned j) (frames_are planned j good within)) (start_inside (frames_of planned i) (frames_of planned j) c (frames_are planned i good inside) (frames_are planned j good within) some ne))))
        (half some))

-- one radio frame more was sent
pub half_radio : (planned : Planned) (legs k i : ℕ) (frames : ℕ → Option Radio) (old new : SoftState) → IsPlanned planned → i < length (up_side planned).channels → Receives planned k old new → Agree planned legs k Middle old
    → HalfIn planned i Middle frames old → HalfIn planned i Sent (λ n. if n == old.cfn % 8 then old.ue.last.sent else frames n) new
half_radio planned legs k i frames old new good inside r a half =
    half_moves planned i Sent (old.ue.state.layer.given i) (new.ue.state.layer.given i) running new.ue.state.layer.running c new.cfn (λ n. if n == c % 8 then old.ue.last.sent else frames n)
    (ap (λ (u : Course UeState UeEvent). u.state.layer.given i) r.change.ue) (ap (λ (u : Course UeState UeEvent). u.state.layer.running) r.change.ue) r.change.cfn
    (half_more (frames_of planned i) (UpLoaded planned i given) (IsSentRadio planned Up (multiplexed planned) i) (λ d. KeepsFormats (up_side planned) (c % frames_of planned i) d running) (λ d. d ≡ running) (KeepsFormats (up_side planned)) c
    frames (λ n. if n == c % 8 then old.ue.last.sent else frames n) a.air.radio running (loaded_at written.tti i)
    (frames_are planned i good inside)
    (loaded_one planned i given.format (joined_bits given.blocks))
    kept
    (written.loaded i inside)
    (record {
      tti = written.tti;
      cfn = c;
      frame = written.frame;
      formats = λ j within. (written.loaded j within).format ∙ ap (λ n. Some n) (a.air.formats j within);
      listed = a.air.listed;
      holds = refl;
      number = refl;
      written = written.written;
      tfci = written.tfci;
      cells = written.cells;
    })
    refl
    (λ some d keeps. keeps)
    half)
  where
    c : ℕ
    c = old.cfn

    given : Given
    given = old.ue.state.layer.given i

    running : ℕ
    running = old.ue.state.layer.running

    written : IsRadioFrame planned old.cfn old.ue.state.layer a.air.radio
    written = a.air.written

    kept : (n : ℕ) → (if n == c % 8 then old.ue.last.sent else frames n) ≡ (if n == c % 8 then Some a.air.radio else frames n)
    kept n = ap (λ (o : Option Radio). if n == c % 8 then o else frames n) a.air.sent

-- and one more has come
pub came_next : (planned : Planned) (legs k : ℕ) (old new : SoftState) → Receives planned k old new → Agree planned legs k Middle old → (n : ℕ) → (new.legs k).node_b.state.frames n ≡ (if n == old.cfn % 8 then radio_after (old.legs k).damage Up old.ue.last.sent else (old.legs k).node_b.state.frames n)
came_next planned legs k old new r a n =
    ap (λ (s : NodeBState). s.frames n) r.step.state
    ∙ ap (λ m. if n == m % 8 then radio_after (old.legs k).damage Up old.ue.last.sent else (old.legs k).node_b.state.frames n) a.node_b_cfn

-- the end of a radio frame
pub half_framed : (planned : Planned) (i : ℕ) (frames : ℕ → Option Radio) (soft : SoftState) → IsPlanned planned → i < length (up_side planned).channels → HalfIn planned i Over frames soft → HalfIn planned i Before frames (framed soft)
half_framed planned i frames soft good inside half = λ some.
    half_next (frames_of planned i) (UpLoaded planned i (soft.ue.state.layer.given i)) (IsSentRadio planned Up (multiplexed planned) i) (λ c. c ≡ soft.ue.state.layer.running) (KeepsFormats (up_side planned)) soft.cfn frames (frames_are planned i good inside) half some
