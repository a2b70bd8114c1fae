-- What the Node B sends of a set whose TTI ends with radio frames that all arrived as they were sent, or with little
-- damage.
use Rattle.std.proofs.Common.{◌≡◌, ◌<◌, ◌+◌, ◌%◌, ◌∙◌, ◌++◌, ℕ, zero, suc, List, [], ◌∷◌, length, true, false, Option, Some, None, arith, refl, sym, ap, subst, inl, inr}
use Rattle.std.specs.Prelude.{◌==◌, ◌⊎◌}
use Rattle.dch_types.specs.declared.channel.Dir.TheVariants.{Up}
use Rattle.dch_types.specs.declared.channel.Side.{Side}
use Rattle.dch_types.specs.Limits.{IsFrames, IsSide}
use Rattle.dch_types.specs.Parts.{channel_at}
use Rattle.dch_types.specs.Timing.{ends, frames_among, set_frames, started, starts}
use Rattle.dch_accept.specs.HeldSets.{HeldSet, held_at}
use Rattle.dch_accept.specs.Plans.{IsPlanned, Planned}
use Rattle.dch_tti.specs.RxFrames.{RxFrames}
use Rattle.dch_tti.proofs.Sent.{sent_formats}
use Rattle.dch_ulphy.specs.Damaged.{WasDamaged}
use Rattle.dch_ulphy.specs.Frames.{multiplexed}
use Rattle.dch_ulphy.specs.Sent.{WasSent}
use Rattle.dch_ulphy.proofs.Damaged.{none_damaged}
use Rattle.dch_iub.specs.Forms.{IsWrittenForm}
use Rattle.dch_iub.specs.Shape.{ForSet}
use Rattle.dch_node.specs.Lines.{Line}
use Rattle.dch_node.specs.RxFrames.{AreHeard}
use Rattle.dch_node.specs.Values.{Radio}
use Rattle.dch_layer2.specs.Layers.{Given, Layer}
use Rattle.dch_layer2.specs.Joined.{CarriesGiven, joined_bits}
use Rattle.dch_linkcmd.specs.NodebSteps.{DeliversSet}
use Rattle.dch_linkcmd.proofs.Steady.{set_frames-member, starts-eighth, tells}
use Rattle.dch_linkcmd.specs.LinkLink.{LinkState}
use Rattle.dch_runlaw.proofs.UplinkSent.{uplink_damaged}
use Rattle.dch_runlaw.specs.Frames.{IsFrame}
use Rattle.dch_runlaw.specs.Runs.{Event, Frame, Runs, Steps}
use Rattle.dch_runlaw.specs.SizedLinks.{IsSized}
use Rattle.dch_runlaw.specs.Sized.{AreAllWhole}
use Rattle.dch_runlaw.specs.Parts.{Begins}
use Rattle.dch_runlaw.proofs.Begun.{Begun, begun, begun_agree}
use Rattle.dch_runlaw.proofs.RunningOver.{runs_on}
use Rattle.dch_runlaw.proofs.SizedRuns.{is_sized}
use Rattle.dch_runlaw.proofs.ClearSent.{heard_as}
use Rattle.dch_runlaw.proofs.ClearTtis.{over_or_on}
use Rattle.dch_runlaw.proofs.ClearUp.{KeepsFormats, UpHalf, UpLoaded, whole_sent}
use Rattle.dch_runlaw.specs.Intervals.{AreFewUp, AreGood, ArrivesDamaged, ArrivesUp, DifferLittle, InTti, MayComeDamaged, Tti, UpAsGiven, frames_come, frames_sent, tti_sent}
use Rattle.dch_runlaw.proofs.IntervalAgree.{Agree, Parts, parts, runs_agree}
use Rattle.dch_runlaw.proofs.IntervalCombinations.{finds_all}
use Rattle.dch_runlaw.proofs.IntervalCounting.{Watch, stayed, starts_zero}
use Rattle.dch_runlaw.proofs.IntervalDamaged.{all_damaged, come_tti, near_combinations, near_tti}
use Rattle.dch_runlaw.proofs.IntervalUp.{InRunning, frame_half, frames_of, run_formats, run_on, up_side, up_watch}

-- so after the last radio frame of a run each uplink channel has as many bits as its format
whole_last : (planned : Planned) (events : List Event) (old last new : LinkState) (lines own : List Line) → Runs old events last lines → Steps last Frame new own
    → ((all : List Line) (run : Runs old (events ++ (Frame ∷ [])) new all) → IsSized planned (events ++ (Frame ∷ [])) old new all run) → AreAllWhole (up_side planned) new.ue.state.layer
whole_last planned [] old last new lines own run step sized =
    let there : Steps old Frame new own = subst (λ (l : LinkState). Steps l Frame new own) run.0 step in
    (sized (own ++ []) (record { next = new; own = own; rest = []; step = there; later = (refl, refl); reported = refl })).0.2
whole_last planned (event ∷ events) old last new lines own run step sized =
    whole_last planned events run.next last new run.rest own run.later step (λ all later. (sized (run.own ++ all) (record { next = run.next; own = run.own; rest = all; step = run.step; later = later; reported = refl })).1)

-- the radio frames of a set's TTI are those of a channel's, if there is one
among_frames : (side : Side) (set n : ℕ) → ((i : ℕ) → i < n → IsFrames (channel_at side i).frames) → (frames_among side set n ≡ 0) ⊎ IsFrames (frames_among side set n)
among_frames side set zero each = inl refl
among_frames side set (suc i) each = elim (tells ((channel_at side i).set == set)) [
  | inl own ↦ (
      let is : frames_among side set (suc i) ≡ (channel_at side i).frames = rw own.0 refl in
      inr (subst IsFrames (sym is) (each i (omega arith))))
  | inr other ↦ (
      let is : frames_among side set (suc i) ≡ frames_among side set i = rw other.0 refl in
      subst (λ n. (n ≡ 0) ⊎ IsFrames n) (sym is) (among_frames side set i (λ j early. each j (omega (arith, early)))))
]

set_is : (side : Side) (set cfn : ℕ) → IsSide side → starts (set_frames side set) cfn ≡ true → IsFrames (set_frames side set)
set_is side set cfn good on = elim (among_frames side set (length side.channels) (λ i inside. (good.channels i inside).frames)) [
  | inl none ↦ (
      let off : starts (set_frames side set) cfn ≡ false = ap (λ n. starts n cfn) none in
      absurd (let both : false ≡ true = sym off ∙ on in cc))
  | inr is ↦ is
]

set_same : (side : Side) (set i : ℕ) → IsSide side → i < length side.channels → (channel_at side i).set ≡ set → set_frames side set ≡ (channel_at side i).frames
set_same side set i good inside member = ap (set_frames side) (sym member) ∙ set_frames-member side i good inside

-- the Iub frame of a set with the blocks that layer 2 of the terminal gave to its channels, all good, and the CFN at
-- which the TTI started
pub record SetUp (planned : Planned) (layer : Layer) (set cfn : ℕ) (iub : Option (List ℕ)) : Type 0 where
  pub octets : List ℕ
  pub sent : iub ≡ Some octets
  pub held : HeldSet
  pub written : IsWrittenForm planned.config Up set octets (started (set_frames (up_side planned) set) cfn) planned.config.qe held
  pub carries : ForSet (up_side planned) set (λ i. CarriesGiven (layer.given i) (held_at held.blocks i))
  pub good : ForSet (up_side planned) set (λ i. AreGood (held_at held.blocks i))

-- whoever reads the radio frames that came finds in each channel of a set what layer 2 of the terminal gave to it, with
-- few cells changed
abbrev pub AreReadable : Planned → ℕ → Layer → ℕ → (ℕ → Option Radio) → Type 0
AreReadable planned set layer cfn come =
    (reader : RxFrames) → AreHeard planned Up cfn come reader → ForSet (up_side planned) set (λ i. WasDamaged planned reader i (layer.given i).format (joined_bits (layer.given i).blocks))

pub set_up : (planned : Planned) (reader : RxFrames) (layer : Layer) (set : ℕ) (lines : List Line) (iub : Option (List ℕ)) → IsPlanned planned → ends (set_frames (up_side planned) set) reader.cfn ≡ true
    → ForSet (up_side planned) set (λ i. WasDamaged planned reader i (layer.given i).format (joined_bits (layer.given i).blocks)) → DeliversSet planned reader set lines iub → SetUp planned layer set reader.cfn iub
set_up planned reader layer set lines iub good over were (inl waits) = absurd (let both : false ≡ true = sym waits.on ∙ over in cc)
set_up planned reader layer set lines iub good over were (inr (inl lost)) =
    let i : ℕ = lost.channel in
    absurd ((uplink_damaged planned reader i (layer.given i).format (joined_bits (layer.given i).blocks) good lost.is.inside (were i lost.is.inside lost.is.member)).good lost.frame lost.is.bad)
set_up planned reader layer set lines iub good over were (inr (inr up)) = record {
  octets = up.octets;
  sent = up.sent;
  held = up.held;
  written = up.written;
  carries = λ i inside member.
      let sent = uplink_damaged planned reader i (layer.given i).format (joined_bits (layer.given i).blocks) good inside (were i inside member) in
      record { format = sent.number (held_at up.held.blocks i) (up.read i inside member); bits = (sent.arrives (held_at up.held.blocks i) (up.read i inside member)).same };
  good = λ i inside member. ((uplink_damaged planned reader i (layer.given i).format (joined_bits (layer.given i).blocks) good inside (were i inside member)).arrives (held_at up.held.blocks i) (up.read i inside member)).good;
}

-- all radio frames of a TTI of each channel of a set were sent, and its blocks have their format
pub record SetSent (planned : Planned) (set : ℕ) (layer : Layer) (cfn : ℕ) (sent : ℕ → Option Radio) : Type 0 where
  pub halves : ForSet (up_side planned) set (λ i. UpHalf planned i (layer.given i) (λ c. c ≡ layer.running) cfn sent (cfn % frames_of planned i + 1))
  pub ends : ForSet (up_side planned) set (λ i. cfn % frames_of planned i + 1 ≡ frames_of planned i)
  pub wholes : AreAllWhole (up_side planned) layer

was_sent : (planned : Planned) (set : ℕ) (layer : Layer) (cfn : ℕ) (sent : ℕ → Option Radio) (reader : RxFrames) → IsPlanned planned → SetSent planned set layer cfn sent → AreHeard planned Up cfn sent reader
    → ForSet (up_side planned) set (λ i. WasSent planned reader i (layer.given i).format (joined_bits (layer.given i).blocks))
was_sent planned set layer cfn sent reader good all heard = λ i inside member.
    whole_sent planned i cfn (cfn % frames_of planned i + 1) (layer.given i) (λ c. c ≡ layer.running) sent reader good inside heard (all.halves i inside member) (all.ends i inside member) (all.wholes i inside)

-- they came as they were sent
pub same_readable : (planned : Planned) (set : ℕ) (layer : Layer) (cfn : ℕ) (sent come : ℕ → Option Radio) → IsPlanned planned → SetSent planned set layer cfn sent → ((k : ℕ) → come k ≡ sent k) → AreReadable planned set layer cfn come
same_readable planned set layer cfn sent come good all same = λ reader heard i inside member.
    none_damaged planned reader i (layer.given i).format (joined_bits (layer.given i).blocks) good inside
    (was_sent planned set layer cfn sent reader good all (heard_as planned Up cfn cfn come sent reader refl (λ k. sym (same k)) heard) i inside member)

-- or with little damage
pub near_readable : (planned : Planned) (set : ℕ) (layer : Layer) (cfn : ℕ) (sent come : ℕ → Option Radio) → IsPlanned planned → SetSent planned set layer cfn sent → ((k : ℕ) → MayComeDamaged (sent k) (come k))
    → DifferLittle planned Up cfn (AreFewUp planned set) sent come → AreReadable planned set layer cfn come
near_readable planned set layer cfn sent come good all near differ = λ reader heard i inside member.
    let format : ℕ = (layer.given i).format in
    let was : WasSent planned differ.sent i format (joined_bits (layer.given i).blocks) = was_sent planned set layer cfn sent differ.sent good all differ.heard i inside member in
    record {
      sent = differ.sent;
      was = was;
      combinations = near_combinations planned Up (multiplexed planned) i cfn (cfn % frames_of planned i + 1) (UpLoaded planned i (layer.given i)) (λ c. c ≡ layer.running) (KeepsFormats (up_side planned)) sent come differ.sent reader good.good.uplink.side.few_combinations differ.heard heard
          near (all.halves i inside member) (all.ends i inside member);
      few = differ.few reader heard i inside member format was.sequence (sent_formats planned Up (multiplexed planned) differ.sent i format was.sequence was.sent.loaded was.sent.frames was.sent.from.format inside) (λ n below. (was.sent.frames n below).found);
    }

-- a value that never changes
abbrev no_watch : (planned : Planned) (frames : ℕ) → Watch planned frames ℕ
no_watch planned frames = record { value = λ link. 0; frame_value = λ old new lines f. 0; same = λ old new r. refl; after = λ old new lines f a. refl; before = λ old new lines f a off. refl }

begun_formats : (planned : Planned) (start : LinkState) → IsPlanned planned → start.rnc.state.cfn % 8 ≡ 0 → InRunning planned start
begun_formats planned start good eighth = λ j inside off.
    absurd (let both : false ≡ true = sym off ∙ starts-eighth (frames_of planned j) start.rnc.state.cfn (good.good.uplink.side.channels j inside).frames eighth in cc)

pub up_interval : (planned : Planned) (set : ℕ) (events : List Event) (start mid new : LinkState) (lines : List Line) → IsPlanned planned → Begins planned start → start.rnc.state.cfn % 8 ≡ 0 → Runs start events mid lines → set < 8
    → (t : Tti (set_frames planned.config.uplink.side set) mid new) → ArrivesUp planned set (set_frames planned.config.uplink.side set) mid new t → UpAsGiven planned set (set_frames planned.config.uplink.side set) mid new t
up_interval planned set events start mid new lines good begins eighth run small t arrive = record {
  given = λ i. new.ue.state.layer.given i;
  stays = λ i inside member. (stayed planned frames Given (up_watch planned i frames good (same i inside member)) mid new t good is a).inside;
  combinations = finds_all planned Up frames mid new t good a is near;
  octets = done.octets;
  sent = done.sent;
  held = done.held;
  written = subst (λ c. IsWrittenForm planned.config Up set done.octets (started frames c) planned.config.qe done.held) rx_cfn done.written;
  carries = done.carries;
  good = done.good;
}
  where
    side : Side
    side = up_side planned

    frames : ℕ
    frames = set_frames planned.config.uplink.side set

    is : IsFrames frames
    is = set_is side set mid.rnc.state.cfn good.good.uplink.side t.at_start

    same : (i : ℕ) → i < length side.channels → (channel_at side i).set ≡ set → frames ≡ frames_of planned i
    same i inside member = set_same side set i good.good.uplink.side inside member

    at_start : Begun planned start
    at_start = begun planned start good begins

    first : Agree planned start
    first = begun_agree planned start good at_start

    a : Agree planned mid
    a = runs_agree planned events start mid lines run good first

    b : Agree planned t.last
    b = runs_agree planned t.events mid t.last t.lines t.run good a

    f : IsFrame t.last new t.last_lines
    f = t.step.frame

    p : Parts planned t.last new t.last_lines f
    p = parts planned t.last new t.last_lines f good b

    c : ℕ
    c = t.last.rnc.state.cfn

    rx_cfn : p.receives.rx_frames.cfn ≡ c
    rx_cfn = p.receives.kept.last ∙ p.node_b_cfn

    formats : InRunning planned mid
    formats = run_formats planned events start mid lines run good first (begun_formats planned start good eighth)

    last_formats : InRunning planned t.last
    last_formats = run_formats planned t.events mid t.last t.lines t.run good a formats

    at_end : c % frames + 1 ≡ frames
    at_end = (stayed planned frames ℕ (no_watch planned frames) mid new t good is a).at_end

    over : ends frames c ≡ true
    over = elim (over_or_on frames c is) [
      | inl done ↦ done.2
      | inr more ↦ absurd (omega (arith, more.0, at_end))
    ]

    wholes : AreAllWhole side new.ue.state.layer
    wholes =
        whole_last planned (events ++ t.events) start t.last new (lines ++ t.lines) t.last_lines (runs_on events t.events start mid t.last lines t.lines run t.run) t.step
        (λ all whole. is_sized planned ((events ++ t.events) ++ (Frame ∷ [])) start new all whole good at_start.both)

    near : InTti (ArrivesDamaged Up) frames mid new t
    near = elim arrive [
      | inl arrives ↦ all_damaged Up frames mid new t arrives
      | inr little ↦ little.arrive
    ]

    heard : AreHeard planned Up c (frames_come Up new) p.receives.rx_frames
    heard = heard_as planned Up f.node_b.cfn c new.node_b.state.frames new.node_b.state.frames p.receives.rx_frames p.node_b_cfn (λ k. refl) p.receives.kept

    half : (g : ℕ → Option Radio) (i : ℕ) → i < length side.channels → (channel_at side i).set ≡ set → UpHalf planned i (new.ue.state.layer.given i) (λ c. c ≡ new.ue.state.layer.running) c (tti_sent Up frames mid new t g) (c % frames_of planned i + 1)
    half g i inside member =
        frame_half planned t.last new t.last_lines f i (frames_sent Up t.events mid t.last t.lines t.run g) good inside b last_formats
        (run_on planned t.events mid t.last t.lines t.run i g good inside a formats
        (λ some. absurd (omega (arith, some, subst (λ n. mid.rnc.state.cfn % n ≡ 0) (same i inside member) (starts_zero frames mid.rnc.state.cfn is t.at_start)))))

    whole : (i : ℕ) → i < length side.channels → (channel_at side i).set ≡ set → c % frames_of planned i + 1 ≡ frames_of planned i
    whole i inside member = subst (λ n. c % n + 1 ≡ n) (same i inside member) at_end

    all : (g : ℕ → Option Radio) → SetSent planned set new.ue.state.layer c (tti_sent Up frames mid new t g)
    all g = record { halves = half g; ends = whole; wholes = wholes }

    readable : AreReadable planned set new.ue.state.layer c (frames_come Up new)
    readable = elim arrive [
      | inl arrives ↦
          same_readable planned set new.ue.state.layer c (tti_sent Up frames mid new t (frames_come Up mid)) (frames_come Up new) good (all (frames_come Up mid)) (come_tti planned Up frames mid new t good a arrives)
      | inr little ↦
          near_readable planned set new.ue.state.layer c (tti_sent Up frames mid new t (λ k. None)) (frames_come Up new) good (all (λ k. None)) (near_tti planned Up frames mid new t good a near) little.differ
    ]

    done : SetUp planned new.ue.state.layer set p.receives.rx_frames.cfn (f.up_output.iub set)
    done = set_up planned p.receives.rx_frames new.ue.state.layer set (p.receives.lines set) (f.up_output.iub set) good (ap (ends frames) rx_cfn ∙ over) (readable p.receives.rx_frames heard) (p.receives.sets set small)
