-- What a leg delivers of a TTI whose radio frames all came, and what is taken of it.
use Rattle.std.proofs.Common.{◌≡◌, ◌≢◌, ◌<◌, ◌+◌, ◌%◌, ◌∙◌, ℕ, List, [], ◌∷◌, length, Bool, true, false, Option, Some, None, arith, refl, sym, ap, subst, inl, inr}
use Rattle.std.specs.Prelude.{◌==◌, ◌&&◌, IsTrue, if◌then◌else◌, slice_index_or}
use Rattle.std.proofs.lemmas.Bool.{cases_order, eq-eqb, ne_eqb}
use Rattle.dch_types.specs.declared.channel.Dir.TheVariants.{Up}
use Rattle.dch_types.specs.declared.config.Config.{Config}
use Rattle.dch_types.specs.Parts.{channel_at}
use Rattle.dch_types.specs.Timing.{ends, set_frames, started}
use Rattle.dch_accept.specs.HeldSets.{HasFormat, HeldSet, held_at}
use Rattle.dch_accept.specs.Plans.{IsPlanned, Planned}
use Rattle.dch_tti.specs.RxFrames.{RxFrames}
use Rattle.dch_iub.specs.Back.{IsReadBack}
use Rattle.dch_iub.specs.Forms.{IsReadForm}
use Rattle.dch_iub.specs.Shape.{ForSet}
use Rattle.dch_iub.proofs.Back.{one_reading}
use Rattle.dch_iub.proofs.Refused.{no_form}
use Rattle.dch_combine.specs.declared.error.CombineError.{CombineError}
use Rattle.dch_combine.specs.declared.error.CombineError.TheVariants.{Cfn, Frame}
use Rattle.dch_combine.specs.Legs.{LegFrame}
use Rattle.dch_combine.specs.Taken.{IsRefusal}
use Rattle.dch_damage.specs.Damage.{radio_after}
use Rattle.dch_node.specs.Lines.{Line}
use Rattle.dch_node.specs.RxFrames.{AreHeard}
use Rattle.dch_node.specs.Values.{Radio}
use Rattle.dch_layer2.specs.Layers.{Layer}
use Rattle.dch_layer2.specs.Joined.{CarriesGiven}
use Rattle.dch_linkcmd.proofs.Steady.{set_frames-member}
use Rattle.dch_linkcmd.specs.RncState.{Tick as RncTicks}
use Rattle.dch_linkcmd.specs.UeState.{Event as UeEvent, State as UeState}
use Rattle.dch_linkcmd.specs.Courses.{Course}
use Rattle.dch_linkcmd.specs.LinkLegs.{LegState, ReceivesRadio, iub_from}
use Rattle.dch_linkcmd.specs.SoftPassing.{next_stage}
use Rattle.dch_linkcmd.specs.LinkSoft.{SoftState, active, framed, over, uplink_of}
use Rattle.dch_linkcmd.specs.SoftStages.{AtLeg, AtStage, MayTake, TakesFrame, WhereOver}
use Rattle.dch_linkcmd.specs.soft_stage.Stage.{Stage}
use Rattle.dch_linkcmd.specs.soft_stage.Stage.TheVariants.{RncTick, IubDown, RadioDown, UeTick, RadioUp, IubUp, Combine}
use Rattle.dch_runlaw.specs.Intervals.{AreGood}
use Rattle.dch_node.proofs.IubFrames.{same_bits}
use Rattle.dch_runlaw.proofs.ClearSent.{heard_as}
use Rattle.dch_runlaw.proofs.ClearTtis.{over_or_on}
use Rattle.dch_runlaw.proofs.IntervalSets.{AreReadable, SetUp, set_up}
use Rattle.dch_runlaw.specs.Legs.{GetsSo, frames_sent, with_sent}
use Rattle.dch_runlaw.specs.SoftRuns.{Between, HappensBetween, Move, Next, Passes, Point, Runs, behind}
use Rattle.dch_runlaw.specs.Ttis.{InStages}
use Rattle.dch_runlaw.proofs.Agreeing.{Agree, AgreeAt, Receives, Ticks, agree_event, agree_next, at_rest, combine_late, frames_of, iub_late, radio_early, radio_late, radio_own, receives_in, ticks_in, up_side}
use Rattle.dch_runlaw.proofs.Changes.{IsFrameChange, IsLegChange, IsSetChange, Stays, between_stays, frame_stays, iub_down_stays, leg_change, other_leg_stays, radio_down_stays, rnc_goes_stays, set_change, set_stays, up_change}
use Rattle.dch_runlaw.proofs.Coming.{HalfIn, came_next, frames_are, half_framed, half_goes_on, half_radio, half_stays, half_tick}
use Rattle.dch_runlaw.proofs.Phases.{Before, InPoint, Middle, Over, Phase, Sent, Taken, exit_of, lt_no, lt_yes, next_holds, phase_of}

-- a frame of a leg with these blocks was taken
pub record HasFrame (planned : Planned) (set : ℕ) (layer : Layer) (taken : Option LegFrame) : Type 0 where
  pub frame : LegFrame
  pub is : taken ≡ Some frame
  pub whole : ForSet (up_side planned) set (λ i. HasFormat (channel_at (up_side planned) i) (held_at frame.held.blocks i))
  pub carries : ForSet (up_side planned) set (λ i. CarriesGiven (layer.given i) (held_at frame.held.blocks i))
  pub good : ForSet (up_side planned) set (λ i. AreGood (held_at frame.held.blocks i))

-- where the TTI of a set ends
abbrev pub Ends : Planned → ℕ → ℕ → Type 0
Ends planned set cfn = ends (set_frames (up_side planned) set) cfn ≡ true

-- what leg k's Node B sends of a set, and what was taken of it, where its radio frames can be read
abbrev pub SendsSet : Planned → ℕ → Course UeState UeEvent → ℕ → LegState → Type 0
SendsSet planned set ue cfn leg = Ends planned set cfn → AreReadable planned set ue.state.layer cfn leg.node_b.state.frames → SetUp planned ue.state.layer set cfn (leg.node_b.last.iub set)

abbrev pub IsSetTaken : Planned → ℕ → Course UeState UeEvent → ℕ → LegState → Option LegFrame → Type 0
IsSetTaken planned set ue cfn leg taken = Ends planned set cfn → AreReadable planned set ue.state.layer cfn leg.node_b.state.frames → HasFrame planned set ue.state.layer taken

abbrev pub UpIn : Planned → ℕ → ℕ → Phase → SoftState → Type 0
UpIn planned k set Before soft = Unit {0}
UpIn planned k set Middle soft = Unit {0}
UpIn planned k set Sent soft = SendsSet planned set soft.ue soft.cfn (soft.legs k)
UpIn planned k set Taken soft = IsSetTaken planned set soft.ue soft.cfn (soft.legs k) (soft.frames set k)
UpIn planned k set Over soft = Unit {0}

-- the uplink of a set at leg k, where these radio frames were sent, and have come in some way
pub record Came (planned : Planned) (Comes : Option Radio → Option Radio → Type 0) (k set : ℕ) (sent : ℕ → Option Radio) (phase : Phase) (soft : SoftState) : Type 0 where
  pub halves : ForSet (up_side planned) set (λ i. HalfIn planned i phase sent soft)
  pub come : (n : ℕ) → Comes (sent n) ((soft.legs k).node_b.state.frames n)
  pub up : UpIn planned k set phase soft

-- where the TTI of a set ends, that of each of its channels does
pub last_frame : (planned : Planned) (set cfn i : ℕ) → IsPlanned planned → i < length (up_side planned).channels → (channel_at (up_side planned) i).set ≡ set → Ends planned set cfn → cfn % frames_of planned i + 1 ≡ frames_of planned i
last_frame planned set cfn i good inside member over =
    let own : ends (frames_of planned i) cfn ≡ true = ap (λ n. ends n cfn) (sym (ap (set_frames (up_side planned)) (sym member) ∙ set_frames-member (up_side planned) i good.good.uplink.side inside)) ∙ over in
    elim (over_or_on (frames_of planned i) cfn (frames_are planned i good inside)) [
      | inl done ↦ done.0
      | inr more ↦ absurd (let both : false ≡ true = sym more.1 ∙ own in cc)
    ]

-- the uplink radio frame comes to the Node B of leg k
radio_delivers : (planned : Planned) (legs k set : ℕ) (old new : SoftState) → IsPlanned planned → set < 8 → Receives planned k old new → Agree planned legs k Middle old → UpIn planned k set Sent new
radio_delivers planned legs k set old new good small r a = λ over readable.
    let c : ℕ = new.cfn in
    let reader : RxFrames = r.step.rx_frames in
    let here : (old.legs k).node_b.state.cfn ≡ c = a.node_b_cfn ∙ sym r.change.cfn in
    let heard : AreHeard planned Up c (new.legs k).node_b.state.frames reader = heard_as planned Up (old.legs k).node_b.state.cfn c (new.legs k).node_b.state.frames (new.legs k).node_b.state.frames reader here (λ n. refl) r.step.kept in
    let rx_cfn : reader.cfn ≡ c = r.step.kept.last ∙ here in
    let layer : Layer = new.ue.state.layer in
    subst (λ n. SetUp planned layer set n ((new.legs k).node_b.last.iub set)) rx_cfn
    (set_up planned reader layer set (r.step.lines set) ((new.legs k).node_b.last.iub set) good (ap (ends (set_frames (up_side planned) set)) rx_cfn ∙ over) (readable reader heard) (r.step.sets set small))

-- what leaves the terminal, the leg and the frame that was taken leaves this
delivers_same : (planned : Planned) (k set : ℕ) (old new : SoftState) → new.ue ≡ old.ue → new.cfn ≡ old.cfn → new.legs k ≡ old.legs k → UpIn planned k set Sent old → UpIn planned k set Sent new
delivers_same planned k set old new ue cfn leg up =
    subst (λ (u : Course UeState UeEvent). SendsSet planned set u new.cfn (new.legs k)) (sym ue)
    (subst (λ n. SendsSet planned set old.ue n (new.legs k)) (sym cfn)
    (subst (λ (l : LegState). SendsSet planned set old.ue old.cfn l) (sym leg) up))

has_same : (planned : Planned) (k set : ℕ) (old new : SoftState) → new.ue ≡ old.ue → new.cfn ≡ old.cfn → new.legs k ≡ old.legs k → new.frames set k ≡ old.frames set k → UpIn planned k set Taken old → UpIn planned k set Taken new
has_same planned k set old new ue cfn leg frame up =
    subst (λ (u : Course UeState UeEvent). IsSetTaken planned set u new.cfn (new.legs k) (new.frames set k)) (sym ue)
    (subst (λ n. IsSetTaken planned set old.ue n (new.legs k) (new.frames set k)) (sym cfn)
    (subst (λ (l : LegState). IsSetTaken planned set old.ue old.cfn l (new.frames set k)) (sym leg)
    (subst (λ (o : Option LegFrame). IsSetTaken planned set old.ue old.cfn (old.legs k) o) (sym frame) up)))

-- a frame that was written for the TTI is not refused
never_refused : (config : Config) (set cfn qe : ℕ) (octets : List ℕ) (held : HeldSet) (error : CombineError) → IsReadForm config Up set octets cfn qe held → IsRefusal config set cfn octets error → ⊥
never_refused config set cfn qe octets held (Frame error) read cause = no_form config Up set octets error cause cfn qe held read
never_refused config set cfn qe octets held (Cfn other) read cause = cause.differs (one_reading config Up set cfn qe other cause.qe octets held cause.held read cause.read).cfn

-- where it is taken, it has the blocks that were written
has_frame : (planned : Planned) (set cfn qe : ℕ) (layer : Layer) (octets : List ℕ) (held : HeldSet) (frame : LegFrame) (taken : Option LegFrame) → IsReadForm planned.config Up set octets cfn qe held → ForSet (up_side planned) set (λ i. CarriesGiven (layer.given i) (held_at held.blocks i))
    → ForSet (up_side planned) set (λ i. AreGood (held_at held.blocks i)) → IsReadForm planned.config Up set octets cfn frame.qe frame.held → taken ≡ Some frame → HasFrame planned set layer taken
has_frame planned set cfn qe layer octets held frame taken written carries good read is =
    let back : IsReadBack Up (up_side planned) set cfn cfn qe frame.qe held frame.held = one_reading planned.config Up set cfn qe cfn frame.qe octets held frame.held written read in
    record {
      frame = frame;
      is = is;
      whole = read.formats;
      carries = λ i inside member. record {
        format = (back.ttis i inside member).format ∙ (carries i inside member).format;
        bits = same_bits (channel_at (up_side planned) i) (held_at held.blocks i) (held_at frame.held.blocks i) (written.formats i inside member) (read.formats i inside member) (back.ttis i inside member) ∙ (carries i inside member).bits;
      };
      good = λ i inside member. subst (λ goods. (n : ℕ) → n < length goods → IsTrue (slice_index_or goods n false)) (sym (back.marks.marks i inside member)) (good i inside member);
    }

-- the TTI of a set is over
pub over_at : (planned : Planned) (set : ℕ) (soft : SoftState) → soft.rnc.state.planned ≡ planned → Ends planned set soft.cfn → over (uplink_of soft) set soft.cfn ≡ Some (started (set_frames (up_side planned) set) soft.cfn)
over_at planned set soft active ends_here = ap (λ (p : Planned). over p.config.uplink.side set soft.cfn) active ∙ rw ends_here refl

-- leg k's frame of the set comes, and is taken
own_taken : (planned : Planned) (legs k set : ℕ) (old new : SoftState) (lines : List Line) (phase : Phase) → Agree planned legs k phase old → iub_from (old.legs k) set ≡ (old.legs k).node_b.last.iub set → WhereOver (over (uplink_of old) set old.cfn) (λ cfn. TakesFrame cfn set k) old new lines
    → UpIn planned k set Sent old → UpIn planned k set Taken new
own_taken planned legs k set old new lines phase a came passes up = λ over_new readable_new.
    let change : IsFrameChange old new = up_change (over (uplink_of old) set old.cfn) set k old new lines passes in
    let over_old : Ends planned set old.cfn = ap (ends (set_frames (up_side planned) set)) (sym change.cfn) ∙ over_new in
    let readable_old : AreReadable planned set old.ue.state.layer old.cfn (old.legs k).node_b.state.frames =
    subst (λ (u : Course UeState UeEvent). AreReadable planned set u.state.layer old.cfn (old.legs k).node_b.state.frames) change.ue
    (subst (λ n. AreReadable planned set new.ue.state.layer n (old.legs k).node_b.state.frames) change.cfn
    (subst (λ (legs : ℕ → LegState). AreReadable planned set new.ue.state.layer new.cfn (legs k).node_b.state.frames) change.legs readable_new)) in
    let d : SetUp planned old.ue.state.layer set old.cfn ((old.legs k).node_b.last.iub set) = up over_old readable_old in
    let cfn : ℕ = started (set_frames (up_side planned) set) old.cfn in
    let takes : MayTake cfn set k (iub_from (old.legs k) set) old new lines =
    subst (λ (o : Option ℕ). WhereOver o (λ cfn. TakesFrame cfn set k) old new lines) (over_at planned set old a.rnc_active over_old) passes in
    let here : MayTake cfn set k (Some d.octets) old new lines = subst (λ (o : Option (List ℕ)). MayTake cfn set k o old new lines) (came ∙ d.sent) takes in
    subst (λ (u : Course UeState UeEvent). HasFrame planned set u.state.layer (new.frames set k)) (sym change.ue) (elim here [
      | inl taken ↦ has_frame planned set cfn planned.config.qe old.ue.state.layer d.octets d.held taken.frame (new.frames set k) d.written.read d.carries d.good
          (subst (λ (p : Planned). IsReadForm p.config Up set d.octets cfn taken.frame.qe taken.frame.held) a.rnc_active taken.read)
          (ap (λ (s : SoftState). s.frames set k) taken.is ∙ own taken.frame)
      | inr refused ↦ absurd (never_refused planned.config set cfn planned.config.qe d.octets d.held refused.error d.written.read (subst (λ (p : Planned). IsRefusal p.config set cfn d.octets refused.error) a.rnc_active refused.cause))
    ])
  where
    own : (frame : LegFrame) → (if (set == set) && (k == k) then Some frame else old.frames set k) ≡ Some frame
    own frame = rw (eq-eqb set set refl, eq-eqb k k refl) refl

-- another leg's frame comes
other_taken : (k set cfn leg : ℕ) (octets : Option (List ℕ)) (old new : SoftState) (lines : List Line) → k ≢ leg → MayTake cfn set leg octets old new lines → new.frames set k ≡ old.frames set k
other_taken k set cfn leg None old new lines apart takes = ap (λ (s : SoftState). s.frames set k) takes.0
other_taken k set cfn leg (Some octets) old new lines apart (inl taken) = ap (λ (s : SoftState). s.frames set k) taken.is ∙ other taken.frame
  where
    other : (frame : LegFrame) → (if (set == set) && (k == leg) then Some frame else old.frames set k) ≡ old.frames set k
    other frame = rw (eq-eqb set set refl, ne_eqb k leg apart) refl
other_taken k set cfn leg (Some octets) old new lines apart (inr refused) = ap (λ (s : SoftState). s.frames set k) refused.same

other_up : (k set leg : ℕ) (started : Option ℕ) (old new : SoftState) (lines : List Line) → k ≢ leg → WhereOver started (λ cfn. TakesFrame cfn set leg) old new lines → new.frames set k ≡ old.frames set k
other_up k set leg None old new lines apart takes = ap (λ (s : SoftState). s.frames set k) takes.0
other_up k set leg (Some cfn) old new lines apart takes = other_taken k set cfn leg (iub_from (old.legs leg) set) old new lines apart takes

-- in which phases the Iub frames come and are combined
iub_before : (k set s leg : ℕ) → s < set → (phase_of k set (IubUp s leg) ≡ Sent) × (exit_of k set (IubUp s leg) ≡ Sent)
iub_before k set s leg before = (rw (lt_yes s set before) refl, rw (lt_yes s set before) refl)

iub_behind : (k set s leg : ℕ) → set < s → (phase_of k set (IubUp s leg) ≡ Over) × (exit_of k set (IubUp s leg) ≡ Over)
iub_behind k set s leg later = (rw (lt_no s set (omega (arith, later)), lt_yes set s later) refl, rw (lt_no s set (omega (arith, later)), lt_yes set s later) refl)

iub_early : (k set leg : ℕ) → leg < k → (phase_of k set (IubUp set leg) ≡ Sent) × (exit_of k set (IubUp set leg) ≡ Sent)
iub_early k set leg early = (rw (lt_no set set (omega arith), lt_no k leg (omega (arith, early))) refl, rw (lt_no set set (omega arith), lt_yes leg k early) refl)

iub_own : (k set : ℕ) → (phase_of k set (IubUp set k) ≡ Sent) × (exit_of k set (IubUp set k) ≡ Taken)
iub_own k set = (rw (lt_no set set (omega arith), lt_no k k (omega arith)) refl, rw (lt_no set set (omega arith), lt_no k k (omega arith)) refl)

iub_later : (k set leg : ℕ) → k < leg → (phase_of k set (IubUp set leg) ≡ Taken) × (exit_of k set (IubUp set leg) ≡ Taken)
iub_later k set leg later = (rw (lt_no set set (omega arith), lt_yes k leg later) refl, rw (lt_no set set (omega arith), lt_no leg k (omega (arith, later))) refl)

set_before : (k set s : ℕ) → s < set → (phase_of k set (Combine s) ≡ Sent) × (exit_of k set (Combine s) ≡ Sent)
set_before k set s before = (rw (lt_yes s set before) refl, rw (lt_yes s set before) refl)

pub set_own : (k set : ℕ) → (phase_of k set (Combine set) ≡ Taken) × (exit_of k set (Combine set) ≡ Over)
set_own k set = (rw (lt_no set set (omega arith)) refl, rw (lt_no set set (omega arith)) refl)

set_behind : (k set s : ℕ) → set < s → (phase_of k set (Combine s) ≡ Over) × (exit_of k set (Combine s) ≡ Over)
set_behind k set s later = (rw (lt_no s set (omega (arith, later)), lt_yes set s later) refl, rw (lt_no s set (omega (arith, later))) refl)

-- from a phase to another one, where it is known which ones they are
in_phase : (p q : Phase) (X Y : Phase → Type 0) (p' q' : Phase) → (p ≡ p') × (q ≡ q') → (X p' → Y q') → X p → Y q
in_phase p q X Y p' q' is goes x = subst Y (sym is.1) (goes (subst X is.0 x))

-- Iub frames of the legs come, and are combined
up_iub : (planned : Planned) (legs k set s leg : ℕ) (old new : SoftState) (lines : List Line) → AtStage (IubUp s leg) old new lines → (s ≡ set → leg ≡ k → iub_from (old.legs k) set ≡ (old.legs k).node_b.last.iub set) → Agree planned legs k (phase_of k set (IubUp s leg)) old
    → UpIn planned k set (phase_of k set (IubUp s leg)) old → UpIn planned k set (exit_of k set (IubUp s leg)) new
up_iub planned legs k set s leg old new lines passes gets a = elim (cases_order s set) [
  | inl own ↦ (elim (cases_order leg k) [
    | inl this ↦ subst (λ n. UpIn planned k set (phase_of k set (IubUp n leg)) old → UpIn planned k set (exit_of k set (IubUp n leg)) new) (sym own)
        (subst (λ n. UpIn planned k set (phase_of k set (IubUp set n)) old → UpIn planned k set (exit_of k set (IubUp set n)) new) (sym this)
        (goes (phase_of k set (IubUp set k)) (exit_of k set (IubUp set k)) Sent Taken (iub_own k set)
        (own_taken planned legs k set old new lines (phase_of k set (IubUp s leg)) a (gets own this)
        (subst (λ n. WhereOver (over (uplink_of old) set old.cfn) (λ cfn. TakesFrame cfn set n) old new lines) this
        (subst (λ n. WhereOver (over (uplink_of old) n old.cfn) (λ cfn. TakesFrame cfn n leg) old new lines) own passes)))))
    | inr other ↦ subst (λ n. UpIn planned k set (phase_of k set (IubUp n leg)) old → UpIn planned k set (exit_of k set (IubUp n leg)) new) (sym own) (elim other [
      | inl early ↦ goes (phase_of k set (IubUp set leg)) (exit_of k set (IubUp set leg)) Sent Sent (iub_early k set leg early) still_sent
      | inr later ↦ goes (phase_of k set (IubUp set leg)) (exit_of k set (IubUp set leg)) Taken Taken (iub_later k set leg later)
          (has_same planned k set old new change.ue change.cfn (ap (λ (legs : ℕ → LegState). legs k) change.legs)
          (other_up k set leg (over (uplink_of old) set old.cfn) old new lines (λ e. omega (arith, e, later)) (subst (λ n. WhereOver (over (uplink_of old) n old.cfn) (λ cfn. TakesFrame cfn n leg) old new lines) own passes)))
    ])
  ])
  | inr other ↦ (elim other [
    | inl before ↦ goes (phase_of k set (IubUp s leg)) (exit_of k set (IubUp s leg)) Sent Sent (iub_before k set s leg before) still_sent
    | inr later ↦ goes (phase_of k set (IubUp s leg)) (exit_of k set (IubUp s leg)) Over Over (iub_behind k set s leg later) (λ up. tt)
  ])
]
  where
    change : IsFrameChange old new
    change = up_change (over (uplink_of old) s old.cfn) s leg old new lines passes

    goes : (p q p' q' : Phase) → (p ≡ p') × (q ≡ q') → (UpIn planned k set p' old → UpIn planned k set q' new) → UpIn planned k set p old → UpIn planned k set q new
    goes p q p' q' is does = in_phase p q (λ p. UpIn planned k set p old) (λ q. UpIn planned k set q new) p' q' is does

    still_sent : UpIn planned k set Sent old → UpIn planned k set Sent new
    still_sent = delivers_same planned k set old new change.ue change.cfn (ap (λ (legs : ℕ → LegState). legs k) change.legs)

up_combine : (planned : Planned) (k set s : ℕ) (old new : SoftState) (lines : List Line) → AtStage (Combine s) old new lines → UpIn planned k set (phase_of k set (Combine s)) old → UpIn planned k set (exit_of k set (Combine s)) new
up_combine planned k set s old new lines passes = elim (cases_order s set) [
  | inl own ↦ subst (λ n. UpIn planned k set (phase_of k set (Combine n)) old → UpIn planned k set (exit_of k set (Combine n)) new) (sym own)
      (goes (phase_of k set (Combine set)) (exit_of k set (Combine set)) Taken Over (set_own k set) (λ up. tt))
  | inr other ↦ (elim other [
    | inl before ↦ goes (phase_of k set (Combine s)) (exit_of k set (Combine s)) Sent Sent (set_before k set s before)
        (delivers_same planned k set old new change.ue change.cfn (ap (λ (legs : ℕ → LegState). legs k) change.legs))
    | inr later ↦ goes (phase_of k set (Combine s)) (exit_of k set (Combine s)) Over Over (set_behind k set s later) (λ up. tt)
  ])
]
  where
    change : IsSetChange s old new
    change = set_change (over (uplink_of old) s old.cfn) s old new lines passes

    goes : (p q p' q' : Phase) → (p ≡ p') × (q ≡ q') → (UpIn planned k set p' old → UpIn planned k set q' new) → UpIn planned k set p old → UpIn planned k set q new
    goes p q p' q' is does = in_phase p q (λ p. UpIn planned k set p old) (λ q. UpIn planned k set q new) p' q' is does

-- the radio frames that came stay
come_stay : (Comes : Option Radio → Option Radio → Type 0) (k : ℕ) (sent : ℕ → Option Radio) (old new : SoftState) → (new.legs k).node_b.state.frames ≡ (old.legs k).node_b.state.frames → ((n : ℕ) → Comes (sent n) ((old.legs k).node_b.state.frames n)) → (n : ℕ) → Comes (sent n) ((new.legs k).node_b.state.frames n)
come_stay Comes k sent old new same come n = subst (λ (g : ℕ → Option Radio). Comes (sent n) (g n)) (sym same) (come n)

-- what leaves the uplink before the radio frame has come leaves this
came_before : (planned : Planned) (Comes : Option Radio → Option Radio → Type 0) (k set : ℕ) (sent : ℕ → Option Radio) (old new : SoftState) → Stays k old new → Came planned Comes k set sent Before old → Came planned Comes k set sent Before new
came_before planned Comes k set sent old new r c = record {
  halves = λ i inside member. half_stays planned k i Before sent old new r (c.halves i inside member);
  come = come_stay Comes k sent old new r.node_b_frames c.come;
  up = tt;
}

-- a radio frame comes to leg k
one_comes : (Comes : Option Radio → Option Radio → Type 0) (test : Bool) (sent came other_sent other_came : Option Radio) → Comes sent came → Comes other_sent other_came → Comes (if test then sent else other_sent) (if test then came else other_came)
one_comes Comes true sent came other_sent other_came here other = here
one_comes Comes false sent came other_sent other_came here other = other

came_own : (planned : Planned) (Comes : Option Radio → Option Radio → Type 0) (legs k set : ℕ) (sent : ℕ → Option Radio) (old new : SoftState) → IsPlanned planned → set < 8 → Receives planned k old new → Comes old.ue.last.sent (radio_after (old.legs k).damage Up old.ue.last.sent) → Agree planned legs k Middle old
    → Came planned Comes k set sent Middle old → Came planned Comes k set (λ n. if n == old.cfn % 8 then old.ue.last.sent else sent n) Sent new
came_own planned Comes legs k set sent old new good small r comes a c = record {
  halves = λ i inside member. half_radio planned legs k i sent old new good inside r a (c.halves i inside member);
  come = λ n. subst (Comes (if n == old.cfn % 8 then old.ue.last.sent else sent n)) (sym (came_next planned legs k old new r a n))
      (one_comes Comes (n == old.cfn % 8) old.ue.last.sent (radio_after (old.legs k).damage Up old.ue.last.sent) (sent n) ((old.legs k).node_b.state.frames n) comes (c.come n));
  up = radio_delivers planned legs k set old new good small r a;
}

-- or to another leg
came_other : (planned : Planned) (Comes : Option Radio → Option Radio → Type 0) (k set : ℕ) (sent : ℕ → Option Radio) (phase : Phase) (old new : SoftState) → Stays k old new → (UpIn planned k set phase old → UpIn planned k set phase new) → Came planned Comes k set sent phase old → Came planned Comes k set sent phase new
came_other planned Comes k set sent phase old new r same c = record {
  halves = λ i inside member. half_stays planned k i phase sent old new r (c.halves i inside member);
  come = come_stay Comes k sent old new r.node_b_frames c.come;
  up = same c.up;
}

came_radio : (planned : Planned) (Comes : Option Radio → Option Radio → Type 0) (legs k set leg : ℕ) (sent : ℕ → Option Radio) (old new : SoftState) (lines : List Line) → IsPlanned planned → set < 8 → AtStage (RadioUp leg) old new lines → GetsSo Comes k set (RadioUp leg) old new → Agree planned legs k (phase_of k set (RadioUp leg)) old
    → Came planned Comes k set sent (phase_of k set (RadioUp leg)) old → Came planned Comes k set (with_sent k (RadioUp leg) old sent) (exit_of k set (RadioUp leg)) new
came_radio planned Comes legs k set leg sent old new lines good small passes gets a = elim (cases_order leg k) [
  | inl own ↦ (
      let before : Agree planned legs k Middle old = subst (λ (p : Phase). Agree planned legs k p old) (radio_own k set leg own).0 a in
      let at : AtLeg k (ReceivesRadio old.ue.last.sent) old new lines = subst (λ n. AtLeg n (ReceivesRadio old.ue.last.sent) old new lines) own passes in
      goes true (eq-eqb leg k own) Middle Sent (radio_own k set leg own) (came_own planned Comes legs k set sent old new good small (receives_in planned legs k old new lines at before) (gets own) before))
  | inr other ↦ (
      let change : IsLegChange leg passes.leg old new = leg_change leg passes.leg old new passes.is in
      elim other [
        | inl early ↦ goes false (ne_eqb leg k (λ e. omega (arith, e, early))) Middle Middle (radio_early k set leg early)
            (came_other planned Comes k set sent Middle old new (other_leg_stays k leg passes.leg old new (λ e. omega (arith, e, early)) change) (λ up. tt))
        | inr late ↦ goes false (ne_eqb leg k (λ e. omega (arith, e, late))) Sent Sent (radio_late k set leg late)
            (came_other planned Comes k set sent Sent old new (other_leg_stays k leg passes.leg old new (λ e. omega (arith, e, late)) change) (delivers_same planned k set old new change.ue change.cfn (change.others k (λ e. omega (arith, e, late)))))
      ])
]
  where
    sent_with : Bool → ℕ → Option Radio
    sent_with own n = if own && (n == old.cfn % 8) then old.ue.last.sent else sent n

    goes : (own : Bool) → (leg == k) ≡ own → (p' q' : Phase) → (phase_of k set (RadioUp leg) ≡ p') × (exit_of k set (RadioUp leg) ≡ q') → (Came planned Comes k set sent p' old → Came planned Comes k set (sent_with own) q' new)
        → Came planned Comes k set sent (phase_of k set (RadioUp leg)) old → Came planned Comes k set (with_sent k (RadioUp leg) old sent) (exit_of k set (RadioUp leg)) new
    goes own test p' q' is does c =
        subst (λ b. Came planned Comes k set (sent_with b) (exit_of k set (RadioUp leg)) new) (sym test)
        (in_phase (phase_of k set (RadioUp leg)) (exit_of k set (RadioUp leg)) (λ p. Came planned Comes k set sent p old) (λ q. Came planned Comes k set (sent_with own) q new) p' q' is does c)

-- a stage
came_stage : (planned : Planned) (Comes : Option Radio → Option Radio → Type 0) (legs k set : ℕ) (sent : ℕ → Option Radio) (stage : Stage) (old new : SoftState) (lines : List Line) → IsPlanned planned → set < 8 → AtStage stage old new lines → GetsSo Comes k set stage old new → Agree planned legs k (phase_of k set stage) old
    → Came planned Comes k set sent (phase_of k set stage) old → Came planned Comes k set (with_sent k stage old sent) (exit_of k set stage) new
came_stage planned Comes legs k set sent RncTick old new lines good small passes gets a c = came_before planned Comes k set sent old new (rnc_goes_stays k RncTicks old new tt passes.0) c
came_stage planned Comes legs k set sent (IubDown leg s) old new lines good small passes gets a c = came_before planned Comes k set sent old new (iub_down_stays k leg s (old.rnc.last.iub s) old new lines passes) c
came_stage planned Comes legs k set sent (RadioDown leg) old new lines good small passes gets a c = came_before planned Comes k set sent old new (radio_down_stays k leg old new lines passes) c
came_stage planned Comes legs k set sent UeTick old new lines good small passes gets a c =
    let ticks : Ticks planned old new = ticks_in planned legs k old new lines good passes a in
    record {
      halves = λ i inside member. half_tick planned i sent old new good inside ticks (c.halves i inside member);
      come = come_stay Comes k sent old new (ap (λ (legs : ℕ → LegState). (legs k).node_b.state.frames) ticks.legs) c.come;
      up = tt;
    }
came_stage planned Comes legs k set sent (RadioUp leg) old new lines good small passes gets a c = came_radio planned Comes legs k set leg sent old new lines good small passes gets a c
came_stage planned Comes legs k set sent (IubUp s leg) old new lines good small passes gets a c =
    let late = iub_late k set s leg in
    let r : Stays k old new = frame_stays k old new (up_change (over (uplink_of old) s old.cfn) s leg old new lines passes) in
    record {
      halves = λ i inside member. half_goes_on planned k i (phase_of k set (IubUp s leg)) (exit_of k set (IubUp s leg)) sent old new late.0 late.1 r (c.halves i inside member);
      come = come_stay Comes k sent old new r.node_b_frames c.come;
      up = up_iub planned legs k set s leg old new lines passes gets a c.up;
    }
came_stage planned Comes legs k set sent (Combine s) old new lines good small passes gets a c =
    let late = combine_late k set s in
    let r : Stays k old new = set_stays k s old new (set_change (over (uplink_of old) s old.cfn) s old new lines passes) in
    record {
      halves = λ i inside member. half_goes_on planned k i (phase_of k set (Combine s)) (exit_of k set (Combine s)) sent old new late.0 late.1 r (c.halves i inside member);
      come = come_stay Comes k sent old new r.node_b_frames c.come;
      up = up_combine planned k set s old new lines passes c.up;
    }

came_framed : (planned : Planned) (Comes : Option Radio → Option Radio → Type 0) (k set : ℕ) (sent : ℕ → Option Radio) → IsPlanned planned → (soft : SoftState) → Came planned Comes k set sent Over soft → Came planned Comes k set sent Before (framed soft)
came_framed planned Comes k set sent good soft c = record { halves = λ i inside member. half_framed planned i sent soft good inside (c.halves i inside member); come = c.come; up = tt }

-- a run in which leg k gets what the terminal sends in some way
abbrev pub CameAt : Planned → (Option Radio → Option Radio → Type 0) → ℕ → ℕ → (ℕ → Option Radio) → Point → Type 0
CameAt planned Comes k set sent point = InPoint (Came planned Comes k set sent) k set point

pub runs_come : (planned : Planned) (Comes : Option Radio → Option Radio → Type 0) (legs k set : ℕ) (sent : ℕ → Option Radio) (moves : List Move) (old new : Point) (lines : List Line) → IsPlanned planned → k < legs → set < 8 → (run : Runs old moves new lines) → InStages (GetsSo Comes k set) moves old new lines run
    → AgreeAt planned legs k set old → CameAt planned Comes k set sent old → CameAt planned Comes k set (frames_sent k moves old new lines run sent) new
runs_come planned Comes legs k set sent [] old new lines good there small run gets a c = subst (CameAt planned Comes k set sent) (sym run.0) c
runs_come planned Comes legs k set sent (Between event ∷ moves) old new lines good there small run gets a c =
    let step : HappensBetween old event run.next run.own = run.step in
    let before : Came planned Comes k set sent Before old.soft = at_rest (Came planned Comes k set sent) k set old step.at_rest c in
    let after : CameAt planned Comes k set sent run.next = subst (CameAt planned Comes k set sent) (sym step.is) (came_before planned Comes k set sent old.soft step.soft (between_stays k old.soft event step.soft run.own step.happens) before) in
    runs_come planned Comes legs k set sent moves run.next new run.rest good there small run.later gets (agree_event planned legs k set old event run.next run.own good step a) after
runs_come planned Comes legs k set sent (Next ∷ moves) old new lines good there small run gets a c =
    let step : Passes old run.next run.own = run.step in
    let more : ℕ → Option Radio = with_sent k old.stage old.soft sent in
    let after : Came planned Comes k set more (exit_of k set old.stage) step.soft = came_stage planned Comes legs k set sent old.stage old.soft step.soft run.own good small step.passes gets.0 a c in
    let is : run.next ≡ behind step.soft (next_stage legs old.stage) = step.is ∙ ap (λ n. behind step.soft (next_stage n old.stage)) a.count in
    let next : CameAt planned Comes k set more run.next = subst (CameAt planned Comes k set more) (sym is) (next_holds (Came planned Comes k set more) legs k set there small (came_framed planned Comes k set more good) old.stage step.soft after) in
    runs_come planned Comes legs k set more moves run.next new run.rest good there small run.later gets.1 (agree_next planned legs k set old run.next run.own good there small step a) next
