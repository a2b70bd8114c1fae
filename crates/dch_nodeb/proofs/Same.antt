-- A Node B has one state after what happened at it.
use Rattle.std.proofs.Common.{◌≡◌, ◌+◌, ◌%◌, ◌<◌, ◌∙◌, ℕ, List, [], ◌∷◌, length, refl, ap, sym, subst, inl, inr, Option, Some, None}
use Rattle.std.proofs.lemmas.Bool.Decides.{eqb_tells}
use Rattle.dch_types.specs.declared.channel.Dir.TheVariants.{Down}
use Rattle.dch_types.specs.declared.channel.Side.{Side}
use Rattle.dch_types.specs.Parts.{channel_at}
use Rattle.dch_types.specs.Timing.{set_frames, starts}
use Rattle.dch_accept.specs.Plans.{Planned}
use Rattle.dch_iub.specs.Shape.{ForSet}
use Rattle.dch_iub.proofs.Refused.{no_form}
use Rattle.dch_node.specs.IubFrames.{IsSameReading, blocks_at}
use Rattle.dch_node.specs.Lines.{IubBad, Line}
use Rattle.dch_node.specs.Traces.{Trace}
use Rattle.dch_node.specs.Values.{Output, Radio, says}
use Rattle.dch_node.proofs.IubFrames.{one_frame, one_number}
use Rattle.dch_nodeb.specs.Same.{IsSameState, KeepsSame}
use Rattle.dch_nodeb.specs.State.{Change, DownlinkDue, DownlinkIubFrame, Event, IubFrame, State, UplinkFrame, changed, coming, given_now, keeping, kept_still, leaving, taken}
use Rattle.dch_nodeb.specs.Steps.{IsArrival, Steps}
use Rattle.dch_nodeb.proofs.Steady.{tells}

-- what is kept says the same as itself, and so does a state
same_kept : (side : Side) (s : ℕ) (kept : Option DownlinkIubFrame) → KeepsSame side s kept kept
same_kept side s None = refl
same_kept side s (Some frame) = record { again = frame; is = refl; cfn = refl; blocks = λ i inside member. refl }

pub same_state : (state : State) → IsSameState state state
same_state state = record { planned = refl; cfn = refl; kept = λ s. same_kept state.planned.config.downlink.side s (state.kept s); given = λ i inside. refl; frames = λ k. refl }

-- frames that say the same are kept for a set
keeping_same : (set : ℕ) (frame again : DownlinkIubFrame) (old older : State) → again.cfn ≡ frame.cfn → ForSet old.planned.config.downlink.side set (λ i. again.blocks i ≡ frame.blocks i)
    → IsSameState old older → IsSameState (keeping old set frame) (keeping older set again)
keeping_same set frame again old older cfn blocks same = record {
  planned = same.planned;
  cfn = same.cfn;
  kept = λ s. elim (eqb_tells s set) [
    | inl is ↦ rw is.0 (record { again = again; is = refl; cfn = cfn; blocks = subst (λ n. ForSet old.planned.config.downlink.side n (λ i. again.blocks i ≡ frame.blocks i)) (sym is.1) blocks })
    | inr is ↦ rw is.0 (same.kept s)
  ];
  given = same.given;
  frames = same.frames;
}

-- the blocks that a TTI takes
taken_same : (side : Side) (set cfn i : ℕ) (kept other : Option DownlinkIubFrame) → KeepsSame side set kept other → i < length side.channels → (channel_at side i).set ≡ set
    → taken side cfn other i ≡ taken side cfn kept i
taken_same side set cfn i None other same inside member = ap (λ (o : Option DownlinkIubFrame). taken side cfn o i) same
taken_same side set cfn i (Some frame) other same inside member =
    ap (λ (o : Option DownlinkIubFrame). taken side cfn o i) same.is ∙ both
  where
    both : taken side cfn (Some same.again) i ≡ taken side cfn (Some frame) i
    both = elim (eqb_tells frame.cfn cfn) [
      | inl is ↦ rw same.cfn (rw is.0 (same.blocks i inside member))
      | inr is ↦ rw same.cfn (rw is.0 refl)
    ]

given_same : (old older : State) (i : ℕ) → IsSameState old older → i < length old.planned.config.downlink.side.channels
    → given_now old.planned.config.downlink.side older i ≡ given_now old.planned.config.downlink.side old i
given_same old older i same inside =
    let side : Side = old.planned.config.downlink.side in
    rw same.cfn (elim (tells (starts (channel_at side i).frames old.cfn)) [
      | inl on ↦ rw on.0 (taken_same side (channel_at side i).set old.cfn i (old.kept (channel_at side i).set) (older.kept (channel_at side i).set) (same.kept (channel_at side i).set) inside refl)
      | inr off ↦ rw off.0 (same.given i inside)
    ])

still_same : (old older : State) (s : ℕ) → IsSameState old older
    → KeepsSame old.planned.config.downlink.side s (kept_still old.planned.config.downlink.side old s) (kept_still old.planned.config.downlink.side older s)
still_same old older s same =
    rw same.cfn (elim (tells (starts (set_frames old.planned.config.downlink.side s) old.cfn)) [
      | inl on ↦ rw on.0 refl
      | inr off ↦ rw off.0 (same.kept s)
    ])

-- a downlink radio frame is due, or an uplink one comes
leaving_same : (old older : State) → IsSameState old older → IsSameState (leaving old.planned.config.downlink.side old) (leaving old.planned.config.downlink.side older)
leaving_same old older same = record {
  planned = same.planned;
  cfn = same.cfn;
  kept = λ s. still_same old older s same;
  given = λ i inside. given_same old older i same inside;
  frames = same.frames;
}

coming_same : (old older : State) (radio : Option Radio) → IsSameState old older → IsSameState (coming old radio) (coming older radio)
coming_same old older radio same = record {
  planned = same.planned;
  cfn = ap (λ n. (n + 1) % 256) same.cfn;
  kept = same.kept;
  given = same.given;
  frames = λ k. rw same.cfn (elim (eqb_tells k (old.cfn % 8)) [
    | inl is ↦ rw is.0 refl
    | inr is ↦ rw is.0 (same.frames k)
  ]);
}

-- another configuration becomes active
changed_same : (planned : Planned) (old older : State) → IsSameState old older → IsSameState (changed planned old) (changed planned older)
changed_same planned old older same = record { planned = refl; cfn = same.cfn; kept = λ s. refl; given = λ i inside. refl; frames = λ k. refl }

renamed : (new next newer nexter : State) → new ≡ next → newer ≡ nexter → IsSameState next nexter → IsSameState new newer
renamed new next newer nexter is are same =
    subst (λ (s : State). IsSameState s newer) (sym is) (subst (λ (s : State). IsSameState next s) (sym are) same)

-- an Iub frame is kept by both, or refused by both
arrival_same : (old new older newer : State) (set : ℕ) (octets : List ℕ) (output more : Output) → IsSameState old older
    → IsArrival old.planned old set octets new output → IsArrival old.planned older set octets newer more → IsSameState new newer
arrival_same old new older newer set octets output more same (inl a) (inl b) =
    let side : Side = old.planned.config.downlink.side in
    let frame : DownlinkIubFrame = record { cfn = a.cfn; blocks = blocks_at a.held } in
    let again : DownlinkIubFrame = record { cfn = b.cfn; blocks = blocks_at b.held } in
    let reading : IsSameReading side set a.cfn b.cfn a.held b.held = one_frame old.planned.config Down set a.cfn 0 b.cfn 0 octets a.held b.held a.read b.read in
    renamed new (keeping old set frame) newer (keeping older set again) a.state b.state (keeping_same set frame again old older reading.named reading.blocks same)
arrival_same old new older newer set octets output more same (inl a) (inr b) = absurd (no_form old.planned.config Down set octets b.error b.cause a.cfn 0 a.held a.read)
arrival_same old new older newer set octets output more same (inr a) (inl b) = absurd (no_form old.planned.config Down set octets a.error a.cause b.cfn 0 b.held b.read)
arrival_same old new older newer set octets output more same (inr a) (inr b) = renamed new old newer older a.state b.state same

-- and answered alike
answered : (planned : Planned) (old new older newer : State) (set : ℕ) (octets : List ℕ) (output more : Output) → IsArrival planned old set octets new output
    → IsArrival planned older set octets newer more → more ≡ output
answered planned old new older newer set octets output more (inl a) (inl b) = b.quiet ∙ sym a.quiet
answered planned old new older newer set octets output more (inl a) (inr b) = absurd (no_form planned.config Down set octets b.error b.cause a.cfn 0 a.held a.read)
answered planned old new older newer set octets output more (inr a) (inl b) = absurd (no_form planned.config Down set octets a.error a.cause b.cfn 0 b.held b.read)
answered planned old new older newer set octets output more (inr a) (inr b) =
    b.reported
    ∙ ap (λ n. says (IubBad Down set n ∷ [])) (one_number Down planned.config.downlink.side planned.config.payload_check set octets a.error b.error a.cause b.cause)
    ∙ sym a.reported

pub arrival_answer : (old new older newer : State) (set : ℕ) (octets : List ℕ) (output more : Output) → older.planned ≡ old.planned → Steps old (IubFrame set octets) new output
    → Steps older (IubFrame set octets) newer more → more ≡ output
arrival_answer old new older newer set octets output more same a b =
    answered old.planned old new older newer set octets output more a (subst (λ (p : Planned). IsArrival p older set octets newer more) same b)

-- one step leads to one state
pub step_same : (old new older newer : State) (event : Event) (output more : Output) → IsSameState old older → Steps old event new output → Steps older event newer more → IsSameState new newer
step_same old new older newer (IubFrame set octets) output more same a b =
    arrival_same old new older newer set octets output more same a (subst (λ (p : Planned). IsArrival p older set octets newer more) same.planned b)
step_same old new older newer DownlinkDue output more same a b =
    let side : Side = old.planned.config.downlink.side in
    let there : newer ≡ leaving side older = b.state ∙ ap (λ (p : Planned). leaving p.config.downlink.side older) same.planned in
    renamed new (leaving side old) newer (leaving side older) a.state there (leaving_same old older same)
step_same old new older newer (UplinkFrame radio) output more same a b = renamed new (coming old radio) newer (coming older radio) a.state b.state (coming_same old older radio same)
step_same old new older newer (Change planned) output more same a b = renamed new (changed planned old) newer (changed planned older) a.state b.state (changed_same planned old older same)

-- and so do all steps
pub trace_same : (old older new newer : State) (before earlier last more : Output) (events : List Event) (lines rest : List Line) → IsSameState old older
    → Trace Steps old before events new last lines → Trace Steps older earlier events newer more rest → IsSameState new newer
trace_same old older new newer before earlier last more [] lines rest same a b = renamed new old newer older a.0 b.0 same
trace_same old older new newer before earlier last more (event ∷ events) lines rest same a b =
    trace_same a.next b.next new newer a.output b.output last more events a.rest b.rest (step_same old a.next older b.next event a.output b.output same a.step b.step) a.later b.later
