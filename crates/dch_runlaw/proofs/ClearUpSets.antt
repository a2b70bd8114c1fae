-- What a set whose TTI ends delivers, where the TTIs of its channels came as they were sent.
use Rattle.std.proofs.Common.{◌≡◌, ◌≢◌, ◌<◌, ◌∙◌, ℕ, List, [], ◌++◌, length, true, false, Option, None, arith, refl, sym, ap, subst, inl, inr}
use Rattle.std.specs.Prelude.{◌==◌, nat_lt}
use Rattle.std.proofs.lemmas.Bool.{eq-eqb}
use Rattle.std.proofs.lemmas.Bool.Decides.{eqb_tells, nat_tests}
use Rattle.dch_bits.specs.declared.bit.Bit.{Bit}
use Rattle.dch_types.specs.declared.channel.Dir.TheVariants.{Up}
use Rattle.dch_types.specs.declared.channel.Side.{Side}
use Rattle.dch_types.specs.Limits.{IsSide}
use Rattle.dch_types.specs.Parts.{channel_at}
use Rattle.dch_types.specs.Timing.{ends, set_frames, started}
use Rattle.dch_accept.specs.HeldSets.{HeldSet, held_at}
use Rattle.dch_accept.specs.Plans.{IsPlanned, Planned}
use Rattle.dch_tti.specs.RxFrames.{RxFrames}
use Rattle.dch_ulphy.specs.Sent.{WasSent}
use Rattle.dch_iub.specs.Back.{IsReadBack}
use Rattle.dch_iub.proofs.Back.{one_reading}
use Rattle.dch_iub.proofs.Refused.{no_form}
use Rattle.dch_node.specs.Lines.{Line}
use Rattle.dch_node.specs.Values.{Output}
use Rattle.dch_layer2.specs.Layers.{Layer}
use Rattle.dch_layer2.specs.Joined.{joined_bits}
use Rattle.dch_layer2.specs.Reading.{Nothing, Read, Reading}
use Rattle.dch_linkcmd.specs.NodebSteps.{DeliversSet, IsLost, IsSentUp}
use Rattle.dch_linkcmd.proofs.Steady.{set_frames-member, tells}
use Rattle.dch_linkcmd.specs.RncState.{State as RncState, set_readings}
use Rattle.dch_linkcmd.specs.RncSteps.{IsArrival, IsReadFrame}
use Rattle.dch_linkcmd.specs.Checks.{IsSublist, good_in}
use Rattle.dch_runlaw.proofs.UplinkSent.{uplink_sent}
use Rattle.dch_runlaw.specs.Frames.{IsTaken, MayBeTaken, Taken}
use Rattle.dch_runlaw.specs.Sized.{AreAllSized}
use Rattle.dch_runlaw.specs.ClearSound.{AreSound}
use Rattle.dch_runlaw.proofs.ClearClean.{IsClean}
use Rattle.dch_runlaw.proofs.ClearSound.{below_sound, no_checks, self_sub, sound-append}
use Rattle.dch_runlaw.proofs.ClearUp.{reads_back}

-- the channels of another set aren't read
other_set : (side : Side) (s i : ℕ) (held : HeldSet) → (channel_at side i).set ≢ s → set_readings side s held i ≡ Nothing
other_set side s i held apart = elim (eqb_tells (channel_at side i).set s) [
  | inl same ↦ absurd (apart same.1)
  | inr other ↦ (elim (tells (nat_lt i (length side.channels))) [
    | inl inside ↦ rw (inside.0, other.0) refl
    | inr outside ↦ rw outside.0 refl
  ])
]

own_set : (side : Side) (s i : ℕ) (held : HeldSet) → i < length side.channels → (channel_at side i).set ≡ s → set_readings side s held i ≡ Read (held_at held.blocks i)
own_set side s i held inside member =
    let a : nat_lt i (length side.channels) ≡ true = grind (arith, nat_tests) in
    let b : ((channel_at side i).set == s) ≡ true = eq-eqb (channel_at side i).set s member in
    rw (a, b) refl

-- all TTIs of uplink channels that end came as they were sent
abbrev pub WereSent : Planned → RxFrames → Layer → Type 0
WereSent planned reader layer =
    (i : ℕ) → i < length planned.config.uplink.side.channels → ends (channel_at planned.config.uplink.side i).frames reader.cfn ≡ true → WasSent planned reader i (layer.given i).format (joined_bits (layer.given i).blocks)

-- what was delivered is what was given, without a line of trouble
pub record SetDone (side : Side) (layer : Layer) (reader : RxFrames) (s : ℕ) (taken : Taken) (lines rnc_lines : List Line) : Type 0 where
  pub fits : (i : ℕ) → i < length side.channels → (channel_at side i).set ≡ s → ends (channel_at side i).frames reader.cfn ≡ true → good_in (taken.readings i) ≡ (layer.given i).blocks
  pub sound : AreSound lines
  pub sound_taken : AreSound rnc_lines

-- the set of a channel ends with it
set_ends : (side : Side) (reader : RxFrames) (i s : ℕ) → IsSide side → i < length side.channels → (channel_at side i).set ≡ s → ends (set_frames side s) reader.cfn ≡ ends (channel_at side i).frames reader.cfn
set_ends side reader i s good inside member = ap (λ s. ends (set_frames side s) reader.cfn) (sym member) ∙ ap (λ n. ends n reader.cfn) (set_frames-member side i good inside)

-- no TTI is lost
never_lost : (planned : Planned) (reader : RxFrames) (layer : Layer) (s : ℕ) (lines : List Line) (iub : Option (List ℕ)) → IsPlanned planned → WereSent planned reader layer
    → IsLost planned.config.uplink.side reader s lines iub → ⊥
never_lost planned reader layer s lines iub good were lost =
    let side : Side = planned.config.uplink.side in
    let i : ℕ = lost.channel in
    let over : ends (channel_at side i).frames reader.cfn ≡ true = sym (set_ends side reader i s good.good.uplink.side lost.is.inside lost.is.member) ∙ lost.over in
    (uplink_sent planned reader i (layer.given i).format (joined_bits (layer.given i).blocks) good lost.is.inside (were i lost.is.inside over)).good lost.frame lost.is.bad

-- what the network controller reads of it
record Readings (side : Side) (layer : Layer) (s : ℕ) (readings : ℕ → Reading) : Type 0 where
  own : (i : ℕ) → i < length side.channels → (channel_at side i).set ≡ s → (good_in (readings i) ≡ (layer.given i).blocks) × IsClean (readings i)
  other : (i : ℕ) → (channel_at side i).set ≢ s → readings i ≡ Nothing

clean_of : (side : Side) (layer : Layer) (s : ℕ) (readings : ℕ → Reading) → Readings side layer s readings → (i : ℕ) → i < length side.channels → IsClean (readings i)
clean_of side layer s readings are i inside = elim (eqb_tells (channel_at side i).set s) [
  | inl same ↦ (are.own i inside same.1).1
  | inr apart ↦ subst IsClean (sym (are.other i apart.1)) tt
]

fits_of : (side : Side) (layer : Layer) (s : ℕ) (readings : ℕ → Reading) → Readings side layer s readings → (i : ℕ) → i < length side.channels → IsSublist (good_in (readings i)) (layer.given i).blocks
fits_of side layer s readings are i inside = elim (eqb_tells (channel_at side i).set s) [
  | inl same ↦ subst (λ (xs : List (List Bit)). IsSublist xs (layer.given i).blocks) (sym (are.own i inside same.1).0) (self_sub (layer.given i).blocks)
  | inr apart ↦ subst (λ (r : Reading). IsSublist (good_in r) (layer.given i).blocks) (sym (are.other i apart.1)) tt
]

readings_of : (planned : Planned) (reader : RxFrames) (layer : Layer) (s : ℕ) (lines : List Line) (iub : Option (List ℕ)) (old new : RncState) (output : Output) → IsPlanned planned → WereSent planned reader layer → AreAllSized planned.config.uplink.side layer
    → (up : IsSentUp planned reader s lines iub) → IsReadFrame planned old s up.octets new output → Readings planned.config.uplink.side layer s new.readings
readings_of planned reader layer s lines iub old new output good were sized up read =
    let side : Side = planned.config.uplink.side in
    let at : ℕ = started (set_frames side s) reader.cfn in
    let back : IsReadBack Up side s at read.cfn planned.config.qe read.qe up.held read.held = one_reading planned.config Up s at planned.config.qe read.cfn read.qe up.octets up.held read.held up.written.read read.read in
    let are : (i : ℕ) → new.readings i ≡ set_readings side s read.held i = λ i. ap (λ (x : RncState). x.readings i) read.state in
    record {
      own = λ i inside member.
          let reading : new.readings i ≡ Read (held_at read.held.blocks i) = are i ∙ own_set side s i read.held inside member in
          let over : ends (channel_at side i).frames reader.cfn ≡ true = sym (set_ends side reader i s good.good.uplink.side inside member) ∙ up.over in
          subst (λ (r : Reading). (good_in r ≡ (layer.given i).blocks) × IsClean r) (sym reading)
          (reads_back planned i (layer.given i) reader (held_at up.held.blocks i) (held_at read.held.blocks i) good inside (were i inside over) (sized i inside)
          (up.read i inside member) (up.written.read.formats i inside member) (read.read.formats i inside member) (back.ttis i inside member) (back.marks.marks i inside member));
      other = λ i apart. are i ∙ other_set side s i read.held apart;
    }

-- the Iub frame is read
read_done : (planned : Planned) (reader : RxFrames) (layer : Layer) (s : ℕ) (lines rnc_lines : List Line) (iub : Option (List ℕ)) (old new : RncState) (taken : Taken) → IsPlanned planned → WereSent planned reader layer → AreAllSized planned.config.uplink.side layer
    → (up : IsSentUp planned reader s lines iub) → (t : IsTaken planned s up.octets layer old new taken rnc_lines) → IsReadFrame planned old s up.octets new t.output → SetDone planned.config.uplink.side layer reader s taken lines rnc_lines
read_done planned reader layer s lines rnc_lines iub old new taken good were sized up t read =
    let side : Side = planned.config.uplink.side in
    let are : Readings side layer s new.readings = readings_of planned reader layer s lines iub old new t.output good were sized up read in
    let same : (i : ℕ) → taken.readings i ≡ new.readings i = λ i. ap (λ (x : Taken). x.readings i) t.is in
    let output : AreSound t.output.lines =
    subst AreSound (sym (ap (λ (o : Output). o.lines) read.reported))
    (below_sound planned.config Up (set_readings side s read.held) (length side.channels) old.layer
    (λ i inside. subst IsClean (ap (λ (x : RncState). x.readings i) read.state) (clean_of side layer s new.readings are i inside))) in
    let none : t.checks ≡ [] = no_checks Up (λ i. good_in (new.readings i)) (λ i. (layer.given i).blocks) (length side.channels) t.checks (fits_of side layer s new.readings are) t.compared in
    record {
      fits = λ i inside member over. ap good_in (same i) ∙ (are.own i inside member).0;
      sound = subst AreSound (sym up.reported) (refl, tt);
      sound_taken = subst AreSound (sym (t.reported ∙ ap (λ (l : List Line). t.output.lines ++ l) none)) (sound-append t.output.lines [] output tt);
    }

pub set_done : (planned : Planned) (reader : RxFrames) (layer : Layer) (s : ℕ) (lines rnc_lines : List Line) (iub : Option (List ℕ)) (old new : RncState) (taken : Taken) → IsPlanned planned → WereSent planned reader layer → AreAllSized planned.config.uplink.side layer
    → old.planned ≡ planned → DeliversSet planned reader s lines iub → MayBeTaken planned s iub layer old new taken rnc_lines → SetDone planned.config.uplink.side layer reader s taken lines rnc_lines
set_done planned reader layer s lines rnc_lines iub old new taken good were sized active (inl waits) may =
    let side : Side = planned.config.uplink.side in
    let none : MayBeTaken planned s None layer old new taken rnc_lines = subst (λ (o : Option (List ℕ)). MayBeTaken planned s o layer old new taken rnc_lines) waits.none may in
    record {
      fits = λ i inside member over. absurd (let both : false ≡ true = sym waits.on ∙ set_ends side reader i s good.good.uplink.side inside member ∙ over in cc);
      sound = subst AreSound (sym waits.quiet) tt;
      sound_taken = subst AreSound (sym none.2) tt;
    }
set_done planned reader layer s lines rnc_lines iub old new taken good were sized active (inr (inl lost)) may = absurd (never_lost planned reader layer s lines iub good were lost)
set_done planned reader layer s lines rnc_lines iub old new taken good were sized active (inr (inr up)) may =
    let t : IsTaken planned s up.octets layer old new taken rnc_lines = subst (λ (o : Option (List ℕ)). MayBeTaken planned s o layer old new taken rnc_lines) up.sent may in
    let step : IsArrival planned old s up.octets new t.output = subst (λ (p : Planned). IsArrival p old s up.octets new t.output) active t.step in
    elim step [
      | inl read ↦ read_done planned reader layer s lines rnc_lines iub old new taken good were sized up t read
      | inr refused ↦ absurd (no_form planned.config Up s up.octets refused.error refused.cause (started (set_frames planned.config.uplink.side s) reader.cfn) planned.config.qe up.held up.written.read)
    ]
