-- The frames of the legs that are taken, refused or given.
use Rattle.std.proofs.Common.{◌≡◌, ◌≢◌, ◌<◌, ◌≤◌, ◌+◌, ◌∙◌, ◌&&◌, ◌==◌, ℕ, List, [], ◌∷◌, Option, Some, None, length, if◌then◌else◌, arith, refl, ap, sym, subst, inl, inr}
use Rattle.std.proofs.lemmas.Bool.Decides.{eqb_tells}
use Rattle.std.proofs.Math.Path.{fun_ext}
use Rattle.dch_types.specs.declared.channel.Dir.{Dir}
use Rattle.dch_types.specs.declared.channel.Dir.TheVariants.{Up}
use Rattle.dch_types.specs.declared.config.Config.{Config}
use Rattle.dch_types.specs.Limits.{IsSide}
use Rattle.dch_accept.specs.Plans.{Planned}
use Rattle.dch_node.specs.Lines.{Iub, IubBad, Line}
use Rattle.dch_node.specs.Standing.{Tells}
use Rattle.dch_txframes.proofs.Lengths.{read_octets-le}
use Rattle.dch_combine.specs.declared.error.CombineError.{CombineError}
use Rattle.dch_combine.specs.declared.error.CombineError.TheVariants.{Cfn, Frame}
use Rattle.dch_node.proofs.IubFrames.{refusal_small}
use Rattle.dch_script.specs.LineText.{text_of}
use Rattle.dch_steptext.proofs.Texts.{short_line}
use Rattle.dch_combine.specs.Combined.{IsCombinedFrame}
use Rattle.dch_combine.specs.Legs.{LegFrame}
use Rattle.dch_combine.specs.Opened.{HoldsLongest, IsCombinerOf}
use Rattle.dch_combine.specs.Taken.{IsRefusal, TakesLeg}
use Rattle.dch_combine.specs.Values.{Combiner, frames_of}
use Rattle.dch_iub.specs.Forms.{IsReadForm}
use Rattle.dch_iub.specs.Longest.{IsLongest}
use Rattle.dch_rnc.specs.Standing.{Stepped as RncStepped}
use Rattle.dch_rnc.specs.State.{IubFrame}
use Rattle.dch_rnc.specs.Values.{Node as Rnc}
use Rattle.dch_link.specs.Errors.{error_number}
use Rattle.dch_link.specs.Soft.{SoftState, given, with_frame}
use Rattle.dch_link.specs.SoftStages.{GivesFrame, IsRefused, IsTaken}
use Rattle.dch_link.specs.SoftNodes.{ArePartsOf, LeadsTo, Represents}
use Rattle.dch_link.specs.SoftValues.{Parts}
use Rattle.dch_link.proofs.SoftNexts.{rnc_next}

-- a frame was taken for a set from a leg, and no other one
taken_same : (old new : ℕ → ℕ → Option LegFrame) (set leg : ℕ) (frame : LegFrame) → new set leg ≡ Some frame → ((k : ℕ) → k ≢ leg → new set k ≡ old set k) → ((s k : ℕ) → s ≢ set → new s k ≡ old s k)
    → (λ s j. if (s == set) && (j == leg) then Some frame else old s j) ≡ new
taken_same old new set leg frame own legs sets = fun_ext (λ s. fun_ext (λ j. elim (eqb_tells s set) [
  | inl here ↦ elim (eqb_tells j leg) [
    | inl same ↦ rw (here.0, same.0) (sym (ap (λ n. new n j) here.1 ∙ ap (new set) same.1 ∙ own))
    | inr other ↦ rw (here.0, other.0) (sym (ap (λ n. new n j) here.1 ∙ legs j other.1 ∙ ap (λ n. old n j) (sym here.1)))
  ]
  | inr apart ↦ rw apart.0 (sym (sets s j apart.1))
]))

-- the frames of a set were given, and no other ones
given_same : (old new : ℕ → ℕ → Option LegFrame) (set : ℕ) → ((k : ℕ) → new set k ≡ None) → ((s k : ℕ) → s ≢ set → new s k ≡ old s k) → (λ s k. if s == set then None else old s k) ≡ new
given_same old new set own sets = fun_ext (λ s. fun_ext (λ k. elim (eqb_tells s set) [
  | inl here ↦ rw here.0 (sym (ap (λ n. new n k) here.1 ∙ own k))
  | inr apart ↦ rw apart.0 (sym (sets s k apart.1))
]))

-- no frame changed
still_same : (old new : ℕ → ℕ → Option LegFrame) (set : ℕ) → ((k : ℕ) → new set k ≡ old set k) → ((s k : ℕ) → s ≢ set → new s k ≡ old s k) → old ≡ new
still_same old new set own sets = fun_ext (λ s. fun_ext (λ k. elim (eqb_tells s set) [
  | inl here ↦ sym (ap (λ n. new n k) here.1 ∙ own k ∙ ap (λ n. old n k) (sym here.1))
  | inr apart ↦ sym (sets s k apart.1)
]))

-- the frames that were taken change
with_frames : (planned : Planned) (first : ℕ) (soft : SoftState) (parts : Parts) (frames : ℕ → ℕ → Option LegFrame) (combiner : Combiner) (room : ℕ) → Represents planned first soft parts → frames ≡ frames_of combiner
    → Represents planned first (record soft { frames = frames }) (record parts { combiner = combiner; room = room })
with_frames planned first soft parts frames combiner room was are = record {
  ue = was.ue;
  rnc = was.rnc;
  ue_sends = was.ue_sends;
  rnc_sends = was.rnc_sends;
  count = was.count;
  legs = was.legs;
  frames = are;
  cfn = was.cfn;
}

-- another combiner of the configuration, and as much room
pub parts_with_combiner : (planned : Planned) (parts : Parts) (combiner : Combiner) (room : ℕ) → ArePartsOf planned parts → IsCombinerOf planned combiner → combiner.legs ≡ parts.combiner.legs → room ≡ parts.room
    → ArePartsOf planned (record parts { combiner = combiner; room = room })
parts_with_combiner planned parts combiner room are is legs same = record {
  ue = are.ue;
  rnc = are.rnc;
  legs = are.legs;
  combiner = is;
  all = legs ∙ are.all;
  some = are.some;
  few = are.few;
  room = λ s early. subst (λ n. HoldsLongest planned.config s n) (sym same) (are.room s early);
}

-- the frame of a leg is taken
pub took_frame : (planned : Planned) (first : ℕ) (soft : SoftState) (parts : Parts) (cfn set leg : ℕ) (octets : List ℕ) (combiner : Combiner) (Says : List Line → Type 0) → Says [] → Represents planned first soft parts
    → TakesLeg planned.config set leg cfn octets (frames_of parts.combiner set) (frames_of combiner set) → ((s k : ℕ) → s ≢ set → frames_of combiner s k ≡ frames_of parts.combiner s k)
    → LeadsTo planned first (λ next lines. IsTaken cfn set leg octets soft next lines) (record parts { combiner = combiner }) Says
took_frame planned first soft parts cfn set leg octets combiner Says none was takes others =
    let frame = takes.taken.frame in
    let had : (s k : ℕ) → frames_of parts.combiner s k ≡ soft.frames s k = λ s k. ap (λ (f : ℕ → ℕ → Option LegFrame). f s k) (sym was.frames) in
    record {
      next = with_frame soft set leg frame;
      lines = [];
      does = record { frame = frame; read = subst (λ (p : Planned). IsReadForm p.config Up set octets cfn frame.qe frame.held) (sym was.rnc.stands.at.active) takes.taken.read; is = refl; quiet = refl };
      stands = with_frames planned first soft parts (with_frame soft set leg frame).frames combiner parts.room was
          (taken_same soft.frames (frames_of combiner) set leg frame takes.taken.is (λ k other. takes.others k other ∙ had set k) (λ s k apart. others s k apart ∙ had s k));
      tells = none;
    }

-- it is refused, which is reported
pub refused_frame : (planned : Planned) (first : ℕ) (soft : SoftState) (parts : Parts) (cfn set : ℕ) (octets : List ℕ) (error : CombineError) (combiner : Combiner) (Says : List Line → Type 0) → Represents planned first soft parts
    → IsRefusal planned.config set cfn octets error → ((k : ℕ) → frames_of combiner set k ≡ frames_of parts.combiner set k) → ((s k : ℕ) → s ≢ set → frames_of combiner s k ≡ frames_of parts.combiner s k)
    → Says (IubBad Up set (error_number error) ∷ []) → LeadsTo planned first (λ next lines. IsRefused cfn set octets soft next lines) (record parts { combiner = combiner }) Says
refused_frame planned first soft parts cfn set octets error combiner Says was cause own others told =
    record {
      next = soft;
      lines = IubBad Up set (error_number error) ∷ [];
      does = record { error = error; cause = subst (λ (p : Planned). IsRefusal p.config set cfn octets error) (sym was.rnc.stands.at.active) cause; same = refl; reported = refl };
      stands = with_frames planned first soft parts soft.frames combiner parts.room was (was.frames ∙ still_same (frames_of parts.combiner) (frames_of combiner) set own others);
      tells = told;
    }

-- the frames of a set were given, or there was none
pub gave_frames : (planned : Planned) (first : ℕ) (soft : SoftState) (parts : Parts) (set : ℕ) (combiner : Combiner) (room : ℕ) → Represents planned first soft parts
    → ((k : ℕ) → frames_of combiner set k ≡ None) → ((s k : ℕ) → s ≢ set → frames_of combiner s k ≡ frames_of parts.combiner s k) → Represents planned first (given soft set) (record parts { combiner = combiner; room = room })
gave_frames planned first soft parts set combiner room was none others =
    with_frames planned first soft parts (given soft set).frames combiner room was
    (given_same soft.frames (frames_of combiner) set none (λ s k apart. others s k apart ∙ ap (λ (f : ℕ → ℕ → Option LegFrame). f s k) (sym was.frames)))

pub gave_none : (planned : Planned) (first : ℕ) (soft : SoftState) (parts : Parts) (set : ℕ) (combiner : Combiner) (room : ℕ) → Represents planned first soft parts → ((k : ℕ) → frames_of parts.combiner set k ≡ None)
    → ((k : ℕ) → frames_of combiner set k ≡ None) → ((s k : ℕ) → s ≢ set → frames_of combiner s k ≡ frames_of parts.combiner s k) → Represents planned first soft (record parts { combiner = combiner; room = room })
gave_none planned first soft parts set combiner room was had none others =
    with_frames planned first soft parts soft.frames combiner room was (was.frames ∙ still_same (frames_of parts.combiner) (frames_of combiner) set (λ k. none k ∙ sym (had k)) others)

-- the frames of a set are combined to one, which is reported, and which the network controller takes
pub gives_frame : {U : Type 0} (shows : U → Line → U → Type 0) (planned : Planned) (first : ℕ) (soft : SoftState) (parts : Parts) (cfn set : ℕ) (octets : List ℕ) (combiner : Combiner) (room : ℕ) (rnc : Rnc) (before mid after : U) → Represents planned first soft parts
    → IsCombinedFrame planned.config set (frames_of parts.combiner set) cfn octets → ((k : ℕ) → frames_of combiner set k ≡ None) → ((s k : ℕ) → s ≢ set → frames_of combiner s k ≡ frames_of parts.combiner s k)
    → shows before (Iub Up set octets) mid → RncStepped planned soft.rnc.state (IubFrame set octets) rnc (Tells shows mid after)
    → LeadsTo planned first (GivesFrame cfn set soft) (record parts { rnc = rnc; combiner = combiner; room = room }) (Tells shows before after)
gives_frame shows planned first soft parts cfn set octets combiner room rnc before mid after was combined none others told step =
    let stood : Represents planned first (given soft set) (record parts { combiner = combiner; room = room }) = gave_frames planned first soft parts set combiner room was none others in
    let led = rnc_next planned first (given soft set) (record parts { combiner = combiner; room = room }) (IubFrame set octets) rnc (Tells shows mid after) stood step in
    record {
      next = led.next;
      lines = Iub Up set octets ∷ led.lines;
      does = inr (record {
        octets = octets;
        combined = subst (λ (p : Planned). IsCombinedFrame p.config set (soft.frames set) cfn octets) (sym was.rnc.stands.at.active)
            (subst (λ (f : ℕ → ℕ → Option LegFrame). IsCombinedFrame planned.config set (f set) cfn octets) (sym was.frames) combined);
        comes = led.does.0;
        all = ap (λ (l : List Line). Iub Up set octets ∷ l) led.does.1;
      });
      stands = led.stands;
      tells = (mid, (told, led.tells));
    }

-- there is none
pub gives_none : (planned : Planned) (first : ℕ) (soft : SoftState) (parts : Parts) (cfn set : ℕ) (combiner : Combiner) (room : ℕ) (Says : List Line → Type 0) → Says [] → Represents planned first soft parts → ((k : ℕ) → frames_of parts.combiner set k ≡ None)
    → ((k : ℕ) → frames_of combiner set k ≡ None) → ((s k : ℕ) → s ≢ set → frames_of combiner s k ≡ frames_of parts.combiner s k) → LeadsTo planned first (GivesFrame cfn set soft) (record parts { combiner = combiner; room = room }) Says
gives_none planned first soft parts cfn set combiner room Says untold was had none others = record {
  next = soft;
  lines = [];
  does = inl (record { none = λ k. ap (λ (f : ℕ → ℕ → Option LegFrame). f set k) was.frames ∙ had k; stays = (refl, refl) });
  stands = gave_none planned first soft parts set combiner room was had none others;
  tells = untold;
}

-- a combined frame is no longer than one that is reported
pub combined_few : (config : Config) (set cfn : ℕ) (legs : ℕ → Option LegFrame) (octets : List ℕ) → IsSide config.uplink.side → IsCombinedFrame config set legs cfn octets → length octets ≤ 140000
combined_few config set cfn legs octets good is =
    read_octets-le config Up set octets cfn _ is.held good is.written.read

-- more octets are room too
holds_more : (config : Config) (set octets more : ℕ) → HoldsLongest config set octets → octets ≤ more → HoldsLongest config set more
holds_more config set octets more holds less = record { longest = holds.longest; is = holds.is; fits = omega (arith, holds.fits, less) }

-- so many octets are room for each frame of one more set
pub holds_next : (config : Config) (sets octets own most : ℕ) → ((s : ℕ) → s < sets → HoldsLongest config s octets) → IsLongest config Up sets own → octets ≤ most → own ≤ most → (s : ℕ) → s < sets + 1 → HoldsLongest config s most
holds_next config sets octets own most holds is more fits = λ s early. elim (eqb_tells s sets) [
  | inl same ↦ subst (λ n. HoldsLongest config n most) (sym same.1) (record { longest = own; is = is; fits = fits })
  | inr other ↦ holds_more config s octets most (holds s (omega (arith, early, other.1))) more
]

-- the line that refuses the frame of a leg is short
error_small : (error : CombineError) → error_number error < 1000
error_small (Frame error) = refusal_small error
error_small (Cfn cfn) = omega arith

pub refusal_line : (dir : Dir) (set : ℕ) (error : CombineError) → set < 1000 → length (text_of (IubBad dir set (error_number error) ∷ [])) ≤ 40
refusal_line dir set error small = short_line (IubBad dir set (error_number error)) (small, error_small error)
