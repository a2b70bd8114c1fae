-- The radio frames of a TTI as they were sent and as they came.
use Rattle.std.proofs.Common.{◌≡◌, ◌<◌, ◌≤◌, ◌%◌, ◌∙◌, ℕ, List, [], ◌∷◌, length, true, false, Option, Some, None, arith, refl, sym, ap, subst, inl, inr}
use Rattle.std.specs.Prelude.{◌==◌, if◌then◌else◌}
use Rattle.std.proofs.lemmas.Bool.{cases_eq, eq-eqb, ne_eqb}
use Rattle.std.proofs.lemmas.Nat.{mod_below}
use Rattle.dch_bits.specs.declared.bit.Bit.{Bit}
use Rattle.dch_bits.specs.declared.bit.Bit.TheVariants.{Zero, One}
use Rattle.dch_bits.specs.declared.bit.Trit.{Trit}
use Rattle.dch_bits.specs.Bits.{distance}
use Rattle.dch_types.specs.declared.channel.Dir.{Dir}
use Rattle.dch_types.specs.declared.channel.Side.{Side}
use Rattle.dch_types.specs.Parts.{channel_at, side_of}
use Rattle.dch_accept.specs.Plans.{IsPlanned, Planned}
use Rattle.dch_damage.specs.Damage.{radio_after}
use Rattle.dch_node.specs.Lines.{Line}
use Rattle.dch_node.specs.RxFrames.{AreHeard, KeepsRadio}
use Rattle.dch_node.specs.Values.{Radio}
use Rattle.dch_tti.specs.Damaged.{AreSameCombinations, IsLittleDamaged}
use Rattle.dch_tti.specs.Loaded.{Loaded}
use Rattle.dch_tti.specs.RxFrames.{RxFrame, RxFrames, rx_frame_at, tti_place}
use Rattle.dch_linkcmd.specs.LinkLink.{LinkState}
use Rattle.dch_runlaw.specs.Frames.{IsFrame}
use Rattle.dch_runlaw.specs.Runs.{Between, Event, Frame, Runs}
use Rattle.dch_runlaw.specs.Intervals.{AllArrive, ArrivesAsSent, ArrivesDamaged, ComesDamaged, InFrames, InTti, MayComeDamaged, Tti, frames_come, frames_sent, radio_sent, tti_sent, with_sent}
use Rattle.dch_runlaw.proofs.ClearBetween.{Same, between}
use Rattle.dch_runlaw.proofs.ClearSent.{IsSentRadio, kept_sent}
use Rattle.dch_runlaw.proofs.ClearTtis.{HasRadio, Half}
use Rattle.dch_runlaw.proofs.DamagedFrame.{kept-damaged}
use Rattle.dch_runlaw.proofs.IntervalAgree.{Agree, parts, runs_agree, stays}
use Rattle.dch_runlaw.proofs.IntervalCombinations.{come_between, come_next}

distance-self : (bits : List Bit) → distance bits bits ≡ 0
distance-self [] = refl
distance-self (Zero ∷ bits) = omega (arith, distance-self bits)
distance-self (One ∷ bits) = omega (arith, distance-self bits)

-- what arrives as it was sent is little damaged
pub as_damaged : (dir : Dir) (old new : LinkState) (lines : List Line) (f : IsFrame old new lines) → ArrivesAsSent dir old new lines f → ArrivesDamaged dir old new lines f
as_damaged dir old new lines f arrives = record {
  radio = arrives.radio;
  sent = arrives.sent;
  comes = record {
    received = arrives.radio;
    is = arrives.came;
    little = record { sized = refl; close = omega (arith, distance-self arrives.radio.tfci); whole = refl };
  };
}

damaged_each : (dir : Dir) (events : List Event) (old new : LinkState) (lines : List Line) (run : Runs old events new lines) → InFrames (ArrivesAsSent dir) events old new lines run → InFrames (ArrivesDamaged dir) events old new lines run
damaged_each dir [] old new lines run arrive = tt
damaged_each dir (Between event ∷ events) old new lines run arrive = damaged_each dir events run.next new run.rest run.later arrive
damaged_each dir (Frame ∷ events) old new lines run arrive =
    (as_damaged dir old run.next run.own run.step.frame arrive.0, damaged_each dir events run.next new run.rest run.later arrive.1)

pub all_damaged : (dir : Dir) (frames : ℕ) (old new : LinkState) (t : Tti frames old new) → AllArrive dir frames old new t → InTti (ArrivesDamaged dir) frames old new t
all_damaged dir frames old new t arrive = (damaged_each dir t.events old t.last t.lines t.run arrive.0, as_damaged dir t.last new t.last_lines t.step.frame arrive.1)

-- the radio frames that were sent after the same ones are the same
with_same : (dir : Dir) (old new : LinkState) (lines : List Line) (f : IsFrame old new lines) (g h : ℕ → Option Radio) → ((k : ℕ) → g k ≡ h k) → (k : ℕ) → with_sent dir old new lines f g k ≡ with_sent dir old new lines f h k
with_same dir old new lines f g h same k = ap (λ o. if k == old.rnc.state.cfn % 8 then radio_sent dir old new lines f else o) (same k)

sent_same : (dir : Dir) (events : List Event) (old new : LinkState) (lines : List Line) (run : Runs old events new lines) (g h : ℕ → Option Radio) → ((k : ℕ) → g k ≡ h k) → (k : ℕ) → frames_sent dir events old new lines run g k ≡ frames_sent dir events old new lines run h k
sent_same dir [] old new lines run g h same k = same k
sent_same dir (Between event ∷ events) old new lines run g h same k = sent_same dir events run.next new run.rest run.later g h same k
sent_same dir (Frame ∷ events) old new lines run g h same k =
    sent_same dir events run.next new run.rest run.later (with_sent dir old run.next run.own run.step.frame g) (with_sent dir old run.next run.own run.step.frame h) (with_same dir old run.next run.own run.step.frame g h same) k

-- where they arrive so, they are those that came
come_one : (planned : Planned) (dir : Dir) (old new : LinkState) (lines : List Line) (f : IsFrame old new lines) → IsPlanned planned → Agree planned old → ArrivesAsSent dir old new lines f → (k : ℕ) → frames_come dir new k ≡ with_sent dir old new lines f (frames_come dir old) k
come_one planned dir old new lines f good a arrives k =
    let here : radio_after old.damage dir (radio_sent dir old new lines f) ≡ radio_sent dir old new lines f = ap (radio_after old.damage dir) arrives.sent ∙ arrives.came ∙ sym arrives.sent in
    come_next planned dir old new lines f good a k ∙ ap (λ (o : Option Radio). if k == old.rnc.state.cfn % 8 then o else frames_come dir old k) here

come_all : (planned : Planned) (dir : Dir) (events : List Event) (old new : LinkState) (lines : List Line) (run : Runs old events new lines) → IsPlanned planned → Agree planned old → InFrames (ArrivesAsSent dir) events old new lines run
    → (k : ℕ) → frames_come dir new k ≡ frames_sent dir events old new lines run (frames_come dir old) k
come_all planned dir [] old new lines run good a arrive k = ap (λ (l : LinkState). frames_come dir l k) run.0
come_all planned dir (Between event ∷ events) old new lines run good a arrive k =
    let same : Same old run.next = (between old run.next event run.own run.step).0 in
    come_all planned dir events run.next new run.rest run.later good (stays planned old run.next same a) arrive k
    ∙ sent_same dir events run.next new run.rest run.later (frames_come dir run.next) (frames_come dir old) (come_between dir old run.next same) k
come_all planned dir (Frame ∷ events) old new lines run good a arrive k =
    let f : IsFrame old run.next run.own = run.step.frame in
    come_all planned dir events run.next new run.rest run.later good (parts planned old run.next run.own f good a).agree arrive.1 k
    ∙ sent_same dir events run.next new run.rest run.later (frames_come dir run.next) (with_sent dir old run.next run.own f (frames_come dir old)) (come_one planned dir old run.next run.own f good a arrive.0) k

pub come_tti : (planned : Planned) (dir : Dir) (frames : ℕ) (old new : LinkState) (t : Tti frames old new) → IsPlanned planned → Agree planned old → AllArrive dir frames old new t → (k : ℕ) → frames_come dir new k ≡ tti_sent dir frames old new t (frames_come dir old) k
come_tti planned dir frames old new t good a arrive k =
    come_one planned dir t.last new t.last_lines t.step.frame good (runs_agree planned t.events old t.last t.lines t.run good a) arrive.1 k
    ∙ with_same dir t.last new t.last_lines t.step.frame (frames_come dir t.last) (frames_sent dir t.events old t.last t.lines t.run (frames_come dir old)) (come_all planned dir t.events old t.last t.lines t.run good a arrive.0) k

-- each radio frame that was sent came with little damage
near_one : (planned : Planned) (dir : Dir) (old new : LinkState) (lines : List Line) (f : IsFrame old new lines) (g : ℕ → Option Radio) → IsPlanned planned → Agree planned old → ArrivesDamaged dir old new lines f → ((k : ℕ) → MayComeDamaged (g k) (frames_come dir old k))
    → (k : ℕ) → MayComeDamaged (with_sent dir old new lines f g k) (frames_come dir new k)
near_one planned dir old new lines f g good a arrives near k = elim (cases_eq k c) [
  | inl here ↦
      let test : (k == c) ≡ true = eq-eqb k c here in
      let shown : with_sent dir old new lines f g k ≡ Some arrives.radio = ap (λ b. if b then radio_sent dir old new lines f else g k) test ∙ arrives.sent in
      let came : frames_come dir new k ≡ Some arrives.comes.received =
      come_next planned dir old new lines f good a k
      ∙ ap (λ b. if b then radio_after old.damage dir (radio_sent dir old new lines f) else frames_come dir old k) test
      ∙ ap (radio_after old.damage dir) arrives.sent ∙ arrives.comes.is in
      subst (λ (o : Option Radio). MayComeDamaged o (frames_come dir new k)) (sym shown) (record { received = arrives.comes.received; is = came; little = arrives.comes.little })
  | inr other ↦
      let test : (k == c) ≡ false = ne_eqb k c other in
      let shown : with_sent dir old new lines f g k ≡ g k = ap (λ b. if b then radio_sent dir old new lines f else g k) test in
      let came : frames_come dir new k ≡ frames_come dir old k =
      come_next planned dir old new lines f good a k ∙ ap (λ b. if b then radio_after old.damage dir (radio_sent dir old new lines f) else frames_come dir old k) test in
      subst (λ (o : Option Radio). MayComeDamaged o (frames_come dir new k)) (sym shown) (subst (MayComeDamaged (g k)) (sym came) (near k))
]
  where
    c : ℕ
    c = old.rnc.state.cfn % 8

near_all : (planned : Planned) (dir : Dir) (events : List Event) (old new : LinkState) (lines : List Line) (run : Runs old events new lines) (g : ℕ → Option Radio) → IsPlanned planned → Agree planned old → InFrames (ArrivesDamaged dir) events old new lines run
    → ((k : ℕ) → MayComeDamaged (g k) (frames_come dir old k)) → (k : ℕ) → MayComeDamaged (frames_sent dir events old new lines run g k) (frames_come dir new k)
near_all planned dir [] old new lines run g good a arrive near k = subst (λ (l : LinkState). MayComeDamaged (g k) (frames_come dir l k)) (sym run.0) (near k)
near_all planned dir (Between event ∷ events) old new lines run g good a arrive near k =
    let same : Same old run.next = (between old run.next event run.own run.step).0 in
    near_all planned dir events run.next new run.rest run.later g good (stays planned old run.next same a) arrive (λ k. subst (MayComeDamaged (g k)) (sym (come_between dir old run.next same k)) (near k)) k
near_all planned dir (Frame ∷ events) old new lines run g good a arrive near k =
    let f : IsFrame old run.next run.own = run.step.frame in
    near_all planned dir events run.next new run.rest run.later (with_sent dir old run.next run.own f g) good (parts planned old run.next run.own f good a).agree arrive.1 (near_one planned dir old run.next run.own f g good a arrive.0 near) k

pub near_tti : (planned : Planned) (dir : Dir) (frames : ℕ) (old new : LinkState) (t : Tti frames old new) → IsPlanned planned → Agree planned old → InTti (ArrivesDamaged dir) frames old new t → (k : ℕ) → MayComeDamaged (tti_sent dir frames old new t (λ k. None) k) (frames_come dir new k)
near_tti planned dir frames old new t good a arrive k =
    near_one planned dir t.last new t.last_lines t.step.frame (frames_sent dir t.events old t.last t.lines t.run (λ k. None)) good (runs_agree planned t.events old t.last t.lines t.run good a) arrive.1
    (near_all planned dir t.events old t.last t.lines t.run (λ k. None) good a arrive.0 (λ k. tt)) k

-- so each radio frame of a TTI is kept in the combination in which it was sent
near_kept : (planned : Planned) (dir : Dir) (multiplexed : List Loaded → ℕ → ℕ → ℕ → Trit) (i m c : ℕ) (loaded : Loaded) (o came : Option Radio) (kept : RxFrame) → length (side_of planned.config dir).combinations ≤ 128
    → HasRadio (IsSentRadio planned dir multiplexed i m c loaded) o → MayComeDamaged o came → KeepsRadio planned dir came kept → kept.combination ≡ Some c
near_kept planned dir multiplexed i m c loaded o came kept few has near keeps =
    let s : IsSentRadio planned dir multiplexed i m c loaded has.radio = has.sent in
    let n : ComesDamaged has.radio came = subst (λ (o : Option Radio). MayComeDamaged o came) has.is near in
    let there : KeepsRadio planned dir (Some n.received) kept = subst (λ (o : Option Radio). KeepsRadio planned dir o kept) n.is keeps in
    let little : IsLittleDamaged s.frame.tfci s.frame.cells n.received.tfci n.received.cells =
    subst (λ (cells : List Trit). IsLittleDamaged s.frame.tfci cells n.received.tfci n.received.cells) s.cells (subst (λ (tfci : List Bit). IsLittleDamaged tfci has.radio.cells n.received.tfci n.received.cells) s.tfci n.little) in
    kept-damaged planned dir (multiplexed s.tti s.cfn c) c s.frame n.received.tfci n.received.cells kept s.listed few s.written little there

pub near_combinations : (planned : Planned) (dir : Dir) (multiplexed : List Loaded → ℕ → ℕ → ℕ → Trit) (i cfn count : ℕ) (L : Loaded → Type 0) (R : ℕ → Type 0) (K : ℕ → ℕ → ℕ → Type 0) (frames come : ℕ → Option Radio) (sent reader : RxFrames)
    → length (side_of planned.config dir).combinations ≤ 128 → AreHeard planned dir cfn frames sent → AreHeard planned dir cfn come reader → ((k : ℕ) → MayComeDamaged (frames k) (come k))
    → Half (channel_at (side_of planned.config dir) i).frames L (IsSentRadio planned dir multiplexed i) R K cfn frames count → count ≡ (channel_at (side_of planned.config dir) i).frames → AreSameCombinations (side_of planned.config dir) i sent reader
near_combinations planned dir multiplexed i cfn count L R K frames come sent reader few heard got near half all = λ n inside.
    let side : Side = side_of planned.config dir in
    let f : ℕ = (channel_at side i).frames in
    let k : ℕ = tti_place cfn f n in
    let c : ℕ = half.sequence n in
    let low : k < 8 = mod_below _ 8 (omega arith) in
    let has : HasRadio (IsSentRadio planned dir multiplexed i n c half.loaded) (frames k) = half.sent n (omega (arith, inside, all)) in
    let first : (rx_frame_at sent.frames k).combination ≡ Some c = (kept_sent planned dir multiplexed i n c half.loaded (frames k) (rx_frame_at sent.frames k) few has (heard.kept k low)).found in
    let second : (rx_frame_at reader.frames k).combination ≡ Some c = near_kept planned dir multiplexed i n c half.loaded (frames k) (come k) (rx_frame_at reader.frames k) few has (near k) (got.kept k low) in
    ap (λ m. (rx_frame_at reader.frames (tti_place m f n)).combination) got.last ∙ second ∙ sym first ∙ sym (ap (λ m. (rx_frame_at sent.frames (tti_place m f n)).combination) heard.last)
