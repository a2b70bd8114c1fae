-- The radio frames of a TTI that all arrive, with few TFCI bits wrong, are kept to its end, and the combination of each
-- is found.
use Rattle.std.proofs.Common.{◌≡◌, ◌<◌, ◌≤◌, ◌+◌, ◌%◌, ◌∙◌, ℕ, List, [], ◌∷◌, true, false, Option, Some, arith, refl, sym, ap, subst}
use Rattle.std.specs.Prelude.{◌==◌, if◌then◌else◌}
use Rattle.std.proofs.lemmas.Bool.{eq-eqb, ne_eqb}
use Rattle.std.proofs.lemmas.Nat.{mod_below}
use Rattle.dch_bits.specs.declared.bit.Bit.{Bit}
use Rattle.dch_bits.specs.declared.bit.Trit.{Trit}
use Rattle.dch_types.specs.declared.channel.Dir.{Dir}
use Rattle.dch_types.specs.declared.channel.Dir.TheVariants.{Down, Up}
use Rattle.dch_types.specs.Limits.{IsFrames}
use Rattle.dch_accept.specs.Plans.{IsPlanned, Planned}
use Rattle.dch_tti.specs.Damaged.{IsLittleDamaged}
use Rattle.dch_tti.specs.RxFrames.{RxFrame, RxFrames, rx_frame_at}
use Rattle.dch_dlphy.specs.Frames.{multiplexed as down_multiplexed}
use Rattle.dch_ulphy.specs.Frames.{multiplexed as up_multiplexed}
use Rattle.dch_damage.specs.Damage.{radio_after}
use Rattle.dch_node.specs.Lines.{Line}
use Rattle.dch_node.specs.RxFrames.{AreHeard, KeepsRadio}
use Rattle.dch_node.specs.Values.{Radio}
use Rattle.dch_linkcmd.specs.NodebState.{State as NodeBState}
use Rattle.dch_linkcmd.specs.NodebSteps.{IsRadio, IsRadioFrame as IsDownFrame}
use Rattle.dch_linkcmd.specs.UeState.{State as UeState}
use Rattle.dch_linkcmd.specs.UeSteps.{IsRadioFrame as IsUpFrame}
use Rattle.dch_linkcmd.specs.LinkLink.{LinkState}
use Rattle.dch_runlaw.specs.Frames.{IsFrame}
use Rattle.dch_runlaw.specs.Runs.{Between, Event, Frame, Runs}
use Rattle.dch_runlaw.specs.Intervals.{ArrivesDamaged, FindsAll, FindsCombination, InFrames, InTti, Tti, frames_come, frames_in, radio_sent}
use Rattle.dch_runlaw.proofs.ClearBetween.{Same, between}
use Rattle.dch_runlaw.proofs.ClearTtis.{by_four}
use Rattle.dch_runlaw.proofs.CountedFrames.{frames_passed}
use Rattle.dch_runlaw.proofs.DamagedFrame.{kept-damaged}
use Rattle.dch_runlaw.proofs.IntervalAgree.{Agree, Parts, parts, runs_agree, stays}
use Rattle.dch_runlaw.proofs.IntervalUp.{Starts, starts_in}

-- what has come to the far end, with one radio frame more
pub come_next : (planned : Planned) (dir : Dir) (old new : LinkState) (lines : List Line) (f : IsFrame old new lines) → IsPlanned planned → Agree planned old → (k : ℕ) → frames_come dir new k ≡ (if k == old.rnc.state.cfn % 8 then radio_after old.damage dir (radio_sent dir old new lines f) else frames_come dir old k)
come_next planned Down old new lines f good a k =
    let p : Parts planned old new lines f = parts planned old new lines f good a in
    ap (λ (x : UeState). x.frames k) p.ticks.state
    ∙ ap (λ n. if k == n % 8 then f.kept.came else f.kept.frames k) p.kept_cfn
    ∙ ap (λ (x : UeState). if k == old.rnc.state.cfn % 8 then x.came else x.frames k) f.keeps.0
come_next planned Up old new lines f good a k =
    let p : Parts planned old new lines f = parts planned old new lines f good a in
    let same : f.node_b.frames ≡ old.node_b.state.frames = ap (λ (x : NodeBState). x.frames) p.departs.state ∙ p.fed.frames in
    ap (λ (x : NodeBState). x.frames k) p.receives.state
    ∙ ap (λ n. if k == n % 8 then radio_after old.damage Up f.ue_output.sent else f.node_b.frames k) p.node_b_cfn
    ∙ ap (λ (g : ℕ → Option Radio). if k == old.rnc.state.cfn % 8 then radio_after old.damage Up f.ue_output.sent else g k) same

come_here : (planned : Planned) (dir : Dir) (old new : LinkState) (lines : List Line) (f : IsFrame old new lines) → IsPlanned planned → Agree planned old → frames_come dir new (old.rnc.state.cfn % 8) ≡ radio_after old.damage dir (radio_sent dir old new lines f)
come_here planned dir old new lines f good a =
    let k : ℕ = old.rnc.state.cfn % 8 in
    let here : (k == k) ≡ true = eq-eqb k k refl in
    come_next planned dir old new lines f good a k ∙ ap (λ b. if b then radio_after old.damage dir (radio_sent dir old new lines f) else frames_come dir old k) here

come_elsewhere : (planned : Planned) (dir : Dir) (old new : LinkState) (lines : List Line) (f : IsFrame old new lines) → IsPlanned planned → Agree planned old → (k : ℕ) → (k ≡ old.rnc.state.cfn % 8 → ⊥) → frames_come dir new k ≡ frames_come dir old k
come_elsewhere planned dir old new lines f good a k away =
    let other : (k == old.rnc.state.cfn % 8) ≡ false = ne_eqb k (old.rnc.state.cfn % 8) away in
    come_next planned dir old new lines f good a k ∙ ap (λ b. if b then radio_after old.damage dir (radio_sent dir old new lines f) else frames_come dir old k) other

pub come_between : (dir : Dir) (old new : LinkState) → Same old new → (k : ℕ) → frames_come dir new k ≡ frames_come dir old k
come_between Down old new r k = ap (λ (g : ℕ → Option Radio). g k) r.ue_frames
come_between Up old new r k = ap (λ (b : NodeBState). b.frames k) r.node_b

-- what came stays while no radio frame has its place
stays_come : (planned : Planned) (dir : Dir) (events : List Event) (old new : LinkState) (lines : List Line) → Runs old events new lines → IsPlanned planned → Agree planned old → (k : ℕ) → ((j : ℕ) → j < frames_in events → (old.rnc.state.cfn + j) % 8 ≡ k → ⊥) → frames_come dir new k ≡ frames_come dir old k
stays_come planned dir [] old new lines run good a k away = ap (λ (l : LinkState). frames_come dir l k) run.0
stays_come planned dir (Between event ∷ events) old new lines run good a k away =
    let same : Same old run.next = (between old run.next event run.own run.step).0 in
    stays_come planned dir events run.next new run.rest run.later good (stays planned old run.next same a) k (λ j inside is. away j inside (ap (λ c. (c + j) % 8) (sym same.cfn) ∙ is)) ∙ come_between dir old run.next same k
stays_come planned dir (Frame ∷ events) old new lines run good a k away =
    let p : Parts planned old run.next run.own run.step.frame = parts planned old run.next run.own run.step.frame good a in
    let c : ℕ = old.rnc.state.cfn in
    stays_come planned dir events run.next new run.rest run.later good p.agree k (λ j inside is. away (j + 1) (omega (arith, inside)) (later c j ∙ ap (λ n. (n + j) % 8) (sym p.next_cfn) ∙ is))
    ∙ come_elsewhere planned dir old run.next run.own run.step.frame good a k (λ is. away 0 (omega arith) (first c ∙ sym is))
  where
    later : (c j : ℕ) → (c + (j + 1)) % 8 ≡ ((c + 1) % 256 + j) % 8
    later c j = omega arith

    first : (c : ℕ) → (c + 0) % 8 ≡ c % 8
    first c = omega arith

-- a place is not that of the next 7 radio frames
apart : (c next j : ℕ) → next ≡ (c + 1) % 256 → j + 1 < 8 → (next + j) % 8 ≡ c % 8 → ⊥
apart c next j is few same = omega (arith, is, few, same)

-- so each radio frame of a TTI is there at its end
abbrev StaysTo : Dir → LinkState → (old new : LinkState) → (lines : List Line) → IsFrame old new lines → Type 0
StaysTo dir end old new lines f = frames_come dir end (old.rnc.state.cfn % 8) ≡ radio_after old.damage dir (radio_sent dir old new lines f)

stay_to : (planned : Planned) (dir : Dir) (events : List Event) (old last new : LinkState) (lines own : List Line) (run : Runs old events last lines) → IsFrame last new own → IsPlanned planned → Agree planned old → frames_in events + 1 ≤ 8 → InFrames (StaysTo dir new) events old last lines run
stay_to planned dir [] old last new lines own run f good a few = tt
stay_to planned dir (Between event ∷ events) old last new lines own run f good a few =
    let same : Same old run.next = (between old run.next event run.own run.step).0 in
    stay_to planned dir events run.next last new run.rest own run.later f good (stays planned old run.next same a) few
stay_to planned dir (Frame ∷ events) old last new lines own run f good a few =
    let p : Parts planned old run.next run.own run.step.frame = parts planned old run.next run.own run.step.frame good a in
    let n : ℕ = frames_in events in
    let c : ℕ = old.rnc.state.cfn in
    let less : n + 1 + 1 ≤ 8 = few in
    let b : Agree planned last = runs_agree planned events run.next last run.rest run.later good p.agree in
    let passed : last.rnc.state.cfn % 8 ≡ (run.next.rnc.state.cfn + n) % 8 = frames_passed planned events run.next last run.rest run.later good p.agree in
    let behind : frames_come dir new (c % 8) ≡ frames_come dir last (c % 8) = come_elsewhere planned dir last new own f good b (c % 8) (λ is. apart c run.next.rnc.state.cfn n p.next_cfn (omega (arith, less)) (sym passed ∙ sym is)) in
    let on : frames_come dir last (c % 8) ≡ frames_come dir run.next (c % 8) = stays_come planned dir events run.next last run.rest run.later good p.agree (c % 8) (λ j inside is. apart c run.next.rnc.state.cfn j p.next_cfn (omega (arith, inside, less)) is) in
    (behind ∙ on ∙ come_here planned dir old run.next run.own run.step.frame good a, stay_to planned dir events run.next last new run.rest own run.later f good p.agree (omega (arith, less)))

-- the combination of one that is there is found
find_down : (planned : Planned) (reader : RxFrames) (old new : LinkState) (lines : List Line) (f : IsFrame old new lines) → IsPlanned planned → Agree planned old → (arrives : ArrivesDamaged Down old new lines f) → KeepsRadio planned Down (Some arrives.comes.received) (rx_frame_at reader.frames (old.rnc.state.cfn % 8)) → FindsCombination planned Down reader old new lines f
find_down planned reader old new lines f good a arrives keeps =
    let p : Parts planned old new lines f = parts planned old new lines f good a in
    let w : IsDownFrame planned f.node_b arrives.radio = subst (IsRadio planned f.node_b) arrives.sent p.departs.radio in
    let kept : RxFrame = rx_frame_at reader.frames (old.rnc.state.cfn % 8) in
    let little : IsLittleDamaged w.frame.tfci w.frame.cells arrives.comes.received.tfci arrives.comes.received.cells =
    subst (λ (cells : List Trit). IsLittleDamaged w.frame.tfci cells arrives.comes.received.tfci arrives.comes.received.cells) w.cells (subst (λ (tfci : List Bit). IsLittleDamaged tfci arrives.radio.cells arrives.comes.received.tfci arrives.comes.received.cells) w.tfci arrives.comes.little) in
    record {
      radio = arrives.radio;
      sent = arrives.sent;
      combination = w.combination;
      sends = record { written = w; is = refl };
      found = kept-damaged planned Down (down_multiplexed planned w.tti f.node_b.cfn w.combination) w.combination w.frame arrives.comes.received.tfci arrives.comes.received.cells kept w.listed good.good.downlink.side.few_combinations w.written little keeps;
    }

find_up : (planned : Planned) (reader : RxFrames) (old new : LinkState) (lines : List Line) (f : IsFrame old new lines) → IsPlanned planned → Agree planned old → (arrives : ArrivesDamaged Up old new lines f) → KeepsRadio planned Up (Some arrives.comes.received) (rx_frame_at reader.frames (old.rnc.state.cfn % 8)) → FindsCombination planned Up reader old new lines f
find_up planned reader old new lines f good a arrives keeps =
    let p : Parts planned old new lines f = parts planned old new lines f good a in
    let s : Starts planned old new lines f = starts_in planned old new lines f good a in
    let same : p.ticks.radio ≡ arrives.radio = (let both : Some p.ticks.radio ≡ Some arrives.radio = sym p.ticks.sent ∙ arrives.sent in cc) in
    let w : IsUpFrame planned f.kept.cfn new.ue.state.layer arrives.radio = subst (IsUpFrame planned f.kept.cfn new.ue.state.layer) same p.ticks.written in
    let kept : RxFrame = rx_frame_at reader.frames (old.rnc.state.cfn % 8) in
    let little : IsLittleDamaged w.frame.tfci w.frame.cells arrives.comes.received.tfci arrives.comes.received.cells =
    subst (λ (cells : List Trit). IsLittleDamaged w.frame.tfci cells arrives.comes.received.tfci arrives.comes.received.cells) w.cells (subst (λ (tfci : List Bit). IsLittleDamaged tfci arrives.radio.cells arrives.comes.received.tfci arrives.comes.received.cells) w.tfci arrives.comes.little) in
    record {
      radio = arrives.radio;
      sent = arrives.sent;
      combination = new.ue.state.layer.running;
      sends = record { written = w; is = refl };
      found = kept-damaged planned Up (up_multiplexed planned w.tti f.kept.cfn new.ue.state.layer.running) new.ue.state.layer.running w.frame arrives.comes.received.tfci arrives.comes.received.cells kept s.start.best.candidate.there good.good.uplink.side.few_combinations w.written little keeps;
    }

find_one : (planned : Planned) (dir : Dir) (reader : RxFrames) (end : LinkState) (cfn : ℕ) (old new : LinkState) (lines : List Line) (f : IsFrame old new lines) → IsPlanned planned → Agree planned old → AreHeard planned dir cfn (frames_come dir end) reader → StaysTo dir end old new lines f → ArrivesDamaged dir old new lines f → FindsCombination planned dir reader old new lines f
find_one planned dir reader end cfn old new lines f good a heard stay arrives =
    let k : ℕ = old.rnc.state.cfn % 8 in
    let there : frames_come dir end k ≡ Some arrives.comes.received = stay ∙ ap (radio_after old.damage dir) arrives.sent ∙ arrives.comes.is in
    by dir arrives (subst (λ (o : Option Radio). KeepsRadio planned dir o (rx_frame_at reader.frames k)) there (heard.kept k (mod_below old.rnc.state.cfn 8 (omega arith))))
  where
    by : (dir : Dir) → (arrives : ArrivesDamaged dir old new lines f) → KeepsRadio planned dir (Some arrives.comes.received) (rx_frame_at reader.frames (old.rnc.state.cfn % 8)) → FindsCombination planned dir reader old new lines f
    by Up arrives keeps = find_up planned reader old new lines f good a arrives keeps
    by Down arrives keeps = find_down planned reader old new lines f good a arrives keeps

find_each : (planned : Planned) (dir : Dir) (reader : RxFrames) (end : LinkState) (cfn : ℕ) (events : List Event) (old last : LinkState) (lines : List Line) (run : Runs old events last lines) → IsPlanned planned → Agree planned old → AreHeard planned dir cfn (frames_come dir end) reader → InFrames (StaysTo dir end) events old last lines run → InFrames (ArrivesDamaged dir) events old last lines run → InFrames (FindsCombination planned dir reader) events old last lines run
find_each planned dir reader end cfn [] old last lines run good a heard stay arrive = tt
find_each planned dir reader end cfn (Between event ∷ events) old last lines run good a heard stay arrive =
    let same : Same old run.next = (between old run.next event run.own run.step).0 in
    find_each planned dir reader end cfn events run.next last run.rest run.later good (stays planned old run.next same a) heard stay arrive
find_each planned dir reader end cfn (Frame ∷ events) old last lines run good a heard stay arrive = (
  find_one planned dir reader end cfn old run.next run.own run.step.frame good a heard stay.0 arrive.0,
  find_each planned dir reader end cfn events run.next last run.rest run.later good (parts planned old run.next run.own run.step.frame good a).agree heard stay.1 arrive.1,
)

pub finds_all : (planned : Planned) (dir : Dir) (frames : ℕ) (old new : LinkState) (t : Tti frames old new) → IsPlanned planned → Agree planned old → IsFrames frames → InTti (ArrivesDamaged dir) frames old new t → FindsAll planned dir frames old new t
finds_all planned dir frames old new t good a is arrive = λ reader heard.
    let most : frames ≤ 8 = by_four frames (λ n. n ≤ 8) is (omega arith) (omega arith) (omega arith) (omega arith) in
    let b : Agree planned t.last = runs_agree planned t.events old t.last t.lines t.run good a in
    let cfn : ℕ = t.last.rnc.state.cfn in (
      find_each planned dir reader new cfn t.events old t.last t.lines t.run good a heard (stay_to planned dir t.events old t.last new t.lines t.last_lines t.run t.step.frame good a (omega (arith, t.count, most))) arrive.0,
      find_one planned dir reader new cfn t.last new t.last_lines t.step.frame good b heard (come_here planned dir t.last new t.last_lines t.step.frame good b) arrive.1,
    )
