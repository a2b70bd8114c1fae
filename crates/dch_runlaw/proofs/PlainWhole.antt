-- Where all lines of the terminal and the network controller are mild, so are all lines of the run.
use Rattle.std.proofs.Common.{◌≡◌, ◌<◌, ◌+◌, ℕ, zero, suc, List, [], ◌∷◌, ◌++◌, Option, Some, None, arith, ap, sym, subst, ◌⊎◌, ⊎_elim}
use Rattle.dch_bits.specs.declared.bit.Bit.{Bit}
use Rattle.dch_types.specs.declared.channel.Dir.{Dir}
use Rattle.dch_types.specs.declared.channel.Dir.TheVariants.{Up, Down}
use Rattle.dch_accept.specs.Plans.{Planned}
use Rattle.dch_tti.specs.RxFrames.{RxFrames}
use Rattle.dch_damage.specs.Damage.{iub_after}
use Rattle.dch_node.specs.Lines.{Differs, Line, joined}
use Rattle.dch_node.specs.Values.{Output, Radio}
use Rattle.dch_layer2.specs.Layers.{Layer}
use Rattle.dch_linkcmd.specs.NodebState.{State as NodeBState}
use Rattle.dch_linkcmd.specs.NodebSteps.{DeliversSet, IsKeptFrame, IsLost, IsRefusedFrame, IsSentUp, IsWaiting, radio_line}
use Rattle.dch_linkcmd.specs.RncState.{BlockedCombination as RncBlocked, Event as RncEvent, OfferedUnit as RncOffered, State as RncState}
use Rattle.dch_linkcmd.specs.UeState.{BlockedCombination as UeBlocked, Event as UeEvent, OfferedUnit as UeOffered, State as UeState}
use Rattle.dch_linkcmd.specs.Checks.{AreChecked, IsChecked, IsSublist, good_in}
use Rattle.dch_linkcmd.specs.Courses.{Course}
use Rattle.dch_linkcmd.specs.Events.{BlockedCombination, Damages, Event as LinkEvent, Happens, OfferedUnit}
use Rattle.dch_linkcmd.specs.LinkLink.{LinkState}
use Rattle.dch_linkcmd.specs.LinkStages.{RncGoes, UeGoes}
use Rattle.dch_runlaw.specs.Frames.{IsFrame, MayArrive, MayBeTaken, Taken, lines_below}
use Rattle.dch_runlaw.specs.Runs.{Between, Event, Frame, Runs, Steps}
use Rattle.dch_runlaw.proofs.Keeping.{but_rnc, but_ue, rnc_lines, ue_lines}
use Rattle.dch_runlaw.proofs.PlainMild.{AreMild, mild-append, mild-back, mild-front}

joined_mild : (lines : ℕ → List Line) (n : ℕ) → ((s : ℕ) → s < n → AreMild (lines s)) → AreMild (joined lines n)
joined_mild lines zero each = tt
joined_mild lines (suc s) each = mild-append (joined lines s) (lines s) (joined_mild lines s (λ k early. each k (omega (arith, early)))) (each s (omega arith))

-- the lines of the Node B
arrives_mild : (s : ℕ) (o : Option (List ℕ)) (old new : NodeBState) (lines : List Line) → MayArrive s o old new lines → AreMild lines
arrives_mild s None old new lines m = subst AreMild (sym m.1) tt
arrives_mild s (Some octets) old new lines m = subst AreMild (sym m.reported) (⊎_elim
    (λ (k : IsKeptFrame old.planned old s octets new m.output). subst (λ (o : Output). AreMild o.lines) (sym k.quiet) tt)
    (λ (r : IsRefusedFrame old.planned old s octets new m.output). subst (λ (o : Output). AreMild o.lines) (sym r.reported) (tt, tt))
    m.step)

radio_mild : (o : Option Radio) → AreMild (radio_line o ∷ [])
radio_mild None = (tt, tt)
radio_mild (Some radio) = (tt, tt)

serves_mild : (planned : Planned) (rx_frames : RxFrames) (s : ℕ) (lines : List Line) (iub : Option (List ℕ)) → DeliversSet planned rx_frames s lines iub → AreMild lines
serves_mild planned rx_frames s lines iub serves = ⊎_elim
    (λ (w : IsWaiting planned.config.uplink.side rx_frames.cfn s lines iub). subst AreMild (sym w.quiet) tt)
    (λ (r : IsLost planned.config.uplink.side rx_frames s lines iub ⊎ IsSentUp planned rx_frames s lines iub). ⊎_elim
    (λ (l : IsLost planned.config.uplink.side rx_frames s lines iub). subst AreMild (sym l.reported) (tt, tt))
    (λ (u : IsSentUp planned rx_frames s lines iub). subst AreMild (sym u.reported) (tt, tt))
    r)
    serves

-- the lines on what is compared
check_mild : (dir : Dir) (i : ℕ) (taken given : List (List Bit)) (lines : List Line) → IsChecked dir i taken given lines → AreMild lines
check_mild dir i taken given lines is = ⊎_elim
    (λ (same : IsSublist taken given × (lines ≡ [])). subst AreMild (sym same.1) tt)
    (λ (other : (¬ IsSublist taken given) × (lines ≡ Differs dir i ∷ [])). subst AreMild (sym other.1) (tt, tt))
    is

checks_mild : (dir : Dir) (taken given : ℕ → List (List Bit)) (n : ℕ) (lines : List Line) → AreChecked dir taken given n lines → AreMild lines
checks_mild dir taken given zero lines is = subst AreMild (sym is) tt
checks_mild dir taken given (suc n) lines is = subst AreMild (sym is.all) (mild-append is.front is.own (checks_mild dir taken given n is.front is.before) (check_mild dir n (taken n) (given n) is.own is.is))

-- the lines on an Iub frame that the network controller takes
below_mild : (taken : ℕ → Taken) (n s : ℕ) → s < n → AreMild (lines_below taken n) → AreMild (taken s).lines
below_mild taken zero s l all = absurd (omega arith)
below_mild taken (suc n) s l all = ⊎_elim
    (λ (e : s ≡ n). subst (λ k. AreMild (taken k).lines) (sym e) (mild-back (lines_below taken n) (taken n).lines all))
    (λ (f : s < n). below_mild taken n s f (mild-front (lines_below taken n) (taken n).lines all))
    (last s n l)
  where
    last : (s n : ℕ) → s < suc n → (s ≡ n) ⊎ (s < n)
    last s n l = grind arith

taken_mild : (planned : Planned) (s : ℕ) (o : Option (List ℕ)) (near : Layer) (old new : RncState) (taken : Taken) (lines : List Line) → MayBeTaken planned s o near old new taken lines → AreMild taken.lines → AreMild lines
taken_mild planned s None near old new taken lines m all = subst AreMild (sym m.2) tt
taken_mild planned s (Some octets) near old new taken lines m all = subst AreMild (sym m.reported) (mild-append m.output.lines m.checks
    (subst AreMild (ap (λ (t : Taken). t.lines) m.is) all)
    (checks_mild Up (λ i. good_in (new.readings i)) (λ i. (near.given i).blocks) _ m.checks m.compared))

-- all lines so far, and those of an event
record Before (old : LinkState) (lines : List Line) : Type 0 where
  ue : AreMild old.ue.lines
  rnc : AreMild old.rnc.lines
  own : AreMild lines

frame_mild : (old new : LinkState) (lines : List Line) → IsFrame old new lines → AreMild new.ue.lines → AreMild new.rnc.lines → Before old lines
frame_mild old new lines f ue rnc = record {
  ue = mild-front old.ue.lines (f.kept_output.lines ++ f.ue_output.lines) ue_all;
  rnc = mild-front old.rnc.lines (f.rnc_output.lines ++ lines_below f.taken 8) rnc_all;
  own = subst AreMild (sym f.reported)
      (mild-append (f.rnc_output.lines ++ joined f.fed_lines 8 ++ f.down_output.lines ++ (f.ue_output.lines ++ f.checks) ++ f.up_output.lines) (joined f.rnc_lines 8)
      (mild-append (f.rnc_output.lines ++ joined f.fed_lines 8 ++ f.down_output.lines ++ (f.ue_output.lines ++ f.checks)) f.up_output.lines
      (mild-append (f.rnc_output.lines ++ joined f.fed_lines 8 ++ f.down_output.lines) (f.ue_output.lines ++ f.checks)
      (mild-append (f.rnc_output.lines ++ joined f.fed_lines 8) f.down_output.lines
      (mild-append f.rnc_output.lines (joined f.fed_lines 8)
      (mild-front f.rnc_output.lines (lines_below f.taken 8) rnc_new)
      (joined_mild f.fed_lines 8 (λ s l. arrives_mild s (iub_after old.damage Down s (f.rnc_output.iub s)) (f.fed s) (f.fed (s + 1)) (f.fed_lines s) (f.feeds s l))))
      (subst AreMild (sym f.down.reported) (radio_mild f.down_output.sent)))
      (mild-append f.ue_output.lines f.checks
      (mild-back f.kept_output.lines f.ue_output.lines (mild-back old.ue.lines (f.kept_output.lines ++ f.ue_output.lines) ue_all))
      (checks_mild Down (λ i. good_in (new.ue.state.readings i)) (λ i. (f.rnc.layer.given i).blocks) _ f.checks f.compared)))
      (subst AreMild (sym f.up.reported) (joined_mild f.up.lines 8 (λ s l. serves_mild f.node_b.planned f.up.rx_frames s (f.up.lines s) (f.up_output.iub s) (f.up.sets s l)))))
      (joined_mild f.rnc_lines 8 (λ s l. taken_mild old.rnc.state.planned s (iub_after old.damage Up s (f.up_output.iub s)) new.ue.state.layer (f.rncs s) (f.rncs (s + 1)) (f.taken s) (f.rnc_lines s) (f.takes s l)
      (below_mild f.taken 8 s l (mild-back f.rnc_output.lines (lines_below f.taken 8) rnc_new)))));
}
  where
    ue_all : AreMild (old.ue.lines ++ (f.kept_output.lines ++ f.ue_output.lines))
    ue_all = subst AreMild f.ue_reported ue

    rnc_all : AreMild (old.rnc.lines ++ (f.rnc_output.lines ++ lines_below f.taken 8))
    rnc_all = subst AreMild f.rnc_reported rnc

    rnc_new : AreMild (f.rnc_output.lines ++ lines_below f.taken 8)
    rnc_new = mild-back old.rnc.lines (f.rnc_output.lines ++ lines_below f.taken 8) rnc_all

ue_mild : (old : LinkState) (event : UeEvent) (new : LinkState) (lines : List Line) → UeGoes old event new → lines ≡ new.ue.last.lines → AreMild new.ue.lines → AreMild new.rnc.lines → Before old lines
ue_mild old event new lines goes reported ue rnc =
    let all : AreMild (old.ue.lines ++ new.ue.last.lines) = subst AreMild (ue_lines old new event goes) ue in
    record {
      ue = mild-front old.ue.lines new.ue.last.lines all;
      rnc = subst AreMild (ap (λ (c : Course RncState RncEvent). c.lines) (but_ue old new event goes).rnc) rnc;
      own = subst AreMild (sym reported) (mild-back old.ue.lines new.ue.last.lines all);
    }

rnc_mild : (old : LinkState) (event : RncEvent) (new : LinkState) (lines : List Line) → RncGoes old event new → lines ≡ new.rnc.last.lines → AreMild new.ue.lines → AreMild new.rnc.lines → Before old lines
rnc_mild old event new lines goes reported ue rnc =
    let all : AreMild (old.rnc.lines ++ new.rnc.last.lines) = subst AreMild (rnc_lines old new event goes) rnc in
    record {
      ue = subst AreMild (ap (λ (c : Course UeState UeEvent). c.lines) (but_rnc old new event goes).ue) ue;
      rnc = mild-front old.rnc.lines new.rnc.last.lines all;
      own = subst AreMild (sym reported) (mild-back old.rnc.lines new.rnc.last.lines all);
    }

between_mild : (old : LinkState) (event : LinkEvent) (new : LinkState) (lines : List Line) → Happens old event new lines → AreMild new.ue.lines → AreMild new.rnc.lines → Before old lines
between_mild old (OfferedUnit Up b octets bits) new lines h ue rnc = ue_mild old (UeOffered b octets bits) new lines h.0 h.1 ue rnc
between_mild old (OfferedUnit Down b octets bits) new lines h ue rnc = rnc_mild old (RncOffered b octets bits) new lines h.0 h.1 ue rnc
between_mild old (BlockedCombination Up c on) new lines h ue rnc = ue_mild old (UeBlocked c on) new lines h.0 h.1 ue rnc
between_mild old (BlockedCombination Down c on) new lines h ue rnc = rnc_mild old (RncBlocked c on) new lines h.0 h.1 ue rnc
between_mild old (Damages damage) new lines h ue rnc = record {
  ue = subst AreMild (ap (λ (l : LinkState). l.ue.lines) h.0) ue;
  rnc = subst AreMild (ap (λ (l : LinkState). l.rnc.lines) h.0) rnc;
  own = subst AreMild (sym h.1) tt;
}

event_mild : (old : LinkState) (event : Event) (new : LinkState) (lines : List Line) → Steps old event new lines → AreMild new.ue.lines → AreMild new.rnc.lines → Before old lines
event_mild old (Between event) new lines step ue rnc = between_mild old event new lines step ue rnc
event_mild old Frame new lines step ue rnc = frame_mild old new lines step.frame ue rnc

from : (events : List Event) (old new : LinkState) (lines : List Line) → Runs old events new lines → AreMild new.ue.lines → AreMild new.rnc.lines → Before old lines
from [] old new lines run ue rnc = record {
  ue = subst (λ (l : LinkState). AreMild l.ue.lines) run.0 ue;
  rnc = subst (λ (l : LinkState). AreMild l.rnc.lines) run.0 rnc;
  own = subst AreMild (sym run.1) tt;
}
from (event ∷ events) old new lines run ue rnc =
    let later : Before run.next run.rest = from events run.next new run.rest run.later ue rnc in
    let one : Before old run.own = event_mild old event run.next run.own run.step later.ue later.rnc in
    record { ue = one.ue; rnc = one.rnc; own = subst AreMild (sym run.reported) (mild-append run.own run.rest one.own later.own) }

pub run_mild : (events : List Event) (old new : LinkState) (lines : List Line) → Runs old events new lines → AreMild new.ue.lines → AreMild new.rnc.lines → AreMild lines
run_mild events old new lines run ue rnc = (from events old new lines run ue rnc).own
