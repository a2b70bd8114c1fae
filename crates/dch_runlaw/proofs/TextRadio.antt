-- What a Node B reports speaks of no unit: frames, refused frames, and TTIs that can't be read.
use Rattle.std.proofs.Common.{◌≡◌, ◌<◌, ℕ, zero, suc, List, [], ◌∷◌, ◌++◌, Bool, true, false, Option, Some, None, inl, inr, arith, refl, sym, subst}
use Rattle.dch_types.specs.declared.channel.Dir.{Dir}
use Rattle.dch_accept.specs.Plans.{Planned}
use Rattle.dch_tti.specs.RxFrames.{RxFrames}
use Rattle.dch_node.specs.Lines.{Line, Took, Full, Wrong, Bad, Reserved, NoBearer, Nobody, PduBad, Outside, Overlong, Got, GotBits, Iub, IubBad, Phy, PhyNone, BadTti, Differs, joined}
use Rattle.dch_node.specs.Values.{Output, Radio}
use Rattle.dch_linkcmd.specs.NodebState.{Change, DownlinkDue, Event as NodeBEvent, IubFrame, State as NodeBState, UplinkFrame}
use Rattle.dch_linkcmd.specs.NodebSteps.{DeliversSet, IsArrival, Steps as NodeBSteps, radio_line}
use Rattle.dch_runlaw.specs.Directions.{is_on, lines_on}
use Rattle.dch_runlaw.specs.Rows.{AreSmall, IsSmall}
use Rattle.dch_runlaw.specs.Frames.{MayArrive}
use Rattle.dch_runlaw.specs.TextDiffering.{AreLow, IsLow}

abbrev pub is_radio : Line → Bool
is_radio (Iub dir set octets) = true
is_radio (IubBad dir set n) = true
is_radio (Phy dir tfci cells) = true
is_radio PhyNone = true
is_radio (BadTti dir i n) = true
is_radio (Took dir b) = false
is_radio (Full dir b) = false
is_radio (Wrong dir b) = false
is_radio (Bad dir i k) = false
is_radio (Reserved dir i) = false
is_radio (NoBearer dir i ct) = false
is_radio (Nobody dir i) = false
is_radio (PduBad dir b n) = false
is_radio (Outside dir b) = false
is_radio (Overlong dir b) = false
is_radio (Got dir b octets) = false
is_radio (GotBits dir b bits) = false
is_radio (Differs dir i) = false

abbrev pub AreRadio : List Line → Type 0
AreRadio [] = Unit {0}
AreRadio (line ∷ lines) = (is_radio line ≡ true) × AreRadio lines

-- they are on no unit
radio_one : (dir : Dir) (b : ℕ) (x : Line) → is_radio x ≡ true → is_on dir b x ≡ false
radio_one dir b (Iub d set octets) e = refl
radio_one dir b (IubBad d set n) e = refl
radio_one dir b (Phy d tfci cells) e = refl
radio_one dir b PhyNone e = refl
radio_one dir b (BadTti d i n) e = refl
radio_one dir b (Took d c) e = refl
radio_one dir b (Full d c) e = refl
radio_one dir b (Wrong d c) e = refl
radio_one dir b (Bad d i k) e = refl
radio_one dir b (Reserved d i) e = refl
radio_one dir b (NoBearer d i ct) e = refl
radio_one dir b (Nobody d i) e = refl
radio_one dir b (PduBad d c n) e = absurd (cc)
radio_one dir b (Outside d c) e = absurd (cc)
radio_one dir b (Overlong d c) e = absurd (cc)
radio_one dir b (Got d c octets) e = absurd (cc)
radio_one dir b (GotBits d c bits) e = absurd (cc)
radio_one dir b (Differs d i) e = refl

pub radio_off : (dir : Dir) (b : ℕ) (xs : List Line) → AreRadio xs → lines_on dir b xs ≡ []
radio_off dir b [] h = refl
radio_off dir b (x ∷ xs) h = rw (radio_one dir b x h.0) (radio_off dir b xs h.1)

-- so they are small and low
radio_one_small : (x : Line) → is_radio x ≡ true → IsSmall x × IsLow x
radio_one_small (Took d c) e = (tt, tt)
radio_one_small (Full d c) e = (tt, tt)
radio_one_small (Wrong d c) e = (tt, tt)
radio_one_small (Bad d i k) e = (tt, tt)
radio_one_small (Reserved d i) e = (tt, tt)
radio_one_small (NoBearer d i ct) e = (tt, tt)
radio_one_small (Nobody d i) e = (tt, tt)
radio_one_small (PduBad d c n) e = (tt, tt)
radio_one_small (Outside d c) e = (tt, tt)
radio_one_small (Overlong d c) e = (tt, tt)
radio_one_small (Got d c octets) e = absurd (cc)
radio_one_small (GotBits d c bits) e = absurd (cc)
radio_one_small (Iub d set octets) e = (tt, tt)
radio_one_small (IubBad d set n) e = (tt, tt)
radio_one_small (Phy d tfci cells) e = (tt, tt)
radio_one_small PhyNone e = (tt, tt)
radio_one_small (BadTti d i n) e = (tt, tt)
radio_one_small (Differs d i) e = absurd (cc)

pub radio_small : (xs : List Line) → AreRadio xs → AreSmall xs
radio_small [] h = tt
radio_small (x ∷ xs) h = ((radio_one_small x h.0).0, radio_small xs h.1)

pub radio_low : (xs : List Line) → AreRadio xs → AreLow xs
radio_low [] h = tt
radio_low (x ∷ xs) h = ((radio_one_small x h.0).1, radio_low xs h.1)

radio_append : (xs ys : List Line) → AreRadio xs → AreRadio ys → AreRadio (xs ++ ys)
radio_append [] ys h k = k
radio_append (x ∷ xs) ys h k = (h.0, radio_append xs ys h.1 k)

pub sets_radio : (lines : ℕ → List Line) (n : ℕ) → ((s : ℕ) → s < n → AreRadio (lines s)) → AreRadio (joined lines n)
sets_radio lines zero h = tt
sets_radio lines (suc n) h = radio_append (joined lines n) (lines n) (sets_radio lines n (λ s l. h s (omega (arith, l)))) (h n (omega arith))

-- a step of a Node B
set_radio : (planned : Planned) (rx_frames : RxFrames) (s : ℕ) (lines : List Line) (iub : Option (List ℕ)) → DeliversSet planned rx_frames s lines iub → AreRadio lines
set_radio planned rx_frames s lines iub (inl waits) = subst AreRadio (sym waits.quiet) tt
set_radio planned rx_frames s lines iub (inr (inl lost)) = subst AreRadio (sym lost.reported) (refl, tt)
set_radio planned rx_frames s lines iub (inr (inr sent)) = subst AreRadio (sym sent.reported) (refl, tt)

arrival_radio : (planned : Planned) (old : NodeBState) (s : ℕ) (octets : List ℕ) (new : NodeBState) (output : Output) → IsArrival planned old s octets new output → AreRadio output.lines
arrival_radio planned old s octets new output (inl kept) = subst (λ (o : Output). AreRadio o.lines) (sym kept.quiet) tt
arrival_radio planned old s octets new output (inr refused) = subst (λ (o : Output). AreRadio o.lines) (sym refused.reported) (refl, tt)

sent_radio : (o : Option Radio) → AreRadio (radio_line o ∷ [])
sent_radio None = (refl, tt)
sent_radio (Some radio) = (refl, tt)

pub node_b_radio : (old : NodeBState) (e : NodeBEvent) (new : NodeBState) (output : Output) → NodeBSteps old e new output → AreRadio output.lines
node_b_radio old (IubFrame set octets) new output step = arrival_radio old.planned old set octets new output step
node_b_radio old DownlinkDue new output step = subst AreRadio (sym step.reported) (sent_radio output.sent)
node_b_radio old (UplinkFrame frame) new output step = subst AreRadio (sym step.reported) (sets_radio step.lines 8 (λ s l. set_radio old.planned step.rx_frames s (step.lines s) (output.iub s) (step.sets s l)))
node_b_radio old (Change second) new output step = subst (λ (o : Output). AreRadio o.lines) (sym step.quiet) tt

pub fed_radio : (s : ℕ) (o : Option (List ℕ)) (old new : NodeBState) (lines : List Line) → MayArrive s o old new lines → AreRadio lines
fed_radio s None old new lines m = subst AreRadio (sym m.1) tt
fed_radio s (Some octets) old new lines m = subst AreRadio (sym m.reported) (node_b_radio old (IubFrame s octets) new m.output m.step)
