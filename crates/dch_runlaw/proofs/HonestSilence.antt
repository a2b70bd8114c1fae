-- Where no line says of a channel that blocks were taken as good that were not given, what was taken is some of what was given.
use Rattle.std.proofs.Common.{◌≡◌, ◌<◌, ◌≤◌, ◌+◌, ℕ, zero, suc, List, [], ◌∷◌, ◌++◌, Option, Some, None, length, arith, refl, sym, subst, ⊎_elim}
use Rattle.std.specs.Prelude.{Contains}
use Rattle.std.proofs.lemmas.Bool.{cases_lt}
use Rattle.std.proofs.lemmas.List.Elements.{Contains-append_left, Contains-append_right}
use Rattle.dch_bits.specs.declared.bit.Bit.{Bit}
use Rattle.dch_types.specs.declared.channel.Dir.{Dir}
use Rattle.dch_types.specs.declared.channel.Dir.TheVariants.{Up, Down}
use Rattle.dch_types.specs.Parts.{channel_at, side_of}
use Rattle.dch_accept.specs.Plans.{Planned}
use Rattle.dch_node.specs.Lines.{Differs, Line, joined}
use Rattle.dch_layer2.specs.Layers.{Layer}
use Rattle.dch_damage.specs.Damage.{iub_after}
use Rattle.dch_linkcmd.specs.RncState.{State as RncState}
use Rattle.dch_linkcmd.specs.Checks.{AreChecked, IsChecked, IsSublist, good_in}
use Rattle.dch_linkcmd.specs.LinkLink.{LinkState}
use Rattle.dch_linkcmd.specs.LinkStages.{AreCompared}
use Rattle.dch_runlaw.specs.Frames.{IsFrame, MayBeTaken, Taken}
use Rattle.dch_runlaw.specs.Runs.{Between, Event, Frame, Runs, Steps}
use Rattle.dch_runlaw.specs.HonestFits.{EventFits, FrameFits, IsChannel, IsHonest, RunFits}
use Rattle.dch_runlaw.specs.HonestSilent.{Lacks}
use Rattle.dch_runlaw.proofs.HonestPhases.{Anything}
use Rattle.dch_runlaw.proofs.HonestStaying.{AreFor, event_for}

-- the parts of a list
left : (xs ys : List Line) (line : Line) → Lacks (xs ++ ys) line → Lacks xs line
left xs ys line lacks = λ has. lacks (Contains-append_left xs ys line has)

right : (xs ys : List Line) (line : Line) → Lacks (xs ++ ys) line → Lacks ys line
right xs ys line lacks = λ has. lacks (Contains-append_right xs ys line has)

one_of : (lines : ℕ → List Line) (n s : ℕ) (line : Line) → s < n → Lacks (joined lines n) line → Lacks (lines s) line
one_of lines zero s line l lacks = absurd (omega arith)
one_of lines (suc n) s line l lacks = ⊎_elim
    (λ (q : s < n). one_of lines n s line q (left (joined lines n) (lines n) line lacks))
    (λ (q : n ≤ s). let same : n ≡ s = omega (arith, l, q) in subst (λ k. Lacks (lines k) line) same (right (joined lines n) (lines n) line lacks))
    (cases_lt s n)

-- a channel, and one of the first ones
own_fits : (dir : Dir) (i : ℕ) (taken given : List (List Bit)) (lines : List Line) → Lacks lines (Differs dir i) → IsChecked dir i taken given lines → IsSublist taken given
own_fits dir i taken given lines lacks c = ⊎_elim
    (λ (p : IsSublist taken given × (lines ≡ [])). p.0)
    (λ (p : (¬ IsSublist taken given) × (lines ≡ Differs dir i ∷ [])). let own : Contains (Differs dir i ∷ []) (Differs dir i) = (0, omega arith, refl) in absurd (subst (λ (l : List Line). Lacks l (Differs dir i)) p.1 lacks own))
    c

checked_fits : (dir : Dir) (taken given : ℕ → List (List Bit)) (n i : ℕ) (lines : List Line) → i < n → Lacks lines (Differs dir i) → AreChecked dir taken given n lines → IsSublist (taken i) (given i)
checked_fits dir taken given zero i lines l lacks c = absurd (omega arith)
checked_fits dir taken given (suc n) i lines l lacks c =
    let parts : Lacks (c.front ++ c.own) (Differs dir i) = subst (λ (x : List Line). Lacks x (Differs dir i)) c.all lacks in
    ⊎_elim
    (λ (q : i < n). checked_fits dir taken given n i c.front q (left c.front c.own (Differs dir i) parts) c.before)
    (λ (q : n ≤ i). let same : n ≡ i = omega (arith, l, q) in
    subst (λ k. IsSublist (taken k) (given k)) same (own_fits dir n (taken n) (given n) c.own (subst (λ k. Lacks c.own (Differs dir k)) (sym same) (right c.front c.own (Differs dir i) parts)) c.is))
    (cases_lt i n)

-- an Iub frame up
taken_fits : (planned : Planned) (up s : ℕ) (o : Option (List ℕ)) (near : Layer) (old new : RncState) (taken : Taken) (lines : List Line) → up < length planned.config.uplink.side.channels → Lacks lines (Differs Up up) → MayBeTaken planned s o near old new taken lines → IsSublist (good_in (taken.readings up)) (near.given up).blocks
taken_fits planned up s None near old new taken lines l lacks m = subst (λ (x : Taken). IsSublist (good_in (x.readings up)) (near.given up).blocks) (sym m.1) tt
taken_fits planned up s (Some octets) near old new taken lines l lacks m =
    let own : Lacks m.checks (Differs Up up) = right m.output.lines m.checks (Differs Up up) (subst (λ (x : List Line). Lacks x (Differs Up up)) m.reported lacks) in
    subst (λ (x : Taken). IsSublist (good_in (x.readings up)) (near.given up).blocks) (sym m.is)
    (checked_fits Up (λ i. good_in (new.readings i)) (λ i. (near.given i).blocks) (length planned.config.uplink.side.channels) up m.checks l own m.compared)

-- the lines of a radio frame
parts : (old new : LinkState) (lines : List Line) (f : IsFrame old new lines) (line : Line) → Lacks lines line → Lacks f.checks line × Lacks (joined f.rnc_lines 8) line
parts old new lines f line lacks = (
  right f.ue_output.lines f.checks line (right before own line (left (before ++ own) f.up_output.lines line (left ((before ++ own) ++ f.up_output.lines) (joined f.rnc_lines 8) line all))),
  right ((before ++ own) ++ f.up_output.lines) (joined f.rnc_lines 8) line all,
)
  where
    before : List Line
    before = f.rnc_output.lines ++ joined f.fed_lines 8 ++ f.down_output.lines

    own : List Line
    own = f.ue_output.lines ++ f.checks

    all : Lacks (((before ++ own) ++ f.up_output.lines) ++ joined f.rnc_lines 8) line
    all = subst (λ (x : List Line). Lacks x line) f.reported lacks

-- a radio frame
up_fits : (planned : Planned) (up : ℕ) (old new : LinkState) (lines : List Line) (f : IsFrame old new lines) → IsChannel planned.config.uplink.side up → old.rnc.state.planned ≡ planned → Lacks lines (Differs Up up) → FrameFits IsSublist planned Up up old new lines f
up_fits planned up old new lines f u active lacks = λ _. taken_fits planned up set (iub_after old.damage Up set (f.up_output.iub set)) new.ue.state.layer (f.rncs set) (f.rncs (set + 1)) (f.taken set) (f.rnc_lines set) u.there
    (one_of f.rnc_lines 8 set (Differs Up up) u.small (parts old new lines f (Differs Up up) lacks).1)
    (subst (λ (p : Planned). MayBeTaken p set (iub_after old.damage Up set (f.up_output.iub set)) new.ue.state.layer (f.rncs set) (f.rncs (set + 1)) (f.taken set) (f.rnc_lines set)) active (f.takes set u.small))
  where
    set : ℕ
    set = (channel_at planned.config.uplink.side up).set

down_fits : (planned : Planned) (down : ℕ) (old new : LinkState) (lines : List Line) (f : IsFrame old new lines) → IsChannel planned.config.downlink.side down → old.rnc.state.planned ≡ planned → Lacks lines (Differs Down down) → FrameFits IsSublist planned Down down old new lines f
down_fits planned down old new lines f d active lacks = λ _. checked_fits Down (λ i. good_in (new.ue.state.readings i)) (λ i. (f.rnc.layer.given i).blocks) (length planned.config.downlink.side.channels) down f.checks d.there
    (parts old new lines f (Differs Down down) lacks).0
    (subst (λ (p : Planned). AreCompared Down p.config.downlink.side new.ue.state.readings f.rnc.layer f.checks) active f.compared)

event_fits : (planned : Planned) (dir : Dir) (i : ℕ) (old : LinkState) (event : Event) (new : LinkState) (lines : List Line) (step : Steps old event new lines) → IsChannel (side_of planned.config dir) i → old.rnc.state.planned ≡ planned → Lacks lines (Differs dir i) → EventFits IsSublist planned dir i old event new lines step
event_fits planned dir i old (Between event) new lines step is active lacks = tt
event_fits planned Up i old Frame new lines step is active lacks = up_fits planned i old new lines step.frame is active lacks
event_fits planned Down i old Frame new lines step is active lacks = down_fits planned i old new lines step.frame is active lacks

-- a run
pub run_fits : (planned : Planned) (dir : Dir) (i : ℕ) (events : List Event) (old new : LinkState) (lines : List Line) (run : Runs old events new lines) → IsChannel (side_of planned.config dir) i → AreFor planned old → Lacks lines (Differs dir i) → IsHonest planned dir i events old new lines run
run_fits planned dir i [] old new lines run is are lacks = tt
run_fits planned dir i (event ∷ events) old new lines run is are lacks =
    let each : Lacks (run.own ++ run.rest) (Differs dir i) = subst (λ (x : List Line). Lacks x (Differs dir i)) run.reported lacks in (
      event_fits planned dir i old event run.next run.own run.step is are.rnc (left run.own run.rest (Differs dir i) each),
      run_fits planned dir i events run.next new run.rest run.later is (event_for planned old event run.next run.own run.step are) (right run.own run.rest (Differs dir i) each),
    )

-- anything fits where nothing is asked
any_event_fits : (planned : Planned) (dir : Dir) (i : ℕ) (old : LinkState) (event : Event) (new : LinkState) (lines : List Line) (step : Steps old event new lines) → EventFits Anything planned dir i old event new lines step
any_event_fits planned dir i old (Between event) new lines step = tt
any_event_fits planned Up i old Frame new lines step = λ _. tt
any_event_fits planned Down i old Frame new lines step = λ _. tt

pub any_fits : (planned : Planned) (dir : Dir) (i : ℕ) (events : List Event) (old new : LinkState) (lines : List Line) (run : Runs old events new lines) → RunFits Anything planned dir i events old new lines run
any_fits planned dir i [] old new lines run = tt
any_fits planned dir i (event ∷ events) old new lines run = (any_event_fits planned dir i old event run.next run.own run.step, any_fits planned dir i events run.next new run.rest run.later)
