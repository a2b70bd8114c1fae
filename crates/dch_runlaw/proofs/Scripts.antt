-- The lines of a script as events and radio frames of a run.
use Rattle.std.proofs.Common.{◌≡◌, ◌<◌, ◌≤◌, ◌+◌, ◌-◌, ◌*◌, ◌∙◌, ◌++◌, ℕ, zero, suc, List, [], ◌∷◌, Option, Some, None, Bool, true, false, append-nil, arith, refl, ap, sym, subst, inl, inr}
use Rattle.std.proofs.lemmas.Bool.Decides.{eqb_tells, leb_tells}
use Rattle.dch_types.specs.declared.config.Config.{Config}
use Rattle.dch_lines.specs.LineTexts.{HandlesLine, HandlesLines, is_empty}
use Rattle.dch_linkcmd.specs.Stepping.{LineSteps, Resumes}
use Rattle.dch_node.specs.Lines.{Line, joined}
use Rattle.dch_script.specs.LineText.{text_of}
use Rattle.dch_lines.specs.Coming.{coming}
use Rattle.dch_lines.specs.Shown.{shown}
use Rattle.dch_lines.specs.declared.later.Later.{Later}
use Rattle.dch_linkcmd.specs.Events.{Event as LinkEvent, Happens}
use Rattle.dch_linkcmd.specs.LinkLink.{LinkState}
use Rattle.dch_linkcmd.specs.Passing.{next_stage}
use Rattle.dch_linkcmd.specs.stage.Stage.TheVariants.{IubDown, RncTick}
use Rattle.dch_linkcmd.specs.LineEvents.{Frames, OneEvent, Said, Says}
use Rattle.dch_linkcmd.specs.Rules.{MayChange, PassesNext, Takes, link_lines, link_steps}
use Rattle.dch_linkcmd.specs.Run.{Run, config_of, passed_by, steps_left}
use Rattle.dch_linkcmd.proofs.Said.{some_frames}
use Rattle.dch_linkcmd.specs.RunLines.{active_behind}
use Rattle.dch_runlaw.specs.Intervals.{frames_in}
use Rattle.dch_runlaw.specs.Runs.{Between, Event, Frame, PassesFrame, Runs}
use Rattle.dch_runlaw.specs.Scripts.{AreSaid, IsAtRest, IsRunOf, LineSays, RunsOver, radio_frames}
use Rattle.dch_runlaw.proofs.Eight.{joined-split}
use Rattle.dch_runlaw.proofs.Passing.{FramePasses, Goes, GoesOn, all_stages, frame_passes, may_frames, may_left, may_stage}
use Rattle.dch_runlaw.proofs.RunningOver.{active_over, frames_in-append, only_run, over_append, soon_behind}
use Rattle.dch_runlaw.proofs.Shown.{shown-append, shown-none}

-- so many radio frames
pub frames_of-radio : (count : ℕ) → frames_in (radio_frames count) ≡ count
frames_of-radio zero = refl
frames_of-radio (suc count) = let rest : frames_in (radio_frames count) ≡ count = frames_of-radio count in omega (arith, rest)

-- a run of them
pub record FramesOver (count : ℕ) (old new : Run) (lines : List Line) : Type 0 where
  pub run : RunsOver old.second old.frames old.link (radio_frames count) new.link lines new.second
  pub stage : new.stage ≡ RncTick
  pub left : new.left ≡ old.left - count
  pub frames : new.frames ≡ old.frames + count

-- one of them, before which a second configuration may become active
one_run : (old new : LinkState) (lines : List Line) → PassesFrame old new lines → Runs old (Frame ∷ []) new lines
one_run old new lines frame = record { next = new; own = lines; rest = []; step = frame; later = (refl, refl); reported = sym (append-nil lines) }

one_over : (old mid : Run) (new : LinkState) (lines : List Line) → old.stage ≡ RncTick → ((later : Later) → old.second ≡ Some later → old.frames ≤ later.frame) → MayChange old mid → PassesFrame mid.link new lines
    → RunsOver old.second old.frames old.link (Frame ∷ []) new lines mid.second
one_over old mid new lines begun soon (inl makes) frame = inr (record {
  later = makes.later;
  was = makes.begins.due.waits;
  before = [];
  after = [];
  all = refl;
  now = omega (arith, makes.begins.due.now);
  last = old.link;
  start = makes.link;
  early = [];
  late = lines;
  run = (refl, refl);
  changes = makes.changes;
  rest = one_run makes.link new lines (subst (λ (l : LinkState). PassesFrame l new lines) (ap (λ (r : Run). r.link) makes.goes_on) frame);
  reported = refl;
  none = ap (λ (r : Run). r.second) makes.goes_on;
})
one_over old mid new lines begun soon (inr waits) frame = inl (record {
  run = one_run old.link new lines (subst (λ (l : LinkState). PassesFrame l new lines) (ap (λ (r : Run). r.link) waits.same) frame);
  soon = λ later was. elim (eqb_tells old.frames later.frame) [
    | inl same ↦ absurd (waits.undue later (record { due = record { waits = was; now = same.1 }; first = begun }))
    | inr other ↦ omega (arith, soon later was, other.1)
  ];
  still = ap (λ (r : Run). r.second) waits.same;
})

pub frames_pass : (count : ℕ) (old : Run) (runs mids : ℕ → Run) (links : ℕ → LinkState) (lines : ℕ → List Line) → old.stage ≡ RncTick → ((later : Later) → old.second ≡ Some later → old.frames ≤ later.frame) → runs 0 ≡ old
    → ((k : ℕ) → k < 20 * count → Goes (runs k) (mids k) (links k) (lines k) (runs (k + 1))) → FramesOver count old (runs (20 * count)) (joined lines (20 * count))
frames_pass zero old runs mids links lines begun soon first goes = subst (λ (r : Run). FramesOver zero old r []) (sym first) (record {
  run = only_run old.second old.frames old.link old.link [] [] soon refl (refl, refl);
  stage = begun;
  left = omega arith;
  frames = omega arith;
})
frames_pass (suc count) old runs mids links lines begun soon first goes =
    let size : 20 * suc count ≡ 20 + 20 * count = omega arith in
    let one : FramePasses old (runs 20) (joined lines 20) = frame_passes old runs mids links lines (record { first = first; begun = begun; goes = λ k below. goes k (omega (arith, below)) }) in
    let over : RunsOver old.second old.frames old.link (Frame ∷ []) one.link (joined lines 20) one.mid.second = one_over old one.mid one.link (joined lines 20) begun soon one.changes one.frame in
    let second : (runs 20).second ≡ one.mid.second = ap (λ (r : Run). r.second) one.over in
    let passed : (runs 20).frames ≡ old.frames + 1 = ap (λ (r : Run). r.frames) one.over ∙ ap (λ n. n + 1) (may_frames old one.mid one.changes) in
    let soon_next : (later : Later) → (runs 20).second ≡ Some later → (runs 20).frames ≤ later.frame = λ later is.
    (let past : old.frames + 1 ≤ later.frame = soon_behind old.second old.frames old.link one.link (Frame ∷ []) (joined lines 20) one.mid.second over later (sym second ∙ is) in omega (arith, passed, past)) in
    let rest : FramesOver count (runs 20) (runs (20 + 20 * count)) (joined (λ k. lines (20 + k)) (20 * count)) =
    frames_pass count (runs 20) (λ k. runs (20 + k)) (λ k. mids (20 + k)) (λ k. links (20 + k)) (λ k. lines (20 + k)) (ap (λ (r : Run). r.stage) one.over) soon_next refl
    (λ k below. let same : (20 + k) + 1 ≡ 20 + (k + 1) = omega arith in subst (λ n. Goes (runs (20 + k)) (mids (20 + k)) (links (20 + k)) (lines (20 + k)) (runs n)) same (goes (20 + k) (omega (arith, below)))) in
    let new : Run = runs (20 + 20 * count) in
    let last : List Line = joined (λ k. lines (20 + k)) (20 * count) in
    let more : RunsOver one.mid.second (old.frames + 1) one.link (radio_frames count) new.link last new.second =
    subst (λ (s : Option Later). RunsOver s (old.frames + 1) one.link (radio_frames count) new.link last new.second) second
    (subst (λ n. RunsOver (runs 20).second n one.link (radio_frames count) new.link last new.second) passed
    (subst (λ (l : LinkState). RunsOver (runs 20).second (runs 20).frames l (radio_frames count) new.link last new.second) (ap (λ (r : Run). r.link) one.over) rest.run)) in
    subst (λ n. FramesOver (suc count) old (runs n) (joined lines n)) (sym size) (record {
      run = subst (λ (l : List Line). RunsOver old.second old.frames old.link (radio_frames (suc count)) new.link l new.second) (sym (joined-split lines 20 (20 * count)))
          (over_append old.second old.frames old.link one.link new.link (Frame ∷ []) (radio_frames count) (joined lines 20) last one.mid.second new.second over more);
      stage = rest.stage;
      left = let less : (old.left - 1) - count ≡ old.left - suc count = omega arith in rest.left ∙ ap (λ (r : Run). r.left - count) one.over ∙ ap (λ n. (n - 1) - count) (may_left old one.mid one.changes) ∙ less;
      frames = omega (arith, rest.frames, passed);
    })

frames_done : (count : ℕ) (old mid new : Run) (lines : List Line) → mid ≡ new → FramesOver count old mid lines → FramesOver count old new lines
frames_done count old mid new lines same over = subst (λ (r : Run). FramesOver count old r lines) same over

-- what a line does
pub record LineOver (old : Run) (line : List ℕ) (new : Run) (text : List ℕ) : Type 0 where
  pub events : List Event
  pub said : LineSays (config_of old) line events
  pub reported : List Line
  pub run : RunsOver old.second old.frames old.link events new.link reported new.second
  pub frames : new.frames ≡ old.frames + frames_in events
  pub shows : text ≡ shown old.quiet (text_of reported)
  pub quiet : new.quiet ≡ old.quiet
  pub rests : IsAtRest new

no_steps : (run : Run) → IsAtRest run → steps_left run.stage run.left ≡ 0
no_steps run rests = rw rests.left refl

one_event : (old new : LinkState) (event : LinkEvent) (lines : List Line) → Happens old event new lines → Runs old (Between event ∷ []) new lines
one_event old new event lines happens = record { next = new; own = lines; rest = []; step = happens; later = (refl, refl); reported = sym (append-nil lines) }

-- the stages of so many radio frames
stages_over : (old : Run) (line : List ℕ) (new : Run) (text all : List ℕ) (count : ℕ) → IsAtRest old → is_empty line ≡ false → Says (config_of old) line (Frames count) → GoesOn (20 * count) (record old { left = count }) new all → text ≡ all → LineOver old line new text
stages_over old line new text all count rests words says goes whole =
    let begun : Run = record old { left = count } in
    let over : FramesOver count begun (goes.runs (20 * count)) (joined goes.lines (20 * count)) = frames_pass count begun goes.runs goes.mids goes.links goes.lines rests.stage rests.soon goes.first goes.goes in
    let done : FramesOver count begun new (joined goes.lines (20 * count)) = frames_done count begun (goes.runs (20 * count)) new (joined goes.lines (20 * count)) goes.last over in
    let frames : new.frames ≡ old.frames + frames_in (radio_frames count) = done.frames ∙ ap (λ n. old.frames + n) (sym (frames_of-radio count)) in
    record {
      events = radio_frames count;
      said = rw words (record { said = Frames count; says = says; are = refl });
      reported = joined goes.lines (20 * count);
      run = done.run;
      frames = frames;
      shows = whole ∙ goes.shows;
      quiet = goes.quiet;
      rests = record {
        stage = done.stage;
        left = let none : count - count ≡ 0 = omega arith in done.left ∙ none;
        soon = λ later is. (let past : old.frames + frames_in (radio_frames count) ≤ later.frame = soon_behind old.second old.frames old.link new.link (radio_frames count) (joined goes.lines (20 * count)) new.second done.run later is in omega (arith, frames, past));
      };
    }

step_over : (old : Run) (line : List ℕ) (new : Run) (text : List ℕ) → IsAtRest old → is_empty line ≡ false → (said : Said) → Says (config_of old) line said → (mid : Run) (first rest : List ℕ) → Takes said old mid first → Resumes link_steps (steps_left mid.stage mid.left) mid new rest → text ≡ first ++ rest → LineOver old line new text
step_over old line new text rests words (OneEvent event) says mid first rest takes resumes whole =
    let after : IsAtRest mid = subst IsAtRest (sym takes.goes_on) (record { stage = rests.stage; left = rests.left; soon = rests.soon }) in
    let done : (new ≡ mid) × (rest ≡ []) = subst (λ n. Resumes link_steps n mid new rest) (no_steps mid after) resumes in
    let same : new ≡ record old { link = takes.link } = done.0 ∙ takes.goes_on in
    let run : RunsOver old.second old.frames old.link (Between event ∷ []) takes.link takes.lines old.second =
    only_run old.second old.frames old.link takes.link (Between event ∷ []) takes.lines rests.soon refl (one_event old.link takes.link event takes.lines takes.happens) in
    record {
      events = Between event ∷ [];
      said = rw words (record { said = OneEvent event; says = says; are = refl });
      reported = takes.lines;
      run = subst (λ (r : Run). RunsOver old.second old.frames old.link (Between event ∷ []) r.link takes.lines r.second) (sym same) run;
      frames = let none : old.frames ≡ old.frames + 0 = omega arith in ap (λ (r : Run). r.frames) same ∙ none;
      shows = whole ∙ ap (λ (t : List ℕ). first ++ t) done.1 ∙ append-nil first ∙ takes.shows;
      quiet = ap (λ (r : Run). r.quiet) same;
      rests = subst IsAtRest (sym done.0) after;
    }
step_over old line new text rests words (Frames count) says mid first rest takes resumes whole =
    let begun : Run = record old { left = count } in
    let some : 1 ≤ count = some_frames (config_of old) line count says in
    let passes : PassesNext begun mid first = takes in
    let calm : passes.mid.stage ≡ RncTick = may_stage begun passes.mid passes.changes ∙ rests.stage in
    let on : mid ≡ record passes.mid { link = passes.passes.link; stage = IubDown 0 } = passes.passes.goes_on ∙ ap (λ stage. passed_by passes.mid passes.passes.link (next_stage stage)) calm in
    let many : steps_left mid.stage mid.left ≡ 20 * (count - 1) + 19 = ap (λ (r : Run). steps_left r.stage r.left) on ∙ ap (λ n. steps_left (IubDown 0) n) (may_left begun passes.mid passes.changes) ∙ left_of count some in
    let all : 1 + steps_left mid.stage mid.left ≡ 20 * count = omega (arith, many, some) in
    stages_over old line new text (first ++ rest) count rests words says (subst (λ n. GoesOn n begun new (first ++ rest)) all (all_stages (steps_left mid.stage mid.left) begun mid new first rest passes resumes)) whole
  where
    left_of : (count : ℕ) → 1 ≤ count → steps_left (IubDown 0) count ≡ 20 * (count - 1) + 19
    left_of count some = elim (eqb_tells count 0) [
      | inl none ↦ absurd (omega (arith, some, none.1))
      | inr other ↦ rw other.0 refl
    ]

-- nothing is said
nothing_over : (old : Run) → IsAtRest old → RunsOver old.second old.frames old.link [] old.link [] old.second
nothing_over old rests = only_run old.second old.frames old.link old.link [] [] rests.soon refl (refl, refl)

line_over : (old : Run) (line : List ℕ) (new : Run) (text : List ℕ) → IsAtRest old → HandlesLine link_lines old line new text → LineOver old line new text
line_over old line new text rests handles = cases (is_empty line) refl
  where
    cases : (b : Bool) → is_empty line ≡ b → LineOver old line new text
    cases true empty =
        let own : (new ≡ old) × (text ≡ []) = rw empty at handles in
        let none : old.frames ≡ old.frames + 0 = omega arith in
        subst (λ (r : Run). LineOver old line r text) (sym own.0) (record {
          events = [];
          said = rw empty refl;
          reported = [];
          run = nothing_over old rests;
          frames = none;
          shows = own.1 ∙ sym (shown-none old.quiet);
          quiet = refl;
          rests = rests;
        })
    cases false words =
        let own : LineSteps link_steps old line new text = rw words at handles in
        step_over old line new text rests words own.handles.said own.handles.says own.mid own.first own.rest own.handles.takes own.resumes own.whole

-- lines say the same where the same is active from here on
said_as : (one other : ℕ → Config) (frames : ℕ) (lines : List (List ℕ)) (events : List Event) → ((now : ℕ) → frames ≤ now → one now ≡ other now) → AreSaid one frames lines events → AreSaid other frames lines events
said_as one other frames [] events same said = said
said_as one other frames (line ∷ lines) events same said = record {
  own = said.own;
  rest = said.rest;
  first = subst (λ (c : Config). LineSays c line said.own) (same frames (omega arith)) said.first;
  later = said_as one other (frames + frames_in said.own) lines said.rest (λ now past. same now (omega (arith, past))) said.later;
  all = said.all;
}

-- the configuration before a line is the one that is active
early_active : (run : Run) → IsAtRest run → active_behind (config_of run) (coming run.second) run.frames ≡ config_of run
early_active run rests = by run.second rests.soon
  where
    by : (second : Option Later) → ((later : Later) → second ≡ Some later → run.frames ≤ later.frame) → active_behind (config_of run) (coming second) run.frames ≡ config_of run
    by None soon = refl
    by (Some later) soon = elim (leb_tells run.frames later.frame) [
      | inl is ↦ rw is.0 refl
      | inr late ↦ absurd (omega (arith, soon later refl, late.1))
    ]

pub lines_run : (old : Run) (lines : List (List ℕ)) (new : Run) (text : List ℕ) → IsAtRest old → HandlesLines link_lines old lines new text → IsRunOf old lines new text
lines_run old [] new text rests handles =
    let none : old.frames ≡ old.frames + 0 = omega arith in
    subst (λ (r : Run). IsRunOf old [] r text) (sym handles.0) (record {
      events = [];
      said = refl;
      reported = [];
      run = nothing_over old rests;
      frames = none;
      shows = handles.1 ∙ sym (shown-none old.quiet);
      quiet = refl;
      rests = rests;
    })
lines_run old (line ∷ lines) new text rests (mid, (first, (rest, (handles, more, whole)))) =
    let one : LineOver old line mid first = line_over old line mid first rests handles in
    let others : IsRunOf mid lines new rest = lines_run mid lines new rest one.rests more in
    let at : ℕ → Config = active_behind (config_of old) (coming old.second) in
    let said : AreSaid at (old.frames + frames_in one.events) lines others.events =
    said_as (active_behind (config_of mid) (coming mid.second)) at (old.frames + frames_in one.events) lines others.events
    (λ now past. active_over old.second old.frames old.link mid.link one.events one.reported mid.second one.run now past)
    (subst (λ n. AreSaid (active_behind (config_of mid) (coming mid.second)) n lines others.events) one.frames others.said) in
    record {
      events = one.events ++ others.events;
      said = record { own = one.events; rest = others.events; first = subst (λ (c : Config). LineSays c line one.events) (sym (early_active old rests)) one.said; later = said; all = refl };
      reported = one.reported ++ others.reported;
      run = over_append old.second old.frames old.link mid.link new.link one.events others.events one.reported others.reported mid.second new.second one.run
          (subst (λ n. RunsOver mid.second n mid.link others.events new.link others.reported new.second) one.frames others.run);
      frames = omega (arith, others.frames, one.frames, frames_in-append one.events others.events);
      shows = whole ∙ ap (λ (t : List ℕ). t ++ rest) one.shows ∙ ap (λ (t : List ℕ). shown old.quiet (text_of one.reported) ++ t) (others.shows ∙ ap (λ quiet. shown quiet (text_of others.reported)) one.quiet)
          ∙ sym (shown-append old.quiet one.reported others.reported);
      quiet = others.quiet ∙ one.quiet;
      rests = others.rests;
    }
