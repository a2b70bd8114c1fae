-- The lines of a run without one that changes nothing.
use Rattle.std.proofs.Common.{◌≡◌, ◌+◌, ◌∙◌, ◌++◌, ℕ, List, [], ◌∷◌, Bool, true, false, inl, inr, refl, ap, sym, subst, arith, append_assoc}
use Rattle.std.specs.Prelude.{None}
use Rattle.dch_accept.specs.Plans.{Planned}
use Rattle.dch_lines.specs.LineTexts.{HandlesLine, HandlesLines, is_empty}
use Rattle.dch_node.specs.Lines.{Line}
use Rattle.dch_script.specs.LineText.{text_of}
use Rattle.dch_nodecmd.specs.NoTrace.{ChangesNothing, ChangesNothingAfter, IsSameRun, LeavesNoTrace}
use Rattle.dch_nodecmd.specs.NodeRules.{AreLasting, AsksChange, NodeRules, SaysEvent}
use Rattle.dch_nodecmd.specs.Rules.{MakesChange, TakesEvent, TakesLine, TakesSaid, node_lines}
use Rattle.dch_nodecmd.specs.Run.{Run, frames_in}
use Rattle.dch_lines.specs.Shown.{shown}
use Rattle.dch_nodecmd.proofs.Running.{frames_next}
use Rattle.dch_nodecmd.proofs.Said.{one_event, says_or_asks}

-- states from which steps go on alike have one configuration
same_planned : {S E : Type 0} (rules : NodeRules S E) → AreLasting rules → (old older : S) → rules.kept older ≡ rules.kept old → rules.planned older ≡ rules.planned old
same_planned rules lasting old older same = sym (lasting.is_kept older) ∙ ap rules.planned same ∙ lasting.is_kept old

-- the same run does the same with a line
next_same : {S E : Type 0} (rules : NodeRules S E) → AreLasting rules → (run other new : Run S E) (event : E) (text : List ℕ) → IsSameRun rules run other → TakesEvent rules run event new text → (newer : Run S E) × TakesEvent rules other event newer text × IsSameRun rules new newer
next_same {S} {E} rules lasting run other new event text same takes =
    let newer : Run S E = record other { node = takes.node; events = other.events ++ event ∷ []; lines = other.lines ++ takes.output.lines; last = takes.output } in (
      newer,
      record {
        node = takes.node;
        output = takes.output;
        step = lasting.goes_on run.node other.node takes.node event takes.output same.node takes.step;
        goes_on = refl;
        shows = takes.shows ∙ ap (λ q. shown q (text_of takes.output.lines)) (sym same.quiet);
      },
      subst (λ (r : Run S E). IsSameRun rules r newer) (sym takes.goes_on) (record {
        node = refl;
        began = same.began;
        first = same.first;
        second = same.second;
        quiet = same.quiet;
        frames = frames_next rules other.events event ∙ ap (λ n. n + rules.frames event) same.frames ∙ sym (frames_next rules run.events event);
      }),
    )

said_same : {S E : Type 0} (rules : NodeRules S E) → AreLasting rules → (run other new : Run S E) (line text : List ℕ) → IsSameRun rules run other → TakesSaid rules run line new text → (newer : Run S E) × TakesLine rules other line newer text × IsSameRun rules new newer
said_same rules lasting run other new line text same takes =
    let next = next_same rules lasting run other new takes.event text same takes.takes in (
      next.0,
      inl (record {
        event = takes.event;
        says = subst (λ (p : Planned). SaysEvent rules p.config line takes.event) (sym (same_planned rules lasting run.node other.node same.node)) takes.says;
        takes = next.1;
      }),
      next.2,
    )

changed_same : {S E : Type 0} (rules : NodeRules S E) → AreLasting rules → (run other new : Run S E) (line text : List ℕ) → IsSameRun rules run other → AsksChange rules (rules.planned run.node).config line → MakesChange rules run new text
    → (newer : Run S E) × TakesLine rules other line newer text × IsSameRun rules new newer
changed_same {S} {E} rules lasting run other new line text same asks makes =
    let before : Run S E = record run { second = None } in
    let there : Run S E = record other { second = None } in
    let alike : IsSameRun rules before there = record { node = same.node; began = same.began; first = same.first; second = refl; quiet = same.quiet; frames = same.frames } in
    let next = next_same rules lasting before there new (rules.change makes.later.accepted) text alike makes.takes in (
      next.0,
      inr (
        subst (λ (p : Planned). AsksChange rules p.config line) (sym (same_planned rules lasting run.node other.node same.node)) asks,
        record { later = makes.later; due = record { waits = same.second ∙ makes.due.waits; now = same.frames ∙ makes.due.now }; takes = next.1 },
      ),
      next.2,
    )

taken_same : {S E : Type 0} (rules : NodeRules S E) → AreLasting rules → (run other new : Run S E) (line text : List ℕ) → IsSameRun rules run other → TakesLine rules run line new text → (newer : Run S E) × TakesLine rules other line newer text × IsSameRun rules new newer
taken_same rules lasting run other new line text same (inl says) = said_same rules lasting run other new line text same says
taken_same rules lasting run other new line text same (inr changes) = changed_same rules lasting run other new line text same changes.0 changes.1

line_same : {S E : Type 0} (rules : NodeRules S E) → AreLasting rules → (run other new : Run S E) (line text : List ℕ) → IsSameRun rules run other → HandlesLine (node_lines rules) run line new text → (newer : Run S E) × HandlesLine (node_lines rules) other line newer text × IsSameRun rules new newer
line_same {S} {E} rules lasting run other new line text same handles = cases (is_empty line) refl
  where
    cases : (b : Bool) → is_empty line ≡ b → (newer : Run S E) × HandlesLine (node_lines rules) other line newer text × IsSameRun rules new newer
    cases true empty =
        let own : (new ≡ run) × (text ≡ []) = rw empty at handles in
        let there : HandlesLine (node_lines rules) other line other text = rw empty (refl, own.1) in
        (other, there, subst (λ (r : Run S E). IsSameRun rules r other) (sym own.0) same)
    cases false words =
        let own : TakesLine rules run line new text = rw words at handles in
        let next = taken_same rules lasting run other new line text same own in
        let there : HandlesLine (node_lines rules) other line next.0 text = rw words next.1 in
        (next.0, there, next.2)

lines_same : {S E : Type 0} (rules : NodeRules S E) → AreLasting rules → (run other new : Run S E) (lines : List (List ℕ)) (text : List ℕ) → IsSameRun rules run other → HandlesLines (node_lines rules) run lines new text → (newer : Run S E) × HandlesLines (node_lines rules) other lines newer text × IsSameRun rules new newer
lines_same {S} {E} rules lasting run other new [] text same handles = (other, (refl, handles.1), subst (λ (r : Run S E). IsSameRun rules r other) (sym handles.0) same)
lines_same rules lasting run other new (line ∷ lines) text same (mid, (first, (rest, (handles, later, whole)))) =
    let next = line_same rules lasting run other mid line first same handles in
    let then = lines_same rules lasting mid next.0 new lines rest next.2 later in
    (then.0, (next.0, (first, (rest, (next.1, then.1, whole)))), then.2)

-- a line leaves as it is whether the lines of frames are left out
taken_quiet : {S E : Type 0} (rules : NodeRules S E) (run new : Run S E) (line text : List ℕ) → TakesLine rules run line new text → new.quiet ≡ run.quiet
taken_quiet {S} {E} rules run new line text (inl says) = ap (λ (r : Run S E). r.quiet) says.takes.goes_on
taken_quiet {S} {E} rules run new line text (inr changes) = ap (λ (r : Run S E). r.quiet) changes.1.takes.goes_on

line_quiet : {S E : Type 0} (rules : NodeRules S E) (run new : Run S E) (line text : List ℕ) → HandlesLine (node_lines rules) run line new text → new.quiet ≡ run.quiet
line_quiet {S} {E} rules run new line text handles = cases (is_empty line) refl
  where
    cases : (b : Bool) → is_empty line ≡ b → new.quiet ≡ run.quiet
    cases true empty = let own : (new ≡ run) × (text ≡ []) = rw empty at handles in ap (λ (r : Run S E). r.quiet) own.0
    cases false words = let own : TakesLine rules run line new text = rw words at handles in taken_quiet rules run new line text own

nothing_same : {S E : Type 0} (rules : NodeRules S E) → AreLasting rules → (run new : Run S E) (line text : List ℕ) (lines : List Line) → ChangesNothing rules (rules.planned run.node) line lines → TakesLine rules run line new text
    → IsSameRun rules new run × (text ≡ shown run.quiet (text_of lines))
nothing_same rules lasting run new line text lines nothing (inr changes) = absurd (says_or_asks rules lasting (rules.planned run.node).config line nothing.event nothing.says changes.0)
nothing_same {S} {E} rules lasting run new line text lines nothing (inl takes) =
    let event : takes.event ≡ nothing.event = one_event rules (rules.planned run.node).config line nothing.event takes.event nothing.says takes.says in
    let step : rules.steps run.node nothing.event takes.takes.node takes.takes.output = subst (λ (e : E). rules.steps run.node e takes.takes.node takes.takes.output) event takes.takes.step in
    let same = nothing.answered run.node takes.takes.node takes.takes.output refl step in
    let none : rules.frames takes.event ≡ 0 = ap rules.frames event ∙ nothing.uncounted in
    let frames : frames_in rules (run.events ++ takes.event ∷ []) ≡ frames_in rules run.events = (let next = frames_next rules run.events takes.event in omega (arith, next, none)) in (
      subst (λ (r : Run S E). IsSameRun rules r run) (sym takes.takes.goes_on) (record { node = sym same.0; began = refl; first = refl; second = refl; quiet = refl; frames = sym frames }),
      takes.takes.shows ∙ ap (λ (l : List Line). shown run.quiet (text_of l)) same.1,
    )

pub no_trace : {S E : Type 0} (rules : NodeRules S E) (run new : Run S E) (before after : List (List ℕ)) (line text : List ℕ) (lines : List Line) → AreLasting rules → ChangesNothingAfter rules run before line lines
    → HandlesLines (node_lines rules) run (before ++ line ∷ after) new text → LeavesNoTrace rules run new before after lines text
no_trace rules run new [] after line text lines lasting nothing (mid, (first, (rest, (handles, later, whole)))) =
    let here : ChangesNothing rules (rules.planned run.node) line lines = nothing run [] (refl, refl) in
    let own : TakesLine rules run line mid first = rw here.words at handles in
    let same = nothing_same rules lasting run mid line first lines here own in
    let then = lines_same rules lasting mid run new after rest same.0 later in
    record {
      other = then.0;
      front = [];
      back = rest;
      whole = whole ∙ ap (λ (l : List ℕ). l ++ rest) same.1;
      without = then.1;
      same = then.2;
    }
no_trace rules run new (head ∷ before) after line text lines lasting nothing (mid, (first, (rest, (handles, later, whole)))) =
    let quiet = line_quiet rules run mid head first handles in
    let then = no_trace rules mid new before after line rest lines lasting (λ at more handled. nothing at (first ++ more) (mid, (first, (more, (handles, handled, refl))))) later in
    let own : List ℕ = shown run.quiet (text_of lines) in
    let same : rest ≡ then.front ++ own ++ then.back = then.whole ∙ ap (λ q. then.front ++ shown q (text_of lines) ++ then.back) quiet in
    record {
      other = then.other;
      front = first ++ then.front;
      back = then.back;
      whole =
          whole ∙ ap (λ (l : List ℕ). first ++ l) same ∙ sym (append_assoc first (then.front ++ own) then.back) ∙ ap (λ (l : List ℕ). l ++ then.back) (sym (append_assoc first then.front own));
      without = (mid, (first, (then.front ++ then.back, (handles, then.without, append_assoc first then.front then.back))));
      same = then.same;
    }
