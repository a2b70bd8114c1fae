-- A change of the configuration that is due.
use Rattle.std.proofs.Common.{◌≡◌, ◌≤◌, ◌+◌, ◌%◌, ◌∙◌, ℕ, List, [], ◌∷◌, Bool, arith, ap, inl, inr, refl, sym, subst}
use Rattle.std.specs.Prelude.{IfErr, IfSome, OnOk, Option, Some, None, Result, Ok, Err}
use Rattle.std.proofs.lemmas.List.Sums.{sum_by-append}
use Rattle.dch_accept.specs.Plans.{Planned}
use Rattle.dch_io.specs.Pieces.{LIMIT}
use Rattle.dch_script.specs.declared.event.LineError.TheVariants.{When}
use Rattle.dch_lines.specs.Semantics.{Adds, Does, IsFault}
use Rattle.dch_lines.specs.declared.stop.LineFault.{LineFault}
use Rattle.dch_lines.specs.declared.stop.LineFault.TheVariants.{Malformed}
use Rattle.dch_node.specs.Lines.{Line}
use Rattle.dch_node.specs.Traces.{Trace}
use Rattle.dch_node.specs.Values.{Output, no_output}
use Rattle.dch_nodecmd.specs.NodeRules.{AreLasting, AsksChange, NodeRules}
use Rattle.dch_nodecmd.specs.Rules.{IsUntimely, MakesChange, TakesLine, node_lines}
use Rattle.dch_nodecmd.specs.Run.{Run, frames_in, opened_run}
use Rattle.dch_lines.specs.Coming.{IsDue, CanFollow}
use Rattle.dch_nodecmd.specs.Handlers.{CanChange, Changes, Handler, HasRun, IsPrepared, IsReady, RepresentsHistory, RepresentsRun, ShowsLines}
use Rattle.dch_lines.specs.declared.later.Later.{Later}
use Rattle.dch_nodecmd.proofs.Running.{IsActive, changed_on}

-- the CFN goes on by the radio frames of all events
turned : {S E : Type 0} (rules : NodeRules S E) → AreLasting rules → (old new : S) (before last : Output) (events : List E) (lines : List Line) → Trace rules.steps old before events new last lines → rules.cfn new % 256 ≡ (rules.cfn old + frames_in rules events) % 256
turned rules lasting old new before last [] lines runs = let same : rules.cfn new ≡ rules.cfn old = ap rules.cfn runs.0 in omega (arith, same)
turned rules lasting old new before last (event ∷ later) lines runs =
    let first = lasting.turns old runs.next event runs.output runs.step in
    let rest = turned rules lasting runs.next new runs.output last later runs.rest runs.later in
    let both = sum_by-append rules.frames (event ∷ []) later in
    let one : frames_in rules (event ∷ []) ≡ rules.frames event = omega arith in
    omega (arith, first, rest, both, one)

-- all TTIs have ended after so many radio frames as 8 divides
whole_turn : {S E : Type 0} (rules : NodeRules S E) → AreLasting rules → (run : Run S E) (frames : ℕ) → Trace rules.steps (rules.opened run.began run.first) no_output run.events run.node run.last run.lines → run.first % 8 ≡ 0
    → frames_in rules run.events ≡ frames → frames % 8 ≡ 0 → rules.cfn run.node % 8 ≡ 0
whole_turn rules lasting run frames reached begins counted whole =
    let on = turned rules lasting (rules.opened run.began run.first) run.node no_output run.last run.events run.lines reached in
    let from : rules.cfn (rules.opened run.began run.first) ≡ run.first = lasting.opens_at run.began run.first in
    omega (arith, on, from, begins, counted, whole)

some_later : (a b : Later) (r : Option Later) → r ≡ Some a → r ≡ Some b → b ≡ a
some_later a b r one two = cc

-- what holds of the second configuration, where there is one
of_some : (P : Later → Type 0) (later : Later) (r : Option Later) → r ≡ Some later → IfSome r P → P later
of_some P later (Some other) is holds = subst P (some_later later other (Some other) is refl) holds
of_some P later None is holds = cc

-- a node whose change is due can change
pub can_change : {S E V : Type 0} (rules : NodeRules S E) (IsNodeOf : Planned → V → Type 0) (HasNext : Planned → Planned → V → Type 0) (Represents : Planned → S → V → Type 0) (Shows : Output → V → Type 0) → AreLasting rules → (handler : Handler V) (coming later : Later)
    → IsReady rules IsNodeOf HasNext Represents Shows handler → IsDue handler.later handler.frames coming → handler.later ≡ Some later → CanChange rules IsNodeOf HasNext Represents later.accepted handler.node
can_change rules IsNodeOf HasNext Represents Shows lasting handler coming later ready due waits =
    let prepared : IsPrepared HasNext handler.accepted handler.node later = of_some (IsPrepared HasNext handler.accepted handler.node) later handler.later waits ready.next in
    let same : coming ≡ later = some_later later coming handler.later waits due.waits in
    let frame : handler.frames ≡ later.frame = due.now ∙ ap (λ (l : Later). l.frame) same in
    record {
      first = handler.accepted;
      opened = ready.opened;
      next = prepared.next;
      state = ready.runs.run.node;
      stands = ready.runs.stands.stands;
      whole = whole_turn rules lasting ready.runs.run later.frame ready.runs.stands.reached ready.runs.whole (ready.runs.stands.frames ∙ frame) prepared.whole;
    }

-- where a handler stood for a run it stands for another one, which began with the same CFN
pub goes_on_in : {S E V : Type 0} (rules : NodeRules S E) (Represents : Planned → S → V → Type 0) (Shows : Output → V → Type 0) (old new : Handler V) → HasRun rules Represents Shows old
    → ((run : Run S E) → RepresentsRun rules Represents Shows run old → (next : Run S E) × RepresentsRun rules Represents Shows next new × (next.first ≡ run.first)) → HasRun rules Represents Shows new
goes_on_in rules Represents Shows old new was on =
    let next = on was.run was.stands in
    record { run = next.0; stands = next.1; whole = ap (λ n. n % 8) next.2 ∙ was.whole }

-- a handler that made a change that was due is ready, and stands for the run that goes on by it
pub changed : {S E V P : Type 0} (writes : P → List ℕ → P → Type 0) (rules : NodeRules S E) (IsNodeOf : Planned → V → Type 0) (HasNext : Planned → Planned → V → Type 0) (Represents : Planned → S → V → Type 0) (Shows : Output → V → Type 0) → AreLasting rules → (old new : Handler V) (coming later : Later) (before after : P)
    → IsReady rules IsNodeOf HasNext Represents Shows old → IsDue old.later old.frames coming → old.later ≡ Some later → Changes rules Represents HasNext Shows later.accepted old.node new.node (ShowsLines writes old.quiet before after)
    → IsNodeOf later.accepted new.node → new ≡ record old { accepted = later.accepted; later = None; node = new.node }
    → IsReady rules IsNodeOf HasNext Represents Shows new × ((run : Run S E) → RepresentsRun rules Represents Shows run old → (next : Run S E) × RepresentsRun rules Represents Shows next new × Adds writes (MakesChange rules run next) before after)
changed {S} {E} {V} {P} writes rules IsNodeOf HasNext Represents Shows lasting old new coming later before after ready due waits changes opened is =
    let prepared : IsPrepared HasNext old.accepted old.node later = of_some (IsPrepared HasNext old.accepted old.node) later old.later waits ready.next in
    let same : coming ≡ later = some_later later coming old.later waits due.waits in
    let here : IsDue old.later old.frames later = record { waits = waits; now = due.now ∙ ap (λ (l : Later). l.frame) same } in
    let accepted : new.accepted ≡ later.accepted = ap (λ (h : Handler V). h.accepted) is in
    let none : new.later ≡ None = ap (λ (h : Handler V). h.later) is in
    let quiet : new.quiet ≡ old.quiet = ap (λ (h : Handler V). h.quiet) is in
    let frames : new.frames ≡ old.frames = ap (λ (h : Handler V). h.frames) is in
    let on : (run : Run S E) → RepresentsRun rules Represents Shows run old → (next : Run S E) × RepresentsRun rules Represents Shows next new × Adds writes (MakesChange rules run next) before after =
    λ run stands. changed_on writes rules Represents HasNext Shows lasting old new run later before after changes prepared.next here accepted none quiet frames stands in
    let runs : HasRun rules Represents Shows new =
    goes_on_in rules Represents Shows old new ready.runs (λ run stands. let next = on run stands in (next.0, next.1, ap (λ (r : Run S E). r.first) next.2.handles.takes.goes_on)) in (
      rw is (record { few = ready.few; opened = opened; next = tt; runs = rw (← is) runs }),
      on,
    )

-- a line that is taken leaves the first CFN as it is
pub first_stays : {S E : Type 0} (rules : NodeRules S E) (run next : Run S E) (line text : List ℕ) → TakesLine rules run line next text → next.first ≡ run.first
first_stays {S} {E} rules run next line text (inl says) = ap (λ (r : Run S E). r.first) says.takes.goes_on
first_stays {S} {E} rules run next line text (inr changes) = ap (λ (r : Run S E). r.first) changes.1.takes.goes_on

-- what a node holds for the second configuration, where there is one
next_on : (P Q : Later → Type 0) (later : Option Later) → ((l : Later) → P l → Q l) → IfSome later P → IfSome later Q
next_on P Q None on holds = tt
next_on P Q (Some later) on holds = on later holds

-- a handler that took an event of its node is ready
pub stays_ready : {S E V : Type 0} (rules : NodeRules S E) (IsNodeOf : Planned → V → Type 0) (HasNext : Planned → Planned → V → Type 0) (Represents : Planned → S → V → Type 0) (Shows : Output → V → Type 0) (old new : Handler V) → IsReady rules IsNodeOf HasNext Represents Shows old
    → new ≡ record old { node = new.node; frames = new.frames } → new.frames ≤ LIMIT → IsNodeOf old.accepted new.node → ((second : Planned) → HasNext old.accepted second old.node → HasNext old.accepted second new.node) → HasRun rules Represents Shows new
    → IsReady rules IsNodeOf HasNext Represents Shows new
stays_ready rules IsNodeOf HasNext Represents Shows old new ready is few opened next runs = rw is (record {
  few = few;
  opened = opened;
  next = next_on (IsPrepared HasNext old.accepted old.node) (IsPrepared HasNext old.accepted new.node) old.later (λ later prepared. record { next = next later.accepted prepared.next; whole = prepared.whole }) ready.next;
  runs = rw (← is) runs;
})

-- a line that asks for a change, which is made
pub asked : {S E V P : Type 0} (writes : P → List ℕ → P → Type 0) (broken : Bool) (rules : NodeRules S E) (Represents : Planned → S → V → Type 0) (Shows : Output → V → Type 0) → IsActive rules Represents → (old mid new : Handler V) (line : List ℕ) (before between after : P) → mid ≡ old → between ≡ before → AsksChange rules old.accepted.config line
    → ((run : Run S E) → RepresentsRun rules Represents Shows run mid → (next : Run S E) × RepresentsRun rules Represents Shows next new × Adds writes (MakesChange rules run next) between after)
    → (run : Run S E) → RepresentsRun rules Represents Shows run old → (next : Run S E) × RepresentsRun rules Represents Shows next new × Adds writes (Does (node_lines rules) broken run line next) before after
asked {S} {E} {V} {P} writes broken rules Represents Shows active old mid new line before between after same unwritten asks makes run stands =
    let next = makes run (subst (λ (h : Handler V). RepresentsRun rules Represents Shows run h) (sym same) stands) in
    let config : rules.planned run.node ≡ old.accepted = active old.accepted run.node old.node stands.stands in
    let here : AsksChange rules (rules.planned run.node).config line = subst (λ (p : Planned). AsksChange rules p.config line) (sym config) asks in (
      next.0,
      next.1,
      record { more = next.2.more; handles = inl (inr (here, next.2.handles)); wrote = subst (λ (p : P). writes p next.2.more after) unwritten next.2.wrote },
    )

pub on_ok : {E : Type 0} (r : Result (Unit {0}) E) (P Q : Type 0) → (P → Q) → OnOk r P → OnOk r Q
on_ok (Ok u) P Q on holds = on holds
on_ok (Err e) P Q on holds = tt

-- a handler that was just opened is ready
pub opened_ready : {S E V : Type 0} (rules : NodeRules S E) (IsNodeOf : Planned → V → Type 0) (HasNext : Planned → Planned → V → Type 0) (Represents : Planned → S → V → Type 0) (Shows : Output → V → Type 0) (handler : Handler V) (first : ℕ) → handler.frames ≡ 0 → first % 8 ≡ 0
    → IsNodeOf handler.accepted handler.node → IfSome handler.later (λ later. HasNext handler.accepted later.accepted handler.node) → IfSome handler.later (CanFollow handler.accepted)
    → RepresentsHistory rules Represents Shows handler.accepted handler.accepted first [] [] handler.node → IsReady rules IsNodeOf HasNext Represents Shows handler
opened_ready {S} {E} {V} rules IsNodeOf HasNext Represents Shows handler first none begins opened next follows stands = record {
  few = omega (arith, none);
  opened = opened;
  next = prepared handler.later next follows;
  runs = record {
    run = opened_run rules handler.accepted handler.later first handler.quiet;
    stands = record {
      second = refl;
      quiet = refl;
      frames = sym none;
      stands = subst (λ (s : S). Represents handler.accepted s handler.node) stands.after.0 stands.stands;
      shows = subst (λ (o : Output). Shows o handler.node) stands.after.1 stands.shows;
      reached = (refl, refl, refl);
    };
    whole = begins;
  };
}
  where
    prepared : (later : Option Later) → IfSome later (λ later. HasNext handler.accepted later.accepted handler.node) → IfSome later (CanFollow handler.accepted) → IfSome later (IsPrepared HasNext handler.accepted handler.node)
    prepared None next follows = tt
    prepared (Some later) next follows = record { next = next; whole = follows.whole }

-- a line that asks for a change that is not due
pub not_due : {S E V : Type 0} (rules : NodeRules S E) (Represents : Planned → S → V → Type 0) (Shows : Output → V → Type 0) → IsActive rules Represents → (old mid new : Handler V) (line : List ℕ) (r : Result (Unit {0}) LineFault) (Unwritten : Type 0) → mid ≡ old → AsksChange rules old.accepted.config line
    → IfErr r (λ fault. (fault ≡ Malformed When) × ((later : Later) → ¬ IsDue old.later old.frames later)) → IfErr r (λ _. (new ≡ mid) × Unwritten)
    → IfErr r (λ fault. (run : Run S E) → RepresentsRun rules Represents Shows run old → IsFault (node_lines rules) run line fault × RepresentsRun rules Represents Shows run new)
not_due rules Represents Shows active old mid new line (Ok u) Unwritten same asks early left = tt
not_due {S} {E} {V} rules Represents Shows active old mid new line (Err fault) Unwritten same asks early left = λ run stands.
    let config : rules.planned run.node ≡ old.accepted = active old.accepted run.node old.node stands.stands in
    let untimely : IsUntimely rules run line When = record {
      asks = subst (λ (p : Planned). AsksChange rules p.config line) (sym config) asks;
      undue = λ later due. early.1 later (record { waits = sym stands.second ∙ due.waits; now = sym stands.frames ∙ due.now });
      shown = refl;
    } in (
      subst (λ (f : LineFault). IsFault (node_lines rules) run line f) (sym early.0) (inr untimely),
      subst (λ (h : Handler V). RepresentsRun rules Represents Shows run h) (sym (left.0 ∙ same)) stands,
    )
