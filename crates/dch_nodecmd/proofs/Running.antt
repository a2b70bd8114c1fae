-- A line of a command with one node as a step of a run.
use Rattle.std.proofs.Common.{◌≡◌, ◌+◌, ◌∙◌, ◌++◌, ℕ, List, [], ◌∷◌, Bool, inl, refl, ap, sym, subst, arith}
use Rattle.std.specs.Prelude.{None, Ok}
use Rattle.std.proofs.lemmas.List.Sums.{sum_by-append}
use Rattle.dch_accept.specs.Plans.{Planned}
use Rattle.dch_lines.specs.Semantics.{Adds, Does}
use Rattle.dch_script.specs.LineText.{text_of}
use Rattle.dch_script.specs.ParsedLine.{ParsedLine}
use Rattle.dch_node.specs.Values.{Output, no_output}
use Rattle.dch_node.proofs.Traces.{trace_next}
use Rattle.dch_nodecmd.specs.NodeRules.{AreLasting, NodeRules, SaysEvent, meaning_for}
use Rattle.dch_nodecmd.specs.Rules.{MakesChange, TakesLine, node_lines}
use Rattle.dch_nodecmd.specs.Run.{Run, frames_in}
use Rattle.dch_lines.specs.Coming.{IsDue}
use Rattle.dch_lines.specs.Shown.{shown}
use Rattle.dch_nodecmd.specs.Handlers.{Changes, Handler, RepresentsRun, ShowsLines, StepsBy}
use Rattle.dch_lines.specs.declared.later.Later.{Later}

-- one more event
pub frames_next : {S E : Type 0} (rules : NodeRules S E) (events : List E) (event : E) → frames_in rules (events ++ event ∷ []) ≡ frames_in rules events + rules.frames event
frames_next rules events event =
    let both = sum_by-append rules.frames events (event ∷ []) in
    let one : frames_in rules (event ∷ []) ≡ rules.frames event = omega arith in
    omega (arith, both, one)

-- the state that a node represents is one with its configuration
abbrev pub IsActive : {S E V : Type 0} → NodeRules S E → (Planned → S → V → Type 0) → Type 0
IsActive {S} {E} {V} rules Represents = (planned : Planned) (state : S) (node : V) → Represents planned state node → rules.planned state ≡ planned

-- a good line takes a run to another, for which the handler stands
pub went_on : {S E V P : Type 0} (writes : P → List ℕ → P → Type 0) (rules : NodeRules S E) (Represents : Planned → S → V → Type 0) (Shows : Output → V → Type 0) → IsActive rules Represents → (old new : Handler V) (run : Run S E) (line : List ℕ) (parsed : ParsedLine) (count : ℕ) (before after : P)
    → meaning_for rules old.accepted.config line ≡ Ok parsed → StepsBy rules Represents Shows old.accepted parsed count old.node new.node (ShowsLines writes old.quiet before after)
    → new.accepted ≡ old.accepted → new.later ≡ old.later → new.quiet ≡ old.quiet → new.frames ≡ old.frames + count → RepresentsRun rules Represents Shows run old
    → (next : Run S E) × RepresentsRun rules Represents Shows next new × Adds writes (TakesLine rules run line next) before after
went_on {S} {E} {V} {P} writes rules Represents Shows active old new run line parsed count before after means shows same_accepted same_later same_quiet counted stands =
    let stepped = shows.steps run.node stands.stands in
    let event : E = shows.event in
    let next : Run S E = record run { node = stepped.next; events = run.events ++ event ∷ []; lines = run.lines ++ stepped.output.lines; last = stepped.output } in
    let more : List ℕ = shown run.quiet (text_of stepped.output.lines) in
    let wrote : writes before more after = subst (λ q. writes before (shown q (text_of stepped.output.lines)) after) (sym stands.quiet) stepped.tells in (
      next,
      record {
        second = stands.second ∙ sym same_later;
        quiet = stands.quiet ∙ sym same_quiet;
        frames = frames_next rules run.events event ∙ ap (λ n. n + rules.frames event) stands.frames ∙ ap (λ n. old.frames + n) (sym shows.counted) ∙ sym counted;
        stands = subst (λ (p : Planned). Represents p stepped.next new.node) (sym same_accepted) stepped.stands;
        shows = stepped.shows;
        reached = trace_next rules.steps (rules.opened run.began run.first) run.node stepped.next no_output run.last stepped.output run.events event run.lines stands.reached stepped.step;
      },
      record {
        more = more;
        handles = inl (record {
          event = event;
          says = subst (λ (p : Planned). SaysEvent rules p.config line event) (sym (active old.accepted run.node old.node stands.stands)) (record { parsed = parsed; says = means; is = shows.says });
          takes = record { node = stepped.next; output = stepped.output; step = stepped.step; goes_on = refl; shows = refl };
        });
        wrote = wrote;
      },
    )

-- a line that is taken is done whole
pub done_whole : {S E P : Type 0} (writes : P → List ℕ → P → Type 0) (broken : Bool) (rules : NodeRules S E) (run next : Run S E) (line : List ℕ) (before after : P) → Adds writes (TakesLine rules run line next) before after → Adds writes (Does (node_lines rules) broken run line next) before after
done_whole writes broken rules run next line before after adds = record { more = adds.more; handles = inl adds.handles; wrote = adds.wrote }

-- a change that is due takes a run to another, for which the handler stands
pub changed_on : {S E V P : Type 0} (writes : P → List ℕ → P → Type 0) (rules : NodeRules S E) (Represents : Planned → S → V → Type 0) (HasNext : Planned → Planned → V → Type 0) (Shows : Output → V → Type 0) → AreLasting rules → (old new : Handler V) (run : Run S E) (later : Later) (before after : P)
    → Changes rules Represents HasNext Shows later.accepted old.node new.node (ShowsLines writes old.quiet before after) → HasNext old.accepted later.accepted old.node → IsDue old.later old.frames later
    → new.accepted ≡ later.accepted → new.later ≡ None → new.quiet ≡ old.quiet → new.frames ≡ old.frames → RepresentsRun rules Represents Shows run old
    → (next : Run S E) × RepresentsRun rules Represents Shows next new × Adds writes (MakesChange rules run next) before after
changed_on {S} {E} {V} {P} writes rules Represents HasNext Shows lasting old new run later before after changes next_held due same_accepted no_later same_quiet same_frames stands =
    let stepped = changes old.accepted run.node stands.stands next_held in
    let event : E = rules.change later.accepted in
    let next : Run S E = record run { node = stepped.next; second = None; events = run.events ++ event ∷ []; lines = run.lines ++ stepped.output.lines; last = stepped.output } in
    let more : List ℕ = shown run.quiet (text_of stepped.output.lines) in
    let wrote : writes before more after = subst (λ q. writes before (shown q (text_of stepped.output.lines)) after) (sym stands.quiet) stepped.tells in
    let counted : frames_in rules (run.events ++ event ∷ []) ≡ frames_in rules run.events = (let one = frames_next rules run.events event in let zero = lasting.uncounted later.accepted in omega (arith, one, zero)) in (
      next,
      record {
        second = sym no_later;
        quiet = stands.quiet ∙ sym same_quiet;
        frames = counted ∙ stands.frames ∙ sym same_frames;
        stands = subst (λ (p : Planned). Represents p stepped.next new.node) (sym same_accepted) stepped.stands;
        shows = stepped.shows;
        reached = trace_next rules.steps (rules.opened run.began run.first) run.node stepped.next no_output run.last stepped.output run.events event run.lines stands.reached stepped.step;
      },
      record {
        more = more;
        handles = record {
          later = later;
          due = record { waits = stands.second ∙ due.waits; now = stands.frames ∙ due.now };
          takes = record { node = stepped.next; output = stepped.output; step = stepped.step; goes_on = refl; shows = refl };
        };
        wrote = wrote;
      },
    )
