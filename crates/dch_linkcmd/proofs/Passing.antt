-- A stage that a handler passes, as a step of a run.
use Rattle.std.proofs.Common.{◌≡◌, ◌∙◌, ◌+◌, ◌-◌, ℕ, List, [], Some, None, refl, ap, sym, subst}
use Rattle.dch_accept.specs.Plans.{Planned}
use Rattle.dch_lines.specs.Semantics.{Adds}
use Rattle.dch_script.specs.LineText.{text_of}
use Rattle.dch_lines.specs.Shown.{shown}
use Rattle.dch_link.specs.Link.{LinkState}
use Rattle.dch_link.specs.Passing.{next_stage}
use Rattle.dch_link.specs.Stages.{AtStage}
use Rattle.dch_link.specs.LinkNodes.{Represents}
use Rattle.dch_link.specs.Values.{Nodes}
use Rattle.dch_link.specs.declared.stage.Stage.{Stage}
use Rattle.dch_link.specs.declared.stage.Stage.TheVariants.{RncTick}
use Rattle.dch_linkcmd.specs.Rules.{MayChange, PassesNext, PassesStage}
use Rattle.dch_linkcmd.specs.Run.{Run, passed, passed_by}
use Rattle.dch_linkcmd.specs.Handlers.{Handler, RepresentsRun, Shows}

-- the text of a stage is added
passes_by : {P : Type 0} (writes : P → List ℕ → P → Type 0) (run : Run) (old : Handler) (nodes : Nodes) (before after : P) → RepresentsRun run old → (shows : Shows writes run.began old.accepted run.first old.quiet (AtStage old.stage run.link) nodes before after) → (next : Run) → next ≡ passed run shows.next → Adds writes (PassesStage run next) before after
passes_by writes run old nodes before after is shows next same = record {
  more = shown run.quiet (text_of shows.lines);
  handles = record {
    link = shows.next;
    lines = shows.lines;
    passes = subst (λ (s : Stage). AtStage s run.link shows.next shows.lines) (sym is.stage) shows.does;
    goes_on = same;
    shows = refl;
  };
  wrote = subst (λ q. writes before (shown q (text_of shows.lines)) after) (sym is.quiet) shows.wrote;
}

pub passes_some : {P : Type 0} (writes : P → List ℕ → P → Type 0) (run : Run) (old new : Handler) (stage : Stage) (before after : P) → RepresentsRun run old → Shows writes run.began old.accepted run.first old.quiet (AtStage old.stage run.link) new.link before after → next_stage old.stage ≡ Some stage
    → new.accepted ≡ old.accepted → new.later ≡ old.later → new.quiet ≡ old.quiet → new.stage ≡ stage → new.left ≡ old.left → new.frames ≡ old.frames → (next : Run) × RepresentsRun next new × Adds writes (PassesStage run next) before after
passes_some writes run old new stage before after is shows then accepted later quiet at left frames =
    let next : Run = record run { link = shows.next; stage = stage } in
    let same : next ≡ passed run shows.next = ap (passed_by run shows.next) (sym (ap next_stage is.stage ∙ then)) in (
      next,
      record {
        second = is.second ∙ sym later;
        quiet = is.quiet ∙ sym quiet;
        stage = sym at;
        left = is.left ∙ sym left;
        frames = is.frames ∙ sym frames;
        stands = subst (λ (p : Planned). Represents run.began p run.first shows.next new.link) (sym accepted) shows.stands;
      },
      passes_by writes run old new.link before after is shows next same,
    )

-- after the last stage the radio frame is over
pub passes_none : {P : Type 0} (writes : P → List ℕ → P → Type 0) (run : Run) (old new : Handler) (mid : Nodes) (before after : P) → RepresentsRun run old → Shows writes run.began old.accepted run.first old.quiet (AtStage old.stage run.link) mid before after → next_stage old.stage ≡ None
    → ((began : Planned) (first : ℕ) (link : LinkState) → Represents began old.accepted first link mid → Represents began old.accepted first (record link { damage = [] }) new.link)
    → new.accepted ≡ old.accepted → new.later ≡ old.later → new.quiet ≡ old.quiet → new.stage ≡ RncTick → new.left ≡ old.left - 1 → new.frames ≡ old.frames + 1 → (next : Run) × RepresentsRun next new × Adds writes (PassesStage run next) before after
passes_none writes run old new mid before after is shows then clear accepted later quiet at left frames =
    let next : Run = record run { link = record shows.next { damage = [] }; stage = RncTick; left = run.left - 1; frames = run.frames + 1 } in
    let same : next ≡ passed run shows.next = ap (passed_by run shows.next) (sym (ap next_stage is.stage ∙ then)) in (
      next,
      record {
        second = is.second ∙ sym later;
        quiet = is.quiet ∙ sym quiet;
        stage = sym at;
        left = ap (λ n. n - 1) is.left ∙ sym left;
        frames = ap (λ n. n + 1) is.frames ∙ sym frames;
        stands = subst (λ (p : Planned). Represents run.began p run.first (record shows.next { damage = [] }) new.link) (sym accepted) (clear run.began run.first shows.next shows.stands);
      },
      passes_by writes run old mid before after is shows next same,
    )

-- behind what may change before it
pub passes_next : {P : Type 0} (writes : P → List ℕ → P → Type 0) (run mid next : Run) (before after : P) → MayChange run mid → Adds writes (PassesStage mid next) before after → Adds writes (PassesNext run next) before after
passes_next writes run mid next before after changes adds = record {
  more = adds.more;
  handles = record { mid = mid; changes = changes; passes = adds.handles };
  wrote = adds.wrote;
}
