-- A stage that a handler passes, as a step of a run.
use Rattle.std.proofs.Common.{◌≡◌, ◌∙◌, ◌+◌, ◌-◌, ℕ, List, Some, None, length, refl, ap, sym, subst}
use Rattle.dch_accept.specs.Plans.{Planned}
use Rattle.dch_lines.specs.Semantics.{Adds}
use Rattle.dch_script.specs.LineText.{text_of}
use Rattle.dch_lines.specs.Shown.{shown}
use Rattle.dch_link.specs.Soft.{SoftState, framed}
use Rattle.dch_link.specs.SoftPassing.{leg_of, next_stage}
use Rattle.dch_link.specs.SoftStages.{AtStage}
use Rattle.dch_link.specs.SoftNodes.{Represents}
use Rattle.dch_link.specs.SoftValues.{Parts}
use Rattle.dch_link.specs.declared.soft_stage.Stage.{Stage}
use Rattle.dch_link.specs.declared.soft_stage.Stage.TheVariants.{RncTick}
use Rattle.dch_lines.specs.Led.{led}
use Rattle.dch_linkcmd.specs.SoftRules.{PassesStage}
use Rattle.dch_linkcmd.specs.SoftRun.{Run, passed, passed_by}
use Rattle.dch_linkcmd.specs.SoftHandlers.{Handler, RepresentsRun, Shows}

-- the text of a stage is added
passes_by : {P : Type 0} (writes : P → List ℕ → P → Type 0) (run : Run) (old : Handler) (parts : Parts) (before after : P) → RepresentsRun run old → (shows : Shows writes old.accepted run.first (λ text. led (leg_of old.stage) (shown old.quiet text)) (AtStage old.stage run.soft) parts before after) → (next : Run) → next ≡ passed run shows.next → Adds writes (PassesStage run next) before after
passes_by writes run old parts before after is shows next same = record {
  more = led (leg_of run.stage) (shown run.quiet (text_of shows.lines));
  handles = record {
    soft = shows.next;
    lines = shows.lines;
    passes = subst (λ (s : Stage). AtStage s run.soft shows.next shows.lines) (sym is.stage) shows.does;
    goes_on = same;
    shows = refl;
  };
  wrote = subst (λ (st : Stage). writes before (led (leg_of st) (shown run.quiet (text_of shows.lines))) after) (sym is.stage)
      (subst (λ q. writes before (led (leg_of old.stage) (shown q (text_of shows.lines))) after) (sym is.quiet) shows.wrote);
}

pub passes_some : {P : Type 0} (writes : P → List ℕ → P → Type 0) (run : Run) (old new : Handler) (stage : Stage) (before after : P) → RepresentsRun run old → Shows writes old.accepted run.first (λ text. led (leg_of old.stage) (shown old.quiet text)) (AtStage old.stage run.soft) new.soft before after → next_stage (length old.soft.legs) old.stage ≡ Some stage
    → new.accepted ≡ old.accepted → new.quiet ≡ old.quiet → new.stage ≡ stage → new.left ≡ old.left → new.frames ≡ old.frames → (next : Run) × RepresentsRun next new × Adds writes (PassesStage run next) before after
passes_some writes run old new stage before after is shows then accepted quiet at left frames =
    let next : Run = record run { soft = shows.next; stage = stage } in
    let same : next ≡ passed run shows.next = ap (passed_by run shows.next) (sym (ap (λ n. next_stage n run.stage) is.stands.count ∙ ap (next_stage (length old.soft.legs)) is.stage ∙ then)) in (
      next,
      record {
        quiet = is.quiet ∙ sym quiet;
        stage = sym at;
        left = is.left ∙ sym left;
        frames = is.frames ∙ sym frames;
        stands = subst (λ (p : Planned). Represents p run.first shows.next new.soft) (sym accepted) shows.stands;
      },
      passes_by writes run old new.soft before after is shows next same,
    )

-- after the last stage the radio frame is over
pub passes_none : {P : Type 0} (writes : P → List ℕ → P → Type 0) (run : Run) (old new : Handler) (mid : Parts) (before after : P) → RepresentsRun run old → Shows writes old.accepted run.first (λ text. led (leg_of old.stage) (shown old.quiet text)) (AtStage old.stage run.soft) mid before after → next_stage (length old.soft.legs) old.stage ≡ None
    → ((first : ℕ) (soft : SoftState) → Represents old.accepted first soft mid → Represents old.accepted first (framed soft) new.soft)
    → new.accepted ≡ old.accepted → new.quiet ≡ old.quiet → new.stage ≡ RncTick → new.left ≡ old.left - 1 → new.frames ≡ old.frames + 1 → (next : Run) × RepresentsRun next new × Adds writes (PassesStage run next) before after
passes_none writes run old new mid before after is shows then clear accepted quiet at left frames =
    let next : Run = record run { soft = framed shows.next; stage = RncTick; left = run.left - 1; frames = run.frames + 1 } in
    let same : next ≡ passed run shows.next = ap (passed_by run shows.next) (sym (ap (λ n. next_stage n run.stage) is.stands.count ∙ ap (next_stage (length old.soft.legs)) is.stage ∙ then)) in (
      next,
      record {
        quiet = is.quiet ∙ sym quiet;
        stage = sym at;
        left = ap (λ n. n - 1) is.left ∙ sym left;
        frames = ap (λ n. n + 1) is.frames ∙ sym frames;
        stands = subst (λ (p : Planned). Represents p run.first (framed shows.next) new.soft) (sym accepted) (clear run.first shows.next shows.stands);
      },
      passes_by writes run old mid before after is shows next same,
    )
