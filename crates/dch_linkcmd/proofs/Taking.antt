-- A line that a handler takes, as a step of a run.
use Rattle.std.proofs.Common.{◌≡◌, ◌∙◌, ℕ, List, refl, sym, subst}
use Rattle.dch_accept.specs.Plans.{Planned}
use Rattle.dch_lines.specs.Semantics.{Adds}
use Rattle.dch_script.specs.LineText.{text_of}
use Rattle.dch_lines.specs.Shown.{shown}
use Rattle.dch_link.specs.LinkNodes.{Represents}
use Rattle.dch_linkcmd.specs.LineEvents.{OneEvent, Said, Says}
use Rattle.dch_linkcmd.specs.Rules.{TakesLine}
use Rattle.dch_linkcmd.specs.Run.{Run, config_of}
use Rattle.dch_linkcmd.specs.Handlers.{Handler, RepresentsRun}
use Rattle.dch_linkcmd.specs.Taking.{TakesEvent}

-- what a line says under the configuration of a handler it says under that of the run
pub says_here : (run : Run) (handler : Handler) (line : List ℕ) (said : Said) → RepresentsRun run handler → Says handler.accepted.config line said → Says (config_of run) line said
says_here run handler line said is says = subst (λ (p : Planned). Says p.config line said) (sym is.stands.rnc.stands.at.active) says

-- something has happened
pub took_event : {P : Type 0} (writes : P → List ℕ → P → Type 0) (run : Run) (old new : Handler) (line : List ℕ) (before after : P) → RepresentsRun run old → TakesEvent writes old.accepted line old.quiet old.link new.link before after
    → new.accepted ≡ old.accepted → new.later ≡ old.later → new.quiet ≡ old.quiet → new.stage ≡ old.stage → new.left ≡ old.left → new.frames ≡ old.frames → (next : Run) × RepresentsRun next new × Adds writes (TakesLine run line next) before after
took_event writes run old new line before after is takes accepted later quiet stage left frames =
    let shows = takes.happens run.began run.first run.link is.stands in
    let next : Run = record run { link = shows.next } in (
      next,
      record {
        second = is.second ∙ sym later;
        quiet = is.quiet ∙ sym quiet;
        stage = is.stage ∙ sym stage;
        left = is.left ∙ sym left;
        frames = is.frames ∙ sym frames;
        stands = subst (λ (p : Planned). Represents run.began p run.first shows.next new.link) (sym accepted) shows.stands;
      },
      record {
        more = shown run.quiet (text_of shows.lines);
        handles = record {
          said = OneEvent takes.event;
          says = says_here run old line (OneEvent takes.event) is takes.says;
          takes = record { link = shows.next; lines = shows.lines; happens = shows.does; goes_on = refl; shows = refl };
        };
        wrote = subst (λ q. writes before (shown q (text_of shows.lines)) after) (sym is.quiet) shows.wrote;
      },
    )
