-- A second configuration that becomes active where a radio frame begins.
use Rattle.std.proofs.Common.{◌≡◌, ◌∙◌, ℕ, ap, inl, inr, refl, subst, sym}
use Rattle.std.specs.Prelude.{IfSome, Option, Some, None}
use Rattle.dch_accept.specs.Plans.{Planned}
use Rattle.dch_link.specs.Changing.{Changes}
use Rattle.dch_link.specs.Link.{LinkState}
use Rattle.dch_link.specs.LinkNodes.{ChangesTo, HasNext, Represents}
use Rattle.dch_link.specs.Values.{Nodes}
use Rattle.dch_link.specs.declared.stage.Stage.{Stage}
use Rattle.dch_linkcmd.specs.Rules.{Begins, MayChange}
use Rattle.dch_linkcmd.specs.Run.{Run}
use Rattle.dch_linkcmd.specs.Handlers.{Handler, IsPrepared, IsReady, RepresentsRun}
use Rattle.dch_lines.specs.declared.later.Later.{Later}

some_later : (a b : Later) (r : Option Later) → r ≡ Some a → r ≡ Some b → b ≡ a
some_later a b r one two = cc

-- what holds of the second configuration, where there is one
of_some : (P : Later → Type 0) (later : Later) (r : Option Later) → r ≡ Some later → IfSome r P → P later
of_some P later (Some other) is holds = subst P (some_later later other (Some other) is refl) holds
of_some P later None is holds = cc

-- a second configuration that is due is the one that is to come
begins_it : (second : Option Later) (stage : Stage) (frames : ℕ) (coming later : Later) → Begins second stage frames coming → second ≡ Some later → Begins second stage frames later
begins_it second stage frames coming later begins waits =
    let same : coming ≡ later = some_later later coming second waits begins.due.waits in
    record { due = record { waits = waits; now = begins.due.now ∙ ap (λ (l : Later). l.frame) same }; first = begins.first }

-- where none is due a run stays as it is
pub waits_on : (run : Run) (handler : Handler) → ((later : Later) → ¬ Begins handler.later handler.stage handler.frames later) → RepresentsRun run handler → (next : Run) × RepresentsRun next handler × MayChange run next
waits_on run handler undue is = (
  run,
  is,
  inr (record {
    undue = λ later begins. undue later (record { due = record { waits = sym is.second ∙ begins.due.waits; now = sym is.frames ∙ begins.due.now }; first = sym is.stage ∙ begins.first });
    same = refl;
  }),
)

-- where one is due the handler stands for the run in which it is active, and none is to come any more
pub changed_run : (old : Handler) (nodes : Nodes) (second : Planned) (rest : Option Later) (coming later : Later) (run : Run) → IsReady old → Begins old.later old.stage old.frames coming → old.later ≡ Some later → second ≡ later.accepted → rest ≡ None
    → ((began before : Planned) (first : ℕ) (link : LinkState) → Represents began before first link old.link → HasNext before second old.link → ChangesTo began second first link nodes) → RepresentsRun run old
    → (next : Run) × RepresentsRun next (record old { accepted = second; later = rest; link = nodes }) × MayChange run next
changed_run old nodes second rest coming later run ready begins waits same none changes is =
    let prepared : IsPrepared old.accepted old.link later = of_some (IsPrepared old.accepted old.link) later old.later waits ready.next in
    let here : Begins old.later old.stage old.frames later = begins_it old.later old.stage old.frames coming later begins waits in
    let led = changes run.began old.accepted run.first run.link is.stands (subst (λ (p : Planned). HasNext old.accepted p old.link) (sym same) prepared.next) in
    let next : Run = record run { link = led.next; second = None } in (
      next,
      record { second = sym none; quiet = is.quiet; stage = is.stage; left = is.left; frames = is.frames; stands = led.stands },
      inl (record {
        later = later;
        begins = record { due = record { waits = is.second ∙ waits; now = is.frames ∙ here.due.now }; first = is.stage ∙ here.first };
        link = led.next;
        changes = subst (λ (p : Planned). Changes p run.link led.next) same led.changes;
        goes_on = refl;
      }),
    )
