-- A script of `link` has one text.
use Rattle.std.proofs.Common.{◌≡◌, ◌+◌, ◌-◌, ◌∙◌, ◌++◌, ℕ, zero, suc, List, [], ◌∷◌, Option, Some, None, Ok, Result, Bool, true, false, arith, refl, ap, ap₂, sym, subst, inl, inr}
use Rattle.std.specs.Prelude.{IfSome, MatchBool}
use Rattle.std.proofs.lemmas.Bool.Decides.{eqb_tells}
use Rattle.dch_types.specs.declared.config.Config.{Config}
use Rattle.dch_accept.specs.Plans.{IsPlanned, Planned}
use Rattle.dch_script.specs.LineText.{text_of}
use Rattle.dch_script.specs.Meaning.{meaning_in}
use Rattle.dch_script.specs.ParsedLine.{ParsedLine}
use Rattle.dch_script.specs.declared.event.Command.TheVariants.{Link}
use Rattle.dch_script.specs.declared.event.LineError.{LineError}
use Rattle.dch_lines.specs.LineTexts.{HandlesLines, is_empty}
use Rattle.dch_linkcmd.specs.Stepping.{LineSteps, Resumes}
use Rattle.dch_node.specs.Lines.{Line}
use Rattle.dch_lines.specs.Shown.{shown}
use Rattle.dch_lines.specs.declared.later.Later.{Later}
use Rattle.dch_link.specs.Changing.{Changes}
use Rattle.dch_link.specs.Events.{Event}
use Rattle.dch_link.specs.Link.{LinkState}
use Rattle.dch_link.specs.Passing.{IsStage, next_stage}
use Rattle.dch_link.specs.Same.{ArePlanned, IsSameLink}
use Rattle.dch_link.specs.Stages.{AtStage}
use Rattle.dch_link.specs.declared.stage.Stage.{Stage}
use Rattle.dch_link.specs.declared.stage.Stage.TheVariants.{RncTick, IubDown, RadioDown, UeTick, RadioUp, IubUp}
use Rattle.dch_link.proofs.OneNodes.{IsOnePass}
use Rattle.dch_link.proofs.OneText.{change_planned, change_same, event_pass, same_opened, stage_pass}
use Rattle.dch_linkcmd.specs.LineEvents.{Frames, OneEvent, Said, Says, said_by}
use Rattle.dch_linkcmd.specs.Rules.{MakesChange, MayChange, PassesNext, PassesStage, Takes, TakesEvent, TakesLine, link_lines, link_steps}
use Rattle.dch_linkcmd.specs.Run.{Run, config_of, opened_run, passed_by, steps_left}
use Rattle.dch_linkcmd.specs.Same.{IsPlannedRun, IsSameRun}

-- runs and a text that are the same behind
pub record IsOneText (new newer : Run) (text more : List ℕ) : Type 0 where
  pub planned : IsPlannedRun new
  pub same : IsSameRun new newer
  pub text_is : more ≡ text

-- equal runs
planned_as : (new next : Run) → new ≡ next → IsPlannedRun next → IsPlannedRun new
planned_as new next is planned = subst IsPlannedRun (sym is) planned

same_as : (new newer next later : Run) → new ≡ next → newer ≡ later → IsSameRun next later → IsSameRun new newer
same_as new newer next later a b same = subst (λ (r : Run). IsSameRun r newer) (sym a) (subst (λ (r : Run). IsSameRun next r) (sym b) same)

-- what is shown of lines
shown_same : (quiet other : Bool) (lines rest : List Line) → other ≡ quiet → rest ≡ lines → shown other (text_of rest) ≡ shown quiet (text_of lines)
shown_same quiet other lines rest same also = ap₂ (λ (q : Bool) (ls : List Line). shown q (text_of ls)) same also

-- a line says one thing
ok_one : (one other : ParsedLine) (answer : Result ParsedLine LineError) → answer ≡ Ok one → answer ≡ Ok other → other ≡ one
ok_one one other answer a b = let both : Ok other ≡ Ok one = sym b ∙ a in cc

some_one : (one other : Said) (answer : Option Said) → answer ≡ Some one → answer ≡ Some other → other ≡ one
some_one one other answer a b = let both : Some other ≡ Some one = sym b ∙ a in cc

says_one : (config : Config) (line : List ℕ) (said other : Said) → Says config line said → Says config line other → other ≡ said
says_one config line said other a b =
    some_one said other (said_by config a.parsed) a.is (ap (said_by config) (sym (ok_one a.parsed b.parsed (meaning_in Link config line) a.is_parsed b.is_parsed)) ∙ b.is)

-- something happens between two radio frames
event_text : (event : Event) (old new older newer : Run) (text more : List ℕ) → IsPlannedRun old → IsSameRun old older → TakesEvent old event new text → TakesEvent older event newer more → IsOneText new newer text more
event_text event old new older newer text more planned same a b =
    let pass : IsOnePass a.link b.link a.lines b.lines = event_pass event old.link a.link older.link b.link a.lines b.lines planned.link same.link a.happens b.happens in record {
      planned = planned_as new _ a.goes_on (record { link = pass.planned; second = planned.second; stage = planned.stage });
      same = same_as new newer _ _ a.goes_on b.goes_on (record { link = pass.same; second = same.second; quiet = same.quiet; stage = same.stage; left = same.left; frames = same.frames });
      text_is = b.shows ∙ shown_same old.quiet older.quiet a.lines b.lines same.quiet pass.lines_are ∙ sym a.shows;
    }

-- a second configuration becomes active, or none is due
later_one : (one other : Later) (second : Option Later) → second ≡ Some one → second ≡ Some other → other ≡ one
later_one one other second a b = let both : Some other ≡ Some one = sym b ∙ a in cc

later_planned : (second : Option Later) (later : Later) → second ≡ Some later → IfSome second (λ later. IsPlanned later.accepted) → IsPlanned later.accepted
later_planned None later is planned = cc is
later_planned (Some one) later is planned = subst (λ (l : Later). IsPlanned l.accepted) (later_one later one (Some one) is refl) planned

record IsOneRun (new newer : Run) : Type 0 where
  planned : IsPlannedRun new
  same : IsSameRun new newer

change_one : (old new older newer : Run) → IsPlannedRun old → IsSameRun old older → MakesChange old new → MakesChange older newer → IsOneRun new newer
change_one old new older newer planned same a b =
    let later : b.later ≡ a.later = later_one a.later b.later old.second a.begins.due.waits (sym same.second ∙ b.begins.due.waits) in
    let changes : Changes a.later.accepted older.link b.link = subst (λ (l : Later). Changes l.accepted older.link b.link) later b.changes in
    let good : IsPlanned a.later.accepted = later_planned old.second a.later a.begins.due.waits planned.second in record {
      planned = planned_as new _ a.goes_on (record { link = change_planned a.later.accepted old.link a.link good planned.link a.changes; second = tt; stage = planned.stage });
      same = same_as new newer _ _ a.goes_on b.goes_on
          (record { link = change_same a.later.accepted old.link a.link older.link b.link good planned.link same.link a.changes changes; second = refl; quiet = same.quiet; stage = same.stage; left = same.left; frames = same.frames });
    }

may_change : (old new older newer : Run) → IsPlannedRun old → IsSameRun old older → MayChange old new → MayChange older newer → IsOneRun new newer
may_change old new older newer planned same (inl a) (inl b) = change_one old new older newer planned same a b
may_change old new older newer planned same (inl a) (inr b) = absurd (b.undue a.later (record {
  due = record { waits = same.second ∙ a.begins.due.waits; now = same.frames ∙ a.begins.due.now };
  first = same.stage ∙ a.begins.first;
}))
may_change old new older newer planned same (inr a) (inl b) = absurd (a.undue b.later (record {
  due = record { waits = sym same.second ∙ b.begins.due.waits; now = sym same.frames ∙ b.begins.due.now };
  first = sym same.stage ∙ b.begins.first;
}))
may_change old new older newer planned same (inr a) (inr b) = record { planned = planned_as new old a.same planned; same = same_as new newer old older a.same b.same same }

-- a stage passes
next_is : (stage : Stage) → IsStage stage → IfSome (next_stage stage) IsStage
next_is RncTick is = omega arith
next_is (IubDown set) is = elim (eqb_tells set 7) [
  | inl last ↦ rw last.0 tt
  | inr other ↦ rw other.0 (omega (arith, is, other.1))
]
next_is RadioDown is = tt
next_is UeTick is = tt
next_is RadioUp is = omega arith
next_is (IubUp set) is = elim (eqb_tells set 7) [
  | inl last ↦ rw last.0 tt
  | inr other ↦ rw other.0 (omega (arith, is, other.1))
]

passed_planned : (run : Run) (link : LinkState) (next : Option Stage) → IfSome next IsStage → IsPlannedRun run → ArePlanned link → IsPlannedRun (passed_by run link next)
passed_planned run link None is planned good = record { link = record { ue = good.ue; node_b = good.node_b }; second = planned.second; stage = tt }
passed_planned run link (Some stage) is planned good = record { link = good; second = planned.second; stage = is }

passed_same : (run other : Run) (link more : LinkState) (next : Option Stage) → IsSameRun run other → IsSameLink link more → IsSameRun (passed_by run link next) (passed_by other more next)
passed_same run other link more None same links = record {
  link = record { ue = links.ue; node_b = links.node_b; rnc = links.rnc; damage = refl };
  second = same.second;
  quiet = same.quiet;
  stage = refl;
  left = ap (λ n. n - 1) same.left;
  frames = ap (λ n. n + 1) same.frames;
}
passed_same run other link more (Some stage) same links = record { link = links; second = same.second; quiet = same.quiet; stage = refl; left = same.left; frames = same.frames }

stage_text : (old new older newer : Run) (text more : List ℕ) → IsPlannedRun old → IsSameRun old older → PassesStage old new text → PassesStage older newer more → IsOneText new newer text more
stage_text old new older newer text more planned same a b =
    let passes : AtStage old.stage older.link b.link b.lines = subst (λ (s : Stage). AtStage s older.link b.link b.lines) same.stage b.passes in
    let pass : IsOnePass a.link b.link a.lines b.lines = stage_pass old.stage old.link a.link older.link b.link a.lines b.lines planned.stage planned.link same.link a.passes passes in
    let there : newer ≡ passed_by older b.link (next_stage old.stage) = b.goes_on ∙ ap (λ (s : Stage). passed_by older b.link (next_stage s)) same.stage in record {
      planned = planned_as new _ a.goes_on (passed_planned old a.link (next_stage old.stage) (next_is old.stage planned.stage) planned pass.planned);
      same = same_as new newer _ _ a.goes_on there (passed_same old older a.link b.link (next_stage old.stage) same pass.same);
      text_is = b.shows ∙ shown_same old.quiet older.quiet a.lines b.lines same.quiet pass.lines_are ∙ sym a.shows;
    }

next_text : (old new older newer : Run) (text more : List ℕ) → IsPlannedRun old → IsSameRun old older → PassesNext old new text → PassesNext older newer more → IsOneText new newer text more
next_text old new older newer text more planned same a b =
    let mid : IsOneRun a.mid b.mid = may_change old a.mid older b.mid planned same a.changes b.changes in
    stage_text a.mid new b.mid newer text more mid.planned mid.same a.passes b.passes

-- the first step of a line, and those that are left
takes_text : (said : Said) (old new older newer : Run) (text more : List ℕ) → IsPlannedRun old → IsSameRun old older → Takes said old new text → Takes said older newer more → IsOneText new newer text more
takes_text (OneEvent event) old new older newer text more planned same a b = event_text event old new older newer text more planned same a b
takes_text (Frames count) old new older newer text more planned same a b =
    next_text (record old { left = count }) new (record older { left = count }) newer text more (record { link = planned.link; second = planned.second; stage = planned.stage })
    (record { link = same.link; second = same.second; quiet = same.quiet; stage = same.stage; left = refl; frames = same.frames }) a b

line_text : (old new older newer : Run) (line text more : List ℕ) → IsPlannedRun old → IsSameRun old older → TakesLine old line new text → TakesLine older line newer more → IsOneText new newer text more
line_text old new older newer line text more planned same a b =
    let says : Says (config_of old) line b.said = subst (λ (p : Planned). Says p.config line b.said) same.link.rnc.state.planned b.says in
    takes_text a.said old new older newer text more planned same a.takes (subst (λ (s : Said). Takes s older newer more) (says_one (config_of old) line a.said b.said a.says says) b.takes)

resumes_text : (count : ℕ) (old new older newer : Run) (text more : List ℕ) → IsPlannedRun old → IsSameRun old older → Resumes link_steps count old new text → Resumes link_steps count older newer more
    → IsOneText new newer text more
resumes_text zero old new older newer text more planned same (is, none) (are, nil) = record { planned = planned_as new old is planned; same = same_as new newer old older is are same; text_is = nil ∙ sym none }
resumes_text (suc count) old new older newer text more planned same (mid, (front, (last, (first, then, whole)))) (middle, (start, (end, (one, next, all)))) =
    let before : IsOneText mid middle front start = resumes_text count old mid older middle front start planned same first one in
    let behind : IsOneText new newer last end = next_text mid new middle newer last end before.planned before.same then next in
    record { planned = behind.planned; same = behind.same; text_is = all ∙ ap₂ (λ (t u : List ℕ). t ++ u) before.text_is behind.text_is ∙ sym whole }

steps_text : (old new older newer : Run) (line text more : List ℕ) → IsPlannedRun old → IsSameRun old older → LineSteps link_steps old line new text → LineSteps link_steps older line newer more → IsOneText new newer text more
steps_text old new older newer line text more planned same a b =
    let first : IsOneText a.mid b.mid a.first b.first = line_text old a.mid older b.mid line a.first b.first planned same a.handles b.handles in
    let count : steps_left b.mid.stage b.mid.left ≡ steps_left a.mid.stage a.mid.left = ap₂ steps_left first.same.stage first.same.left in
    let behind : IsOneText new newer a.rest b.rest = resumes_text (steps_left a.mid.stage a.mid.left) a.mid new b.mid newer a.rest b.rest first.planned first.same a.resumes
    (subst (λ n. Resumes link_steps n b.mid newer b.rest) count b.resumes) in
    record { planned = behind.planned; same = behind.same; text_is = b.whole ∙ ap₂ (λ (t u : List ℕ). t ++ u) first.text_is behind.text_is ∙ sym a.whole }

-- a line, empty or not
handled_text : (empty : Bool) (old new older newer : Run) (line text more : List ℕ) → IsPlannedRun old → IsSameRun old older → MatchBool empty ((new ≡ old) × (text ≡ [])) (LineSteps link_steps old line new text)
    → MatchBool empty ((newer ≡ older) × (more ≡ [])) (LineSteps link_steps older line newer more) → IsOneText new newer text more
handled_text true old new older newer line text more planned same a b = record { planned = planned_as new old a.0 planned; same = same_as new newer old older a.0 b.0 same; text_is = b.1 ∙ sym a.1 }
handled_text false old new older newer line text more planned same a b = steps_text old new older newer line text more planned same a b

-- and all lines
pub lines_text : (old new older newer : Run) (lines : List (List ℕ)) (text more : List ℕ) → IsPlannedRun old → IsSameRun old older → HandlesLines link_lines old lines new text → HandlesLines link_lines older lines newer more
    → IsOneText new newer text more
lines_text old new older newer [] text more planned same (is, none) (are, nil) = record { planned = planned_as new old is planned; same = same_as new newer old older is are same; text_is = nil ∙ sym none }
lines_text old new older newer (line ∷ lines) text more planned same (mid, (first, (rest, (handles, then, whole)))) (middle, (start, (end, (one, next, all)))) =
    let before : IsOneText mid middle first start = handled_text (is_empty line) old mid older middle line first start planned same handles one in
    let behind : IsOneText new newer rest end = lines_text mid new middle newer lines rest end before.planned before.same then next in
    record { planned = behind.planned; same = behind.same; text_is = all ∙ ap₂ (λ (t u : List ℕ). t ++ u) before.text_is behind.text_is ∙ sym whole }

-- from the opening on
pub opened_same : (began : Planned) (second : Option Later) (first : ℕ) (quiet : Bool) → IsSameRun (opened_run began second first quiet) (opened_run began second first quiet)
opened_same began second first quiet = record { link = same_opened began first; second = refl; quiet = refl; stage = refl; left = refl; frames = refl }

pub opened_planned : (began : Planned) (second : Option Later) (first : ℕ) (quiet : Bool) → IsPlanned began → IfSome second (λ later. IsPlanned later.accepted) → IsPlannedRun (opened_run began second first quiet)
opened_planned began second first quiet good then = record { link = record { ue = good; node_b = good }; second = then; stage = tt }
