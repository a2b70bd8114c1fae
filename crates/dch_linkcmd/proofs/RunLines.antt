-- Lines of `link` of which none is refused where those before it lead.
use Rattle.std.proofs.Common.{◌≡◌, ◌<◌, ◌≤◌, ◌+◌, ◌∙◌, ◌++◌, ℕ, List, [], ◌∷◌, Bool, true, false, arith, ap, inl, inr, refl, subst, sym, Option, Some, None}
use Rattle.std.specs.Prelude.{◌⊎◌}
use Rattle.std.proofs.lemmas.Bool.Decides.{leb_tells}
use Rattle.dch_accept.specs.Plans.{Planned}
use Rattle.dch_types.specs.declared.config.Config.{Config}
use Rattle.dch_lines.specs.LineTexts.{HandlesLine, HandlesLines, is_empty}
use Rattle.dch_linkcmd.specs.Stepping.{LineSteps, Resumes}
use Rattle.dch_script.specs.declared.event.LineError.{LineError}
use Rattle.dch_link.specs.Passing.{IsStage}
use Rattle.dch_link.specs.declared.stage.Stage.{Stage}
use Rattle.dch_link.specs.declared.stage.Stage.TheVariants.{RncTick}
use Rattle.dch_linkcmd.specs.LineEvents.{Frames, OneEvent, Said, Says}
use Rattle.dch_linkcmd.specs.Rules.{RefusesLine, Takes, link_lines, link_steps}
use Rattle.dch_linkcmd.specs.Run.{Run, config_of, opened_run, steps_left}
use Rattle.dch_linkcmd.specs.RunLines.{AreRunLines, SaysFirst, active_behind, coming_behind, frames_of}
use Rattle.dch_linkcmd.proofs.Said.{one_said, some_frames}
use Rattle.dch_linkcmd.proofs.Staying.{event_stays}
use Rattle.dch_linkcmd.proofs.Walking.{IsActive, IsAmid, IsOver, StillWaits, amid_next, amid_over, begun}
use Rattle.dch_lines.proofs.Meanings.{ok_err}
use Rattle.dch_lines.specs.Coming.{coming}
use Rattle.dch_lines.specs.declared.later.Later.{Later}

-- between two lines no radio frame is on, and that of a second configuration has not passed
pub record IsBetween (run : Run) : Type 0 where
  pub stage : run.stage ≡ RncTick
  pub left : run.left ≡ 0
  pub soon : (later : Later) → run.second ≡ Some later → run.frames ≤ later.frame

pub opened_between : (began : Planned) (second : Option Later) (first : ℕ) (quiet : Bool) → IsBetween (opened_run began second first quiet)
opened_between began second first quiet = record { stage = refl; left = refl; soon = λ later was. omega arith }

-- where a line leads, by what is active and to come behind it
pub record Leads (run : Run) (frames : ℕ) (next : Run) : Type 0 where
  pub frames_are : next.frames ≡ frames
  pub config : config_of next ≡ active_behind (config_of run) (coming run.second) frames
  pub second : coming next.second ≡ coming_behind (coming run.second) frames
  pub between : IsBetween next

-- a second configuration whose radio frame has not begun
early_active : (config : Config) (second : ℕ × Config) (frames : ℕ) → frames ≤ second.0 → active_behind config (Some second) frames ≡ config
early_active config second frames early = elim (leb_tells frames second.0) [
  | inl is ↦ rw is.0 refl
  | inr late ↦ absurd (omega (arith, early, late.1))
]

early_coming : (second : ℕ × Config) (frames : ℕ) → frames ≤ second.0 → coming_behind (Some second) frames ≡ Some second
early_coming second frames early = elim (leb_tells frames second.0) [
  | inl is ↦ rw is.0 refl
  | inr late ↦ absurd (omega (arith, early, late.1))
]

-- and one whose radio frame has
late_active : (config : Config) (second : ℕ × Config) (frames : ℕ) → second.0 < frames → active_behind config (Some second) frames ≡ second.1
late_active config second frames late = elim (leb_tells frames second.0) [
  | inl early ↦ absurd (omega (arith, early.1, late))
  | inr is ↦ rw is.0 refl
]

late_coming : (second : ℕ × Config) (frames : ℕ) → second.0 < frames → coming_behind (Some second) frames ≡ None
late_coming second frames late = elim (leb_tells frames second.0) [
  | inl early ↦ absurd (omega (arith, early.1, late))
  | inr is ↦ rw is.0 refl
]

-- the radio frame of the second configuration has not begun
leads_still : (run next : Run) (frames : ℕ) (second : Option Later) → run.second ≡ second → next.second ≡ second → next.frames ≡ frames → config_of next ≡ config_of run → next.stage ≡ RncTick → next.left ≡ 0 → ((later : Later) → second ≡ Some later → frames ≤ later.frame) → Leads run frames next
leads_still run next frames None was now passed config stage left soon = record {
  frames_are = passed;
  config = config ∙ ap (λ (s : Option Later). active_behind (config_of run) (coming s) frames) (sym was);
  second = ap coming now ∙ ap (λ (s : Option Later). coming_behind (coming s) frames) (sym was);
  between = record { stage = stage; left = left; soon = λ later waits. (let none : None ≡ Some later = sym now ∙ waits in cc none) };
}
leads_still run next frames (Some later) was now passed config stage left soon =
    let own : ℕ × Config = (later.frame, later.accepted.config) in
    let early : frames ≤ own.0 = soon later refl in
    record {
      frames_are = passed;
      config = config ∙ sym (early_active (config_of run) own frames early) ∙ ap (λ (s : Option Later). active_behind (config_of run) (coming s) frames) (sym was);
      second = ap coming now ∙ sym (early_coming own frames early) ∙ ap (λ (s : Option Later). coming_behind (coming s) frames) (sym was);
      between = record { stage = stage; left = left; soon = λ other waits. subst (λ n. n ≤ other.frame) (sym passed) (soon other (sym now ∙ waits)) };
    }

-- it has
leads_active : (run next : Run) (frames : ℕ) (later : Later) → run.second ≡ Some later → next.second ≡ None → next.frames ≡ frames → config_of next ≡ later.accepted.config → next.stage ≡ RncTick → next.left ≡ 0 → later.frame < frames → Leads run frames next
leads_active run next frames later was none passed config stage left late =
    let own : ℕ × Config = (later.frame, later.accepted.config) in
    record {
      frames_are = passed;
      config = config ∙ sym (late_active (config_of run) own frames late) ∙ ap (λ (s : Option Later). active_behind (config_of run) (coming s) frames) (sym was);
      second = ap coming none ∙ sym (late_coming own frames late) ∙ ap (λ (s : Option Later). coming_behind (coming s) frames) (sym was);
      between = record { stage = stage; left = left; soon = λ other waits. (let never : None ≡ Some other = sym none ∙ waits in cc never) };
    }

-- behind the radio frames of a line
over_leads : (run next : Run) (count : ℕ) → IsOver run count next → Leads run (run.frames + count) next
over_leads run next count over = by over.active
  where
    all : begun next.stage next.frames ≡ run.frames + count
    all = ap (λ (s : Stage). begun s next.frames) over.stage ∙ over.frames

    by : StillWaits run next ⊎ IsActive run next → Leads run (run.frames + count) next
    by (inl still) = leads_still run next (run.frames + count) run.second refl still.second over.frames still.config over.stage over.left (λ later was. subst (λ n. n ≤ later.frame) all (still.soon later was))
    by (inr on) = leads_active run next (run.frames + count) on.later on.was on.none over.frames on.config over.stage over.left (subst (λ n. on.later.frame < n) all on.begins)

-- a line that says this leads so
said_leads : (said : Said) (run mid next : Run) (line first rest : List ℕ) → Says (config_of run) line said → IsBetween run → Takes said run mid first → Resumes link_steps (steps_left mid.stage mid.left) mid next rest → Leads run (run.frames + frames_of said) next
said_leads (OneEvent event) run mid next line first rest says between takes resumes =
    let stage : mid.stage ≡ RncTick = ap (λ (r : Run). r.stage) takes.goes_on ∙ between.stage in
    let left : mid.left ≡ 0 = ap (λ (r : Run). r.left) takes.goes_on ∙ between.left in
    let none : steps_left mid.stage mid.left ≡ 0 = ap (λ n. steps_left mid.stage n) left in
    let done : (next ≡ mid) × (rest ≡ []) = subst (λ n. Resumes link_steps n mid next rest) none resumes in
    let on : next ≡ record run { link = takes.link } = done.0 ∙ takes.goes_on in
    let config : config_of next ≡ config_of run = ap config_of on ∙ ap (λ (p : Planned). p.config) (event_stays run.link takes.link event takes.lines takes.happens) in
    let same : run.frames ≡ run.frames + 0 = omega arith in
    leads_still run next (run.frames + 0) run.second refl (ap (λ (r : Run). r.second) on) (ap (λ (r : Run). r.frames) on ∙ same) config (ap (λ (r : Run). r.stage) done.0 ∙ stage) (ap (λ (r : Run). r.left) done.0 ∙ left)
    (λ later was. subst (λ n. n ≤ later.frame) same (between.soon later was))
said_leads (Frames count) run mid next line first rest says between takes resumes =
    let some : 1 ≤ count = some_frames (config_of run) line count says in
    let start : Run = record run { left = count } in
    let begins : IsAmid run count start = record {
      there = subst IsStage (sym between.stage) tt;
      total = refl;
      rests = λ none. between.stage;
      active = inl (record {
        second = refl;
        config = refl;
        soon = λ later was. subst (λ (s : Stage). begun s run.frames ≤ later.frame) (sym between.stage) (between.soon later was);
      });
    } in
    let one = amid_next run start mid count first begins (omega (arith, some)) takes in
    over_leads run next count (amid_over run mid next count rest one.0 resumes)

-- lines that are good stay so where the same is active and to come
moved : (lines : List (List ℕ)) (run next : Run) (frames : ℕ) → Leads run frames next → AreRunLines (active_behind (config_of run) (coming run.second) frames) (coming_behind (coming run.second) frames) frames lines → AreRunLines (config_of next) (coming next.second) next.frames lines
moved lines run next frames leads good =
    subst (λ (c : Config). AreRunLines c (coming next.second) next.frames lines) (sym leads.config)
    (subst (λ (s : Option (ℕ × Config)). AreRunLines (active_behind (config_of run) (coming run.second) frames) s next.frames lines) (sym leads.second)
    (subst (λ n. AreRunLines (active_behind (config_of run) (coming run.second) frames) (coming_behind (coming run.second) frames) n lines) (sym leads.frames_are) good))

-- the lines behind a good one are good where it leads
steps_lead : (run next : Run) (line text : List ℕ) (lines : List (List ℕ)) → IsBetween run → LineSteps link_steps run line next text
    → SaysFirst (config_of run) run.frames line (λ now. AreRunLines (active_behind (config_of run) (coming run.second) now) (coming_behind (coming run.second) now) now lines)
    → IsBetween next × AreRunLines (config_of next) (coming next.second) next.frames lines
steps_lead run next line text lines between steps good =
    let said : steps.handles.said ≡ good.said = one_said (config_of run) line good.said steps.handles.said good.says steps.handles.says in
    let takes : Takes good.said run steps.mid steps.first = subst (λ (s : Said). Takes s run steps.mid steps.first) said steps.handles.takes in
    let leads = said_leads good.said run steps.mid next line steps.first steps.rest good.says between takes steps.resumes in
    (leads.between, moved lines run next (run.frames + frames_of good.said) leads good.rest)

one_leads : (run next : Run) (line text : List ℕ) (lines : List (List ℕ)) → IsBetween run → AreRunLines (config_of run) (coming run.second) run.frames (line ∷ lines) → HandlesLine link_lines run line next text
    → IsBetween next × AreRunLines (config_of next) (coming next.second) next.frames lines
one_leads run next line text lines between good handles = cases (is_empty line) refl
  where
    cases : (b : Bool) → is_empty line ≡ b → IsBetween next × AreRunLines (config_of next) (coming next.second) next.frames lines
    cases true empty =
        let own : (next ≡ run) × (text ≡ []) = rw empty at handles in
        let behind : AreRunLines (config_of run) (coming run.second) run.frames lines = rw empty at good in
        (subst IsBetween (sym own.0) between, subst (λ (r : Run). AreRunLines (config_of r) (coming r.second) r.frames lines) (sym own.0) behind)
    cases false some =
        let own : LineSteps link_steps run line next text = rw some at handles in
        let here : SaysFirst (config_of run) run.frames line (λ now. AreRunLines (active_behind (config_of run) (coming run.second) now) (coming_behind (coming run.second) now) now lines) = rw some at good in
        steps_lead run next line text lines between own here

-- so none of them is refused
pub none_in_run : (run mid : Run) (good later : List (List ℕ)) (line text : List ℕ) (why : LineError) → IsBetween run → AreRunLines (config_of run) (coming run.second) run.frames (good ++ line ∷ later) → HandlesLines link_lines run good mid text → is_empty line ≡ false
    → RefusesLine mid line why → ⊥
none_in_run run mid [] later line text why between lines handles words refuses =
    let here : SaysFirst (config_of run) run.frames line (λ now. AreRunLines (active_behind (config_of run) (coming run.second) now) (coming_behind (coming run.second) now) now later) = rw words at lines in
    let wrong : RefusesLine run line why = subst (λ (r : Run). RefusesLine r line why) handles.0 refuses in
    ok_err here.says.parsed _ why here.says.is_parsed wrong
none_in_run run mid (head ∷ good) later line text why between lines (next, (first, (rest, (handles, more, whole)))) words refuses =
    let leads = one_leads run next head first (good ++ line ∷ later) between lines handles in
    none_in_run next mid good later line rest why leads.0 leads.1 more words refuses
