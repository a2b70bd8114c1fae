-- Radio frames that the handler of `link` passes, and lines that ask for them.
use Rattle.std.proofs.Common.{◌≡◌, ◌<◌, ◌≤◌, ◌+◌, ◌-◌, ◌*◌, ◌∙◌, ℕ, suc, List, [], Bool, false, Some, append-nil, arith, refl, ap, sym, subst, inl, inr}
use Rattle.dch_lines.specs.Semantics.{Adds, Does, Leads}
use Rattle.dch_lines.proofs.Filtering.{Joined, Nothing}
use Rattle.dch_link.specs.Passing.{IsStage, next_stage, stages_left}
use Rattle.dch_link.specs.LinkNodes.{Represents}
use Rattle.dch_link.specs.Values.{Nodes}
use Rattle.dch_link.specs.declared.stage.Stage.{Stage}
use Rattle.dch_link.specs.declared.stage.Stage.TheVariants.{RncTick, IubDown}
use Rattle.dch_linkcmd.specs.LineEvents.{Frames, Says}
use Rattle.dch_linkcmd.specs.Rules.{LeavesOff, MayChange, PassesFrame, PassesFrames, PassesNext, TakesLine, link_lines, link_steps}
use Rattle.dch_linkcmd.specs.Run.{Run, config_of, passed_by, steps_left}
use Rattle.dch_linkcmd.specs.Handlers.{Handler, IsReady, RepresentsRun}
use Rattle.dch_linkcmd.specs.Stepping.{GoesBy, LineFront, LineSteps, Resumes}
use Rattle.dch_linkcmd.proofs.Frames.{InFrame, Passed, frame_begun, frame_next, may_end, passed_none, passed_on, passed_one}
use Rattle.dch_linkcmd.proofs.Stages.{last_one, one_less, some_left, steps_next, tick_left}
use Rattle.dch_linkcmd.proofs.Stepping.{first_step}

-- behind so many stages of a radio frame
pub record FrameOn {P : Type 0} (writes : P → List ℕ → P → Type 0) (k : ℕ) (old new : Handler) (before after : P) : Type 0 where
  pub passed : Passed RepresentsRun writes link_steps k old new before after
  pub ready : IsReady new
  pub frame : InFrame stages_left RncTick 20 old.left k new.stage new.left
  pub lines : new.lines ≡ old.lines

pub frame_on_none : {P : Type 0} (writes : P → List ℕ → P → Type 0) → Nothing writes → (old : Handler) (page : P) → IsReady old → old.stage ≡ RncTick → FrameOn writes 0 old old page page
frame_on_none writes nothing old page ready first = record {
  passed = passed_none RepresentsRun writes link_steps nothing old page;
  ready = ready;
  frame = frame_begun stages_left RncTick 20 old.left old.stage (omega arith) refl first;
  lines = refl;
}

pub frame_on_next : {P : Type 0} (writes : P → List ℕ → P → Type 0) → Joined writes → (k : ℕ) (old mid new : Handler) (before between after : P) → k < 20 → FrameOn writes k old mid before between
    → Leads RepresentsRun mid new (λ a b. Adds writes (PassesNext a b) between after) → IsReady new → new.lines ≡ mid.lines → GoesBy RncTick (next_stage mid.stage) mid.left new.stage new.left → FrameOn writes (k + 1) old new before after
frame_on_next writes joined k old mid new before between after less on leads ready lines goes = record {
  passed = passed_on RepresentsRun writes link_steps joined k 1 (k + 1) old mid new before between after (omega arith) on.passed (passed_one RepresentsRun writes link_steps mid new between after leads);
  ready = ready;
  frame = frame_next stages_left RncTick 20 old.left k mid.stage new.stage mid.left new.left (next_stage mid.stage) less on.frame
      (λ s same at. (one_less mid.stage s on.ready.stage same, some_left s (subst IsStage at ready.stage))) (last_one mid.stage) goes;
  lines = lines ∙ on.lines;
}

-- behind so many radio frames
pub record FramesOn {P : Type 0} (writes : P → List ℕ → P → Type 0) (k : ℕ) (old new : Handler) (before after : P) : Type 0 where
  pub passed : Passed RepresentsRun writes link_steps (20 * k) old new before after
  pub ready : IsReady new
  pub first : new.stage ≡ RncTick
  pub left : new.left + k ≡ old.left
  pub lines : new.lines ≡ old.lines

pub frames_on_none : {P : Type 0} (writes : P → List ℕ → P → Type 0) → Nothing writes → (old : Handler) (page : P) → IsReady old → old.stage ≡ RncTick → FramesOn writes 0 old old page page
frames_on_none writes nothing old page ready first = record {
  passed = passed_none RepresentsRun writes link_steps nothing old page;
  ready = ready;
  first = first;
  left = omega arith;
  lines = refl;
}

pub frames_on_next : {P : Type 0} (writes : P → List ℕ → P → Type 0) → Joined writes → (k : ℕ) (old mid new : Handler) (before between after : P) → FramesOn writes k old mid before between
    → Leads RepresentsRun mid new (λ a b. Adds writes (PassesFrame a b) between after) → IsReady new → new.stage ≡ RncTick → new.left + 1 ≡ mid.left → new.lines ≡ mid.lines → FramesOn writes (k + 1) old new before after
frames_on_next writes joined k old mid new before between after on leads ready first left lines = record {
  passed = passed_on RepresentsRun writes link_steps joined (20 * k) 20 (20 * (k + 1)) old mid new before between after (omega arith) on.passed leads;
  ready = ready;
  first = first;
  left = omega (arith, left, on.left);
  lines = lines ∙ on.lines;
}

-- how many stages are left where a radio frame begins
left_at : (stage : Stage) (left : ℕ) → stage ≡ RncTick → steps_left stage left ≡ 20 * left
left_at stage left first = subst (λ (s : Stage). steps_left s left ≡ 20 * left) (sym first) (tick_left left)

-- where none is left a handler is left off as it is
pub none_left : (handler : Handler) → handler.left ≡ 0 → handler ≡ record handler { left = 0 }
none_left handler none = ap (λ n. record handler { left = n }) none

-- what stays where a handler is left off
pub left_off : (last new : Handler) → new ≡ record last { left = 0 } → (new.stage ≡ last.stage) × (new.left ≡ 0) × (new.lines ≡ last.lines)
left_off last new off = (ap (λ (h : Handler). h.stage) off, ap (λ (h : Handler). h.left) off, ap (λ (h : Handler). h.lines) off)

-- radio frames have passed, and those that are left are left off
pub frames_passed : {P : Type 0} (writes : P → List ℕ → P → Type 0) (broken : Bool) (k : ℕ) (old last new : Handler) (before after : P) → 0 < k → old.stage ≡ RncTick → FramesOn writes k old last before after → (broken ≡ false → last.left ≡ 0) → new ≡ record last { left = 0 }
    → Leads RepresentsRun old new (λ a b. Adds writes (PassesFrames broken a b) before after)
frames_passed writes broken k old last new before after some began on ended off = λ run is.
    let passed = on.passed run is in
    let was : steps_left run.stage run.left ≡ 20 * run.left = left_at run.stage run.left (is.stage ∙ began) in
    let now : steps_left passed.0.stage passed.0.left ≡ 20 * passed.0.left = left_at passed.0.stage passed.0.left (passed.1.stage ∙ on.first) in
    let next : Run = record passed.0 { left = 0 } in
    let stands : RepresentsRun next (record last { left = 0 }) = record {
      second = passed.1.second;
      quiet = passed.1.quiet;
      stage = passed.1.stage;
      left = refl;
      frames = passed.1.frames;
      stands = passed.1.stands;
    } in (
      next,
      subst (λ (h : Handler). RepresentsRun next h) (sym off) stands,
      record {
        more = passed.2.more;
        handles = record {
          count = 20 * k;
          some = omega (arith, some);
          last = passed.0;
          resumes = passed.2.handles;
          left = omega (arith, was, now, is.left, passed.1.left, on.left);
          ended = λ unbroken. passed.1.left ∙ ended unbroken;
          ends = record { between = passed.1.stage ∙ on.first; none = refl };
        };
        wrote = passed.2.wrote;
      },
    )

-- a second configuration that becomes active leaves the stage
changed_stage : (old new : Run) → MayChange old new → (new.stage ≡ old.stage) × (new.left ≡ old.left)
changed_stage old new (inl makes) = (ap (λ (r : Run). r.stage) makes.goes_on, ap (λ (r : Run). r.left) makes.goes_on)
changed_stage old new (inr waits) = (ap (λ (r : Run). r.stage) waits.same, ap (λ (r : Run). r.left) waits.same)

-- the first stage of a radio frame is one of those that are left
first_left : (old new : Run) (text : List ℕ) → old.stage ≡ RncTick → 0 < old.left → PassesNext old new text → steps_left new.stage new.left + 1 ≡ 20 * old.left
first_left old new text first some passes =
    let changed = changed_stage old passes.mid passes.changes in
    let next : Run = passed_by passes.mid passes.passes.link (Some (IubDown 0)) in
    let is : new ≡ next = passes.passes.goes_on ∙ ap (λ (s : Stage). passed_by passes.mid passes.passes.link (next_stage s)) (changed.0 ∙ first) in
    let left : new.left ≡ old.left = ap (λ (r : Run). r.left) is ∙ changed.1 in
    let stage : new.stage ≡ IubDown 0 = ap (λ (r : Run). r.stage) is in
    ap (λ (s : Stage). steps_left s new.left + 1) stage ∙ ap (λ n. steps_left (IubDown 0) n + 1) left ∙ steps_next RncTick (IubDown 0) old.left some tt refl ∙ tick_left old.left

-- where none is left a run is left off as it is
off_same : (last next : Run) → LeavesOff last next → last.left ≡ 0 → last ≡ next
off_same last next off none = ap (λ n. record last { left = n }) none ∙ sym off.none

-- a line that asks for radio frames is done with all of them, or left off behind some of them
pub took_frames : {P : Type 0} (writes : P → List ℕ → P → Type 0) (broken : Bool) (run next : Run) (line : List ℕ) (count : ℕ) (before after : P) → run.stage ≡ RncTick → 1 ≤ count → Says (config_of run) line (Frames count)
    → Adds writes (PassesFrames broken (record run { left = count }) next) before after → Adds writes (Does link_lines broken run line next) before after
took_frames writes broken run next line count before after first some says adds =
    let begun : Run = record run { left = count } in
    let passes : PassesFrames broken begun next adds.more = adds.handles in
    let last : Run = passes.last in
    let others : ℕ = passes.count - 1 in
    let all : passes.count ≡ suc others = omega (arith, passes.some) in
    let one = first_step link_steps others begun last adds.more (subst (λ n. Resumes link_steps n begun last adds.more) all passes.resumes) in
    let mid : Run = one.0 in
    let handles : TakesLine run line mid one.1.0 = record { said = Frames count; says = says; takes = one.1.1.1.0 } in
    let rest : Resumes link_steps others mid last one.1.1.0 = one.1.1.1.1 in
    let left : steps_left mid.stage mid.left + 1 ≡ 20 * count = first_left begun mid one.1.0 first some one.1.1.1.0 in
    let now : steps_left last.stage last.left ≡ 20 * last.left = left_at last.stage last.left passes.ends.between in
    let was : steps_left begun.stage begun.left ≡ 20 * count = left_at begun.stage begun.left first in
    let sum : passes.count + steps_left last.stage last.left ≡ 20 * count = passes.left ∙ was in
    let whole : last.left ≡ 0 → LineSteps link_steps run line next adds.more = λ none. record {
      mid = mid;
      first = one.1.0;
      handles = handles;
      rest = one.1.1.0;
      resumes = subst (λ (r : Run). Resumes link_steps (steps_left mid.stage mid.left) mid r one.1.1.0) (off_same last next passes.ends none)
          (subst (λ n. Resumes link_steps n mid last one.1.1.0) (omega (arith, all, left, now, sum, none)) rest);
      whole = one.1.1.1.2;
    } in
    let part : 0 < last.left → LineFront link_steps LeavesOff run line next adds.more = λ more. record {
      mid = mid;
      first = one.1.0;
      handles = handles;
      count = others;
      few = omega (arith, all, left, now, sum, more);
      last = last;
      rest = one.1.1.0;
      resumes = rest;
      front = one.1.1.1.2;
      ends = passes.ends;
    } in
    record { more = adds.more; handles = may_end broken last.left passes.ended whole part; wrote = adds.wrote }

-- a line that asks for none is done with its first step
pub took_one : {P : Type 0} (writes : P → List ℕ → P → Type 0) (broken : Bool) (run next : Run) (line : List ℕ) (before after : P) → next.left ≡ 0 → Adds writes (TakesLine run line next) before after → Adds writes (Does link_lines broken run line next) before after
took_one writes broken run next line before after none adds =
    let over : steps_left next.stage next.left ≡ 0 = ap (λ n. steps_left next.stage n) none in
    record {
      more = adds.more;
      handles = inl (record {
        mid = next;
        first = adds.more;
        handles = adds.handles;
        rest = [];
        resumes = subst (λ n. Resumes link_steps n next next []) (sym over) (refl, refl);
        whole = sym (append-nil adds.more);
      });
      wrote = adds.wrote;
    }

-- a line asks for radio frames, and nothing has happened yet
pub asks_stands : (run : Run) (old : Handler) (nodes : Nodes) (count : ℕ) → RepresentsRun run old → nodes ≡ old.link → RepresentsRun (record run { left = count }) (record old { link = nodes; left = count; lines = old.lines + 1 })
asks_stands run old nodes count is same = record {
  second = is.second;
  quiet = is.quiet;
  stage = is.stage;
  left = refl;
  frames = is.frames;
  stands = subst (λ (n : Nodes). Represents run.began old.accepted run.first run.link n) (sym same) is.stands;
}
