-- Radio frames that the handler of `soft` passes, and lines that ask for them.
use Rattle.std.proofs.Common.{◌≡◌, ◌<◌, ◌≤◌, ◌+◌, ◌-◌, ◌*◌, ◌∙◌, ℕ, zero, suc, List, [], Bool, false, Some, append-nil, arith, length, refl, ap, sym, subst, inl}
use Rattle.dch_lines.specs.Semantics.{Adds, Does, Leads}
use Rattle.dch_lines.proofs.Filtering.{Joined, Nothing}
use Rattle.dch_accept.specs.Plans.{Planned}
use Rattle.dch_link.specs.Soft.{SoftState, opened_soft}
use Rattle.dch_link.specs.SoftPassing.{IsStage, next_stage, stages_left}
use Rattle.dch_link.specs.SoftStages.{AtStage}
use Rattle.dch_link.specs.SoftNodes.{IsSoftOf, Represents}
use Rattle.dch_link.specs.SoftValues.{Parts}
use Rattle.dch_link.specs.declared.soft_stage.Stage.{Stage}
use Rattle.dch_link.specs.declared.soft_stage.Stage.TheVariants.{RncTick, IubDown}
use Rattle.dch_linkcmd.specs.SoftLineEvents.{Frames, Says}
use Rattle.dch_linkcmd.specs.SoftRules.{LeavesOff, PassesFrame, PassesFrames, PassesStage, TakesLine, soft_lines, soft_steps}
use Rattle.dch_linkcmd.specs.SoftRun.{Run, config_of, opened_run, passed_by, steps_left}
use Rattle.dch_linkcmd.specs.SoftHandlers.{Handler, IsReady, RepresentsRun, StandsBetween}
use Rattle.dch_linkcmd.specs.Stepping.{GoesBy, LineFront, LineSteps, Resumes}
use Rattle.dch_linkcmd.proofs.Frames.{InFrame, Passed, frame_begun, frame_next, may_end, passed_none, passed_on, passed_one}
use Rattle.dch_linkcmd.proofs.SoftStages.{all_left, last_one, one_less, some_left, steps_next}
use Rattle.dch_linkcmd.proofs.Stepping.{first_step}

-- how many stages a radio frame has with the legs of a handler
abbrev pub stages_of : Handler → ℕ
stages_of handler = 10 + 18 * length handler.soft.legs

-- behind so many stages of a radio frame
pub record FrameOn {P : Type 0} (writes : P → List ℕ → P → Type 0) (k : ℕ) (old new : Handler) (before after : P) : Type 0 where
  pub passed : Passed RepresentsRun writes soft_steps k old new before after
  pub ready : IsReady new
  pub frame : InFrame (stages_left (length old.soft.legs)) RncTick (stages_of old) old.left k new.stage new.left
  pub lines : new.lines ≡ old.lines
  pub legs : length new.soft.legs ≡ length old.soft.legs

pub frame_on_none : {P : Type 0} (writes : P → List ℕ → P → Type 0) → Nothing writes → (old : Handler) (page : P) → IsReady old → old.stage ≡ RncTick → FrameOn writes 0 old old page page
frame_on_none writes nothing old page ready first = record {
  passed = passed_none RepresentsRun writes soft_steps nothing old page;
  ready = ready;
  frame = frame_begun (stages_left (length old.soft.legs)) RncTick (stages_of old) old.left old.stage (omega arith) refl first;
  lines = refl;
  legs = refl;
}

pub frame_on_next : {P : Type 0} (writes : P → List ℕ → P → Type 0) → Joined writes → (k : ℕ) (old mid new : Handler) (before between after : P) → k < stages_of old → FrameOn writes k old mid before between
    → Leads RepresentsRun mid new (λ a b. Adds writes (PassesStage a b) between after) → IsReady new → new.lines ≡ mid.lines → length new.soft.legs ≡ length mid.soft.legs → GoesBy RncTick (next_stage (length mid.soft.legs) mid.stage) mid.left new.stage new.left → FrameOn writes (k + 1) old new before after
frame_on_next writes joined k old mid new before between after less on leads ready lines legs goes =
    let all : ℕ = length old.soft.legs in
    let stage : IsStage all mid.stage = subst (λ n. IsStage n mid.stage) on.legs on.ready.stage in
    let later : IsStage all new.stage = subst (λ n. IsStage n new.stage) (legs ∙ on.legs) ready.stage in
    record {
      passed = passed_on RepresentsRun writes soft_steps joined k 1 (k + 1) old mid new before between after (omega arith) on.passed (passed_one RepresentsRun writes soft_steps mid new between after leads);
      ready = ready;
      frame = frame_next (stages_left all) RncTick (stages_of old) old.left k mid.stage new.stage mid.left new.left (next_stage all mid.stage) less on.frame
          (λ s same at. (one_less all mid.stage s stage same, some_left all s (subst (IsStage all) at later))) (last_one all mid.stage)
          (subst (λ n. GoesBy RncTick (next_stage n mid.stage) mid.left new.stage new.left) on.legs goes);
      lines = lines ∙ on.lines;
      legs = legs ∙ on.legs;
    }

-- all stages of a radio frame have passed
pub frame_passed : {P : Type 0} (writes : P → List ℕ → P → Type 0) (k : ℕ) (old new : Handler) (before after : P) → k ≡ stages_of old → FrameOn writes k old new before after → Leads RepresentsRun old new (λ a b. Adds writes (PassesFrame a b) before after)
frame_passed writes k old new before after all on = λ run is.
    let passed = on.passed run is in
    let count : k ≡ stages_left run.soft.count RncTick = all ∙ ap (λ n. 10 + 18 * n) (sym is.stands.count) in (
      passed.0,
      passed.1,
      record {
        more = passed.2.more;
        handles = subst (λ n. Resumes soft_steps n run passed.0 passed.2.more) count passed.2.handles;
        wrote = passed.2.wrote;
      },
    )

-- behind so many radio frames
pub record FramesOn {P : Type 0} (writes : P → List ℕ → P → Type 0) (k : ℕ) (old new : Handler) (before after : P) : Type 0 where
  pub passed : Passed RepresentsRun writes soft_steps (stages_of old * k) old new before after
  pub ready : IsReady new
  pub first : new.stage ≡ RncTick
  pub left : new.left + k ≡ old.left
  pub lines : new.lines ≡ old.lines
  pub legs : length new.soft.legs ≡ length old.soft.legs

none_of : (n : ℕ) → 0 ≡ n * 0
none_of n = omega arith

one_more : (n k : ℕ) → n + n * k ≡ n * (k + 1)
one_more n k = omega arith

pub frames_on_none : {P : Type 0} (writes : P → List ℕ → P → Type 0) → Nothing writes → (old : Handler) (page : P) → IsReady old → old.stage ≡ RncTick → FramesOn writes 0 old old page page
frames_on_none writes nothing old page ready first = record {
  passed = subst (λ n. Passed RepresentsRun writes soft_steps n old old page page) (none_of (stages_of old)) (passed_none RepresentsRun writes soft_steps nothing old page);
  ready = ready;
  first = first;
  left = omega arith;
  lines = refl;
  legs = refl;
}

pub frames_on_next : {P : Type 0} (writes : P → List ℕ → P → Type 0) → Joined writes → (k : ℕ) (old mid new : Handler) (before between after : P) → FramesOn writes k old mid before between
    → Leads RepresentsRun mid new (λ a b. Adds writes (PassesFrame a b) between after) → IsReady new → new.stage ≡ RncTick → new.left + 1 ≡ mid.left → new.lines ≡ mid.lines → length new.soft.legs ≡ length mid.soft.legs → FramesOn writes (k + 1) old new before after
frames_on_next writes joined k old mid new before between after on leads ready first left lines legs = record {
  passed = passed_on RepresentsRun writes soft_steps joined (stages_of old * k) (stages_of old) (stages_of old * (k + 1)) old mid new before between after (one_more (stages_of old) k) on.passed (λ run is.
      let passed = leads run is in
      let count : stages_left run.soft.count RncTick ≡ stages_of old = ap (λ n. 10 + 18 * n) (is.stands.count ∙ on.legs) in (
        passed.0,
        passed.1,
        record {
          more = passed.2.more;
          handles = subst (λ n. Resumes soft_steps n run passed.0 passed.2.more) count passed.2.handles;
          wrote = passed.2.wrote;
        },
      ));
  ready = ready;
  first = first;
  left = omega (arith, left, on.left);
  lines = lines ∙ on.lines;
  legs = legs ∙ on.legs;
}

-- how many stages are left where a radio frame begins
left_at : (legs count : ℕ) (stage : Stage) (left : ℕ) → legs ≡ count → stage ≡ RncTick → steps_left legs stage left ≡ (10 + 18 * count) * left
left_at legs count stage left same first = subst (λ (s : Stage). steps_left legs s left ≡ (10 + 18 * count) * left) (sym first) (all_left legs left ∙ ap (λ n. (10 + 18 * n) * left) same)

sum_left : (n k left all : ℕ) → left + k ≡ all → n * k + n * left ≡ n * all
sum_left n k left all is = split n k left ∙ ap (λ m. n * m) is
  where
    split : (n k left : ℕ) → n * k + n * left ≡ n * (left + k)
    split n k left = omega arith

some_times : (n k : ℕ) → 0 < n → 0 < k → 0 < n * k
some_times (suc n) (suc k) some more = omega arith
some_times (suc n) zero some more = absurd (omega (arith, more))
some_times zero k some more = absurd (omega (arith, some))

-- where none is left a handler is left off as it is
pub none_left : (handler : Handler) → handler.left ≡ 0 → handler ≡ record handler { left = 0 }
none_left handler none = ap (λ n. record handler { left = n }) none

-- what stays where a handler is left off
pub left_off : (last new : Handler) → new ≡ record last { left = 0 } → (new.stage ≡ last.stage) × (new.left ≡ 0) × (new.lines ≡ last.lines)
left_off last new off = (ap (λ (h : Handler). h.stage) off, ap (λ (h : Handler). h.left) off, ap (λ (h : Handler). h.lines) off)

-- radio frames have passed, and those that are left are left off
pub frames_passed : {P : Type 0} (writes : P → List ℕ → P → Type 0) (broken : Bool) (k : ℕ) (old last new : Handler) (before after : P) → 0 < k → old.stage ≡ RncTick → FramesOn writes k old last before after → (broken ≡ false → last.left ≡ 0) → new ≡ record last { left = 0 }
    → Leads RepresentsRun old new (λ a b. Adds writes (PassesFrames broken a b) before after)
frames_passed writes broken k old last new before after some began on ended off = λ run is.
    let passed = on.passed run is in
    let legs : ℕ = length old.soft.legs in
    let was : steps_left run.soft.count run.stage run.left ≡ (10 + 18 * legs) * run.left = left_at run.soft.count legs run.stage run.left is.stands.count (is.stage ∙ began) in
    let now : steps_left passed.0.soft.count passed.0.stage passed.0.left ≡ (10 + 18 * legs) * passed.0.left = left_at passed.0.soft.count legs passed.0.stage passed.0.left (passed.1.stands.count ∙ on.legs) (passed.1.stage ∙ on.first) in
    let left : passed.0.left + k ≡ run.left = omega (arith, is.left, passed.1.left, on.left) in
    let next : Run = record passed.0 { left = 0 } in
    let stands : RepresentsRun next (record last { left = 0 }) = record {
      quiet = passed.1.quiet;
      stage = passed.1.stage;
      left = refl;
      frames = passed.1.frames;
      stands = passed.1.stands;
    } in (
      next,
      subst (λ (h : Handler). RepresentsRun next h) (sym off) stands,
      record {
        more = passed.2.more;
        handles = record {
          count = (10 + 18 * legs) * k;
          some = some_times (10 + 18 * legs) k (omega arith) some;
          last = passed.0;
          resumes = passed.2.handles;
          left = ap (λ n. (10 + 18 * legs) * k + n) now ∙ sum_left (10 + 18 * legs) k passed.0.left run.left left ∙ sym was;
          ended = λ unbroken. passed.1.left ∙ ended unbroken;
          ends = record { between = passed.1.stage ∙ on.first; none = refl };
        };
        wrote = passed.2.wrote;
      },
    )

-- the first stage of a radio frame is one of those that are left
first_left : (old new : Run) (text : List ℕ) → old.stage ≡ RncTick → 0 < old.left → PassesStage old new text → steps_left new.soft.count new.stage new.left + 1 ≡ steps_left old.soft.count old.stage old.left
first_left old new text first some passes =
    let next : Run = passed_by old passes.soft (Some (IubDown 0 0)) in
    let is : new ≡ next = passes.goes_on ∙ ap (λ (s : Stage). passed_by old passes.soft (next_stage old.soft.count s)) first in
    let ticks = subst (λ (s : Stage). AtStage s old.soft passes.soft passes.lines) first passes.passes in
    let count : passes.soft.count ≡ old.soft.count = ap (λ (s : SoftState). s.count) ticks.0.is in
    ap (λ (r : Run). steps_left r.soft.count r.stage r.left + 1) is ∙ ap (λ n. steps_left n (IubDown 0 0) old.left + 1) count
    ∙ steps_next old.soft.count RncTick (IubDown 0 0) old.left some tt refl ∙ ap (λ (s : Stage). steps_left old.soft.count s old.left) (sym first)

-- where none is left a run is left off as it is
off_same : (last next : Run) → LeavesOff last next → last.left ≡ 0 → last ≡ next
off_same last next off none = ap (λ n. record last { left = n }) none ∙ sym off.none

-- a line that asks for radio frames is done with all of them, or left off behind some of them
pub took_frames : {P : Type 0} (writes : P → List ℕ → P → Type 0) (broken : Bool) (run next : Run) (line : List ℕ) (count : ℕ) (before after : P) → run.stage ≡ RncTick → 1 ≤ count → Says run.soft.count (config_of run) line (Frames count)
    → Adds writes (PassesFrames broken (record run { left = count }) next) before after → Adds writes (Does soft_lines broken run line next) before after
took_frames writes broken run next line count before after first some says adds =
    let begun : Run = record run { left = count } in
    let passes : PassesFrames broken begun next adds.more = adds.handles in
    let last : Run = passes.last in
    let others : ℕ = passes.count - 1 in
    let all : passes.count ≡ suc others = omega (arith, passes.some) in
    let one = first_step soft_steps others begun last adds.more (subst (λ n. Resumes soft_steps n begun last adds.more) all passes.resumes) in
    let mid : Run = one.0 in
    let handles : TakesLine run line mid one.1.0 = record { said = Frames count; says = says; takes = one.1.1.1.0 } in
    let rest : Resumes soft_steps others mid last one.1.1.0 = one.1.1.1.1 in
    let left : steps_left mid.soft.count mid.stage mid.left + 1 ≡ steps_left begun.soft.count begun.stage begun.left = first_left begun mid one.1.0 first some one.1.1.1.0 in
    let now : steps_left last.soft.count last.stage last.left ≡ (10 + 18 * last.soft.count) * last.left = left_at last.soft.count last.soft.count last.stage last.left refl passes.ends.between in
    let whole : last.left ≡ 0 → LineSteps soft_steps run line next adds.more = λ none.
    let over : steps_left last.soft.count last.stage last.left ≡ 0 = now ∙ ap (λ n. (10 + 18 * last.soft.count) * n) none ∙ sym (none_of (10 + 18 * last.soft.count)) in
    let same : others ≡ steps_left mid.soft.count mid.stage mid.left = sums others passes.count (steps_left mid.soft.count mid.stage mid.left) (steps_left last.soft.count last.stage last.left) (steps_left begun.soft.count begun.stage begun.left) all left passes.left over in
    record {
      mid = mid;
      first = one.1.0;
      handles = handles;
      rest = one.1.1.0;
      resumes = subst (λ (r : Run). Resumes soft_steps (steps_left mid.soft.count mid.stage mid.left) mid r one.1.1.0) (off_same last next passes.ends none) (subst (λ n. Resumes soft_steps n mid last one.1.1.0) same rest);
      whole = one.1.1.1.2;
    } in
    let part : 0 < last.left → LineFront soft_steps LeavesOff run line next adds.more = λ more.
    let others_left : 0 < steps_left last.soft.count last.stage last.left = subst (λ n. 0 < n) (sym now) (some_times (10 + 18 * last.soft.count) last.left (omega arith) more) in
    record {
      mid = mid;
      first = one.1.0;
      handles = handles;
      count = others;
      few = less others passes.count (steps_left mid.soft.count mid.stage mid.left) (steps_left last.soft.count last.stage last.left) (steps_left begun.soft.count begun.stage begun.left) all left passes.left others_left;
      last = last;
      rest = one.1.1.0;
      resumes = rest;
      front = one.1.1.1.2;
      ends = passes.ends;
    } in
    record { more = adds.more; handles = may_end broken last.left passes.ended whole part; wrote = adds.wrote }
  where
    sums : (others count mid next all : ℕ) → count ≡ suc others → mid + 1 ≡ all → count + next ≡ all → next ≡ 0 → others ≡ mid
    sums others count mid next all one before sum none = omega (arith, one, before, sum, none)

    less : (others count mid next all : ℕ) → count ≡ suc others → mid + 1 ≡ all → count + next ≡ all → 0 < next → others < mid
    less others count mid next all one before sum more = omega (arith, one, before, sum, more)

-- a line that asks for none is done with its first step
pub took_one : {P : Type 0} (writes : P → List ℕ → P → Type 0) (broken : Bool) (run next : Run) (line : List ℕ) (before after : P) → next.left ≡ 0 → Adds writes (TakesLine run line next) before after → Adds writes (Does soft_lines broken run line next) before after
took_one writes broken run next line before after none adds =
    let over : steps_left next.soft.count next.stage next.left ≡ 0 = ap (λ n. steps_left next.soft.count next.stage n) none in
    record {
      more = adds.more;
      handles = inl (record {
        mid = next;
        first = adds.more;
        handles = adds.handles;
        rest = [];
        resumes = subst (λ n. Resumes soft_steps n next next []) (sym over) (refl, refl);
        whole = sym (append-nil adds.more);
      });
      wrote = adds.wrote;
    }

-- a line asks for radio frames, and nothing has happened yet
pub asks_stands : (run : Run) (old : Handler) (parts : Parts) (count : ℕ) → RepresentsRun run old → parts ≡ old.soft → RepresentsRun (record run { left = count }) (record old { soft = parts; left = count; lines = old.lines + 1 })
asks_stands run old parts count is same = record {
  quiet = is.quiet;
  stage = is.stage;
  left = refl;
  frames = is.frames;
  stands = subst (λ (p : Parts). Represents old.accepted run.first run.soft p) (sym same) is.stands;
}

-- before the first line
pub opened_between : (planned : Planned) (soft : Parts) (first legs : ℕ) (quiet : Bool) → IsSoftOf planned soft → Represents planned first (opened_soft planned first legs) soft
    → StandsBetween (record { accepted = planned; soft = soft; quiet = quiet; stage = RncTick; left = 0; frames = 0; lines = 0 })
opened_between planned soft first legs quiet opened stands = record {
  ready = record { opened = opened; stage = tt; left = omega arith; lines = omega arith; few = omega arith };
  first = refl;
  left = refl;
  run = opened_run planned first legs quiet;
  stands = record { quiet = refl; stage = refl; left = refl; frames = refl; stands = stands };
}
