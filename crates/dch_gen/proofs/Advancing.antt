-- What was done in parts was done as a whole.
use Rattle.std.proofs.Common.{◌≡◌, ◌≤◌, ◌+◌, ◌*◌, ◌++◌, ◌∙◌, ℕ, suc, List, [], ◌∷◌, Option, Some, None, arith, refl, ap, sym, subst, append_assoc, append-nil, inl, inr, IfSome}
use Rattle.std.proofs.lemmas.Bool.Decides.{eqb_tells}
use Rattle.std.proofs.Math.Nat.{mul-le-mul_right}
use Rattle.dch_accept.specs.Plans.{Planned}
use Rattle.dch_node.specs.Lines.{Line}
use Rattle.dch_link.specs.Events.{Event, Happens}
use Rattle.dch_link.specs.Link.{LinkState, opened_link}
use Rattle.dch_link.specs.Passing.{IsStage, next_stage, stages_left}
use Rattle.dch_link.specs.Stages.{AtStage}
use Rattle.dch_link.specs.LinkNodes.{IsLinkOf, Represents}
use Rattle.dch_link.specs.declared.stage.Stage.{Stage}
use Rattle.dch_link.specs.declared.stage.Stage.TheVariants.{RncTick, IubDown, RadioDown, UeTick, RadioUp, IubUp}
use Rattle.dch_gen.specs.Counting.{AreCountsOf}
use Rattle.dch_gen.proofs.Counted.{room_less}
use Rattle.dch_gen.specs.declared.counts.Counts.{Counts}
use Rattle.dch_gen.specs.Run.{Follows, HappenAll, PassFrames, PassFrom, PassesAll, PassesFrame}
use Rattle.dch_gen.specs.Generators.{Advances, HasPassed, IsReady, MayCount, Parts, stage_bytes}

-- the counts went on by the lines of one thing, and by those of another
both_counted : (front back : List Line) (old mid new : Counts) (before : List Line) → ((more : List Line) → AreCountsOf more old → AreCountsOf (more ++ front) mid) → ((more : List Line) → AreCountsOf more mid → AreCountsOf (more ++ back) new)
    → AreCountsOf before old → AreCountsOf (before ++ (front ++ back)) new
both_counted front back old mid new before one other is = subst (λ (l : List Line). AreCountsOf l new) (append_assoc before front back) (other (before ++ front) (one before is))

-- one thing after another
pub advances_then : (m k : ℕ) (First Then : LinkState → LinkState → List Line → Type 0) (old mid new : Parts) → Advances m First old mid → Advances k Then mid new → Advances (m + k) (Follows First Then) old new
advances_then m k First Then old mid new one other = record {
  goes = λ first link is.
      let front = one.goes first link is in
      let back = other.goes first front.next (subst (λ (p : Planned). Represents p p first front.next mid.link) (sym one.same) front.stands) in
      record {
        next = back.next;
        lines = front.lines ++ back.lines;
        does = record { mid = front.next; front = front.lines; back = back.lines; first = front.does; then = back.does; all = refl };
        stands = subst (λ (p : Planned). Represents p p first back.next new.link) one.same back.stands;
        counted = λ before was. both_counted front.lines back.lines old.counts mid.counts new.counts before front.counted back.counted was;
      };
  ready = other.ready;
  same = other.same ∙ one.same;
  counts = λ more may. let sum : m + k + more ≡ m + (k + more) = omega arith in other.counts more (one.counts (k + more) (subst (λ n. MayCount old n) sum may));
}

-- what was done is something else too
pub advances_as : (k : ℕ) (Does Is : LinkState → LinkState → List Line → Type 0) (old new : Parts) → ((from to : LinkState) (lines : List Line) → Does from to lines → Is from to lines) → Advances k Does old new → Advances k Is old new
advances_as k Does Is old new as_is one = record {
  goes = λ first link is. let own = one.goes first link is in record { next = own.next; lines = own.lines; does = as_is link own.next own.lines own.does; stands = own.stands; counted = own.counted };
  ready = one.ready;
  same = one.same;
  counts = one.counts;
}

-- nothing was done
pub advances_none : (Is : LinkState → LinkState → List Line → Type 0) (parts : Parts) → ((link : LinkState) → Is link link []) → IsReady parts → Advances 0 Is parts parts
advances_none Is parts is ready = record {
  goes = λ first link stands. record { next = link; lines = []; does = is link; stands = stands; counted = λ before was. subst (λ (l : List Line). AreCountsOf l parts.counts) (sym (append-nil before)) was };
  ready = ready;
  same = refl;
  counts = λ more may. let sum : 0 + more ≡ more = omega arith in subst (λ n. MayCount parts n) sum may;
}

-- events of two lists
happen_both : (events more : List Event) (old mid new : LinkState) (front back lines : List Line) → HappenAll events old mid front → HappenAll more mid new back → lines ≡ front ++ back → HappenAll (events ++ more) old new lines
happen_both [] more old mid new front back lines first then all =
    let same : lines ≡ back = all ∙ ap (λ (l : List Line). l ++ back) first.1 in
    subst (λ (l : LinkState). HappenAll more l new lines) first.0 (subst (λ (l : List Line). HappenAll more mid new l) (sym same) then)
happen_both (event ∷ events) more old mid new front back lines first then all = record {
  mid = first.mid;
  front = first.front;
  back = first.back ++ back;
  first = first.first;
  then = happen_both events more first.mid mid new first.back back (first.back ++ back) first.then then refl;
  all = all ∙ ap (λ (l : List Line). l ++ back) first.all ∙ append_assoc first.front first.back back;
}

pub advances_events : (m k : ℕ) (events more : List Event) (old mid new : Parts) → Advances m (HappenAll events) old mid → Advances k (HappenAll more) mid new → Advances (m + k) (HappenAll (events ++ more)) old new
advances_events m k events more old mid new one other =
    advances_as (m + k) (Follows (HappenAll events) (HappenAll more)) (HappenAll (events ++ more)) old new
    (λ from to lines does. happen_both events more from does.mid to does.front does.back lines does.first does.then does.all)
    (advances_then m k (HappenAll events) (HappenAll more) old mid new one other)

-- how many stages are left from the next one on
abbrev pub left_of : Option Stage → ℕ
left_of None = 0
left_of (Some stage) = stages_left stage

-- a stage less is left behind each
pub left_next : (stage : Stage) → IsStage stage → suc (left_of (next_stage stage)) ≡ stages_left stage
left_next RncTick is = refl
left_next (IubDown set) is = elim (eqb_tells set 7) [
  | inl last ↦ rw last.0 (omega (arith, last.1))
  | inr other ↦ rw other.0 (omega (arith, is))
]
left_next RadioDown is = refl
left_next UeTick is = refl
left_next RadioUp is = refl
left_next (IubUp set) is = elim (eqb_tells set 7) [
  | inl last ↦ rw last.0 (omega (arith, last.1))
  | inr other ↦ rw other.0 (omega (arith, is))
]

-- the stages before the next one have passed: with those from it on all have
abbrev pub Before : Option Stage → LinkState → LinkState → List Line → Type 0
Before next old mid front = (new : LinkState) (back : List Line) → PassFrom (left_of next) next mid new back → PassFrom 20 (Some RncTick) old new (front ++ back)

stage_passes : (stage : Stage) → IsStage stage → (old mid : LinkState) (lines : List Line) → Follows (Before (Some stage)) (AtStage stage) old mid lines → Before (next_stage stage) old mid lines
stage_passes stage is old mid lines does = λ new back passes.
    let on : PassFrom (suc (left_of (next_stage stage))) (Some stage) does.mid new (does.back ++ back) = record { mid = mid; front = does.back; back = back; first = does.then; then = passes; all = refl } in
    let from : PassFrom (stages_left stage) (Some stage) does.mid new (does.back ++ back) = subst (λ n. PassFrom n (Some stage) does.mid new (does.back ++ back)) (left_next stage is) on in
    let whole : does.front ++ (does.back ++ back) ≡ lines ++ back = sym (append_assoc does.front does.back back) ∙ ap (λ (l : List Line). l ++ back) (sym does.all) in
    subst (λ (l : List Line). PassFrom 20 (Some RncTick) old new l) whole (does.first new (does.back ++ back) from)

-- a generator on its way through a radio frame, whose next stage this is
pub record IsUnderWay (next : Option Stage) (old new : Parts) : Type 0 where
  pub steps : ℕ
  pub sum : steps + left_of next ≡ 20
  pub advances : Advances steps (Before next) old new
  pub stage : IfSome next IsStage

pub starts_off : (parts : Parts) → IsReady parts → IsUnderWay (Some RncTick) parts parts
starts_off parts ready = record { steps = 0; sum = refl; advances = advances_none (Before (Some RncTick)) parts (λ link. λ new back passes. passes) ready; stage = tt }

pub goes_on : (stage : Stage) (old mid new : Parts) → IsUnderWay (Some stage) old mid → Advances 1 (AtStage stage) mid new → IfSome (next_stage stage) IsStage → IsUnderWay (next_stage stage) old new
goes_on stage old mid new way passes later = record {
  steps = way.steps + 1;
  sum = omega (arith, way.sum, left_next stage way.stage);
  advances = advances_as (way.steps + 1) (Follows (Before (Some stage)) (AtStage stage)) (Before (next_stage stage)) old new (stage_passes stage way.stage) (advances_then way.steps 1 (Before (Some stage)) (AtStage stage) old mid new way.advances passes);
  stage = later;
}

pub arrives : (old new : Parts) → IsUnderWay None old new → Advances 20 (PassFrom 20 (Some RncTick)) old new
arrives old new way =
    let all : way.steps ≡ 20 = omega (arith, way.sum) in
    advances_as 20 (Before None) (PassFrom 20 (Some RncTick)) old new
    (λ from to lines before. subst (λ (l : List Line). PassFrom 20 (Some RncTick) from to l) (append-nil lines) (before to [] (refl, refl)))
    (subst (λ n. Advances n (Before None) old new) all way.advances)

-- the radio frame is over
pub passes_all : (old mid new : Parts) → Advances 20 (PassFrom 20 (Some RncTick)) old mid
    → ((first : ℕ) (link : LinkState) → Represents mid.accepted mid.accepted first link mid.link → Represents mid.accepted mid.accepted first (record link { damage = [] }) new.link) → IsLinkOf mid.accepted new.link
    → new ≡ record mid { link = new.link } → Advances 20 PassesAll old new
passes_all old mid new passes over opened same = record {
  goes = λ first link is.
      let own = passes.goes first link is in
      let stands : Represents mid.accepted mid.accepted first own.next mid.link = subst (λ (p : Planned). Represents p p first own.next mid.link) (sym passes.same) own.stands in
      record {
        next = record own.next { damage = [] };
        lines = own.lines;
        does = record { last = own.next; passes = own.does; over = refl };
        stands = subst (λ (p : Planned). Represents p p first (record own.next { damage = [] }) new.link) passes.same (over first own.next stands);
        counted = λ before was. subst (λ (parts : Parts). AreCountsOf (before ++ own.lines) parts.counts) (sym same) (own.counted before was);
      };
  ready = subst (λ (parts : Parts). IsReady parts) (sym same) (record { opened = opened; bearers = passes.ready.bearers; exact = passes.ready.exact });
  same = ap (λ (parts : Parts). parts.accepted) same ∙ passes.same;
  counts = λ more may. subst (λ (parts : Parts). MayCount parts more) (sym same) (record { room = (passes.counts more may).room });
}

-- one frame more has passed
pub passed_next : (first n f : ℕ) (old new : Parts) → Advances 32 (PassesFrame n f) old new → HasPassed first n f old → HasPassed first n (suc f) new
passed_next first n f old new frame was =
    let own = frame.goes first was.link was.stands in
    record {
      link = own.next;
      lines = was.lines ++ own.lines;
      passed = subst (λ (p : Planned). PassFrames n (suc f) (opened_link p first) own.next (was.lines ++ own.lines)) (sym frame.same) (record { mid = was.link; front = was.lines; back = own.lines; first = was.passed; then = own.does; all = refl });
      stands = subst (λ (p : Planned). Represents p p first own.next new.link) (sym frame.same) own.stands;
      counted = own.counted was.lines was.counted;
    }

-- counts that may grow by the bytes of some steps may grow by those of fewer
pub may_less : (parts : Parts) (steps most : ℕ) → steps ≤ most → MayCount parts most → MayCount parts steps
may_less parts steps most less may = record { room = room_less parts.counts (steps * stage_bytes parts.accepted.config) (most * stage_bytes parts.accepted.config) (mul-le-mul_right (stage_bytes parts.accepted.config) less) may.room }

-- one event
pub advances_one : (k : ℕ) (event other : Event) (old new : Parts) → event ≡ other → Advances k (λ link next lines. Happens link event next lines) old new → Advances k (HappenAll (other ∷ [])) old new
advances_one k event other old new same one =
    advances_as k (λ link next lines. Happens link event next lines) (HappenAll (other ∷ [])) old new
    (λ from to lines does. record { mid = to; front = lines; back = []; first = subst (λ (e : Event). Happens from e to lines) same does; then = (refl, refl); all = sym (append-nil lines) }) one

-- no event, in the time of some steps
pub advances_idle : (k : ℕ) (parts : Parts) → IsReady parts → Advances k (HappenAll []) parts parts
advances_idle k parts ready =
    let still = advances_none (HappenAll []) parts (λ link. (refl, refl)) ready in
    record { goes = still.goes; ready = ready; same = refl; counts = λ more may. may_less parts more (k + more) (omega arith) may }

pub none_is : (next : Option Stage) → ((stage : Stage) → next ≡ Some stage → ⊥) → next ≡ None
none_is None none = refl
none_is (Some stage) none = absurd (none stage refl)
