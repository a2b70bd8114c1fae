-- Stages of a run one after another, and twenty of them as one radio frame.
use Rattle.std.proofs.Common.{◌≡◌, ◌<◌, ◌≤◌, ◌+◌, ◌-◌, ◌∙◌, ◌++◌, ℕ, zero, suc, List, [], Option, Some, None, append_assoc, append-nil, arith, refl, ap, sym, subst, inl, inr, true, false}
use Rattle.std.specs.Prelude.{◌==◌, if◌then◌else◌, nat_le}
use Rattle.std.proofs.lemmas.Bool.Decides.{eqb_tells, leb_tells}
use Rattle.dch_linkcmd.specs.Stepping.{Resumes}
use Rattle.dch_node.specs.Lines.{Line, joined}
use Rattle.dch_script.specs.LineText.{text_of}
use Rattle.dch_lines.specs.Shown.{shown}
use Rattle.dch_linkcmd.specs.LinkLink.{LinkState}
use Rattle.dch_linkcmd.specs.Passing.{is_first, next_stage}
use Rattle.dch_linkcmd.specs.LinkStages.{AtStage}
use Rattle.dch_linkcmd.specs.stage.Stage.{Stage}
use Rattle.dch_linkcmd.specs.stage.Stage.TheVariants.{RncTick}
use Rattle.dch_linkcmd.specs.Rules.{MayChange, PassesNext, link_steps}
use Rattle.dch_linkcmd.specs.Run.{Run, passed, passed_by}
use Rattle.dch_runlaw.specs.Frames.{IsFrame, stage_at}
use Rattle.dch_runlaw.specs.Runs.{PassesFrame}
use Rattle.dch_runlaw.proofs.Eight.{by_eight}
use Rattle.dch_runlaw.proofs.Frames.{frame_is}
use Rattle.dch_runlaw.proofs.Shown.{shown-append, shown-none}

-- a stage takes a run on, and the state of the nodes is this behind it
pub record PassesTo (old : Run) (link : LinkState) (lines : List Line) (new : Run) : Type 0 where
  pub passes : AtStage old.stage old.link link lines
  pub on : new ≡ passed old link

-- stage k does so, before which a second configuration may have become active
pub record Goes (old mid : Run) (link : LinkState) (lines : List Line) (new : Run) : Type 0 where
  pub changes : MayChange old mid
  pub to : PassesTo mid link lines new

-- so many stages one after another
pub record GoesOn (count : ℕ) (old new : Run) (text : List ℕ) : Type 0 where
  pub runs : ℕ → Run
  pub mids : ℕ → Run
  pub links : ℕ → LinkState
  pub lines : ℕ → List Line
  pub first : runs 0 ≡ old
  pub last : runs count ≡ new
  pub goes : (k : ℕ) → k < count → Goes (runs k) (mids k) (links k) (lines k) (runs (k + 1))
  pub quiet : new.quiet ≡ old.quiet
  pub shows : text ≡ shown old.quiet (text_of (joined lines count))

-- what stays where a second configuration may become active
may_quiet : (old mid : Run) → MayChange old mid → mid.quiet ≡ old.quiet
may_quiet old mid (inl makes) = ap (λ (r : Run). r.quiet) makes.goes_on
may_quiet old mid (inr waits) = ap (λ (r : Run). r.quiet) waits.same

pub may_stage : (old mid : Run) → MayChange old mid → mid.stage ≡ old.stage
may_stage old mid (inl makes) = ap (λ (r : Run). r.stage) makes.goes_on
may_stage old mid (inr waits) = ap (λ (r : Run). r.stage) waits.same

pub may_left : (old mid : Run) → MayChange old mid → mid.left ≡ old.left
may_left old mid (inl makes) = ap (λ (r : Run). r.left) makes.goes_on
may_left old mid (inr waits) = ap (λ (r : Run). r.left) waits.same

pub may_frames : (old mid : Run) → MayChange old mid → mid.frames ≡ old.frames
may_frames old mid (inl makes) = ap (λ (r : Run). r.frames) makes.goes_on
may_frames old mid (inr waits) = ap (λ (r : Run). r.frames) waits.same

-- inside a radio frame none does
calm : (old mid : Run) → is_first old.stage ≡ false → MayChange old mid → mid ≡ old
calm old mid inside (inl makes) = let both : false ≡ true = sym inside ∙ ap is_first makes.begins.first in absurd (cc)
calm old mid inside (inr waits) = waits.same

passed_quiet : (run : Run) (link : LinkState) (next : Option Stage) → (passed_by run link next).quiet ≡ run.quiet
passed_quiet run link None = refl
passed_quiet run link (Some stage) = refl

joined_same : (one other : ℕ → List Line) (n : ℕ) → ((k : ℕ) → k < n → one k ≡ other k) → joined one n ≡ joined other n
joined_same one other zero same = refl
joined_same one other (suc n) same =
    ap (λ (l : List Line). l ++ one n) (joined_same one other n (λ k below. same k (omega (arith, below)))) ∙ ap (λ (l : List Line). joined other n ++ l) (same n (omega arith))

-- a value that changes behind a place
abbrev pub until : {X : Type 0} → ℕ → (ℕ → X) → X → ℕ → X
until n xs x k = if nat_le n k then x else xs k

pub until_before : {X : Type 0} (n k : ℕ) (xs : ℕ → X) (x : X) → k < n → until n xs x k ≡ xs k
until_before n k xs x below = elim (leb_tells n k) [
  | inl behind_it ↦ absurd (omega (arith, below, behind_it.1))
  | inr before_it ↦ rw before_it.0 refl
]

pub until_behind : {X : Type 0} (n k : ℕ) (xs : ℕ → X) (x : X) → n ≤ k → until n xs x k ≡ x
until_behind n k xs x behind = elim (leb_tells n k) [
  | inl before_it ↦ rw before_it.0 refl
  | inr behind_it ↦ absurd (omega (arith, behind, behind_it.1))
]

no_stage : (run : Run) → GoesOn 0 run run []
no_stage run = record {
  runs = λ k. run;
  mids = λ k. run;
  links = λ k. run.link;
  lines = λ k. [];
  first = refl;
  last = refl;
  goes = λ k none. absurd (omega (arith, none));
  quiet = refl;
  shows = sym (shown-none run.quiet);
}

-- one more
one_more : (n : ℕ) (old near new : Run) (front last : List ℕ) → GoesOn n old near front → PassesNext near new last → GoesOn (n + 1) old new (front ++ last)
one_more n old near new front last on next =
    let passes = next.passes in
    let runs : ℕ → Run = until (n + 1) on.runs new in
    let mids : ℕ → Run = until n on.mids next.mid in
    let links : ℕ → LinkState = until n on.links passes.link in
    let lines : ℕ → List Line = until n on.lines passes.lines in
    let here : runs n ≡ near = until_before (n + 1) n on.runs new (omega arith) ∙ on.last in
    let still : next.mid.quiet ≡ old.quiet = may_quiet near next.mid next.changes ∙ on.quiet in
    record {
      runs = runs;
      mids = mids;
      links = links;
      lines = lines;
      first = until_before (n + 1) 0 on.runs new (omega arith) ∙ on.first;
      last = until_behind (n + 1) (n + 1) on.runs new (omega arith);
      goes = λ k below. elim (leb_tells n k) [
        | inl behind_it ↦
            let same : k ≡ n = omega (arith, below, behind_it.1) in
            subst (λ (j : ℕ). Goes (runs j) (mids j) (links j) (lines j) (runs (j + 1))) (sym same)
            (subst (λ (r : Run). Goes (runs n) (mids n) (links n) (lines n) r) (sym (until_behind (n + 1) (n + 1) on.runs new (omega arith)))
            (subst (λ (r : Run). Goes r (mids n) (links n) (lines n) new) (sym here)
            (subst (λ (r : Run). Goes near r (links n) (lines n) new) (sym (until_behind n n on.mids next.mid (omega arith)))
            (subst (λ (l : LinkState). Goes near next.mid l (lines n) new) (sym (until_behind n n on.links passes.link (omega arith)))
            (subst (λ (l : List Line). Goes near next.mid passes.link l new) (sym (until_behind n n on.lines passes.lines (omega arith)))
            (record { changes = next.changes; to = record { passes = passes.passes; on = passes.goes_on } }))))))
        | inr before_it ↦
            subst (λ (r : Run). Goes (runs k) (mids k) (links k) (lines k) r) (sym (until_before (n + 1) (k + 1) on.runs new (omega (arith, before_it.1))))
            (subst (λ (r : Run). Goes r (mids k) (links k) (lines k) (on.runs (k + 1))) (sym (until_before (n + 1) k on.runs new (omega (arith, before_it.1))))
            (subst (λ (r : Run). Goes (on.runs k) r (links k) (lines k) (on.runs (k + 1))) (sym (until_before n k on.mids next.mid (omega (arith, before_it.1))))
            (subst (λ (l : LinkState). Goes (on.runs k) (on.mids k) l (lines k) (on.runs (k + 1))) (sym (until_before n k on.links passes.link (omega (arith, before_it.1))))
            (subst (λ (l : List Line). Goes (on.runs k) (on.mids k) (on.links k) l (on.runs (k + 1))) (sym (until_before n k on.lines passes.lines (omega (arith, before_it.1)))) (on.goes k (omega (arith, before_it.1)))))))
      ];
      quiet = ap (λ (r : Run). r.quiet) passes.goes_on ∙ passed_quiet next.mid passes.link (next_stage next.mid.stage) ∙ still;
      shows =
          let next_count : n + 1 ≡ suc n = omega arith in
          let both : joined lines (n + 1) ≡ joined on.lines n ++ passes.lines =
          ap (joined lines) next_count
          ∙ ap (λ (l : List Line). l ++ lines n) (joined_same lines on.lines n (λ k below. until_before n k on.lines passes.lines below))
          ∙ ap (λ (l : List Line). joined on.lines n ++ l) (until_behind n n on.lines passes.lines (omega arith)) in
          ap (λ (t : List ℕ). t ++ last) on.shows
          ∙ ap (λ (t : List ℕ). shown old.quiet (text_of (joined on.lines n)) ++ t) (passes.shows ∙ ap (λ quiet. shown quiet (text_of passes.lines)) still)
          ∙ sym (shown-append old.quiet (joined on.lines n) passes.lines)
          ∙ ap (λ (l : List Line). shown old.quiet (text_of l)) (sym both);
    }

-- the first stage of a line, and those that are left then
pub all_stages : (n : ℕ) (old mid new : Run) (front last : List ℕ) → PassesNext old mid front → Resumes link_steps n mid new last → GoesOn (1 + n) old new (front ++ last)
all_stages zero old mid new front last passes resumes =
    subst (λ (t : List ℕ). GoesOn 1 old new (front ++ t)) (sym resumes.1)
    (subst (λ (r : Run). GoesOn 1 old r (front ++ [])) (sym resumes.0)
    (subst (λ (t : List ℕ). GoesOn 1 old mid t) (sym (append-nil front)) (one_more 0 old old mid [] front (no_stage old) passes)))
all_stages (suc n) old mid new front last passes (near, (first, (step, (resumes, resumed, whole)))) =
    let both : front ++ last ≡ (front ++ first) ++ step = ap (λ (t : List ℕ). front ++ t) whole ∙ sym (append_assoc front first step) in
    let count : (1 + n) + 1 ≡ 1 + suc n = omega arith in
    let before : GoesOn (1 + n) old near (front ++ first) = all_stages n old mid near front first passes resumes in
    subst (λ (t : List ℕ). GoesOn (1 + suc n) old new t) (sym both)
    (subst (λ (m : ℕ). GoesOn m old new ((front ++ first) ++ step)) count
    (one_more (1 + n) old near new (front ++ first) step before resumed))

-- the twenty stages
by_nineteen : (P : ℕ → Type 0) → ((s : ℕ) → s < 8 → P (1 + s)) → P 0 → P 9 → P 10 → P 11 → ((s : ℕ) → s < 7 → P (12 + s)) → (k : ℕ) → k < 19 → P k
by_nineteen P down zeroth ninth tenth eleventh up k below = elim (leb_tells 9 k) [
  | inr soon ↦ elim (eqb_tells k 0) [
    | inl none ↦ subst P (sym none.1) zeroth
    | inr some ↦ let here : 1 + (k - 1) ≡ k = omega (arith, some.1) in subst P here (down (k - 1) (omega (arith, soon.1, some.1)))
  ]
  | inl late ↦ elim (leb_tells 12 k) [
    | inr mid ↦ elim (eqb_tells k 9) [
      | inl nine ↦ subst P (sym nine.1) ninth
      | inr more ↦ elim (eqb_tells k 10) [
        | inl ten ↦ subst P (sym ten.1) tenth
        | inr eleven ↦ let here : 11 ≡ k = omega (arith, late.1, mid.1, more.1, eleven.1) in subst P here eleventh
      ]
    ]
    | inl last ↦ let here : 12 + (k - 12) ≡ k = omega (arith, last.1) in subst P here (up (k - 12) (omega (arith, below, last.1)))
  ]
]

-- the stage behind each but the last
next_at : (k : ℕ) → k < 19 → next_stage (stage_at k) ≡ Some (stage_at (k + 1))
next_at = by_nineteen (λ k. next_stage (stage_at k) ≡ Some (stage_at (k + 1)))
    (by_eight (λ s. next_stage (stage_at (1 + s)) ≡ Some (stage_at ((1 + s) + 1))) refl refl refl refl refl refl refl refl)
    refl refl refl refl
    (λ s few. by_eight (λ s. s < 7 → next_stage (stage_at (12 + s)) ≡ Some (stage_at ((12 + s) + 1))) (λ l. refl) (λ l. refl) (λ l. refl) (λ l. refl) (λ l. refl) (λ l. refl) (λ l. refl) (λ l. absurd (omega (arith, l))) s (omega (arith, few)) few)

-- stage k of a radio frame in a run that began it so
abbrev pub at_stage : Run → ℕ → LinkState → Run
at_stage old k link = record old { link = link; stage = stage_at k }

-- where twenty stages follow one another from the first on
pub record Twenty (old : Run) (runs : ℕ → Run) (links : ℕ → LinkState) (lines : ℕ → List Line) : Type 0 where
  pub begins : runs 0 ≡ at_stage old 0 old.link
  pub goes : (k : ℕ) → k < 20 → PassesTo (runs k) (links k) (lines k) (runs (k + 1))

-- the state of the nodes before each, and behind the last
abbrev pub before : (ℕ → Run) → (ℕ → LinkState) → ℕ → LinkState
before runs links k = if k == 20 then links 19 else (runs k).link

stage_of : (old : Run) (runs : ℕ → Run) (links : ℕ → LinkState) (lines : ℕ → List Line) → Twenty old runs links lines → (k : ℕ) → k < 20 → runs k ≡ at_stage old k (runs k).link
stage_of old runs links lines all zero below = all.begins ∙ ap (λ (r : Run). at_stage old 0 r.link) (sym all.begins)
stage_of old runs links lines all (suc k) below =
    let here : k + 1 ≡ suc k = omega arith in
    let is : runs k ≡ at_stage old k (runs k).link = stage_of old runs links lines all k (omega (arith, below)) in
    let next : next_stage (runs k).stage ≡ Some (stage_at (k + 1)) = ap (λ (r : Run). next_stage r.stage) is ∙ next_at k (omega (arith, below)) in
    let on : runs (k + 1) ≡ record (runs k) { link = links k; stage = stage_at (k + 1) } = (all.goes k (omega (arith, below))).on ∙ ap (passed_by (runs k) (links k)) next in
    let now : runs (k + 1) ≡ at_stage old (k + 1) (links k) = on ∙ ap (λ (r : Run). record r { link = links k; stage = stage_at (k + 1) }) is in
    subst (λ n. runs n ≡ at_stage old n (runs n).link) here (now ∙ ap (λ (r : Run). at_stage old (k + 1) r.link) (sym now))

link_behind : (old : Run) (runs : ℕ → Run) (links : ℕ → LinkState) (lines : ℕ → List Line) → Twenty old runs links lines → (k : ℕ) → k < 20 → before runs links (k + 1) ≡ links k
link_behind old runs links lines all k below = elim (eqb_tells (k + 1) 20) [
  | inl last ↦ let here : 19 ≡ k = omega (arith, last.1) in rw last.0 (ap links here)
  | inr more ↦
      let next : next_stage (runs k).stage ≡ Some (stage_at (k + 1)) = ap (λ (r : Run). next_stage r.stage) (stage_of old runs links lines all k below) ∙ next_at k (omega (arith, below, more.1)) in
      rw more.0 (ap (λ (r : Run). r.link) ((all.goes k below).on ∙ ap (passed_by (runs k) (links k)) next))
]

link_at : (old : Run) (runs : ℕ → Run) (links : ℕ → LinkState) (k : ℕ) → k < 20 → before runs links k ≡ (runs k).link
link_at old runs links k below = elim (eqb_tells k 20) [
  | inl last ↦ absurd (omega (arith, below, last.1))
  | inr more ↦ rw more.0 refl
]

-- they are a radio frame, after which no damage waits
undamaged : (old new : LinkState) (lines : List Line) → IsFrame old new lines → IsFrame old (record new { damage = [] }) lines
undamaged old new lines f = record {
  rnc = f.rnc;
  rnc_output = f.rnc_output;
  rnc_ticks = f.rnc_ticks;
  fed = f.fed;
  fed_lines = f.fed_lines;
  fed_first = f.fed_first;
  feeds = f.feeds;
  node_b = f.node_b;
  down_output = f.down_output;
  down = f.down;
  kept = f.kept;
  kept_output = f.kept_output;
  keeps = f.keeps;
  ue_output = f.ue_output;
  ue_ticks = f.ue_ticks;
  checks = f.checks;
  compared = f.compared;
  up_output = f.up_output;
  up = f.up;
  rncs = f.rncs;
  taken = f.taken;
  rnc_lines = f.rnc_lines;
  rnc_first = f.rnc_first;
  takes = f.takes;
  rnc_last = f.rnc_last;
  ue_reported = f.ue_reported;
  rnc_reported = f.rnc_reported;
  reported = f.reported;
}

record FrameOver (old : Run) (new : Run) (lines : List Line) : Type 0 where
  link : LinkState
  frame : PassesFrame old.link link lines
  over : new ≡ record old { link = link; stage = RncTick; left = old.left - 1; frames = old.frames + 1 }

twenty_stages : (old : Run) (runs : ℕ → Run) (links : ℕ → LinkState) (lines : ℕ → List Line) → Twenty old runs links lines → FrameOver old (runs 20) (joined lines 20)
twenty_stages old runs links lines all =
    let stages : (k : ℕ) → k < 20 → AtStage (stage_at k) (before runs links k) (before runs links (k + 1)) (lines k) = λ k below.
    subst (λ (l : LinkState). AtStage (stage_at k) l (before runs links (k + 1)) (lines k)) (sym (link_at old runs links k below))
    (subst (λ (l : LinkState). AtStage (stage_at k) (runs k).link l (lines k)) (sym (link_behind old runs links lines all k below))
    (subst (λ (s : Stage). AtStage s (runs k).link (links k) (lines k)) (ap (λ (r : Run). r.stage) (stage_of old runs links lines all k below)) (all.goes k below).passes)) in
    let whole = frame_is (before runs links) lines stages in
    let first : (runs 0).link ≡ old.link = ap (λ (r : Run). r.link) all.begins in
    let none : next_stage (runs 19).stage ≡ None = ap (λ (r : Run). next_stage r.stage) (stage_of old runs links lines all 19 (omega arith)) in
    let on : runs 20 ≡ passed (runs 19) (links 19) = (all.goes 19 (omega arith)).on in
    record {
      link = record (links 19) { damage = [] };
      frame = record { frame = subst (λ (l : LinkState). IsFrame l (record (links 19) { damage = [] }) (joined lines 20)) first (undamaged (runs 0).link (links 19) (joined lines 20) whole.0); damage = refl };
      over = on ∙ ap (passed_by (runs 19) (links 19)) none
          ∙ ap (λ (r : Run). record r { link = record (links 19) { damage = [] }; stage = RncTick; left = r.left - 1; frames = r.frames + 1 }) (stage_of old runs links lines all 19 (omega arith));
    }

-- behind the first stage of a radio frame no second configuration becomes active
not_first : (k : ℕ) → k < 19 → is_first (stage_at (k + 1)) ≡ false
not_first = by_nineteen (λ k. is_first (stage_at (k + 1)) ≡ false)
    (by_eight (λ s. is_first (stage_at ((1 + s) + 1)) ≡ false) refl refl refl refl refl refl refl refl)
    refl refl refl refl
    (λ s few. by_eight (λ s. is_first (stage_at ((12 + s) + 1)) ≡ false) refl refl refl refl refl refl refl refl s (omega (arith, few)))

-- twenty stages, where the first one begins a radio frame
pub record Stages (old : Run) (runs mids : ℕ → Run) (links : ℕ → LinkState) (lines : ℕ → List Line) : Type 0 where
  pub first : runs 0 ≡ old
  pub begun : old.stage ≡ RncTick
  pub goes : (k : ℕ) → k < 20 → Goes (runs k) (mids k) (links k) (lines k) (runs (k + 1))

stage_now : (old : Run) (runs mids : ℕ → Run) (links : ℕ → LinkState) (lines : ℕ → List Line) → Stages old runs mids links lines → (k : ℕ) → k < 20 → (mids k).stage ≡ stage_at k
stage_now old runs mids links lines all zero below = may_stage (runs 0) (mids 0) (all.goes 0 below).changes ∙ ap (λ (r : Run). r.stage) all.first ∙ all.begun
stage_now old runs mids links lines all (suc k) below =
    let here : k + 1 ≡ suc k = omega arith in
    let is : (mids k).stage ≡ stage_at k = stage_now old runs mids links lines all k (omega (arith, below)) in
    let next : next_stage (mids k).stage ≡ Some (stage_at (k + 1)) = ap next_stage is ∙ next_at k (omega (arith, below)) in
    let on : (runs (k + 1)).stage ≡ stage_at (k + 1) = ap (λ (r : Run). r.stage) (all.goes k (omega (arith, below))).to.on ∙ ap (λ (n : Option Stage). (passed_by (mids k) (links k) n).stage) next in
    subst (λ n. (mids n).stage ≡ stage_at n) here (may_stage (runs (k + 1)) (mids (k + 1)) (all.goes (k + 1) (omega (arith, below))).changes ∙ on)

mid_is : (old : Run) (runs mids : ℕ → Run) (links : ℕ → LinkState) (lines : ℕ → List Line) → Stages old runs mids links lines → (k : ℕ) → k < 19 → mids (k + 1) ≡ runs (k + 1)
mid_is old runs mids links lines all k below =
    let changes : MayChange (runs (k + 1)) (mids (k + 1)) = (all.goes (k + 1) (omega (arith, below))).changes in
    let stage : (runs (k + 1)).stage ≡ stage_at (k + 1) = sym (may_stage (runs (k + 1)) (mids (k + 1)) changes) ∙ stage_now old runs mids links lines all (k + 1) (omega (arith, below)) in
    calm (runs (k + 1)) (mids (k + 1)) (ap is_first stage ∙ not_first k below) changes

-- a radio frame passes, before which a second configuration may have become active
pub record FramePasses (old new : Run) (lines : List Line) : Type 0 where
  pub mid : Run
  pub changes : MayChange old mid
  pub link : LinkState
  pub frame : PassesFrame mid.link link lines
  pub over : new ≡ record mid { link = link; stage = RncTick; left = mid.left - 1; frames = mid.frames + 1 }

pub frame_passes : (old : Run) (runs mids : ℕ → Run) (links : ℕ → LinkState) (lines : ℕ → List Line) → Stages old runs mids links lines → FramePasses old (runs 20) (joined lines 20)
frame_passes old runs mids links lines all =
    let states : ℕ → Run = until 20 mids (runs 20) in
    let first : states 0 ≡ mids 0 = until_before 20 0 mids (runs 20) (omega arith) in
    let begun : (mids 0).stage ≡ RncTick = stage_now old runs mids links lines all 0 (omega arith) in
    let whole : FrameOver (mids 0) (states 20) (joined lines 20) = twenty_stages (mids 0) states links lines (record {
      begins = first ∙ ap (λ stage. record (mids 0) { stage = stage }) begun;
      goes = λ k below.
          subst (λ (r : Run). PassesTo r (links k) (lines k) (states (k + 1))) (sym (until_before 20 k mids (runs 20) below))
          (elim (eqb_tells k 19) [
            | inl last ↦ subst (λ (r : Run). PassesTo (mids k) (links k) (lines k) r) (ap (λ n. runs (n + 1)) last.1 ∙ sym (until_behind 20 (k + 1) mids (runs 20) (omega (arith, last.1)))) (all.goes k below).to
            | inr more ↦ subst (λ (r : Run). PassesTo (mids k) (links k) (lines k) r)
                (sym (mid_is old runs mids links lines all k (omega (arith, below, more.1))) ∙ sym (until_before 20 (k + 1) mids (runs 20) (omega (arith, below, more.1)))) (all.goes k below).to
          ]);
    }) in
    record {
      mid = mids 0;
      changes = subst (λ (r : Run). MayChange r (mids 0)) all.first (all.goes 0 (omega arith)).changes;
      link = whole.link;
      frame = whole.frame;
      over = sym (until_behind 20 20 mids (runs 20) (omega arith)) ∙ whole.over;
    }
