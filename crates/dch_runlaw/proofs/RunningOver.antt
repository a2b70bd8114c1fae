-- Runs in which a second configuration may become active, one behind another.
use Rattle.std.proofs.Common.{◌≡◌, ◌<◌, ◌≤◌, ◌+◌, ◌∙◌, ◌++◌, ℕ, List, [], ◌∷◌, Option, Some, None, append_assoc, arith, refl, ap, sym, subst, inl, inr}
use Rattle.std.proofs.lemmas.Bool.Decides.{leb_tells}
use Rattle.dch_types.specs.declared.config.Config.{Config}
use Rattle.dch_accept.specs.Plans.{Planned}
use Rattle.dch_node.specs.Lines.{Line}
use Rattle.dch_lines.specs.Coming.{coming}
use Rattle.dch_lines.specs.declared.later.Later.{Later}
use Rattle.dch_linkcmd.specs.LinkLink.{LinkState, active}
use Rattle.dch_linkcmd.specs.RncState.{State as RncState}
use Rattle.dch_linkcmd.specs.RunLines.{active_behind}
use Rattle.dch_runlaw.specs.Intervals.{frames_in}
use Rattle.dch_runlaw.specs.Runs.{Between, Event, Frame, Runs}
use Rattle.dch_runlaw.specs.Scripts.{RunsOver}
use Rattle.dch_runlaw.proofs.Changing.{changed_is}
use Rattle.dch_runlaw.proofs.TextTold.{run_told}

-- the radio frames of events and more events
pub frames_in-append : (xs ys : List Event) → frames_in (xs ++ ys) ≡ frames_in xs + frames_in ys
frames_in-append [] ys = omega arith
frames_in-append (Between event ∷ xs) ys = frames_in-append xs ys
frames_in-append (Frame ∷ xs) ys = let rest : frames_in (xs ++ ys) ≡ frames_in xs + frames_in ys = frames_in-append xs ys in omega (arith, rest)

-- one run behind another
pub runs_on : (events more : List Event) (old mid new : LinkState) (first last : List Line) → Runs old events mid first → Runs mid more new last → Runs old (events ++ more) new (first ++ last)
runs_on [] more old mid new first last here there =
    subst (λ (l : List Line). Runs old more new (l ++ last)) (sym here.1) (subst (λ (s : LinkState). Runs s more new last) here.0 there)
runs_on (event ∷ events) more old mid new first last here there = record {
  next = here.next;
  own = here.own;
  rest = here.rest ++ last;
  step = here.step;
  later = runs_on events more here.next mid new here.rest last here.later there;
  reported = ap (λ (l : List Line). l ++ last) here.reported ∙ append_assoc here.own here.rest last;
}

pub over_append : (second : Option Later) (frames : ℕ) (old mid new : LinkState) (xs ys : List Event) (first last : List Line) (left rest : Option Later)
    → RunsOver second frames old xs mid first left → RunsOver left (frames + frames_in xs) mid ys new last rest → RunsOver second frames old (xs ++ ys) new (first ++ last) rest
over_append second frames old mid new xs ys first last left rest (inl one) (inl two) = inl (record {
  run = runs_on xs ys old mid new first last one.run two.run;
  soon = λ later was. let soon : (frames + frames_in xs) + frames_in ys ≤ later.frame = two.soon later (one.still ∙ was) in omega (arith, soon, frames_in-append xs ys);
  still = two.still ∙ one.still;
})
over_append second frames old mid new xs ys first last left rest (inl one) (inr two) = inr (record {
  later = two.later;
  was = sym one.still ∙ two.was;
  before = xs ++ two.before;
  after = two.after;
  all = ap (λ (e : List Event). xs ++ e) two.all ∙ sym (append_assoc xs two.before (Frame ∷ two.after));
  now = let now : (frames + frames_in xs) + frames_in two.before ≡ two.later.frame = two.now in omega (arith, now, frames_in-append xs two.before);
  last = two.last;
  start = two.start;
  early = first ++ two.early;
  late = two.late;
  run = runs_on xs two.before old mid two.last first two.early one.run two.run;
  changes = two.changes;
  rest = two.rest;
  reported = ap (λ (l : List Line). first ++ l) two.reported ∙ sym (append_assoc first two.early two.late);
  none = two.none;
})
over_append second frames old mid new xs ys first last left rest (inr one) (inl two) = inr (record {
  later = one.later;
  was = one.was;
  before = one.before;
  after = one.after ++ ys;
  all = ap (λ (e : List Event). e ++ ys) one.all ∙ append_assoc one.before (Frame ∷ one.after) ys;
  now = one.now;
  last = one.last;
  start = one.start;
  early = one.early;
  late = one.late ++ last;
  run = one.run;
  changes = one.changes;
  rest = runs_on (Frame ∷ one.after) ys one.start mid new one.late last one.rest two.run;
  reported = ap (λ (l : List Line). l ++ last) one.reported ∙ append_assoc one.early one.late last;
  none = two.still ∙ one.none;
})
over_append second frames old mid new xs ys first last left rest (inr one) (inr two) = let never : None ≡ Some two.later = sym one.none ∙ two.was in absurd (cc)

-- a run in which nothing may change
pub only_run : (second : Option Later) (frames : ℕ) (old new : LinkState) (events : List Event) (lines : List Line) → ((later : Later) → second ≡ Some later → frames ≤ later.frame) → frames_in events ≡ 0 → Runs old events new lines → RunsOver second frames old events new lines second
only_run second frames old new events lines soon none run = inl (record { run = run; soon = λ later was. omega (arith, soon later was, none); still = refl })

-- the second configuration that is still to come behind a run has not become active
pub soon_behind : (second : Option Later) (frames : ℕ) (old new : LinkState) (events : List Event) (lines : List Line) (left : Option Later) → RunsOver second frames old events new lines left → (later : Later) → left ≡ Some later → frames + frames_in events ≤ later.frame
soon_behind second frames old new events lines left (inl one) later is = one.soon later (sym one.still ∙ is)
soon_behind second frames old new events lines left (inr two) later is = let never : None ≡ Some later = sym two.none ∙ is in absurd (cc)

-- the configuration that is active stays over a run of one part
pub stays_active : (old new : LinkState) (events : List Event) (lines : List Line) → Runs old events new lines → active new ≡ active old
stays_active old new events lines run = (run_told old events new lines run).rnc_stays

-- a second configuration whose radio frame has begun
late_active : (config : Config) (later : Later) (frames : ℕ) → later.frame < frames → active_behind config (coming (Some later)) frames ≡ later.accepted.config
late_active config later frames late = elim (leb_tells frames later.frame) [
  | inl early ↦ absurd (omega (arith, early.1, late))
  | inr is ↦ rw is.0 refl
]

-- so behind a run the configurations by the count of radio frames are as before it
pub active_over : (second : Option Later) (frames : ℕ) (old new : LinkState) (events : List Event) (lines : List Line) (left : Option Later) → RunsOver second frames old events new lines left
    → (now : ℕ) → frames + frames_in events ≤ now → active_behind (active new).config (coming left) now ≡ active_behind (active old).config (coming second) now
active_over second frames old new events lines left (inl one) now past =
    ap (λ (p : Planned). active_behind p.config (coming left) now) (stays_active old new events lines one.run) ∙ ap (λ (s : Option Later). active_behind (active old).config (coming s) now) one.still
active_over second frames old new events lines left (inr two) now past =
    let changed : active two.start ≡ two.later.accepted = ap (λ (r : RncState). r.planned) (changed_is two.later.accepted two.last two.start two.changes).rnc in
    let count : frames_in events ≡ frames_in two.before + (frames_in two.after + 1) = ap frames_in two.all ∙ frames_in-append two.before (Frame ∷ two.after) in
    ap (λ (s : Option Later). active_behind (active new).config (coming s) now) two.none
    ∙ ap (λ (p : Planned). p.config) (stays_active two.start new (Frame ∷ two.after) two.late two.rest ∙ changed)
    ∙ sym (late_active (active old).config two.later now (omega (arith, past, count, two.now)))
    ∙ ap (λ (s : Option Later). active_behind (active old).config (coming s) now) (sym two.was)
