-- The lines of `pair`, as its handler takes them.
use Rattle.std.proofs.Common.{◌≡◌, ℕ, List, Bool, true, false, not, Option, Some, None, Result, Ok, Err, OnOk, IfOk, IfErr, inl, inr, refl, sym, subst}
use Rattle.std.specs.Prelude.{◌==◌}
use Rattle.dch_script.specs.Pair.{ParsedPair, begins_with_ends, ends, is_opening, pair_meaning, pair_of, parsed_pair}
use Rattle.dch_script.specs.ParsedLine.{◌>>=◌}
use Rattle.dch_script.specs.Report.{line_text}
use Rattle.dch_script.specs.declared.event.LineError.{LineError}
use Rattle.dch_script.specs.declared.pair.PairLine.{PairLine}
use Rattle.dch_script.specs.declared.report.Line.TheVariants.{Open}
use Rattle.dch_script.proofs.PairKept.{line_opens}
use Rattle.dch_lines.specs.Semantics.{Adds, Does, IsFault, Leads}
use Rattle.dch_lines.specs.declared.stop.LineFault.{LineFault}
use Rattle.dch_paircmd.specs.Ends.{Ends, opened_ends}
use Rattle.dch_paircmd.specs.Rules.{RefusesLine, TakesLine, end_in, in_place, pair_lines, pair_meaning_at}
use Rattle.dch_paircmd.specs.Handlers.{Answers, AnswersEvent, AreEnds, AreSides, EndsValue, LeadsOn, LeadsTo, RepresentsRun, SideValue}

-- what happens at the end `a`
pub first_sides : (v : EndsValue) (e : Ends) → AreEnds v e → AreSides e.rules v.first v.second (record { near = e.first; far = e.second })
first_sides v e are = record { one = are.first; other = are.second }

first_led : {P : Type 0} (writes : P → List ℕ → P → Type 0) (e : Ends) (line : ParsedPair) (near far : SideValue) (before now : P) → (end_in line == 0) ≡ true → LeadsTo writes e.rules (record { near = e.first; far = e.second }) line near far before now → LeadsOn writes e line (record { first = near; second = far }) before now
first_led writes e line near far before now same led = record {
  after = record e { first = led.after.sides.near; second = led.after.sides.far };
  text = led.after.text;
  happens = record { timely = rw same led.timely; after = led.after; happens = rw same led.happens; new_is = rw same refl; text_is = refl };
  ends = record { first = led.sides.one; second = led.sides.other };
  wrote = led.wrote;
}

pub first_answers : {P : Type 0} (writes : P → List ℕ → P → Type 0) (result : Result (Unit {0}) LineError) (e : Ends) (line : ParsedPair) (near far : SideValue) (before now : P) → (end_in line == 0) ≡ true → Answers writes result e.rules (record { near = e.first; far = e.second }) line near far before now → AnswersEvent writes result e line (record { first = near; second = far }) before now
first_answers writes (Ok done) e line near far before now same led = first_led writes e line near far before now same led
first_answers writes (Err why) e line near far before now same refused = (refused.0, rw same refused.1)

-- and at the end `b`
pub second_sides : (v : EndsValue) (e : Ends) → AreEnds v e → AreSides e.rules v.second v.first (record { near = e.second; far = e.first })
second_sides v e are = record { one = are.second; other = are.first }

second_led : {P : Type 0} (writes : P → List ℕ → P → Type 0) (e : Ends) (line : ParsedPair) (near far : SideValue) (before now : P) → (end_in line == 0) ≡ false → LeadsTo writes e.rules (record { near = e.second; far = e.first }) line near far before now → LeadsOn writes e line (record { first = far; second = near }) before now
second_led writes e line near far before now same led = record {
  after = record e { first = led.after.sides.far; second = led.after.sides.near };
  text = led.after.text;
  happens = record { timely = rw same led.timely; after = led.after; happens = rw same led.happens; new_is = rw same refl; text_is = refl };
  ends = record { first = led.sides.other; second = led.sides.one };
  wrote = led.wrote;
}

pub second_answers : {P : Type 0} (writes : P → List ℕ → P → Type 0) (result : Result (Unit {0}) LineError) (e : Ends) (line : ParsedPair) (near far : SideValue) (before now : P) → (end_in line == 0) ≡ false → Answers writes result e.rules (record { near = e.second; far = e.first }) line near far before now → AnswersEvent writes result e line (record { first = far; second = near }) before now
second_answers writes (Ok done) e line near far before now same led = second_led writes e line near far before now same led
second_answers writes (Err why) e line near far before now same refused = (refused.0, rw same refused.1)

-- a line in its place opens the ends just where they aren't open
placed_by : (opened : Bool) (line : List ℕ) (parsed : ParsedPair) (begins : Result Bool LineError) → begins_with_ends line ≡ begins → Ok parsed ≡ (begins >>= (λ ends_it. in_place opened ends_it (pair_meaning line))) → is_opening parsed ≡ not opened
placed_by opened line parsed (Err error) first says = absurd (cc)
placed_by false line parsed (Ok true) first says = line_opens line true parsed first (sym says)
placed_by true line parsed (Ok false) first says = line_opens line false parsed first (sym says)
placed_by false line parsed (Ok false) first says = absurd (cc)
placed_by true line parsed (Ok true) first says = absurd (cc)

pub placed : (opened : Bool) (line : List ℕ) (answer : Result PairLine LineError) → parsed_pair answer ≡ pair_meaning_at opened line → IfOk answer (λ parsed. is_opening (pair_of parsed) ≡ not opened)
unfolding pair_meaning_at
placed opened line (Ok parsed) says = placed_by opened line (pair_of parsed) (begins_with_ends line) refl says
placed opened line (Err error) says = tt

-- the first line opens the ends
pub opens : {P : Type 0} (writes : P → List ℕ → P → Type 0) (line : List ℕ) (first second buffer window : ℕ) (v : EndsValue) (before now : P) → Ok (ends first second buffer window) ≡ pair_meaning_at false line → AreEnds v (opened_ends first second buffer window) → writes before (line_text Open) now
    → (e : Ends) × AreEnds v e × Adds writes (TakesLine None line (Some e)) before now
opens writes line first second buffer window v before now says are added = (
  opened_ends first second buffer window,
  are,
  record { more = line_text Open; handles = record { parsed = ends first second buffer window; says = sym says; does = (refl, refl) }; wrote = added },
)

-- a later one is an event
pub event_leads : {P : Type 0} (writes : P → List ℕ → P → Type 0) (line : List ℕ) (parsed : ParsedPair) (old : Ends) (v : EndsValue) (before now : P) → Ok parsed ≡ pair_meaning_at true line → LeadsOn writes old parsed v before now → (after : Ends) × AreEnds v after × Adds writes (TakesLine (Some old) line (Some after)) before now
event_leads writes line parsed old v before now says led = (led.after, led.ends, record { more = led.text; handles = record { parsed = parsed; says = sym says; does = led.happens }; wrote = led.wrote })

-- or comes too early
pub event_early : {P : Type 0} (writes : P → List ℕ → P → Type 0) (line : List ℕ) (parsed : ParsedPair) (old : Ends) (v : EndsValue) (why : LineError) (before now : P) → Ok parsed ≡ pair_meaning_at true line → AnswersEvent writes (Err why) old parsed v before now → RefusesLine (Some old) line why
event_early writes line parsed old v why before now says early = inr (record { parsed = parsed; says = sym says; early = early.1; cause = early.0 })

-- a line that is done adds its text, whether more can be written or not
adds_whole : {P : Type 0} (writes : P → List ℕ → P → Type 0) (broken : Bool) (old new : Option Ends) (line : List ℕ) (before now : P) → Adds writes (TakesLine old line new) before now → Adds writes (Does pair_lines broken old line new) before now
adds_whole writes broken old new line before now added = record { more = added.more; handles = inl added.handles; wrote = added.wrote }

-- in the states of the command the ends are open after the first line
pub starts : {P : Type 0} (writes : P → List ℕ → P → Type 0) (broken : Bool) (line : List ℕ) (v : EndsValue) (before now : P) → (e : Ends) × AreEnds v e × Adds writes (TakesLine None line (Some e)) before now → Leads RepresentsRun None (Some v) (λ a b. Adds writes (Does pair_lines broken a line b) before now)
starts writes broken line v before now opened None stands = (Some opened.0, opened.1, adds_whole writes broken None (Some opened.0) line before now opened.2)
starts writes broken line v before now opened (Some e) stands = absurd stands

pub passes : {P : Type 0} (writes : P → List ℕ → P → Type 0) (broken : Bool) (result : Result (Unit {0}) LineFault) (line : List ℕ) (was v : EndsValue) (before now : P) → OnOk result (Leads (λ e x. AreEnds x e) was v (λ a b. Adds writes (TakesLine (Some a) line (Some b)) before now)) → OnOk result (Leads RepresentsRun (Some was) (Some v) (λ a b. Adds writes (Does pair_lines broken a line b) before now))
passes writes broken (Err fault) line was v before now leads = leads
passes writes broken (Ok done) line was v before now leads = go
  where
    go : Leads RepresentsRun (Some was) (Some v) (λ a b. Adds writes (Does pair_lines broken a line b) before now)
    go None stands = absurd stands
    go (Some e) stands = let led = leads e stands in (Some led.0, led.1, adds_whole writes broken (Some e) (Some led.0) line before now led.2)

-- a line that is not handled leaves them as they are
abbrev pub Fails : List ℕ → Option EndsValue → Option EndsValue → LineFault → Type 0
Fails line old new fault = (state : Option Ends) → RepresentsRun state old → IsFault pair_lines state line fault × RepresentsRun state new

pub pass_fails : {P : Type 0} (writes : P → List ℕ → P → Type 0) (result : Result (Unit {0}) LineFault) (line : List ℕ) (was v : EndsValue) (before now : P) → IfErr result (λ fault. (e : Ends) → AreEnds was e → IsFault pair_lines (Some e) line fault) → IfErr result (λ _. (v ≡ was) × (now ≡ before)) → IfErr result (Fails line (Some was) (Some v))
pass_fails writes (Ok done) line was v before now is same = is
pass_fails writes (Err fault) line was v before now is same = go
  where
    go : Fails line (Some was) (Some v) fault
    go None stands = absurd stands
    go (Some e) stands = (is e stands, subst (λ x. AreEnds x e) (sym same.0) stands)
