-- How the lines behind a configuration are followed, and what a run with one answers.
use Rattle.std.proofs.Common.{◌≡◌, ◌≢◌, ◌⊎◌, ◌≤◌, ◌+◌, ◌-◌, ℕ, List, [], ◌++◌, Option, Some, None, Bool, true, false, length, arith, refl, ap, sym, ◌∙◌, subst, append-nil, inl, inr, ⊎_elim, length-append}
use Rattle.std.specs.Prelude.{Err, MatchBool, codes, drop, if◌then◌else◌, slice_range}
use Rattle.std.specs.Io.KnownBytes.{Consumes, IsAtEnd}
use Rattle.std.proofs.KnownBytes.{Appends-nil, Consumes-trans}
use Rattle.std.proofs.lemmas.Bool.{false≢true}
use Rattle.std.proofs.lemmas.List.{length-drop, length-take-le, nil_from_length}
use Rattle.dch_io.specs.Ends.{End, Fails, span}
use Rattle.dch_check.specs.declared.both.Configurations.{Configurations}
use Rattle.dch_script.specs.Lines.{lines_of}
use Rattle.dch_script.specs.declared.event.LineError.{LineError}
use Rattle.dch_check.specs.ConfigSection.{configuration_of, is_complete, script_of, settled}
use Rattle.dch_check.specs.TakenConfigs.{IsComplete, IsEnded, IsTakenConfig, TakesConfig, lines_before}
use Rattle.dch_check.specs.declared.taken_config.ConfigFault.{ConfigFault}
use Rattle.dch_check.specs.declared.taken_config.ConfigFault.TheVariants as fault
use Rattle.dch_check.proofs.ConfigSections.{complete_more, configuration_more}
use Rattle.dch_check.proofs.Outcomes.{only_well}
use Rattle.dch_check.proofs.Taking.{script_more, script_none}
use Rattle.dch_check.specs.declared.taken_config.TakenConfig.{TakenConfig}
use Rattle.dch_lines.proofs.Complete.{never_lacks}
use Rattle.dch_lines.specs.Followed.{AnswersTaken, FollowsInput, IsRefused}
use Rattle.dch_lines.specs.Processor.{LeadsOn, Progress, standing}
use Rattle.dch_lines.specs.Semantics.{Semantics}
use Rattle.dch_lines.specs.declared.stop.Outcome.{Outcome}
use Rattle.dch_lines.specs.declared.stop.Outcome.TheVariants.{Ok as Done, Refused as MetMalformed, ReadFault as FailedReading, WriteFault as FailedWriting, NoMemory as Lacking, TooLong as TookTooMuch}
use Rattle.dch_check.specs.Configured.{FollowsBehind, FollowsRest, FollowsScript, IsConfigured, ArePlannedAs, RunsConfigured, EndsUnopened, StopsBehind, WantsNone, fault_status, opened_begin, outcome_status, script_begin}
use Rattle.dch_check.specs.Untouched.{IsUntouched}
use Rattle.dch_check.specs.declared.status.Status.{Status}
use Rattle.dch_check.specs.declared.status.Status.TheVariants.{Ok as Well, NoMemory}
use Rattle.dch_check.specs.declared.front.FrontKind.{FrontKind}

-- what was followed, from the work at its beginning
abbrev pub Followed : {S C : Type 0} → Semantics S → (S → C → Type 0) → End → End → TakenConfig → Progress C → Progress C → List ℕ → Outcome → Type 0
Followed semantics represents source sink front old new part outcome = LeadsOn represents old new (λ before after. FollowsRest semantics front.pending.at_end source sink before after.handler part outcome)

-- the work at the beginning of a script
pub begins_opened : {S C : Type 0} (front : TakenConfig) (old : Progress C) (handler : C) (state : S) (bytes lines : ℕ) → old ≡ record { handler = handler; line = []; text = codes "open\n"; bytes = bytes; lines = lines; nonempty_lines = 0 }
    → bytes ≡ front.read - (front.pending.to - front.pending.from) → lines ≡ lines_before front → standing state old ≡ opened_begin front state
begins_opened front old handler state bytes lines is counted before = rw (is, counted, before) refl

-- what a line processor is for a handler at the beginning of a script
abbrev pub IsOpened : {C : Type 0} → Progress C → C → ℕ → ℕ → Type 0
IsOpened old handler bytes lines = old ≡ record { handler = handler; line = []; text = codes "open\n"; bytes = bytes; lines = lines; nonempty_lines = 0 }

-- the states to which the work led, from the state of the handler at the beginning
led_on : {S C : Type 0} (semantics : Semantics S) (represents : S → C → Type 0) (source sink : End) (front : TakenConfig) (old new : Progress C) (handler : C) (state : S) (bytes lines : ℕ) (part : List ℕ) (result outcome : Outcome) → IsOpened old handler bytes lines
    → bytes ≡ front.read - (front.pending.to - front.pending.from) → lines ≡ lines_before front → Followed semantics represents source sink front old new part result → represents state handler → result ≡ outcome
    → (after : S) × (represents after new.handler × FollowsBehind semantics source sink front state after part outcome)
led_on semantics represents source sink front old new handler state bytes lines part result outcome is counted before leads stands same =
    let begin : standing state old ≡ opened_begin front state = begins_opened front old handler state bytes lines is counted before in
    let led = leads state (rw is stands) in
    (led.0, (led.1, subst (λ o. FollowsBehind semantics source sink front state led.0 part o) same (subst (λ p. FollowsRest semantics front.pending.at_end source sink p led.0 part result) begin led.2)))

pub ends_well : {S C : Type 0} (semantics : Semantics S) (represents : S → C → Type 0) (source sink : End) (front : TakenConfig) (old new : Progress C) (handler : C) (state : S) (bytes lines : ℕ) (part : List ℕ) (result : Outcome) → IsOpened old handler bytes lines
    → bytes ≡ front.read - (front.pending.to - front.pending.from) → lines ≡ lines_before front → Followed semantics represents source sink front old new part result → represents state handler → result ≡ Done
    → (after : S) × (represents after new.handler × FollowsBehind semantics source sink front state after part Done)
ends_well semantics represents source sink front old new handler state bytes lines part result is counted before leads stands done =
    led_on semantics represents source sink front old new handler state bytes lines part result Done is counted before leads stands done

-- no line that is followed wants memory
lacks_none : {S : Type 0} (semantics : Semantics S) → WantsNone semantics → (at_end : Bool) (source sink : End) (old : Progress S) (after : S) (part : List ℕ) → FollowsRest semantics at_end source sink old after part Lacking → ⊥
lacks_none semantics none true source sink old after part f = never_lacks semantics (span (Some []) f.now 0 0) sink old after part none f.follows
lacks_none semantics none false source sink old after part f = never_lacks semantics source sink old after part none f

pub ends_ill : {S C : Type 0} (semantics : Semantics S) (represents : S → C → Type 0) (source sink : End) (front : TakenConfig) (old new : Progress C) (handler : C) (state : S) (bytes lines : ℕ) (part : List ℕ) (result : Outcome) (status : Status) → IsOpened old handler bytes lines
    → bytes ≡ front.read - (front.pending.to - front.pending.from) → lines ≡ lines_before front → Followed semantics represents source sink front old new part result → represents state handler → WantsNone semantics → status ≡ outcome_status result → status ≢ Well
    → StopsBehind semantics source sink front state part status
ends_ill semantics represents source sink front old new handler state bytes lines part result status is counted before leads stands none same ill =
    let led = led_on semantics represents source sink front old new handler state bytes lines part result result is counted before leads stands refl in
    record {
      after = led.0;
      outcome = result;
      follows = led.1.1;
      same = same;
      enough = λ lacks. lacks_none semantics none front.pending.at_end source sink (opened_begin front state) led.0 part (subst (λ o. FollowsBehind semantics source sink front state led.0 part o) lacks led.1.1);
      ill = λ done. ill (same ∙ ap outcome_status done);
    }

-- a fault before the configuration was whole
pub ends_unopened : {kind : FrontKind} (a b k : Option (List ℕ)) (f g h : ℕ) (room : List ℕ) (fault : ConfigFault) → TakesConfig (span a b f g) room (Err fault) → EndsUnopened kind (span a b f g) (span k k h h) (fault_status fault)
ends_unopened a b k f g h room fault.ReadFault takes = record { taken = takes.taken; written = []; takes = takes.takes; writes = Appends-nil k; answers = (record { fails = takes.fails; within = takes.within; soon = takes.soon }, refl) }
ends_unopened a b k f g h room fault.NoMemory takes = record { taken = takes.taken; written = []; takes = takes.takes; writes = Appends-nil k; answers = (takes.lacks, refl) }
ends_unopened a b k f g h room fault.TooLong takes = record { taken = takes.taken; written = []; takes = takes.takes; writes = Appends-nil k; answers = (record { long = takes.long; soon = takes.soon }, refl) }

-- why a line is refused, seen from another end of the input
refused_from : {S : Type 0} (semantics : Semantics S) (s t : End) (state : S) (begun bytes : List ℕ) (good : List (List ℕ)) (why : LineError) → (IsAtEnd s.now → IsAtEnd t.now) → IsRefused semantics s state begun bytes good why → IsRefused semantics t state begun bytes good why
refused_from semantics s t state begun bytes good why end refused =
    ⊎_elim (λ meets. inl meets) (λ off. inr (off.0, record { end = end off.1.end; lines = off.1.lines; some = off.1.some; short = off.1.short })) refused

-- the answer to lines, seen from another end of the input
answers_from : {S : Type 0} (semantics : Semantics S) (s t sink : End) (old : Progress S) (after : S) (part later written : List ℕ) (outcome : Outcome) → (IsAtEnd s.now → IsAtEnd t.now) → (Fails s → Fails t)
    → AnswersTaken semantics s sink old after part later written outcome → AnswersTaken semantics t sink old after part later written outcome
answers_from semantics s t sink old after part later written Done end fails is = record { end = end is.end; within = is.within; ended = is.ended; text = is.text; handles = is.handles; all = is.all }
answers_from semantics s t sink old after part later written MetMalformed end fails is = record {
  within = is.within;
  good = is.good;
  state = is.state;
  why = is.why;
  refused = refused_from semantics s t is.state old.line (part ++ later) is.good is.why end is.refused;
  soon = is.soon;
  text = is.text;
  handles = is.handles;
  all = is.all;
}
answers_from semantics s t sink old after part later written FailedReading end fails is = record { fails = fails is.fails; within = is.within; short = is.short; state = is.state; text = is.text; handles = is.handles; all = is.all }
answers_from semantics s t sink old after part later written FailedWriting end fails is = record {
  fails = is.fails;
  within = is.within;
  good = is.good;
  later = is.later;
  lines = is.lines;
  state = is.state;
  text = is.text;
  handles = is.handles;
  last = is.last;
  follows = ⊎_elim (λ none. inl none)
      (λ some. inr (
        some.0,
        ⊎_elim (λ done. inl ((end done.0.0, done.0.1, done.0.2), done.1))
            (λ refused. inr (refused.0, (refused_from semantics s t is.state old.line (part ++ later) is.good refused.0 end refused.1.0, refused.1.1))) some.1,
      )) is.follows;
  cut = is.cut;
  covers = is.covers;
}
answers_from semantics s t sink old after part later written Lacking end fails is = is
answers_from semantics s t sink old after part later written TookTooMuch end fails is = is

-- the work at the beginning of a script, by the bytes that were taken
begins_script : {S : Type 0} (taken : List ℕ) (front : TakenConfig) (state : S) → length taken - length (script_of taken) ≡ front.read - (front.pending.to - front.pending.from)
    → length (lines_of (configuration_of taken)) + (if is_complete taken then 1 else 0) ≡ lines_before front → opened_begin front state ≡ script_begin taken state
begins_script taken front state bytes lines = rw (bytes, lines) refl

-- as many bytes are pending as there is room between their places
pending_length : (room : List ℕ) (from to : ℕ) → from ≤ to → to ≤ length room → length (slice_range room from to) ≡ to - from
pending_length room from to ordered inside = length-take-le (to - from) (drop from room) (omega (arith, length-drop from room, ordered, inside))

-- the line `---` came, and the lines behind it were followed
follows_whole : {S : Type 0} {kind : FrontKind} (semantics : Semantics S) (opened : Configurations → S) (a b c k l : Option (List ℕ)) (f g h i j : ℕ) (room : List ℕ) (front : TakenConfig) (accepted : Configurations) (after : S) (outcome : Outcome) → (is : IsTakenConfig (span a b f g) room front) → ArePlannedAs kind (settled front.section) accepted
    → (whole : IsComplete front room is.taken) → (run : FollowsInput semantics (span b c g h) (span k l i j) (opened_begin front (opened accepted)) after (slice_range room front.pending.from front.pending.to) outcome)
    → FollowsScript kind semantics opened (span a c f h) (span k l i j) (is.taken ++ run.taken) run.written after outcome
follows_whole {S} {kind} semantics opened a b c k l f g h i j room front accepted after outcome is good whole run =
    let taken : List ℕ = is.taken ++ run.taken in
    let part : List ℕ = slice_range room front.pending.from front.pending.to in
    let more : configuration_of taken ≡ configuration_of is.taken = configuration_more is.taken run.taken whole.done in
    let script : script_of taken ≡ script_of is.taken ++ run.taken = script_more is.taken run.taken whole.done in
    let bytes : length taken - length (script_of taken) ≡ front.read - (front.pending.to - front.pending.from) =
    omega (arith, ap length script, length-append (script_of is.taken) run.taken, length-append is.taken run.taken, is.counted, ap length whole.behind, pending_length room front.pending.from front.pending.to is.ordered is.inside) in
    let lines : length (lines_of (configuration_of taken)) + (if is_complete taken then 1 else 0) ≡ lines_before front = rw (more, complete_more is.taken run.taken whole.done, whole.going, is.text) refl in
    let begin : opened_begin front (opened accepted) ≡ script_begin taken (opened accepted) = begins_script taken front (opened accepted) bytes lines in
    record {
      ended = inl (complete_more is.taken run.taken whole.done);
      accepted = accepted;
      is = subst (λ t. ArePlannedAs kind t accepted) (is.text ∙ sym more) good;
      old = is.soon.old;
      piece = is.soon.piece;
      later = run.taken;
      pieces = ap (λ p. p ++ run.taken) is.soon.pieces;
      small = is.soon.small;
      soon = is.soon.incomplete;
      part = part;
      rest = whole.behind ∙ ap (λ t. script_of t) is.soon.pieces;
      script = script ∙ ap (λ p. p ++ run.taken) (sym whole.behind);
      answers = subst (λ (p : Progress _). AnswersTaken semantics (span a c f h) (span k l i j) p after part run.taken run.written outcome) begin
          (answers_from semantics (span b c g h) (span a c f h) (span k l i j) (opened_begin front (opened accepted)) after part run.taken run.written outcome (λ end. end) (λ fails. omega (arith, is.later, fails)) run.answers);
    }

-- nothing is taken of an input that has ended
none_taken : (now : Option (List ℕ)) (taken : List ℕ) → Consumes (Some []) now taken → taken ≡ []
none_taken None taken takes = absurd takes
none_taken (Some rest) taken takes = nil_from_length taken (omega (arith, ap length takes, length-append taken rest))

-- the input ended with the configuration, and no line follows
follows_last : {S : Type 0} {kind : FrontKind} (semantics : Semantics S) (opened : Configurations → S) (a b k l now : Option (List ℕ)) (f g i j : ℕ) (room : List ℕ) (front : TakenConfig) (accepted : Configurations) (after : S) (outcome : Outcome) → (is : IsTakenConfig (span a b f g) room front) → ArePlannedAs kind (settled front.section) accepted
    → IsEnded front (span a b f g) is.taken → (run : FollowsInput semantics (span (Some []) now 0 0) (span k l i j) (opened_begin front (opened accepted)) after (slice_range room front.pending.from front.pending.to) outcome)
    → FollowsScript kind semantics opened (span a b f g) (span k l i j) is.taken run.written after outcome
follows_last {S} {kind} semantics opened a b k l now f g i j room front accepted after outcome is good ended run =
    let part : List ℕ = slice_range room front.pending.from front.pending.to in
    let none : script_of is.taken ≡ [] = script_none is.taken ended.soon in
    let unread : run.taken ≡ [] = none_taken now run.taken run.takes in
    let empty : part ≡ [] = nil_from_length part (omega (arith, pending_length room front.pending.from front.pending.to is.ordered is.inside, ended.none)) in
    let bytes : length is.taken - length (script_of is.taken) ≡ front.read - (front.pending.to - front.pending.from) = omega (arith, ap length none, is.counted, ended.none) in
    let lines : length (lines_of (configuration_of is.taken)) + (if is_complete is.taken then 1 else 0) ≡ lines_before front = rw (ended.soon, ended.ended, is.text) refl in
    let begin : opened_begin front (opened accepted) ≡ script_begin is.taken (opened accepted) = begins_script is.taken front (opened accepted) bytes lines in
    record {
      ended = inr ended.end;
      accepted = accepted;
      is = subst (λ t. ArePlannedAs kind t accepted) is.text good;
      old = is.soon.old;
      piece = is.soon.piece;
      later = run.taken;
      pieces = is.soon.pieces ∙ sym (ap (λ l. (is.soon.old ++ is.soon.piece) ++ l) unread ∙ append-nil (is.soon.old ++ is.soon.piece));
      small = is.soon.small;
      soon = is.soon.incomplete;
      part = part;
      rest = empty ∙ sym none ∙ ap (λ t. script_of t) is.soon.pieces;
      script = none ∙ sym (ap (λ p. p ++ run.taken) empty ∙ unread);
      answers = subst (λ (p : Progress _). AnswersTaken semantics (span a b f g) (span k l i j) p after part run.taken run.written outcome) begin
          (answers_from semantics (span (Some []) now 0 0) (span a b f g) (span k l i j) (opened_begin front (opened accepted)) after part run.taken run.written outcome (λ end. ended.end) (λ fails. absurd (omega (arith, fails))) run.answers);
    }

-- the choice of a truth value
of_false : (A B : Type 0) (m : Bool) → m ≡ false → MatchBool m A B → B
of_false A B true is x = absurd (false≢true (sym is))
of_false A B false is x = x

of_true : (A B : Type 0) (m : Bool) → m ≡ true → MatchBool m A B → A
of_true A B true is x = x
of_true A B false is x = absurd (false≢true is)

-- a run with an accepted configuration
pub runs_opened : {S : Type 0} {kind : FrontKind} (semantics : Semantics S) (opened : Configurations → S) (Holds : S → Type 0) (a b c k l : Option (List ℕ)) (f g h i j : ℕ) (room : List ℕ) (front : TakenConfig) (accepted : Configurations) (after : S) (outcome : Outcome) → IsTakenConfig (span a b f g) room front → ArePlannedAs kind (settled front.section) accepted
    → FollowsBehind semantics (span b c g h) (span k l i j) front (opened accepted) after (slice_range room front.pending.from front.pending.to) outcome → outcome ≢ Lacking → Holds after → RunsConfigured kind semantics opened Holds (span a c f h) (span k l i j) (outcome_status outcome)
runs_opened {S} {kind} semantics opened Holds a b c k l f g h i j room front accepted after outcome is good follows enough holds = by front.pending.at_end refl
  where
    by : (at_end : Bool) → front.pending.at_end ≡ at_end → RunsConfigured kind semantics opened Holds (span a c f h) (span k l i j) (outcome_status outcome)
    by false going =
        let run = of_false _ _ front.pending.at_end going follows in
        let whole : IsComplete front room is.taken = ⊎_elim (λ whole. whole) (λ ended. absurd (false≢true (sym going ∙ ended.ended))) is.whole in
        record {
          taken = is.taken ++ run.taken;
          written = run.written;
          takes = Consumes-trans a b c is.taken run.taken is.takes run.takes;
          writes = run.writes;
          answers = inr (after, (record { outcome = outcome; follows = follows_whole semantics opened a b c k l f g h i j room front accepted after outcome is good whole run; same = refl; enough = enough }, holds));
        }
    by true over =
        let last = of_true _ _ front.pending.at_end over follows in
        let ended : IsEnded front (span a b f g) is.taken = ⊎_elim (λ whole. absurd (false≢true (sym whole.going ∙ over))) (λ ended. ended) is.whole in
        rw (last.unread, last.faultless) (record {
          taken = is.taken;
          written = last.follows.written;
          takes = is.takes;
          writes = last.follows.writes;
          answers = inr (after, (record { outcome = outcome; follows = follows_last semantics opened a b k l last.now f g i j room front accepted after outcome is good ended last.follows; same = refl; enough = enough }, holds));
        })

-- a run that ended before the line `open`
pub runs_unopened : {S : Type 0} {kind : FrontKind} (semantics : Semantics S) (opened : Configurations → S) (Holds : S → Type 0) (source sink : End) (status : Status) → EndsUnopened kind source sink status → RunsConfigured kind semantics opened Holds source sink status
runs_unopened semantics opened Holds source sink status not = record { taken = not.taken; written = not.written; takes = not.takes; writes = not.writes; answers = inl not.answers }

pub not_well : {kind : FrontKind} (source sink : End) (status : Status) → EndsUnopened kind source sink status → status ≢ Well
not_well source sink status not same = rw same at not.answers

-- another thing holds of the command's state afterwards
pub runs_with : {S : Type 0} {kind : FrontKind} (semantics : Semantics S) (opened : Configurations → S) (Holds Then : S → Type 0) (source sink : End) (status : Status) → ((after : S) → Holds after → Then after) → RunsConfigured kind semantics opened Holds source sink status → RunsConfigured kind semantics opened Then source sink status
runs_with semantics opened Holds Then source sink status on runs = record {
  taken = runs.taken;
  written = runs.written;
  takes = runs.takes;
  writes = runs.writes;
  answers = ⊎_elim (λ early. inl early) (λ late. inr (late.0, (late.1.0, on late.0 late.1.1))) runs.answers;
}

-- memory was wanted before the line `open`
pub lacks_before_opening : {kind : FrontKind} (a b c k l : Option (List ℕ)) (f g h i j : ℕ) (room : List ℕ) (front : TakenConfig) → IsTakenConfig (span a b f g) room front → IsUntouched (span b c g h) (span k l i j) → EndsUnopened kind (span a c f h) (span k l i j) NoMemory
lacks_before_opening a b c k l f g h i j room front is still = record {
  taken = is.taken;
  written = [];
  takes = subst (Consumes a c) (append-nil is.taken) (Consumes-trans a b c is.taken [] is.takes still.0);
  writes = still.1;
  answers = (record { within = is.within; soon = is.soon }, refl);
}

-- the lines behind an accepted configuration ended the run, and not well
pub runs_ill : {S : Type 0} {kind : FrontKind} (semantics : Semantics S) (opened : Configurations → S) (a b c k l : Option (List ℕ)) (f g h i j : ℕ) (room : List ℕ) (front : TakenConfig) (accepted : Configurations) (status : Status) → IsTakenConfig (span a b f g) room front → ArePlannedAs kind (settled front.section) accepted
    → ((status ≡ NoMemory) × IsUntouched (span b c g h) (span k l i j)) ⊎ StopsBehind semantics (span b c g h) (span k l i j) front (opened accepted) (slice_range room front.pending.from front.pending.to) status
    → RunsConfigured kind semantics opened (λ after. Unit {0}) (span a c f h) (span k l i j) status × (status ≢ Well)
runs_ill {S} {kind} semantics opened a b c k l f g h i j room front accepted status is good stops = ⊎_elim none some stops
  where
    none : (status ≡ NoMemory) × IsUntouched (span b c g h) (span k l i j) → RunsConfigured kind semantics opened (λ after. Unit {0}) (span a c f h) (span k l i j) status × (status ≢ Well)
    none wanted =
        let not : EndsUnopened kind (span a c f h) (span k l i j) status = rw wanted.0 (lacks_before_opening a b c k l f g h i j room front is wanted.1) in
        (runs_unopened semantics opened (λ after. Unit {0}) (span a c f h) (span k l i j) status not, not_well (span a c f h) (span k l i j) status not)

    some : StopsBehind semantics (span b c g h) (span k l i j) front (opened accepted) (slice_range room front.pending.from front.pending.to) status → RunsConfigured kind semantics opened (λ after. Unit {0}) (span a c f h) (span k l i j) status × (status ≢ Well)
    some stop = (rw stop.same (runs_opened semantics opened (λ after. Unit {0}) a b c k l f g h i j room front accepted stop.after stop.outcome is good stop.follows stop.enough tt), λ well. stop.ill (only_well stop.outcome (sym well ∙ stop.same)))

-- what holds where the sink was left as it was before
sink_from : (P : End → Type 0) (k m l : Option (List ℕ)) (i n j : ℕ) → m ≡ k → n ≡ i → P (span m l n j) → P (span k l i j)
sink_from P k m l i n j unwritten faultless holds = rw (← unwritten, ← faultless) holds

-- a run whose configuration was taken, and whose lines were followed
pub runs_configured : {S : Type 0} {kind : FrontKind} (semantics : Semantics S) (opened : Configurations → S) (Holds : S → Type 0) (a b c k m l : Option (List ℕ)) (f g h i n j : ℕ) (room : List ℕ) (front : TakenConfig) (accepted : Configurations) (after : S) (outcome : Outcome) → IsConfigured kind (span a b f g) (span k m i n) room front accepted
    → FollowsBehind semantics (span b c g h) (span m l n j) front (opened accepted) after (slice_range room front.pending.from front.pending.to) outcome → outcome ≢ Lacking → Holds after → RunsConfigured kind semantics opened Holds (span a c f h) (span k l i j) (outcome_status outcome)
runs_configured {S} {kind} semantics opened Holds a b c k m l f g h i n j room front accepted after outcome is follows enough holds =
    sink_from (λ sink. RunsConfigured kind semantics opened Holds (span a c f h) sink (outcome_status outcome)) k m l i n j is.unwritten is.faultless
    (runs_opened semantics opened Holds a b c m l f g h n j room front accepted after outcome is.whole is.is follows enough holds)

pub stops_configured : {S : Type 0} {kind : FrontKind} (semantics : Semantics S) (opened : Configurations → S) (a b c k m l : Option (List ℕ)) (f g h i n j : ℕ) (room : List ℕ) (front : TakenConfig) (accepted : Configurations) (status : Status) → IsConfigured kind (span a b f g) (span k m i n) room front accepted
    → ((status ≡ NoMemory) × IsUntouched (span b c g h) (span m l n j)) ⊎ StopsBehind semantics (span b c g h) (span m l n j) front (opened accepted) (slice_range room front.pending.from front.pending.to) status
    → RunsConfigured kind semantics opened (λ after. Unit {0}) (span a c f h) (span k l i j) status × (status ≢ Well)
stops_configured {S} {kind} semantics opened a b c k m l f g h i n j room front accepted status is stops =
    sink_from (λ sink. RunsConfigured kind semantics opened (λ after. Unit {0}) (span a c f h) sink status × (status ≢ Well)) k m l i n j is.unwritten is.faultless
    (runs_ill semantics opened a b c m l f g h n j room front accepted status is.whole is.is stops)
