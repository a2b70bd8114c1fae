-- What a piece does, by what following it, flushing and refusing do.
use Rattle.std.proofs.Common.{◌≡◌, ◌+◌, ◌≤◌, ℕ, List, [], ◌∷◌, ◌++◌, Option, length, refl, sym, ◌∙◌, append-nil, inl, inr, ⊎_elim}
use Rattle.std.specs.Prelude.{Err}
use Rattle.std.specs.Io.KnownBytes.{Appends}
use Rattle.std.proofs.KnownBytes.{Appends-trans}
use Rattle.dch_io.specs.Ends.{End, Breaks, span}
use Rattle.dch_script.specs.Lines.{lines_after}
use Rattle.dch_script.specs.declared.event.LineError.{LineError}
use Rattle.dch_lines.specs.Semantics.{Semantics}
use Rattle.dch_lines.specs.Processor.{Progress, Takes, MeetsFault, StopsAt, FailsIn}
use Rattle.dch_lines.specs.Pieces.{AnswersFault, BreaksIn, LacksIn, RefusesIn, TakesPiece}
use Rattle.dch_lines.specs.LineTexts.{refusal}
use Rattle.dch_lines.specs.declared.stop.LineFault.{LineFault}
use Rattle.dch_lines.specs.declared.stop.LineFault.TheVariants.{Malformed, NoMemory}
use Rattle.dch_lines.specs.declared.stop.Outcome.{Outcome}
use Rattle.dch_lines.specs.declared.stop.Outcome.TheVariants.{Ok as Done, Refused, ReadFault, WriteFault, NoMemory as Lacking, TooLong}
use Rattle.dch_lines.proofs.Parts.{appends_on, breaks_on}

pub flushed : {S : Type 0} (semantics : Semantics S) (a b c : Option (List ℕ)) (f g h : ℕ) (old mid new : Progress S) (piece : List ℕ) → Takes semantics (span a b f g) old mid piece → Appends b c mid.text → new ≡ record mid { text = [] } → Takes semantics (span a c f h) old new piece
flushed semantics a b c f g h old mid new piece takes appends same = rw same (record {
  more = takes.more;
  handles = takes.handles;
  passes = record {
    written = takes.passes.written ++ mid.text;
    writes = Appends-trans a b c _ _ takes.passes.writes appends;
    whole = takes.passes.whole ∙ sym (append-nil (takes.passes.written ++ mid.text));
  };
  line = takes.line;
  short = takes.short;
  counted = takes.counted;
  lines = takes.lines;
  nonempty_lines = takes.nonempty_lines;
})

pub flush_breaks : {S : Type 0} (semantics : Semantics S) (a b c : Option (List ℕ)) (f g h : ℕ) (old mid : Progress S) (piece : List ℕ) → f ≤ g → Takes semantics (span a b f g) old mid piece → Breaks (span b c g h) mid.text → BreaksIn semantics (span a c f h) old piece
flush_breaks semantics a b c f g h old mid piece later takes breaks = record {
  good = lines_after old.line piece;
  later = [];
  lines = sym (append-nil (lines_after old.line piece));
  state = mid.handler;
  more = takes.more;
  handles = inl takes.handles;
  last = [];
  follows = inl refl;
  breaks = breaks_on a b c f g h (old.text ++ takes.more) mid.text [] later takes.passes (rw append-nil breaks);
}

-- the lines before one that is not handled are a front of all
front_of : {S : Type 0} (semantics : Semantics S) (state : S) (begun piece : List ℕ) (good : List (List ℕ)) (fault : LineFault) → MeetsFault semantics state begun piece good fault → (later : List (List ℕ)) × (lines_after begun piece ≡ good ++ later)
front_of semantics state begun piece good fault meets = ⊎_elim (λ m. (m.line ∷ m.later, m.lines)) (λ m. ([], m.1.lines ∙ sym (append-nil good))) meets

refused : {S : Type 0} (semantics : Semantics S) (a b c : Option (List ℕ)) (f g h : ℕ) (old mid : Progress S) (piece : List ℕ) (why : LineError) → StopsAt semantics (span a b f g) old mid piece (Malformed why) → Appends b c (mid.text ++ refusal mid.lines why) → RefusesIn semantics (span a c f h) old piece
refused semantics a b c f g h old mid piece why stops appends = record {
  good = stops.good;
  state = stops.state;
  why = why;
  meets = stops.meets;
  more = stops.more;
  handles = stops.handles;
  writes = appends_on a b c f g (old.text ++ stops.more) mid.text (refusal (old.lines + length stops.good) why) stops.passes (rw (← stops.lines) appends);
}

refusal_breaks : {S : Type 0} (semantics : Semantics S) (a b c : Option (List ℕ)) (f g h : ℕ) (old mid : Progress S) (piece : List ℕ) (why : LineError) → f ≤ g → StopsAt semantics (span a b f g) old mid piece (Malformed why) → Breaks (span b c g h) (mid.text ++ refusal mid.lines why) → BreaksIn semantics (span a c f h) old piece
refusal_breaks semantics a b c f g h old mid piece why later stops breaks =
    let front = front_of semantics stops.state old.line piece stops.good (Malformed why) stops.meets in
    record {
      good = stops.good;
      later = front.0;
      lines = front.1;
      state = stops.state;
      more = stops.more;
      handles = inl stops.handles;
      last = refusal (old.lines + length stops.good) why;
      follows = inr (stops.handles, (why, (stops.meets, refl)));
      breaks = breaks_on a b c f g h (old.text ++ stops.more) mid.text (refusal (old.lines + length stops.good) why) later stops.passes (rw (← stops.lines) breaks);
    }

-- a line wants memory, and the text of those before it is written
lacking : {S : Type 0} (semantics : Semantics S) (a b c : Option (List ℕ)) (f g h : ℕ) (old mid : Progress S) (piece : List ℕ) → StopsAt semantics (span a b f g) old mid piece NoMemory → Appends b c mid.text → LacksIn semantics (span a c f h) old piece
lacking semantics a b c f g h old mid piece stops appends = record {
  good = stops.good;
  state = stops.state;
  meets = stops.meets;
  more = stops.more;
  handles = stops.handles;
  writes = rw (← append-nil (old.text ++ stops.more)) (appends_on a b c f g (old.text ++ stops.more) mid.text [] stops.passes (rw append-nil appends));
}

-- the sink fails within that text
lacking_breaks : {S : Type 0} (semantics : Semantics S) (a b c : Option (List ℕ)) (f g h : ℕ) (old mid : Progress S) (piece : List ℕ) → f ≤ g → StopsAt semantics (span a b f g) old mid piece NoMemory → Breaks (span b c g h) mid.text → BreaksIn semantics (span a c f h) old piece
lacking_breaks semantics a b c f g h old mid piece later stops breaks =
    let front = front_of semantics stops.state old.line piece stops.good NoMemory stops.meets in
    record {
      good = stops.good;
      later = front.0;
      lines = front.1;
      state = stops.state;
      more = stops.more;
      handles = inl stops.handles;
      last = [];
      follows = inl refl;
      breaks = breaks_on a b c f g h (old.text ++ stops.more) mid.text [] later stops.passes (rw append-nil breaks);
    }

pub fails_breaks : {S : Type 0} (semantics : Semantics S) (sink : End) (old : Progress S) (piece : List ℕ) → FailsIn semantics sink old piece → BreaksIn semantics sink old piece
fails_breaks semantics sink old piece fails = record {
  good = fails.good;
  later = fails.later;
  lines = fails.lines;
  state = fails.state;
  more = fails.more;
  handles = fails.handles;
  last = [];
  follows = inl refl;
  breaks = rw append-nil fails.breaks;
}

-- a line is not handled, and that is answered
pub fault_answered : {S : Type 0} (semantics : Semantics S) (a b c : Option (List ℕ)) (f g h : ℕ) (old mid new : Progress S) (piece : List ℕ) (fault : LineFault) (outcome : Outcome) → f ≤ g → StopsAt semantics (span a b f g) old mid piece fault → AnswersFault (span b c g h) mid.text mid.lines fault outcome
    → TakesPiece semantics (span a c f h) old new piece (Err outcome)
fault_answered semantics a b c f g h old mid new piece (Malformed why) Refused later stops answers = refused semantics a b c f g h old mid piece why stops answers
fault_answered semantics a b c f g h old mid new piece (Malformed why) WriteFault later stops answers = refusal_breaks semantics a b c f g h old mid piece why later stops answers
fault_answered semantics a b c f g h old mid new piece (Malformed why) Done later stops answers = absurd answers
fault_answered semantics a b c f g h old mid new piece (Malformed why) ReadFault later stops answers = absurd answers
fault_answered semantics a b c f g h old mid new piece (Malformed why) Lacking later stops answers = absurd answers
fault_answered semantics a b c f g h old mid new piece (Malformed why) TooLong later stops answers = absurd answers
fault_answered semantics a b c f g h old mid new piece NoMemory Lacking later stops answers = lacking semantics a b c f g h old mid piece stops answers
fault_answered semantics a b c f g h old mid new piece NoMemory WriteFault later stops answers = lacking_breaks semantics a b c f g h old mid piece later stops answers
fault_answered semantics a b c f g h old mid new piece NoMemory Done later stops answers = absurd answers
fault_answered semantics a b c f g h old mid new piece NoMemory Refused later stops answers = absurd answers
fault_answered semantics a b c f g h old mid new piece NoMemory ReadFault later stops answers = absurd answers
fault_answered semantics a b c f g h old mid new piece NoMemory TooLong later stops answers = absurd answers
