-- What the pieces of the input do, one after another.
use Rattle.std.specs.Prelude.{◌≡◌, ◌<◌, ◌≤◌, ◌⊎◌, ◌+◌, ℕ, List, [], ◌++◌, length, Result, Ok, Err}
use Rattle.std.specs.Io.KnownBytes.{Consumes, Appends}
use Rattle.dch_io.specs.Ends.{End, Breaks}
use Rattle.dch_script.specs.Lines.{lines_after}
use Rattle.dch_script.specs.declared.event.LineError.{LineError}
use Rattle.dch_script.specs.declared.event.LineError.TheVariants.{Cut}
use Rattle.dch_lines.specs.Semantics.{Semantics}
use Rattle.dch_lines.specs.Processor.{Progress, Takes, MeetsFault}
use Rattle.dch_lines.specs.LineTexts.{HandlesFront, HandlesLines, refusal}
use Rattle.dch_lines.specs.declared.stop.LineFault.{LineFault}
use Rattle.dch_lines.specs.declared.stop.LineFault.TheVariants.{Malformed, NoMemory}
use Rattle.dch_lines.specs.declared.stop.Outcome.{Outcome}
use Rattle.dch_lines.specs.declared.stop.Outcome.TheVariants.{Ok as Done, Refused, WriteFault, NoMemory as Lacking}

-- a line of the piece is refused; the text of those before it is written, and the line that refuses it
pub record RefusesIn {S : Type 0} (semantics : Semantics S) (sink : End) (old : Progress S) (piece : List ℕ) : Type 0 where
  pub good : List (List ℕ)
  pub state : S
  pub why : LineError
  pub meets : MeetsFault semantics state old.line piece good (Malformed why)
  pub more : List ℕ
  pub handles : HandlesLines semantics old.handler good state more
  pub writes : Appends sink.before sink.now (old.text ++ more ++ refusal (old.lines + length good) why)

-- a line of the piece wants memory; the text of those before it is written
pub record LacksIn {S : Type 0} (semantics : Semantics S) (sink : End) (old : Progress S) (piece : List ℕ) : Type 0 where
  pub good : List (List ℕ)
  pub state : S
  pub meets : MeetsFault semantics state old.line piece good NoMemory
  pub more : List ℕ
  pub handles : HandlesLines semantics old.handler good state more
  pub writes : Appends sink.before sink.now (old.text ++ more)

-- the sink failed within the text of some good lines, the last of them maybe done in part, or behind whole lines within
-- the line that refuses the next one
pub record BreaksIn {S : Type 0} (semantics : Semantics S) (sink : End) (old : Progress S) (piece : List ℕ) : Type 0 where
  pub good : List (List ℕ)
  pub later : List (List ℕ)
  pub lines : lines_after old.line piece ≡ good ++ later
  pub state : S
  pub more : List ℕ
  pub handles : HandlesFront semantics old.handler good state more
  pub last : List ℕ
  pub follows : (last ≡ []) ⊎ (HandlesLines semantics old.handler good state more
      × ((why : LineError) × (MeetsFault semantics state old.line piece good (Malformed why)
      × (last ≡ refusal (old.lines + length good) why))))
  pub breaks : Breaks sink (old.text ++ more ++ last)

-- what is written after the text that waits where a line is not handled, after so many others
abbrev pub AnswersFault : End → List ℕ → ℕ → LineFault → Outcome → Type 0
AnswersFault sink text before (Malformed why) Refused = Appends sink.before sink.now (text ++ refusal before why)
AnswersFault sink text before (Malformed why) WriteFault = Breaks sink (text ++ refusal before why)
AnswersFault sink text before NoMemory Lacking = Appends sink.before sink.now text
AnswersFault sink text before NoMemory WriteFault = Breaks sink text
AnswersFault sink text before fault _ = ⊥

-- what a piece does
abbrev pub TakesPiece : {S : Type 0} → Semantics S → End → Progress S → Progress S → List ℕ → Result (Unit {0}) Outcome
    → Type 0
TakesPiece semantics sink old new piece (Ok done) = Takes semantics sink old new piece × (new.text ≡ [])
TakesPiece semantics sink old new piece (Err Refused) = RefusesIn semantics sink old piece
TakesPiece semantics sink old new piece (Err WriteFault) = BreaksIn semantics sink old piece
TakesPiece semantics sink old new piece (Err Lacking) = LacksIn semantics sink old piece
TakesPiece semantics sink old new piece (Err _) = ⊥

-- what the end of the input does: it is closed, unless a line has begun
abbrev pub EndsInput : {S : Type 0} → Semantics S → End → Progress S → Progress S → Outcome → Type 0
EndsInput semantics sink old new Done = (old.line ≡ []) × (new.handler ≡ old.handler)
    × Appends sink.before sink.now (old.text ++ semantics.closing old.handler old.nonempty_lines)
EndsInput semantics sink old new Refused = (0 < length old.line)
    × Appends sink.before sink.now (old.text ++ refusal old.lines Cut)
EndsInput semantics sink old new WriteFault =
    ((old.line ≡ []) × Breaks sink (old.text ++ semantics.closing old.handler old.nonempty_lines))
    ⊎ ((0 < length old.line) × Breaks sink (old.text ++ refusal old.lines Cut))
EndsInput semantics sink old new _ = ⊥

-- the lines of all bytes followed are good, and their text is written
pub record Going {S : Type 0} (semantics : Semantics S) (source sink : End) (old progress : Progress S) (part : List ℕ) : Type 0 where
  pub taken : List ℕ
  pub takes : Consumes source.before source.now taken
  pub at : Takes semantics sink old progress (part ++ taken)
  pub idle : progress.text ≡ []
  pub source_later : source.faults_before ≤ source.faults_now
  pub sink_later : sink.faults_before ≤ sink.faults_now
