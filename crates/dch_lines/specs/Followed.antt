-- What following an input answers, by the bytes that it took and wrote.
use Rattle.std.specs.Prelude.{◌≡◌, ◌<◌, ◌≤◌, ◌⊎◌, ◌+◌, ◌-◌, ℕ, List, [], ◌++◌, length, take}
use Rattle.std.specs.Io.KnownBytes.{Consumes, Appends, IsAtEnd}
use Rattle.dch_io.specs.Ends.{End, Fails, IsCutShort}
use Rattle.dch_script.specs.Code.{longest}
use Rattle.dch_script.specs.Lines.{lines_after, rest_after}
use Rattle.dch_script.specs.declared.event.LineError.{LineError}
use Rattle.dch_script.specs.declared.event.LineError.TheVariants.{Cut}
use Rattle.dch_io.specs.Pieces.{LIMIT, PIECE}
use Rattle.dch_lines.specs.Semantics.{Semantics}
use Rattle.dch_lines.specs.Processor.{Progress, HasFaulty, MeetsFault}
use Rattle.dch_lines.specs.LineTexts.{HandlesFront, HandlesLines, nonempty_lines, refusal}
use Rattle.dch_lines.specs.declared.stop.LineFault.TheVariants.{Malformed, NoMemory}
use Rattle.dch_lines.specs.declared.stop.Outcome.{Outcome}
use Rattle.dch_lines.specs.declared.stop.Outcome.TheVariants.{Ok, Refused, ReadFault, WriteFault, TooLong, NoMemory as Lacking}

-- these are the lines that end in the bytes, and the input ended within a line
pub record IsCutOff (source : End) (begun bytes : List ℕ) (good : List (List ℕ)) : Type 0 where
  pub end : IsAtEnd source.now
  pub lines : lines_after begun bytes ≡ good
  pub some : 0 < length (rest_after begun bytes)
  pub short : length (rest_after begun bytes) ≤ longest

-- a line is refused in this state, after these good ones
abbrev pub IsRefused : {S : Type 0} → Semantics S → End → S → List ℕ → List ℕ → List (List ℕ) → LineError → Type 0
IsRefused semantics source state begun bytes good why = MeetsFault semantics state begun bytes good (Malformed why)
    ⊎ ((why ≡ Cut) × IsCutOff source begun bytes good)

-- the input was read to its end, each line of it is good and leads to this state, and the text of all is written
pub record IsWhole {S : Type 0} (semantics : Semantics S) (source : End) (old : Progress S) (state : S) (bytes written : List ℕ) : Type 0 where
  pub end : IsAtEnd source.now
  pub within : old.bytes + length bytes ≤ LIMIT
  pub ended : rest_after old.line bytes ≡ []
  pub text : List ℕ
  pub handles : HandlesLines semantics old.handler (lines_after old.line bytes) state text
  pub all : written ≡ old.text ++ text
      ++ semantics.closing state (old.nonempty_lines + nonempty_lines (lines_after old.line bytes))

-- what follows these good lines is met with the last piece of the bytes: the lines that ended before it are among them,
-- and the line that had begun then was not too long
pub record IsMetSoon (begun bytes : List ℕ) (good : List (List ℕ)) : Type 0 where
  pub before : List ℕ
  pub piece : List ℕ
  pub pieces : bytes ≡ before ++ piece
  pub small : length piece ≤ PIECE
  pub since : List (List ℕ)
  pub lines : good ≡ lines_after begun before ++ since
  pub short : length (rest_after begun before) ≤ longest

-- the text of the good lines before a malformed one is written, and the line that says so; no more was taken
pub record Refuses {S : Type 0} (semantics : Semantics S) (source : End) (old : Progress S) (bytes written : List ℕ) : Type 0 where
  pub within : old.bytes + length bytes ≤ LIMIT
  pub good : List (List ℕ)
  pub state : S
  pub why : LineError
  pub refused : IsRefused semantics source state old.line bytes good why
  pub soon : IsMetSoon old.line bytes good
  pub text : List ℕ
  pub handles : HandlesLines semantics old.handler good state text
  pub all : written ≡ old.text ++ text ++ refusal (old.lines + length good) why

-- a read failed; each whole line is good, and its text is written
pub record FailsReading {S : Type 0} (semantics : Semantics S) (source : End) (old : Progress S) (bytes written : List ℕ) : Type 0 where
  pub fails : Fails source
  pub within : old.bytes + length bytes ≤ LIMIT
  pub short : length (rest_after old.line bytes) ≤ longest
  pub state : S
  pub text : List ℕ
  pub handles : HandlesLines semantics old.handler (lines_after old.line bytes) state text
  pub all : written ≡ old.text ++ text

-- a line wants memory; the text of the good lines before it is written, and no more was taken
pub record LacksMemory {S : Type 0} (semantics : Semantics S) (old : Progress S) (bytes written : List ℕ) : Type 0 where
  pub within : old.bytes + length bytes ≤ LIMIT
  pub good : List (List ℕ)
  pub state : S
  pub lacks : HasFaulty semantics state old.line bytes good NoMemory
  pub soon : IsMetSoon old.line bytes good
  pub text : List ℕ
  pub handles : HandlesLines semantics old.handler good state text
  pub all : written ≡ old.text ++ text

-- what may follow the text of good lines: nothing, or behind whole lines the closing or refusal line
abbrev pub MayFollow : {S : Type 0} → Semantics S → End → Progress S → S → List ℕ → List ℕ → List (List ℕ) → List ℕ
    → Type 0
MayFollow semantics source old state text bytes good last =
    (last ≡ [])
    ⊎ (HandlesLines semantics old.handler good state text
    × (((IsAtEnd source.now × (lines_after old.line bytes ≡ good) × (rest_after old.line bytes ≡ []))
    × (last ≡ semantics.closing state (old.nonempty_lines + nonempty_lines good)))
    ⊎ ((why : LineError) × (IsRefused semantics source state old.line bytes good why
    × (last ≡ refusal (old.lines + length good) why)))))

-- the text of all lines that came before the last piece is written, and the line that had begun then was not too long
pub record CoversAll {S : Type 0} (semantics : Semantics S) (old : Progress S) (bytes written : List ℕ) : Type 0 where
  pub before : List ℕ
  pub piece : List ℕ
  pub pieces : bytes ≡ before ++ piece
  pub small : length piece ≤ PIECE
  pub state : S
  pub text : List ℕ
  pub handles : HandlesLines semantics old.handler (lines_after old.line before) state text
  pub short : length (rest_after old.line before) ≤ longest
  pub since : List ℕ
  pub begins : written ≡ old.text ++ text ++ since

-- a write failed; a front is written of the text of some good lines, the last of them maybe done in part, and of what
-- may follow them. It covers all lines that came before the last piece, where that is not what was at hand before
pub record FailsWriting {S : Type 0} (semantics : Semantics S) (source sink : End) (old : Progress S) (part taken written : List ℕ) : Type 0 where
  pub fails : Fails sink
  pub within : old.bytes + length (part ++ taken) ≤ LIMIT
  pub good : List (List ℕ)
  pub later : List (List ℕ)
  pub lines : lines_after old.line (part ++ taken) ≡ good ++ later
  pub state : S
  pub text : List ℕ
  pub handles : HandlesFront semantics old.handler good state text
  pub last : List ℕ
  pub follows : MayFollow semantics source old state text (part ++ taken) good last
  pub cut : IsCutShort written (old.text ++ text ++ last)
  pub covers : ((taken ≡ []) × (length part ≤ PIECE)) ⊎ CoversAll semantics old (part ++ taken) written

-- just one byte more was taken than may come; within the limit each whole line is good, the line that has begun is not
-- too long, and the text is written
pub record IsTooLong {S : Type 0} (semantics : Semantics S) (old : Progress S) (bytes written : List ℕ) : Type 0 where
  pub long : old.bytes + length bytes ≡ LIMIT + 1
  pub short : length (rest_after old.line (take (LIMIT - old.bytes) bytes)) ≤ longest
  pub state : S
  pub text : List ℕ
  pub handles : HandlesLines semantics old.handler (lines_after old.line (take (LIMIT - old.bytes) bytes)) state text
  pub all : written ≡ old.text ++ text

-- what is written where these bytes were at hand, and the source gave those
abbrev pub AnswersTaken : {S : Type 0} → Semantics S → End → End → Progress S → S → List ℕ → List ℕ → List ℕ → Outcome
    → Type 0
AnswersTaken semantics source sink old state part taken written Ok = IsWhole semantics source old state (part
    ++ taken) written
AnswersTaken semantics source sink old state part taken written Refused = Refuses semantics source old (part
    ++ taken) written
AnswersTaken semantics source sink old state part taken written ReadFault = FailsReading semantics source old (part
    ++ taken) written
AnswersTaken semantics source sink old state part taken written WriteFault = FailsWriting semantics source sink old part taken written
AnswersTaken semantics source sink old state part taken written Lacking = LacksMemory semantics old (part
    ++ taken) written
AnswersTaken semantics source sink old state part taken written TooLong = IsTooLong semantics old (part
    ++ taken) written

-- the source gave some bytes, and the sink took the answer to them; a part was at hand before. The handler's state is
-- this afterwards where all lines were good
pub record FollowsInput {S : Type 0} (semantics : Semantics S) (source sink : End) (old : Progress S) (state : S) (part : List ℕ) (outcome : Outcome) : Type 0 where
  pub taken : List ℕ
  pub written : List ℕ
  pub takes : Consumes source.before source.now taken
  pub writes : Appends sink.before sink.now written
  pub answers : AnswersTaken semantics source sink old state part taken written outcome
