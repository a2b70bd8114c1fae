-- The work of a line processor, by what it took, wrote and holds.
use Rattle.std.specs.Prelude.{◌≡◌, ◌<◌, ◌≤◌, ◌⊎◌, ℕ, List, [], ◌∷◌, ◌++◌, ◌+◌, Bool, false, length, Result, Ok, Err, if◌then◌else◌}
use Rattle.std.specs.Borrow.{Bor}
use Rattle.dch_io.specs.Ends.{End, Breaks, Passes}
use Rattle.dch_io.specs.Pieces.{LIMIT}
use Rattle.dch_script.specs.Code.{longest}
use Rattle.dch_script.specs.Held.{Held}
use Rattle.dch_script.specs.Lines.{lines_after, rest_after}
use Rattle.dch_script.specs.declared.code.TheConstants.{LONGEST_LINE}
use Rattle.dch_script.specs.declared.event.LineError.TheVariants.{Long}
use Rattle.dch_lines.specs.Pages.{Shows}
use Rattle.dch_lines.specs.Semantics.{Does, Leads, Semantics}
use Rattle.dch_lines.specs.LineTexts.{BeginsLine, IsFaulty, is_empty, HandlesFront, HandlesLine, HandlesLines, nonempty_lines}
use Rattle.dch_lines.specs.declared.processor.TheConstants.{LEAST_ROOM}
use Rattle.dch_lines.specs.declared.stop.LineFault.{LineFault}
use Rattle.dch_lines.specs.declared.stop.LineFault.TheVariants.{Malformed}
use Rattle.dch_lines.specs.declared.stop.Stop.{Stop}
use Rattle.dch_lines.specs.declared.stop.Stop.TheVariants.{Fault, Failed}

-- what a line processor shows: the handler, the line that has begun, the text that waits to be written, and the bytes,
-- the lines, and the lines that aren't empty so far
pub record Progress (S : Type 0) : Type 0 where
  pub handler : S
  pub line : List ℕ
  pub text : List ℕ
  pub bytes : ℕ
  pub lines : ℕ
  pub nonempty_lines : ℕ

-- the room of a line processor, and what its counts keep
pub record IsOpen (capacity room line text bytes lines nonempty_lines : ℕ) : Type 0 where
  pub line_room : LONGEST_LINE + 1 ≤ capacity
  pub least : LEAST_ROOM ≤ room
  pub line_fits : line ≤ LONGEST_LINE + 1
  pub text_fits : text ≤ room
  pub few_bytes : bytes ≤ LIMIT
  pub few_lines : lines ≤ bytes
  pub few_nonempty : nonempty_lines ≤ lines

-- the same, with a state in place of the handler
abbrev pub standing : {S C : Type 0} → S → Progress C → Progress S
standing state progress = record {
  handler = state;
  line = progress.line;
  text = progress.text;
  bytes = progress.bytes;
  lines = progress.lines;
  nonempty_lines = progress.nonempty_lines;
}

-- for each state that the handler stands for before, there is one that it stands for afterwards, and this holds of the
-- work with the two
abbrev pub LeadsOn : {S C : Type 0} → (S → C → Type 0) → Progress C → Progress C → (Progress S → Progress S → Type 0)
    → Type 0
LeadsOn represents old new Holds = Leads represents old.handler new.handler (λ before after. Holds (standing before old) (standing after new))

-- a good line is done, or left off in its midst where a write failed, and its text is written, waits, or was cut off
pub record Hands {S : Type 0} (semantics : Semantics S) (sink : End) (old : S) (line : List ℕ) (new : S) (before now : Held) (broken : Bool) : Type 0 where
  pub more : List ℕ
  pub does : Does semantics broken old line new more
  pub shows : Shows sink before false more now broken

-- the sink failed within the text that waits and that of this good line, which is maybe done in part
pub record BreaksAt {S : Type 0} (semantics : Semantics S) (sink : End) (old : S) (line before : List ℕ) : Type 0 where
  pub next : S
  pub more : List ℕ
  pub front : HandlesLine semantics old line next more ⊎ BeginsLine semantics old line next more
  pub breaks : Breaks sink (before ++ more)

-- what doing what a line says, and adding its text to the text that waits, does: that may be written first
abbrev pub LineOutcome : {S : Type 0} → Semantics S → End → S → List ℕ → S → List ℕ → List ℕ → Result ℕ Stop → Type 0
LineOutcome semantics sink old line new before now (Ok count) = (more : List ℕ)
    × (HandlesLine semantics old line new more × Passes sink (before ++ more) now
    × (count ≡ (if is_empty line then 0 else 1)))
LineOutcome semantics sink old line new before now (Err (Fault fault)) = IsFaulty semantics old line fault × (new ≡ old)
    × Passes sink before now
LineOutcome semantics sink old line new before now (Err Failed) = BreaksAt semantics sink old line before

-- the line is good; its text is written or waits, and it is counted
pub record AddsLine {S : Type 0} (semantics : Semantics S) (sink : End) (old new : Progress S) : Type 0 where
  pub handler : S
  pub more : List ℕ
  pub handles : HandlesLine semantics old.handler old.line handler more
  pub text : List ℕ
  pub passes : Passes sink (old.text ++ more) text
  pub added : new ≡ record {
    handler = handler;
    line = [];
    text = text;
    bytes = old.bytes;
    lines = old.lines + 1;
    nonempty_lines = old.nonempty_lines + (if is_empty old.line then 0 else 1);
  }

-- what ending a line does
abbrev pub EndsLine : {S : Type 0} → Semantics S → End → Progress S → Progress S → Result (Unit {0}) Stop → Type 0
EndsLine semantics sink old new (Ok done) = AddsLine semantics sink old new
EndsLine semantics sink old new (Err (Fault fault)) = IsFaulty semantics old.handler old.line fault
    × Passes sink old.text new.text × (new ≡ record old { text = new.text })
EndsLine semantics sink old new (Err Failed) = BreaksAt semantics sink old.handler old.line old.text

-- the lines that end in some bytes are good, and their text is written or waits
pub record Takes {S : Type 0} (semantics : Semantics S) (sink : End) (old new : Progress S) (bytes : List ℕ) : Type 0 where
  pub more : List ℕ
  pub handles : HandlesLines semantics old.handler (lines_after old.line bytes) new.handler more
  pub passes : Passes sink (old.text ++ more) new.text
  pub line : new.line ≡ rest_after old.line bytes
  pub short : length new.line ≤ longest
  pub counted : new.bytes ≡ old.bytes + length bytes
  pub lines : new.lines ≡ old.lines + length (lines_after old.line bytes)
  pub nonempty_lines : new.nonempty_lines ≡ old.nonempty_lines + nonempty_lines (lines_after old.line bytes)

-- a line that ends in the bytes, after these, is not handled in this state
pub record HasFaulty {S : Type 0} (semantics : Semantics S) (state : S) (begun bytes : List ℕ) (good : List (List ℕ)) (fault : LineFault) : Type 0 where
  pub line : List ℕ
  pub later : List (List ℕ)
  pub lines : lines_after begun bytes ≡ good ++ (line ∷ later)
  pub faulty : IsFaulty semantics state line fault

-- these are the lines that end in the bytes, and more bytes than a line may have follow without a line feed
pub record IsOverlong (begun bytes : List ℕ) (good : List (List ℕ)) : Type 0 where
  pub lines : lines_after begun bytes ≡ good
  pub long : longest < length (rest_after begun bytes)

-- after these lines one is not handled in this state, or begins with too many bytes
abbrev pub MeetsFault : {S : Type 0} → Semantics S → S → List ℕ → List ℕ → List (List ℕ) → LineFault → Type 0
MeetsFault semantics state begun bytes good fault = HasFaulty semantics state begun bytes good fault
    ⊎ ((fault ≡ Malformed Long) × IsOverlong begun bytes good)

-- a line is not handled; the text of those before it is written or waits
pub record StopsAt {S : Type 0} (semantics : Semantics S) (sink : End) (old new : Progress S) (bytes : List ℕ) (fault : LineFault) : Type 0 where
  pub good : List (List ℕ)
  pub state : S
  pub meets : MeetsFault semantics state old.line bytes good fault
  pub more : List ℕ
  pub handles : HandlesLines semantics old.handler good state more
  pub passes : Passes sink (old.text ++ more) new.text
  pub lines : new.lines ≡ old.lines + length good

-- the sink failed within the text of some good lines, the last of them maybe done in part
pub record FailsIn {S : Type 0} (semantics : Semantics S) (sink : End) (old : Progress S) (bytes : List ℕ) : Type 0 where
  pub good : List (List ℕ)
  pub later : List (List ℕ)
  pub lines : lines_after old.line bytes ≡ good ++ later
  pub state : S
  pub more : List ℕ
  pub handles : HandlesFront semantics old.handler good state more
  pub breaks : Breaks sink (old.text ++ more)

-- what following some bytes does
abbrev pub Follows : {S : Type 0} → Semantics S → End → Progress S → Progress S → List ℕ → Result (Unit {0}) Stop
    → Type 0
Follows semantics sink old new bytes (Ok done) = Takes semantics sink old new bytes
Follows semantics sink old new bytes (Err (Fault fault)) = StopsAt semantics sink old new bytes fault
Follows semantics sink old new bytes (Err Failed) = FailsIn semantics sink old bytes

-- the line that has begun ends with the part
abbrev pub EndsIn : List ℕ → List ℕ → Type 0
EndsIn begun part = (lines_after begun part ≡ (begun ++ part) ∷ []) × (rest_after begun part ≡ [])

-- the line that has begun goes on with the part
abbrev pub GoesOnIn : List ℕ → List ℕ → Type 0
GoesOnIn begun part = (lines_after begun part ≡ []) × (rest_after begun part ≡ begun ++ part)

-- what following a part does, whatever comes after it
abbrev pub FollowsPart : {S : Type 0} → Semantics S → End → Progress S → Progress S → List ℕ → Result (Unit {0}) Stop
    → Type 0
FollowsPart semantics sink old new part (Ok done) = Takes semantics sink old new part
FollowsPart semantics sink old new part (Err (Fault fault)) = (remaining : List ℕ)
    → StopsAt semantics sink old new (part ++ remaining) fault
FollowsPart semantics sink old new part (Err Failed) = (remaining : List ℕ)
    → FailsIn semantics sink old (part ++ remaining)

-- some bytes were followed, and these are left
pub record Advances {S : Type 0} (semantics : Semantics S) (sink : End) (old new : Progress S) (bytes remaining : List ℕ) : Type 0 where
  pub part : List ℕ
  pub cut : bytes ≡ part ++ remaining
  pub some : 0 < length part
  pub takes : Takes semantics sink old new part

-- what following bytes to the end of a line does
abbrev pub Steps : {S : Type 0} → Semantics S → End → Progress S → Progress S → List ℕ → Result (Bor (List ℕ)) Stop
    → Type 0
Steps semantics sink old new bytes (Ok remaining) = Advances semantics sink old new bytes remaining.now
Steps semantics sink old new bytes (Err (Fault fault)) = StopsAt semantics sink old new bytes fault
Steps semantics sink old new bytes (Err Failed) = FailsIn semantics sink old bytes
