-- What `check` answers, by the bytes that it took and wrote.
use Rattle.std.specs.Prelude.{◌≡◌, ◌≤◌, ◌⊎◌, ◌+◌, ℕ, List, [], true, length, take, Result, Ok, Err, string_bytes}
use Rattle.std.specs.Io.KnownBytes.{Consumes, Appends, IsAtEnd}
use Rattle.dch_io.specs.Ends.{End, Breaks, Fails, IsCutShort}
use Rattle.dch_io.specs.Pieces.{LIMIT}
use Rattle.dch_check.specs.ConfigSection.{configuration_of, is_complete}
use Rattle.dch_check.specs.TakenConfigs.{LacksEarly}
use Rattle.dch_check.specs.Configured.{IsRefusedInput}
use Rattle.dch_check.specs.Both.{AreAccepted, RefusesBoth}
use Rattle.dch_top.specs.declared.check.Answer.{Answer}
use Rattle.dch_top.specs.declared.check.Answer.TheVariants.{Accepted as AcceptedBy, Refused as RefusedBy}
use Rattle.dch_check.specs.declared.status.Status.{Status}
use Rattle.dch_check.specs.declared.status.Status.TheVariants.{Ok as Done, Refused, Usage, ReadFault, WriteFault, NoMemory, TooLong}

-- the input was taken to its end, and its configurations are accepted by these lines
pub record IsGoodInput (source : End) (taken lines : List ℕ) : Type 0 where
  pub end : IsAtEnd source.now
  pub within : length taken ≤ LIMIT
  pub good : AreAccepted (configuration_of taken) lines

-- no configuration that is complete is refused
abbrev pub IsGoodSoFar : List ℕ → Type 0
IsGoodSoFar taken = is_complete taken ≡ true → (lines : List ℕ) × AreAccepted (configuration_of taken) lines

-- a read failed
pub record FailsJudging (source : End) (taken : List ℕ) : Type 0 where
  pub fails : Fails source
  pub within : length taken ≤ LIMIT
  pub good : IsGoodSoFar taken

-- just one byte more was taken than may come
pub record IsBeyond (taken : List ℕ) : Type 0 where
  pub long : length taken ≡ LIMIT + 1
  pub good : IsGoodSoFar (take LIMIT taken)

-- a write failed within the one line of the answer
pub record FailsAnswering (source sink : End) (taken written : List ℕ) : Type 0 where
  pub fails : Fails sink
  pub line : List ℕ
  pub answers : IsGoodInput source taken line ⊎ IsRefusedInput RefusesBoth source taken line
  pub cut : IsCutShort written line

-- what is written where the bytes taken are these
abbrev pub ChecksTaken : End → End → List ℕ → List ℕ → Status → Type 0
ChecksTaken source sink taken written Done = IsGoodInput source taken written
ChecksTaken source sink taken written Refused = IsRefusedInput RefusesBoth source taken written
ChecksTaken source sink taken written Usage = ⊥
ChecksTaken source sink taken written ReadFault = FailsJudging source taken × (written ≡ [])
ChecksTaken source sink taken written WriteFault = FailsAnswering source sink taken written
ChecksTaken source sink taken written NoMemory = LacksEarly taken × (written ≡ [])
ChecksTaken source sink taken written TooLong = IsBeyond taken × (written ≡ [])

-- the source gave some bytes, and the sink took the answer to them
pub record Checks (source sink : End) (status : Status) : Type 0 where
  pub taken : List ℕ
  pub written : List ℕ
  pub takes : Consumes source.before source.now taken
  pub writes : Appends sink.before sink.now written
  pub answers : ChecksTaken source sink taken written status

-- the line of an answer
abbrev pub answer_line : Answer → List ℕ
answer_line (AcceptedBy line) = string_bytes line
answer_line (RefusedBy line) = string_bytes line

-- what judging the bytes taken finds
abbrev pub Finds : End → List ℕ → Result Answer Status → Type 0
Finds source taken (Ok (AcceptedBy line)) = IsGoodInput source taken (string_bytes line)
Finds source taken (Ok (RefusedBy line)) = IsRefusedInput RefusesBoth source taken (string_bytes line)
Finds source taken (Err ReadFault) = FailsJudging source taken
Finds source taken (Err NoMemory) = LacksEarly taken
Finds source taken (Err TooLong) = IsBeyond taken
Finds source taken (Err _) = ⊥

-- the source gave some bytes, and they were judged
pub record Judged (source : End) (found : Result Answer Status) : Type 0 where
  pub taken : List ℕ
  pub takes : Consumes source.before source.now taken
  pub finds : Finds source taken found

-- what judging a text finds, if there is memory
abbrev pub JudgesText : List ℕ → Result Answer Status → Type 0
JudgesText text (Ok (AcceptedBy lines)) = AreAccepted text (string_bytes lines)
JudgesText text (Ok (RefusedBy line)) = RefusesBoth text (string_bytes line)
JudgesText text (Err status) = status ≡ NoMemory

-- what writing the line of a judgement does
abbrev pub Answers : End → Answer → Status → Type 0
Answers sink (AcceptedBy line) Done = Appends sink.before sink.now (string_bytes line)
Answers sink (AcceptedBy line) WriteFault = Breaks sink (string_bytes line)
Answers sink (RefusedBy line) Refused = Appends sink.before sink.now (string_bytes line)
Answers sink (RefusedBy line) WriteFault = Breaks sink (string_bytes line)
Answers sink _ _ = ⊥

-- how the rest of an input ends, by the count of all its bytes
abbrev pub EndsAfter : End → ℕ → Result (Unit {0}) Status → Type 0
EndsAfter source count (Ok done) = IsAtEnd source.now × (count ≤ LIMIT)
EndsAfter source count (Err ReadFault) = Fails source × (count ≤ LIMIT)
EndsAfter source count (Err TooLong) = count ≡ LIMIT + 1
EndsAfter source count (Err _) = ⊥

-- the rest of an input was taken, after so many bytes
pub record PassesOver (source : End) (count : ℕ) (passed : Result (Unit {0}) Status) : Type 0 where
  pub more : List ℕ
  pub takes : Consumes source.before source.now more
  pub ends : EndsAfter source (count + length more) passed
