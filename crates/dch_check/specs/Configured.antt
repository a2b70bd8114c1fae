-- What a command with a configuration in front of its lines answers, by the bytes that it took and wrote.
use Rattle.std.specs.Prelude.{◌≡◌, ◌≢◌, ◌≤◌, ◌⊎◌, ◌+◌, ◌-◌, ℕ, List, [], ◌++◌, Bool, true, false, MatchBool, length, take, Option, Some, IfSome, Result, Ok, Err, codes, if◌then◌else◌}
use Rattle.std.specs.Io.KnownBytes.{Consumes, Appends, IsAtEnd}
use Rattle.dch_io.specs.Ends.{End, Fails, IsCutShort, span}
use Rattle.dch_io.specs.Pieces.{LIMIT, PIECE}
use Rattle.dch_accept.specs.Plans.{IsPlanned}
use Rattle.dch_script.specs.Lines.{lines_of}
use Rattle.dch_check.specs.ConfigSection.{configuration_of, is_complete, script_of, settled}
use Rattle.dch_check.specs.TakenConfigs.{IsTakenConfig, IsTakenSoon, LacksEarly, lines_before}
use Rattle.dch_check.specs.declared.both.Configurations.{Configurations}
use Rattle.dch_check.specs.declared.taken_config.ConfigFault.{ConfigFault}
use Rattle.dch_check.specs.declared.taken_config.ConfigFault.TheVariants as fault
use Rattle.dch_check.specs.declared.taken_config.TakenConfig.{TakenConfig}
use Rattle.dch_lines.specs.Followed.{AnswersTaken, FollowsInput}
use Rattle.dch_lines.specs.Processor.{Progress}
use Rattle.dch_lines.specs.Semantics.{Semantics}
use Rattle.dch_lines.specs.declared.stop.Outcome.{Outcome}
use Rattle.dch_lines.specs.declared.stop.Outcome.TheVariants.{Ok as Done, Refused as MetMalformed, ReadFault as FailedReading, WriteFault as FailedWriting, NoMemory as Lacking, TooLong as TookTooMuch}
use Rattle.dch_check.specs.Fronts.{AdmitsFront, RefusesFront}
use Rattle.dch_check.specs.Untouched.{IsUntouched}
use Rattle.dch_check.specs.declared.status.Status.{Status}
use Rattle.dch_check.specs.declared.status.Status.TheVariants.{Ok as Well, Refused, Usage, ReadFault, WriteFault, NoMemory, TooLong}
use Rattle.dch_check.specs.declared.front.FrontKind.{FrontKind}

-- the configuration is complete: the line `---` was taken, or the input ended
abbrev pub HasEnded : End → List ℕ → Type 0
HasEnded source taken = (is_complete taken ≡ true) ⊎ IsAtEnd source.now

-- what stands in front is refused by this line, with the piece that completes it
pub record IsRefusedInput (Refuses : List ℕ → List ℕ → Type 0) (source : End) (taken line : List ℕ) : Type 0 where
  pub within : length taken ≤ LIMIT
  pub ended : HasEnded source taken
  pub refuses : Refuses (configuration_of taken) line
  pub soon : IsTakenSoon taken

-- the status of a fault before a configuration was taken whole
abbrev pub fault_status : ConfigFault → Status
fault_status fault.ReadFault = ReadFault
fault_status fault.NoMemory = NoMemory
fault_status fault.TooLong = TooLong

-- a read failed before the configuration was complete
pub record FailsEarly (source : End) (taken : List ℕ) : Type 0 where
  pub fails : Fails source
  pub within : length taken ≤ LIMIT
  pub soon : is_complete taken ≡ false

-- just one byte more was taken than may come, and the configuration was not complete within the limit
pub record IsLongEarly (taken : List ℕ) : Type 0 where
  pub long : length taken ≡ LIMIT + 1
  pub soon : is_complete (take LIMIT taken) ≡ false

-- a write failed within the line that refuses the configuration
pub record CutsRefusal (kind : FrontKind) (source sink : End) (taken written : List ℕ) : Type 0 where
  pub fails : Fails sink
  pub line : List ℕ
  pub refuses : IsRefusedInput (RefusesFront kind) source taken line
  pub cut : IsCutShort written line

-- how a run ends without the line `open`
abbrev pub EndsEarly : FrontKind → End → End → List ℕ → List ℕ → Status → Type 0
EndsEarly kind source sink taken written Well = ⊥
EndsEarly kind source sink taken written Refused = IsRefusedInput (RefusesFront kind) source taken written
EndsEarly kind source sink taken written Usage = ⊥
EndsEarly kind source sink taken written ReadFault = FailsEarly source taken × (written ≡ [])
EndsEarly kind source sink taken written WriteFault = CutsRefusal kind source sink taken written
EndsEarly kind source sink taken written NoMemory = LacksEarly taken × (written ≡ [])
EndsEarly kind source sink taken written TooLong = IsLongEarly taken × (written ≡ [])

-- the work with the lines of a script in a state, before the first of them: the line `open` waits, and lines are
-- counted over the whole input
abbrev pub script_begin : {S : Type 0} → List ℕ → S → Progress S
script_begin taken state = record {
  handler = state;
  line = [];
  text = codes "open\n";
  bytes = length taken - length (script_of taken);
  lines = length (lines_of (configuration_of taken)) + (if is_complete taken then 1 else 0);
  nonempty_lines = 0;
}

-- a text in front of lines is accepted, and these are the configurations with the plans of their rate matching
pub record ArePlannedAs (kind : FrontKind) (text : List ℕ) (accepted : Configurations) : Type 0 where
  pub judged : AdmitsFront kind text accepted
  pub plans : IsPlanned accepted.first
  pub later : IfSome accepted.second (λ second. IsPlanned second.accepted)

-- what stands in front is complete and accepted, and the lines behind it are followed from the state in which the
-- command is opened for it. At hand before are no more bytes than what is left of the piece with which it is complete
pub record FollowsScript {S : Type 0} (kind : FrontKind) (semantics : Semantics S) (opened : Configurations → S)
    (source sink : End) (taken written : List ℕ) (after : S) (outcome : Outcome) : Type 0 where
  pub ended : HasEnded source taken
  pub accepted : Configurations
  pub is : ArePlannedAs kind (configuration_of taken) accepted
  pub old : List ℕ
  pub piece : List ℕ
  pub later : List ℕ
  pub pieces : taken ≡ (old ++ piece) ++ later
  pub small : length piece ≤ PIECE
  pub soon : is_complete old ≡ false
  pub part : List ℕ
  pub rest : part ≡ script_of (old ++ piece)
  pub script : script_of taken ≡ part ++ later
  pub answers : AnswersTaken semantics source sink (script_begin taken (opened accepted))
      after part later written outcome

-- the status of an outcome
abbrev pub outcome_status : Outcome → Status
outcome_status Done = Well
outcome_status MetMalformed = Refused
outcome_status FailedReading = ReadFault
outcome_status FailedWriting = WriteFault
outcome_status Lacking = NoMemory
outcome_status TookTooMuch = TooLong

-- how a run ends with the line `open`; no line wants memory
pub record EndsLate {S : Type 0} (kind : FrontKind) (semantics : Semantics S) (opened : Configurations → S)
    (source sink : End) (taken written : List ℕ) (after : S) (status : Status) : Type 0 where
  pub outcome : Outcome
  pub follows : FollowsScript kind semantics opened source sink taken written after outcome
  pub same : status ≡ outcome_status outcome
  pub enough : outcome ≢ Lacking

-- the source gave some bytes, and the sink took the answer to them; where the line `open` was written this holds of the
-- command's state afterwards
pub record RunsConfigured {S : Type 0} (kind : FrontKind) (semantics : Semantics S) (opened : Configurations → S)
    (Holds : S → Type 0) (source sink : End) (status : Status) : Type 0 where
  pub taken : List ℕ
  pub written : List ℕ
  pub takes : Consumes source.before source.now taken
  pub writes : Appends sink.before sink.now written
  pub answers : EndsEarly kind source sink taken written status
      ⊎ ((after : S) × (EndsLate kind semantics opened source sink taken written after status × Holds after))

-- the same, where the run ended without the line `open`
pub record EndsUnopened (kind : FrontKind) (source sink : End) (status : Status) : Type 0 where
  pub taken : List ℕ
  pub written : List ℕ
  pub takes : Consumes source.before source.now taken
  pub writes : Appends sink.before sink.now written
  pub answers : EndsEarly kind source sink taken written status

-- what stands in front was taken and accepted, and nothing is written
pub record IsConfigured (kind : FrontKind) (source sink : End) (room : List ℕ) (front : TakenConfig)
    (accepted : Configurations) : Type 0 where
  pub whole : IsTakenConfig source room front
  pub is : ArePlannedAs kind (settled front.section) accepted
  pub unwritten : sink.now ≡ sink.before
  pub faultless : sink.faults_now ≡ sink.faults_before

-- what taking a configuration does
abbrev pub TakesConfiguration : FrontKind → End → End → List ℕ → Result (TakenConfig × Configurations) Status → Type 0
TakesConfiguration kind source sink room (Ok taken) = IsConfigured kind source sink room taken.0 taken.1
TakesConfiguration kind source sink room (Err status) = EndsUnopened kind source sink status

-- the work with the lines behind a configuration that was taken
abbrev pub opened_begin : {S : Type 0} → TakenConfig → S → Progress S
opened_begin front state = record {
  handler = state;
  line = [];
  text = codes "open\n";
  bytes = front.read - (front.pending.to - front.pending.from);
  lines = lines_before front;
  nonempty_lines = 0;
}

-- the lines that are left were followed: those that are pending alone, where the input has ended
pub record FollowsLast {S : Type 0} (semantics : Semantics S) (source sink : End) (old : Progress S) (after : S)
    (part : List ℕ) (outcome : Outcome) : Type 0 where
  pub now : Option (List ℕ)
  pub follows : FollowsInput semantics (span (Some []) now 0 0) sink old after part outcome
  pub unread : source.now ≡ source.before
  pub faultless : source.faults_now ≡ source.faults_before

abbrev pub FollowsRest : {S : Type 0} → Semantics S → Bool → End → End → Progress S → S → List ℕ → Outcome → Type 0
FollowsRest semantics at_end source sink old after part outcome =
    MatchBool at_end (FollowsLast semantics source sink old after part outcome)
    (FollowsInput semantics source sink old after part outcome)

abbrev pub FollowsBehind : {S : Type 0} → Semantics S → End → End → TakenConfig → S → S → List ℕ → Outcome → Type 0
FollowsBehind semantics source sink front state after part outcome =
    FollowsRest semantics front.pending.at_end source sink (opened_begin front state) after part outcome

-- the work with the lines ended, and not well
pub record StopsBehind {S : Type 0} (semantics : Semantics S) (source sink : End) (front : TakenConfig) (state : S)
    (part : List ℕ) (status : Status) : Type 0 where
  pub after : S
  pub outcome : Outcome
  pub follows : FollowsBehind semantics source sink front state after part outcome
  pub same : status ≡ outcome_status outcome
  pub enough : outcome ≢ Lacking
  pub ill : outcome ≢ Done

-- what following the lines behind a configuration does, where a handler stands for a state: nothing, for want of
-- memory, or all of it
abbrev pub FollowsTo : {S C : Type 0} → Semantics S → (S → C → Type 0) → End → End → TakenConfig → S → List ℕ
    → Result C Status → Type 0
FollowsTo {S} semantics represents source sink front state part (Ok handler) = (after : S)
    × (represents after handler × FollowsBehind semantics source sink front state after part Done)
FollowsTo semantics represents source sink front state part (Err status) = ((status ≡ NoMemory)
    × IsUntouched source sink) ⊎ StopsBehind semantics source sink front state part status

-- no line of the command wants memory
abbrev pub WantsNone : {S : Type 0} → Semantics S → Type 0
WantsNone {S} semantics = (state : S) (line : List ℕ) → semantics.wants_memory state line → ⊥
