-- How the configuration at the front of an input is taken, by the bytes that the source gave.
use Rattle.std.specs.Prelude.{◌≡◌, ◌≤◌, ◌⊎◌, ◌+◌, ◌-◌, ℕ, List, ◌++◌, true, false, length, take, slice_range, Result, Ok, Err, if◌then◌else◌}
use Rattle.std.specs.Io.KnownBytes.{Consumes, IsAtEnd}
use Rattle.dch_io.specs.Ends.{End, Fails}
use Rattle.dch_io.specs.Pieces.{LIMIT, PIECE}
use Rattle.dch_script.specs.Lines.{lines_of}
use Rattle.dch_check.specs.ConfigSection.{configuration_of, is_complete, script_of, settled}
use Rattle.dch_check.specs.declared.taken_config.TakenConfig.{TakenConfig}
use Rattle.dch_check.specs.declared.taken_config.ConfigFault.{ConfigFault}
use Rattle.dch_check.specs.declared.taken_config.ConfigFault.TheVariants.{ReadFault, NoMemory, TooLong}

-- the line `---` came with this piece, and what follows it is pending
pub record IsComplete (front : TakenConfig) (room taken : List ℕ) : Type 0 where
  pub done : is_complete taken ≡ true
  pub going : front.pending.at_end ≡ false
  pub behind : slice_range room front.pending.from front.pending.to ≡ script_of taken

-- the input ended without the line `---`
pub record IsEnded (front : TakenConfig) (source : End) (taken : List ℕ) : Type 0 where
  pub soon : is_complete taken ≡ false
  pub ended : front.pending.at_end ≡ true
  pub none : front.pending.from ≡ front.pending.to
  pub end : IsAtEnd source.now

-- how many lines came before those that are pending: the lines of the configuration, and the line `---`
abbrev pub lines_before : TakenConfig → ℕ
lines_before front = length (lines_of (settled front.section)) + (if front.pending.at_end then 0 else 1)

-- no more was taken than the piece with which the configuration is complete
pub record IsTakenSoon (taken : List ℕ) : Type 0 where
  pub old : List ℕ
  pub piece : List ℕ
  pub pieces : taken ≡ old ++ piece
  pub small : length piece ≤ PIECE
  pub incomplete : is_complete old ≡ false

-- the configuration was taken whole, with no more pieces than that needs
pub record IsTakenConfig (source : End) (room : List ℕ) (front : TakenConfig) : Type 0 where
  pub taken : List ℕ
  pub takes : Consumes source.before source.now taken
  pub within : length taken ≤ LIMIT
  pub counted : front.read ≡ length taken
  pub text : settled front.section ≡ configuration_of taken
  pub whole : IsComplete front room taken ⊎ IsEnded front source taken
  pub sized : length (settled front.section) ≤ length taken
  pub few : lines_before front + (front.pending.to - front.pending.from) ≤ front.read
  pub ordered : front.pending.from ≤ front.pending.to
  pub inside : front.pending.to ≤ length room
  pub soon : IsTakenSoon taken
  pub later : source.faults_before ≤ source.faults_now

-- the source failed before the configuration was whole
pub record FailsInConfig (source : End) : Type 0 where
  pub taken : List ℕ
  pub takes : Consumes source.before source.now taken
  pub within : length taken ≤ LIMIT
  pub soon : is_complete taken ≡ false
  pub fails : Fails source

-- just one byte more was taken than may come, and the configuration was not whole within the limit
pub record IsConfigTooLong (source : End) : Type 0 where
  pub taken : List ℕ
  pub takes : Consumes source.before source.now taken
  pub long : length taken ≡ LIMIT + 1
  pub soon : is_complete (take LIMIT taken) ≡ false

-- memory was wanted, no later than with the piece that completes the configuration
pub record LacksEarly (taken : List ℕ) : Type 0 where
  pub within : length taken ≤ LIMIT
  pub soon : IsTakenSoon taken

-- memory was wanted before the configuration was whole
pub record LacksInConfig (source : End) : Type 0 where
  pub taken : List ℕ
  pub takes : Consumes source.before source.now taken
  pub lacks : LacksEarly taken

-- what taking the configuration does
abbrev pub TakesConfig : End → List ℕ → Result TakenConfig ConfigFault → Type 0
TakesConfig source room (Ok front) = IsTakenConfig source room front
TakesConfig source room (Err ReadFault) = FailsInConfig source
TakesConfig source room (Err NoMemory) = LacksInConfig source
TakesConfig source room (Err TooLong) = IsConfigTooLong source
