-- The rules of the program: what a line does in a state, and what it says.
use Rattle.std.specs.Prelude.{◌≡◌, ◌<◌, ◌≤◌, ◌+◌, ◌%◌, ◌==◌, ◌⊎◌, ℕ, List, [], ◌++◌, Option, Some, None, IfSome, Result, Ok, Err, length, codes, decimal, if◌then◌else◌, option_map}
use Rattle.dch_bits.specs.declared.bit.Bit.{Bit}
use Rattle.dch_types.specs.declared.channel.Dir.{Dir}
use Rattle.dch_types.specs.declared.channel.Dir.TheVariants.{Up, Down}
use Rattle.dch_types.specs.Parts.{channel_at, format_at, format_number, side_of}
use Rattle.dch_coding.specs.Segments.{plan_of}
use Rattle.dch_coding.specs.Ttis.{AreJoined}
use Rattle.dch_accept.specs.Plans.{Planned}
use Rattle.dch_tti.specs.Loaded.{Loaded, loaded_at}
use Rattle.dch_script.specs.declared.event.LineError.{LineError}
use Rattle.dch_script.specs.declared.event.LineError.TheVariants.{Number, When}
use Rattle.dch_script.specs.Stages.{ParsedStage, ask, frame, load, stage_meaning}
use Rattle.dch_lines.specs.Semantics.{Semantics, one_step}
use Rattle.dch_lines.specs.Texts.{bits_of}
use Rattle.dch_stages.specs.FrameLines.{frame_line, frame_lines}
use Rattle.dch_stages.specs.Answers.{amount_of, question_line}
use Rattle.dch_stages.specs.Shows.{IsLoaded}
use Rattle.dch_script.specs.declared.stages.Question.{Question}
use Rattle.dch_stages.specs.Texts.{lines_to}
use Rattle.dch_stages.specs.TtiLines.{tti_line, tti_lines}

-- what a line asks for: nothing, the stages of a TTI, those of a radio frame, or what a question of a TTI asks
pub data Asked : Type 0 where
  nothing : Asked
  tti : Dir → ℕ → ℕ → List Bit → Loaded → Asked  -- the channel, the format, the joined bits, and what is loaded of them
  radio_frame : Dir → List Loaded → ℕ → ℕ → Asked  -- what is loaded of the channels, the CFN and the combination
  of_tti : Question → Dir → ℕ → ℕ → ℕ → Asked  -- the channel, the format, and the place or the bit

-- the transport blocks that were given for a TTI: their format, and the bits of all of them
pub record Given : Type 0 where
  pub format : ℕ
  pub bits : List Bit

-- the configuration, what was given last of each channel of each direction, if anything was, and the CFN of each
-- direction
pub record State : Type 0 where
  pub planned : Planned
  pub up : ℕ → Option Given
  pub down : ℕ → Option Given
  pub up_cfn : ℕ
  pub down_cfn : ℕ

-- the state before the first line
abbrev pub opened : Planned → State
opened planned = record { planned = planned; up = λ _. None; down = λ _. None; up_cfn = 0; down_cfn = 0 }

abbrev pub given_in : State → Dir → ℕ → Option Given
given_in state Up = state.up
given_in state Down = state.down

abbrev pub cfn_in : State → Dir → ℕ
cfn_in state Up = state.up_cfn
cfn_in state Down = state.down_cfn

-- how many lines show what was asked for, and line k of them
abbrev pub answer_lines : Planned → Asked → ℕ
answer_lines planned nothing = 0
answer_lines planned (tti dir i f joined loaded) = let channel =
    channel_at (side_of planned.config dir) i in tti_lines dir (format_at channel f).number
    (plan_of (length joined) channel.coding).blocks
answer_lines planned (radio_frame dir loaded cfn c) = frame_lines planned dir c
answer_lines planned (of_tti question dir i f n) = 1

abbrev pub answer_line : Planned → Asked → ℕ → List ℕ
answer_line planned nothing k = []
answer_line planned (tti dir i f joined loaded) k = tti_line planned dir i f joined loaded k
answer_line planned (radio_frame dir loaded cfn c) k = frame_line planned dir loaded cfn c k
answer_line planned (of_tti question dir i f n) k = question_line planned question dir i f n

-- all of them
abbrev pub answer_text : Planned → Asked → List ℕ
answer_text planned asked = lines_to (answer_line planned asked) (answer_lines planned asked)

-- something is given of channel i
abbrev pub put : ℕ → Given → (ℕ → Option Given) → ℕ → Option Given
put i new given j = if j == i then Some new else given j

abbrev pub gives : Dir → ℕ → Given → State → State
gives Up i new old = record old { up = put i new old.up }
gives Down i new old = record old { down = put i new old.down }

-- a TTI is loaded
pub record LoadsTti (dir : Dir) (i f : ℕ) (bits : List Bit) (old new : State) (asked : Asked) : Type 0 where
  pub joined : List Bit
  pub are : AreJoined (channel_at (side_of old.planned.config dir) i)
      (format_at (channel_at (side_of old.planned.config dir) i) f) bits joined
  pub loaded : Loaded
  pub is : IsLoaded old.planned dir i f bits loaded
  pub same : new ≡ gives dir i (record { format = f; bits = bits }) old
  pub asks : asked ≡ tti dir i f joined loaded

-- the formats that were given are those of a combination
abbrev pub format_given : Option Given → Option ℕ
format_given given = option_map (λ (g : Given). g.format) given

abbrev pub AreOf : Planned → Dir → (ℕ → Option Given) → ℕ → Type 0
AreOf planned dir given c = (i : ℕ) → i < length (side_of planned.config dir).channels → format_given (given i) ≡
    Some (format_number (side_of planned.config dir) c i)

-- what was given of each channel is loaded
abbrev pub AreLoaded : Planned → Dir → (ℕ → Option Given) → List Loaded → Type 0
AreLoaded planned dir given loaded = (i : ℕ) → i < length (side_of planned.config dir).channels →
    IfSome (given i) (λ g. IsLoaded planned dir i g.format g.bits (loaded_at loaded i))

-- a radio frame is sent of what was given: the CFN of its direction goes on
abbrev pub next_cfn : ℕ → ℕ
next_cfn cfn = (cfn + 1) % 256

abbrev pub goes_on : Dir → State → State
goes_on Up old = record old { up_cfn = next_cfn old.up_cfn }
goes_on Down old = record old { down_cfn = next_cfn old.down_cfn }

pub record SendsFrame (dir : Dir) (c : ℕ) (old new : State) (asked : Asked) : Type 0 where
  pub are : AreOf old.planned dir (given_in old dir) c
  pub loaded : List Loaded
  pub all : length loaded ≡ length (side_of old.planned.config dir).channels
  pub is : AreLoaded old.planned dir (given_in old dir) loaded
  pub same : new ≡ goes_on dir old
  pub asks : asked ≡ radio_frame dir loaded (cfn_in old dir) c

-- a question of the TTI that was given last of a channel is asked
pub record Asks (question : Question) (dir : Dir) (i n : ℕ) (old new : State) (asked : Asked) : Type 0 where
  pub format : ℕ
  pub given : format_given (given_in old dir i) ≡ Some format
  pub inside : n < amount_of old.planned question dir i format
  pub same : new ≡ old
  pub asks : asked ≡ of_tti question dir i format n

-- what a good line does and asks for, and its answer
abbrev pub Does : ParsedStage → State → State → Asked → Type 0
Does (load dir i f text) old new asked = LoadsTti dir i f (bits_of text) old new asked
Does (frame dir c) old new asked = SendsFrame dir c old new asked
Does (ask question dir i n) old new asked = Asks question dir i n old new asked

pub record Handles (old : State) (line : List ℕ) (new : State) (text : List ℕ) : Type 0 where
  pub parsed : ParsedStage
  pub says : stage_meaning old.planned.config line ≡ Ok parsed
  pub asked : Asked
  pub does : Does parsed old new asked
  pub shown : text ≡ answer_text old.planned asked

-- no TTI is given, or its format has no more of what is asked for
abbrev pub IsOutside : (ℕ → ℕ) → Option ℕ → ℕ → LineError → Type 0
IsOutside amount None n why = why ≡ When
IsOutside amount (Some f) n why = (why ≡ Number) × (amount f ≤ n)

-- why a line is malformed
abbrev pub IsUntimely : State → Result ParsedStage LineError → LineError → Type 0
IsUntimely state (Ok (frame dir c)) why = (why ≡ When) × (AreOf state.planned dir (given_in state dir) c → ⊥)
IsUntimely state (Ok (load dir i f text)) why = ⊥
IsUntimely state (Ok (ask question dir i n)) why = IsOutside (amount_of state.planned question dir i)
    (format_given (given_in state dir i)) n why
IsUntimely state (Err other) why = ⊥

abbrev pub Refuses : State → List ℕ → LineError → Type 0
Refuses state line why = (stage_meaning state.planned.config line ≡ Err why) ⊎
    IsUntimely state (stage_meaning state.planned.config line) why

abbrev pub rules : Semantics State
rules = one_step Handles Refuses (λ _ lines. codes "end lines=" ++ decimal lines ++ codes "\n")
