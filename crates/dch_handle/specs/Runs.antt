-- A node behind a handle, with what it was opened for and what it told, and the events that it takes.
use Rattle.std.specs.Prelude.{◌≡◌, ◌+◌, ◌-◌, ◌%◌, ◌==◌, ◌&&◌, ℕ, List, [], Bool, true, false, Option, Some, None, IfSome, if◌then◌else◌, is_some, length, not, nat_lt, slice_get}
use Rattle.std.specs.Option.{option_map_or}
use Rattle.dch_types.specs.declared.bearer.Mode.{Mode}
use Rattle.dch_types.specs.declared.bearer.Mode.TheVariants.{Tm, Um, Am}
use Rattle.dch_types.specs.declared.channel.Dir.{Dir}
use Rattle.dch_types.specs.declared.config.Config.{Config}
use Rattle.dch_types.specs.Parts.{channel_number, side_of}
use Rattle.dch_types.specs.Timing.{has_set}
use Rattle.dch_config.specs.Changes.{KeepsBearer}
use Rattle.dch_accept.specs.Frames.{tfci_bits}
use Rattle.dch_accept.specs.Plans.{Planned}
use Rattle.dch_accept.specs.Reports.{step_bytes}
use Rattle.dch_check.specs.declared.both.Configurations.{Configurations}
use Rattle.dch_check.specs.declared.both.Second.{Second}
use Rattle.dch_indication.specs.Lines.{Line}
use Rattle.dch_node.specs.Values.{Radio}
use Rattle.dch_handle.specs.Statuses.{bad_code, bad_letter, bad_size, done, not_due, queue_full}
use Rattle.dch_handle.specs.Letters.{bits_of, cells_of, has_bad_cell, has_bad_letter}
use Rattle.dch_handle.specs.NodeRules.{Goes, NodeRules, RepresentsHistory}
use Rattle.dch_handle.specs.Telling.{HasRoomFor, IsWhole, Wait, Waiting}

-- radio frames are counted as far as a second configuration may be to come, and then by 8 around; by 8 they are right
-- for ever
abbrev pub counted : ℕ → ℕ
counted frames = if nat_lt frames 100008 then frames + 1 else frames - 7

-- the radio frames after an event with which one passes, or none
abbrev pub frames_after : Bool → ℕ → ℕ
frames_after passed frames = if passed then counted frames else frames

-- the configuration that is active, a second one that is still to come, the radio frames since opening, the node, and
-- what it told that was not pulled yet
pub record Run (V : Type 0) : Type 0 where
  pub planned : Planned
  pub later : Option Second
  pub frames : ℕ
  pub node : V
  pub waiting : Waiting

-- a second configuration is active from a radio frame on in which all TTIs start
abbrev pub StartsTtis : Second → Type 0
StartsTtis second = second.frame % 8 ≡ 0

-- the node stands for a state whose CFN is, by 8, that of the radio frames since opening
pub record IsTimed {S E V : Type 0} (rules : NodeRules S E V) (run : Run V) : Type 0 where
  pub state : S
  pub stands : rules.represents run.planned state run.node
  pub turn : rules.cfn state % 8 ≡ run.frames % 8
  pub whole : IfSome run.later StartsTtis

-- the node is open for what is active and what is to come, and the queue has room for what a step of either tells
pub record IsRun {S E V : Type 0} (rules : NodeRules S E V) (run : Run V) : Type 0 where
  pub opened : rules.is_opened run.planned run.node
  pub next : IfSome run.later (λ second. rules.has_next run.planned second.accepted run.node)
  pub room : HasRoomFor (step_bytes run.planned.config) run.waiting
  pub later_room : IfSome run.later (λ second. HasRoomFor (step_bytes second.accepted.config) run.waiting)
  pub whole : IsWhole run.waiting
  pub timed : IsTimed rules run

-- just the lines of a step wait
abbrev pub AreAwaited : Waiting → List Line → Type 0
AreAwaited waiting lines = Wait lines waiting

-- an event was taken in the configuration that is active, and nothing else changed
pub record Takes {S E V : Type 0} (rules : NodeRules S E V) (event : E) (old new : Run V) : Type 0 where
  pub goes : Goes rules event old.planned old.planned old.node new.node (AreAwaited new.waiting)
  pub same : new ≡ record old {
    frames = frames_after (rules.passes event) old.frames;
    node = new.node;
    waiting = new.waiting;
  }

-- the second configuration became active
pub record Changes {S E V : Type 0} (rules : NodeRules S E V) (old new : Run V) : Type 0 where
  pub second : Second
  pub was : old.later ≡ Some second
  pub goes : Goes rules (rules.change second.accepted) old.planned second.accepted old.node new.node
      (AreAwaited new.waiting)
  pub same : new ≡ record old { planned = second.accepted; later = None; node = new.node; waiting = new.waiting }

-- a node was opened for one configuration or two at a CFN, and has told nothing
pub record IsOpened {S E V : Type 0} (rules : NodeRules S E V) (both : Configurations) (first : ℕ) (run : Run V)
    : Type 0 where
  pub planned : run.planned ≡ both.first
  pub later : run.later ≡ both.second
  pub frames : run.frames ≡ 0
  pub told : run.waiting.told ≡ []
  pub stands : RepresentsHistory rules both.first both.first first [] [] run.node

-- the second configuration can follow the first one
abbrev pub CanFollow : Configurations → Type 0
CanFollow both = IfSome both.second (λ second. (b : ℕ) → KeepsBearer both.first.config second.accepted.config b)

-- a bearer is there, sends in a direction, and takes bits, as a transparent one does, or octets
abbrev pub is_of_bits : Mode → Bool
is_of_bits Tm = true
is_of_bits Um = false
is_of_bits Am = false

abbrev pub sends_bits : Config → Dir → ℕ → Bool
sends_bits config dir b = option_map_or (λ bearer. is_some (channel_number dir bearer) && is_of_bits bearer.mode)
    (slice_get config.bearers b) false

abbrev pub sends_octets : Config → Dir → ℕ → Bool
sends_octets config dir b = option_map_or (λ bearer. is_some (channel_number dir bearer) &&
    not (is_of_bits bearer.mode))
    (slice_get config.bearers b) false

-- all that was told was pulled
abbrev pub is_idle : Waiting → Bool
is_idle waiting = length waiting.told == 0

-- the status of an event: what was told before must be pulled first
abbrev pub if_idle : Waiting → ℕ → ℕ
if_idle waiting status = if is_idle waiting then status else queue_full

-- a unit of octets, or of bits, for a bearer that sends in a direction
abbrev pub unit_status : Planned → Waiting → Dir → ℕ → ℕ
unit_status planned waiting dir b = if_idle waiting (if sends_octets planned.config dir b then done else bad_code)

abbrev pub unit_bits_status : Planned → Waiting → Dir → ℕ → List ℕ → ℕ
unit_bits_status planned waiting dir b letters = if_idle waiting (if sends_bits planned.config dir b
    then (if nat_lt 5000 (length letters) then bad_size else (if has_bad_letter letters then bad_letter else done))
    else bad_code)

-- a combination of a direction is blocked (1) or free again (0)
abbrev pub block_status : Planned → Waiting → Dir → ℕ → ℕ → ℕ
block_status planned waiting dir combination on = if_idle waiting
    (if nat_lt combination (length (side_of planned.config dir).combinations) && nat_lt on 2 then done else bad_code)

abbrev pub is_on : ℕ → Bool
is_on on = on == 1

-- an Iub frame of a set of a direction
abbrev pub iub_status : Planned → Waiting → Dir → ℕ → ℕ
iub_status planned waiting dir set = if_idle waiting (if has_set (side_of planned.config dir) set then done
    else bad_code)

-- a radio frame that comes in a direction, with at most 57,600 cells, which no combination has
abbrev pub phy_status : Planned → Waiting → Dir → List ℕ → List ℕ → ℕ
phy_status planned waiting dir tfci cells = if_idle waiting (if length tfci == tfci_bits planned.config dir
    then (if nat_lt 57600 (length cells) then bad_size
    else (if has_bad_letter tfci then bad_letter else (if has_bad_cell cells then bad_letter else done)))
    else bad_size)

-- the radio frame of letters
abbrev pub radio_read : List ℕ → List ℕ → Radio
radio_read tfci cells = record { tfci = bits_of tfci; cells = cells_of cells }

-- the second configuration is to become active now
abbrev pub is_due : Option Second → ℕ → Bool
is_due None frames = false
is_due (Some second) frames = second.frame == frames

abbrev pub change_status : Waiting → Option Second → ℕ → ℕ
change_status waiting later frames = if_idle waiting (if is_due later frames then done else not_due)
