-- Whether a configuration can follow another one while the channel runs: each bearer goes on as it is, over whatever
-- channels.
use Rattle.std.specs.Prelude.{◌≡◌, ◌<◌, ◌↔◌, ◌-◌, ◌/◌, ◌==◌, ◌&&◌, ℕ, List, [], Bool, not, if◌then◌else◌, length, Option, Some, None, is_some, Result, Ok, Err}
use Rattle.std.specs.List.{list_any}
use Rattle.std.specs.Option.{option_map_or}
use Rattle.dch_types.specs.declared.channel.Dir.{Dir}
use Rattle.dch_types.specs.declared.channel.Dir.TheVariants.{Up, Down}
use Rattle.dch_types.specs.declared.channel.Format.{Format}
use Rattle.dch_types.specs.declared.bearer.Mode.{Mode}
use Rattle.dch_types.specs.declared.bearer.Mode.TheVariants.{Tm, Um, Am}
use Rattle.dch_types.specs.declared.bearer.Bearer.{Bearer}
use Rattle.dch_types.specs.declared.config.Config.{Config}
use Rattle.dch_types.specs.Limits.{is_idle}
use Rattle.dch_types.specs.Parts.{channel_at, side_of, channel_number}
use Rattle.dch_tree.specs.Bearers.{bearer_at}
use Rattle.dch_config.specs.declared.error.ChangeError.{ChangeError}
use Rattle.dch_config.specs.declared.error.ChangeError.TheVariants.{Change}
use Rattle.dch_config.specs.Bearers.{first_size, has_ct}

-- the formats of a channel, and none without one
abbrev pub formats_on : Config → Dir → Option ℕ → List Format
formats_on config dir None = []
formats_on config dir (Some i) = (channel_at (side_of config dir) i).formats

-- the bits of the C/T field of a channel
abbrev pub ct_bits : Config → Dir → Option ℕ → ℕ
ct_bits config dir None = 0
ct_bits config dir (Some i) = if has_ct config dir i then 4 else 0

-- the formats of a bearer in a direction
abbrev pub bearer_formats : Config → Dir → Bearer → List Format
bearer_formats config dir bearer = formats_on config dir (channel_number dir bearer)

-- the octets of its PDUs, each of which is a block behind the C/T field; 0 where it sends no block
abbrev pub pdu_octets : Config → Dir → Bearer → ℕ
pdu_octets config dir bearer =
    option_map_or (λ size. (size - ct_bits config dir (channel_number dir bearer)) / 8)
    (first_size (bearer_formats config dir bearer)) 0

-- blocks of this size are sent in some format
abbrev pub sends_size : List Format → ℕ → Bool
sends_size formats size = list_any (λ format. not (is_idle format) && format.size == size) formats

-- the sizes of the blocks are the same, in whatever order and however often
abbrev pub HaveSameSizes : List Format → List Format → Type 0
HaveSameSizes formats others = (size : ℕ) → sends_size formats size ≡ sends_size others size

-- what a bearer of a mode sends in a direction is alike: blocks of the same sizes in transparent mode, and otherwise
-- PDUs of the same octets
abbrev pub SendsAlike : Mode → Config → Config → Dir → Bearer → Bearer → Type 0
SendsAlike Tm first second dir one other = HaveSameSizes (bearer_formats first dir one)
    (bearer_formats second dir other)
SendsAlike Um first second dir one other = pdu_octets first dir one ≡ pdu_octets second dir other
SendsAlike Am first second dir one other = pdu_octets first dir one ≡ pdu_octets second dir other

-- two bearers have the same mode, directions, buffer and rules
pub record AreAlike (one other : Bearer) : Type 0 where
  pub mode : one.mode ≡ other.mode
  pub up : is_some one.up ≡ is_some other.up
  pub down : is_some one.down ≡ is_some other.down
  pub buffer : one.buffer ≡ other.buffer
  pub rules : one.rules ≡ other.rules

-- a bearer of the first configuration goes on as one of the second: its mode, its directions, its buffer, its rules and
-- what it sends stay; its channels, their other bearers, its logical channel and its priority may be others
pub record GoesOnAs (first second : Config) (one other : Bearer) : Type 0 where
  pub alike : AreAlike one other
  pub sends_up : SendsAlike one.mode first second Up one other
  pub sends_down : SendsAlike one.mode first second Down one other

-- bearer b is there in both configurations and goes on, or it is in neither
pub record KeepsBearer (first second : Config) (b : ℕ) : Type 0 where
  pub there : (b < length first.bearers) ↔ (b < length second.bearers)
  pub same : b < length first.bearers → GoesOnAs first second (bearer_at first.bearers b) (bearer_at second.bearers b)

-- bearer b is the first that is not kept
pub record IsFirstChanged (first second : Config) (b : ℕ) : Type 0 where
  pub changes : ¬ KeepsBearer first second b
  pub before : (a : ℕ) → a < b → KeepsBearer first second a

-- whether the second configuration can follow the first one: every bearer is kept, or this is the first that isn't
abbrev pub Changes : Config → Config → Result (Unit {0}) ChangeError → Type 0
Changes first second (Ok u) = (b : ℕ) → KeepsBearer first second b
Changes first second (Err (Change b)) = IsFirstChanged first second b
