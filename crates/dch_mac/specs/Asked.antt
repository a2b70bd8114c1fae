-- What a combination is chosen from.
use Rattle.std.specs.Prelude.{◌≡◌, ◌<◌, ◌≤◌, ℕ, List, Bool, length}
use Rattle.dch_types.specs.declared.channel.Dir.{Dir}
use Rattle.dch_types.specs.declared.channel.Format.{Format}
use Rattle.dch_types.specs.declared.channel.Side.{Side}
use Rattle.dch_types.specs.declared.bearer.Bearer.{Bearer}
use Rattle.dch_types.specs.declared.config.Config.{Config}
use Rattle.dch_types.specs.Limits.{IsSide}
use Rattle.dch_types.specs.Parts.{channel_at, format_at, format_number, side_of}
use Rattle.dch_types.specs.Timing.{starts as tti_starts}
use Rattle.dch_tree.specs.Bearers.{bearer_at}
use Rattle.dch_mac.specs.declared.head.Head.{Head}

-- a direction with its channels and combinations, the bearers, the frame number, the combination that runs, what each
-- bearer offers, and which combinations are blocked
pub record Asked : Type 0 where
  pub dir : Dir
  pub side : Side
  pub bearers : List Bearer
  pub cfn : ℕ
  pub running : ℕ
  pub offers : List Head
  pub blocked : List Bool

-- of a configuration
abbrev pub asked_of : Config → Dir → ℕ → ℕ → List Head → List Bool → Asked
asked_of config dir cfn running offers blocked = record {
  dir = dir;
  side = side_of config dir;
  bearers = config.bearers;
  cfn = cfn;
  running = running;
  offers = offers;
  blocked = blocked;
}

-- a TTI of channel i starts
abbrev pub starts : Asked → ℕ → Bool
starts asked i = tti_starts (channel_at asked.side i).frames asked.cfn

-- the format of channel i in combination c
abbrev pub format_in : Asked → ℕ → ℕ → Format
format_in asked c i = format_at (channel_at asked.side i) (format_number asked.side c i)

-- the priority of bearer b
abbrev pub priority_of : Asked → ℕ → ℕ
priority_of asked b = (bearer_at asked.bearers b).priority

-- a good configuration, a combination that is there, and an offer of each bearer
pub record IsAsked (asked : Asked) : Type 0 where
  pub side : IsSide asked.side
  pub few : length asked.bearers ≤ 16
  pub least : (b : ℕ) → b < length asked.bearers → 1 ≤ priority_of asked b
  pub most : (b : ℕ) → b < length asked.bearers → priority_of asked b ≤ 8
  pub running : asked.running < length asked.side.combinations
  pub offers : length asked.offers ≡ length asked.bearers
  pub blocked : length asked.blocked ≡ length asked.side.combinations
