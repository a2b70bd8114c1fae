-- When a transparent bearer of two ends is a sender and a receiver of which the one's units came to the other (TS
-- 25.322 11.1).
use Rattle.std.specs.Prelude.{◌≡◌, ◌≤◌, ◌++◌, Some, ℕ, List, [], ◌∷◌, drop, filter, map}
use Rattle.dch_bits.specs.declared.bit.Bit.{Bit}
use Rattle.dch_types.specs.declared.channel.Dir.{Dir}
use Rattle.dch_types.specs.declared.bearer.Mode.TheVariants.{Tm}
use Rattle.dch_types.specs.declared.config.Config.{Config}
use Rattle.dch_mac.specs.Field.{field_bits}
use Rattle.dch_rlctm.specs.Waiting.{Waiting}
use Rattle.dch_layer2.specs.Bearings.{Transparent, bearer_in, channel_of, ct_of}
use Rattle.dch_layer2.specs.Layers.{Layer}
use Rattle.dch_node.specs.Lines.{GotBits, Line}
use Rattle.dch_linkcmd.specs.Checks.{IsSublist}
use Rattle.dch_runlaw.specs.History.{AreApart, is_mine}
use Rattle.dch_runlaw.specs.Lines.{lines_of}
use Rattle.dch_runlaw.specs.Worlds.{Log, Side, World}

-- the lines on transparent units
abbrev pub bits_lines : Dir → ℕ → List (List Bit) → List Line
bits_lines dir b [] = []
bits_lines dir b (unit ∷ units) = GotBits dir b unit ∷ bits_lines dir b units

-- the unit in a block of bearer b, and those in its blocks of a channel
abbrev pub unit_in : Config → Dir → ℕ → List Bit → List Bit
unit_in config dir b block = drop (field_bits (ct_of config dir b)) block

abbrev pub units_in : Config → Dir → ℕ → ℕ → List (List Bit) → List (List Bit)
units_in config dir b i blocks = map (unit_in config dir b) (filter (is_mine config dir b i) blocks)

-- a transparent bearer that sends on a channel, and gave these units before, in another configuration: the units
-- accepted are those, those of the blocks that it gave, and those that wait
pub record IsTmSender (config : Config) (dir : Dir) (b i : ℕ) (before : List (List Bit)) (side : Side)
    (log : Log) : Type 0 where
  pub waiting : Waiting
  pub accepted : List (List Bit)
  pub bearing : side.layer.bearings b ≡ Transparent waiting accepted
  pub given : accepted ≡ (before ++ units_in config dir b i log.given) ++ waiting.units

-- and one that receives on it, and took these units before: what was reported is these, and the units of the blocks
-- that were taken
pub record IsTmReceiver (config : Config) (dir : Dir) (b i : ℕ) (before : List (List Bit)) (side : Side)
    (log : Log) : Type 0 where
  pub waiting : Waiting
  pub accepted : List (List Bit)
  pub bearing : side.layer.bearings b ≡ Transparent waiting accepted
  pub lines : lines_of b side.said ≡ bits_lines dir b (before ++ units_in config dir b i log.taken)

-- the one at the near end, the other at the far end
pub record IsTmHistory (config : Config) (out : Dir) (b i : ℕ) (given taken : List (List Bit))
    (w : World) : Type 0 where
  pub near : IsTmSender config out b i given w.near (w.out i)
  pub far : IsTmReceiver config out b i taken w.far (w.out i)

-- a transparent bearer that sends on this channel from the near end
pub record IsTmBearer (config : Config) (out : Dir) (b i : ℕ) : Type 0 where
  pub mode : (bearer_in config b).mode ≡ Tm
  pub least : 1 ≤ (bearer_in config b).priority
  pub most : (bearer_in config b).priority ≤ 8
  pub channel : channel_of config out b ≡ Some i
  pub apart : AreApart config out i

-- of a transparent bearer, in one configuration or in two: delivered are just the SDUs of the blocks that came, a
-- subsequence of those that were accepted, each once
pub record IsTmSome (config : Config) (out : Dir) (b i : ℕ) (given taken : List (List Bit)) (w : World) : Type 0 where
  pub near : IsTmSender config out b i given w.near (w.out i)
  pub handed : List (List Bit)
  pub came : handed ≡ taken ++ units_in config out b i (w.out i).taken
  pub lines : lines_of b w.far.said ≡ bits_lines out b handed
  pub some : IsSublist handed near.accepted

-- and where all came but the blocks that are on their way, it is all accepted units but those in these blocks and those
-- that wait
pub record IsTmCarried (config : Config) (dir : Dir) (b i : ℕ) (from : Layer) (said : List Line)
    (running : List (List Bit)) : Type 0 where
  pub waiting : Waiting
  pub accepted : List (List Bit)
  pub bearing : from.bearings b ≡ Transparent waiting accepted
  pub handed : List (List Bit)
  pub lines : lines_of b said ≡ bits_lines dir b handed
  pub all : accepted ≡ handed ++ (units_in config dir b i running ++ waiting.units)
