-- The parts of layer 2 of an end as contracts see them.
use Rattle.std.specs.Prelude.{ℕ, List, [], Bool, None, slice_index_or}
use Rattle.dch_types.specs.declared.channel.Dir.{Dir}
use Rattle.dch_types.specs.declared.channel.Dir.TheVariants.{Up}
use Rattle.dch_accept.specs.Blocks.{Held}
use Rattle.dch_mac.specs.declared.head.Head.{Head}
use Rattle.dch_layer2.specs.declared.bearer.Bearer.{Bearer}
use Rattle.dch_layer2.specs.declared.bearer.Bearer.TheVariants.{Tm}

-- the directions in which it sends and receives, its bearers, which combinations are blocked, the one that runs, the
-- blocks of the running TTIs, and room for what each bearer offers and for a unit
pub record LayerRunning : Type 0 where
  pub out : Dir
  pub into : Dir
  pub bearers : List Bearer
  pub blocked : List Bool
  pub running : ℕ
  pub given : List Held
  pub heads : List Head
  pub unit : List ℕ

-- the parts that it needs for a configuration which is to follow: which combinations are blocked, and the blocks of the
-- running TTIs
pub record NextLayer : Type 0 where
  pub blocked : List Bool
  pub given : List Held

-- bearer b
abbrev pub entity_at : List Bearer → ℕ → Bearer
entity_at bearers b = slice_index_or bearers b (Tm (record { number = 0; into = Up; sizes = []; sender = None }))
