-- The start of TTIs at a CFN (TS 25.321 11.4): a combination is chosen, and the blocks of the channels that start are
-- built.
use Rattle.std.specs.Prelude.{◌≡◌, ◌++◌, ◌==◌, ◌&&◌, ℕ, zero, suc, List, [], ◌∷◌, Bool, Option, Some, None, if◌then◌else◌, length, map}
use Rattle.std.specs.List.{range_with_len}
use Rattle.dch_bits.specs.declared.bit.Bit.{Bit}
use Rattle.dch_types.specs.declared.channel.Dir.{Dir}
use Rattle.dch_types.specs.declared.config.Config.{Config}
use Rattle.dch_types.specs.Parts.{format_number, channel_number}
use Rattle.dch_tree.specs.Bearers.{bearer_at}
use Rattle.dch_config.specs.Bearers.{names}
use Rattle.dch_mac.specs.declared.head.Head.{Head}
use Rattle.dch_mac.specs.Asked.{Asked, asked_of, format_in, priority_of, starts}
use Rattle.dch_mac.specs.Best.{IsBest}
use Rattle.dch_mac.specs.Offered.{given}
use Rattle.dch_layer2.specs.Bearings.{channel_of, head_of}
use Rattle.dch_layer2.specs.Building.{Gives}
use Rattle.dch_layer2.specs.Layers.{Given, Layer}

-- what is chosen from
abbrev pub heads_of : Config → Dir → Layer → List Head
heads_of config out layer = map (λ b. head_of config out b (layer.bearings b))
    (range_with_len 0 (length config.bearers))

abbrev pub asked_in : Config → Dir → ℕ → Layer → Asked
asked_in config out cfn layer = asked_of config out cfn layer.running (heads_of config out layer) layer.blocked

-- how many blocks bearer b builds where combination c is chosen
abbrev pub count_on : Asked → ℕ → ℕ → Option ℕ → ℕ
count_on asked c b None = 0
count_on asked c b (Some i) = if starts asked i then given asked i (format_in asked c i) b else 0

-- bearer b has channel i
abbrev pub is_on : Asked → ℕ → ℕ → Bool
is_on asked i b = names (channel_number asked.dir (bearer_at asked.bearers b)) i

-- the first bearers of a priority on a channel, and those of the first priorities
abbrev pub of_priority : Asked → ℕ → ℕ → ℕ → List ℕ
of_priority asked i priority zero = []
of_priority asked i priority (suc b) = of_priority asked i priority b
    ++ (if priority_of asked b == priority && is_on asked i b then b ∷ [] else [])

abbrev pub in_turn : Asked → ℕ → ℕ → List ℕ
in_turn asked i zero = []
in_turn asked i (suc q) = in_turn asked i q ++ of_priority asked i (suc q) (length asked.bearers)

-- what these bearers build
abbrev pub joined : (ℕ → List (List Bit)) → List ℕ → List (List Bit)
joined built [] = []
joined built (b ∷ bs) = built b ++ joined built bs

-- the blocks of a channel that starts, by priority and then by bearer
abbrev pub blocks_for : Asked → (ℕ → List (List Bit)) → ℕ → List (List Bit)
blocks_for asked built i = joined built (in_turn asked i 8)

-- what each channel is given
abbrev pub given_now : Asked → ℕ → (ℕ → List (List Bit)) → Layer → ℕ → Given
given_now asked c built old i = if starts asked i then record {
  format = format_number asked.side c i;
  blocks = blocks_for asked built i;
} else old.given i

-- TTIs start at a CFN: the best TFC is chosen, and each channel that starts is given its blocks by priority and then by
-- bearer
pub record IsStart (config : Config) (out : Dir) (cfn : ℕ) (old new : Layer) : Type 0 where
  pub best : IsBest (asked_in config out cfn old) new.running
  pub built : ℕ → List (List Bit)
  pub gives : (b : ℕ) → Gives config out b (count_on (asked_in config out cfn old) new.running b
      (channel_of config out b)) (old.bearings b) (new.bearings b) (built b)
  pub given : (i : ℕ) → new.given i ≡ given_now (asked_in config out cfn old) new.running built old i
  pub blocked : new.blocked ≡ old.blocked
