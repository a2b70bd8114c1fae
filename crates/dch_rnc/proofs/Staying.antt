-- A network controller still fits its configuration after a step, and its layer 2 stays limited.
use Rattle.std.proofs.Common.{◌∙◌, ℕ, List, length, arith, Bool, Option}
use Rattle.dch_bits.specs.declared.bit.Bit.{Bit}
use Rattle.dch_types.specs.declared.channel.Dir.TheVariants.{Up, Down}
use Rattle.dch_types.specs.declared.config.Config.{Config}
use Rattle.dch_config.specs.Good.{IsGood}
use Rattle.dch_accept.specs.HeldSets.{HeldSet, IsSetOf}
use Rattle.dch_accept.specs.Plans.{Planned}
use Rattle.dch_indication.specs.Lines.{Line}
use Rattle.dch_layer2.specs.Layers.{Layer, blocks, offers, ticks}
use Rattle.dch_layer2.proofs.BoundedLayers.{blocks_bounded, offers_bounded, start_bounded, ticks_bounded}
use Rattle.dch_layer2.specs.Bounded.{HasLayer}
use Rattle.dch_layer2.specs.Standing.{HasStarted, IsLayerOf, IsSameEnd, Represents as StandsFor}
use Rattle.dch_layer2.specs.Values.{LayerRunning}
use Rattle.dch_layer2.proofs.Readings.{read_layer}
use Rattle.dch_txframes.specs.Opened.{AreTxBuffersOf}
use Rattle.dch_txframes.specs.Values.{IubTxBuffer}
use Rattle.dch_rnc.specs.Moves.{TakesSet}
use Rattle.dch_rnc.specs.Opened.{AreRxSetsOf, IsNodeOf}
use Rattle.dch_rnc.specs.State.{set_readings}
use Rattle.dch_rnc.specs.Values.{Node}
use Rattle.dch_rnc.proofs.Taking.{tti_in}

-- it still fits the configuration where its parts do
pub still_layer : (planned : Planned) (node : Node) (new : LayerRunning) → IsNodeOf planned node → IsSameEnd node.layer new → HasLayer planned.config new → IsNodeOf planned (record node { layer = new })
still_layer planned node new opened same has = record {
  sends = same.sends ∙ opened.sends;
  receives = same.receives ∙ opened.receives;
  layer = has;
  channel_sets = opened.channel_sets;
  rx_sets = opened.rx_sets;
  tx_buffers = opened.tx_buffers;
}

-- layer 2 stays limited
pub offered_layer : (planned : Planned) (node : Node) (new : LayerRunning) (b : ℕ) (octets : List ℕ) (bits : List Bit) → IsNodeOf planned node
    → ((config : Config) (layer : Layer) → StandsFor config layer node.layer → StandsFor config (offers config node.layer.out b octets bits layer).layer new) → HasLayer planned.config new
offered_layer planned node new b octets bits opened stands = record {
  layer = (offers planned.config node.layer.out b octets bits opened.layer.layer).layer;
  stands = stands planned.config opened.layer.layer opened.layer.stands;
  bounded = offers_bounded planned.config node.layer.out b octets bits opened.layer.layer opened.layer.bounded;
}

pub blocked_layer : (planned : Planned) (node : Node) (new : LayerRunning) (c : ℕ) (on : Bool) → IsNodeOf planned node
    → ((config : Config) (layer : Layer) → StandsFor config layer node.layer → StandsFor config (blocks c on layer) new) → HasLayer planned.config new
blocked_layer planned node new c on opened stands = record {
  layer = blocks c on opened.layer.layer;
  stands = stands planned.config opened.layer.layer opened.layer.stands;
  bounded = blocks_bounded planned.config c on opened.layer.layer opened.layer.bounded;
}

pub ticked_layer : (planned : Planned) (node : Node) (mid new : LayerRunning) (cfn : ℕ) → IsNodeOf planned node → ((config : Config) (layer : Layer) → StandsFor config layer node.layer → StandsFor config (ticks config layer) mid)
    → ((layer : Layer) → StandsFor planned.config layer mid → HasStarted planned.config cfn layer new) → HasLayer planned.config new
ticked_layer planned node mid new cfn opened stands starts =
    let old : Layer = opened.layer.layer in
    let started : HasStarted planned.config cfn (ticks planned.config old) new = starts (ticks planned.config old) (stands planned.config old opened.layer.stands) in
    record {
      layer = started.next;
      stands = started.stands;
      bounded = start_bounded planned.config new.out cfn (ticks planned.config old) started.next started.start (ticks_bounded planned.config old opened.layer.bounded);
    }

pub taken_layer : {S : Type 0} (shows : S → Line → S → Type 0) (planned : Planned) (set : ℕ) (held : HeldSet) (old new : LayerRunning) (before after : S) → IsGood planned.config → IsSetOf planned.config Up set held → HasLayer planned.config old → TakesSet shows planned set held old new before after
    → HasLayer planned.config new
taken_layer shows planned set held old new before after good is has takes =
    read_layer shows planned.config Up (set_readings planned.config.uplink.side set held) (length planned.config.uplink.side.channels) old new before after good (omega arith) (λ i inside. tti_in planned.config set held i is inside) has takes

-- an Iub frame was read or refused
pub still_received : (planned : Planned) (node : Node) (new : LayerRunning) (rx_sets : List HeldSet) (read : Option ℕ) → IsNodeOf planned node → IsSameEnd node.layer new → HasLayer planned.config new → AreRxSetsOf planned rx_sets
    → IsNodeOf planned (record node { layer = new; rx_sets = rx_sets; read = read })
still_received planned node new rx_sets read opened same has are = record {
  sends = same.sends ∙ opened.sends;
  receives = same.receives ∙ opened.receives;
  layer = has;
  channel_sets = opened.channel_sets;
  rx_sets = are;
  tx_buffers = opened.tx_buffers;
}

-- 10 ms have passed
pub still_ticked : (planned : Planned) (node : Node) (cfn : ℕ) (new : LayerRunning) (tx_buffers : List IubTxBuffer) → IsNodeOf planned node → IsSameEnd node.layer new → HasLayer planned.config new → AreTxBuffersOf planned Down tx_buffers
    → IsNodeOf planned (record node { cfn = cfn; layer = new; tx_buffers = tx_buffers })
still_ticked planned node cfn new tx_buffers opened same has are = record {
  sends = same.sends ∙ opened.sends;
  receives = same.receives ∙ opened.receives;
  layer = has;
  channel_sets = opened.channel_sets;
  rx_sets = opened.rx_sets;
  tx_buffers = are;
}

pub layer_of : (config : Config) (v : LayerRunning) → HasLayer config v → IsLayerOf config v
layer_of config v has = record { layer = has.layer; stands = has.stands }

pub ends_through : (old mid new : LayerRunning) → IsSameEnd old mid → IsSameEnd mid new → IsSameEnd old new
ends_through old mid new first second = record { sends = second.sends ∙ first.sends; receives = second.receives ∙ first.receives }
