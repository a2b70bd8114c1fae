-- A network controller that was just opened.
use Rattle.std.proofs.Common.{ℕ, [], refl, Option, None}
use Rattle.dch_types.specs.declared.channel.Dir.TheVariants.{Up, Down}
use Rattle.dch_accept.specs.Plans.{Planned}
use Rattle.dch_node.specs.Values.{no_output}
use Rattle.dch_layer2.specs.Layers.{opened_layer}
use Rattle.dch_layer2.specs.Standing.{IsOpened}
use Rattle.dch_layer2.specs.Values.{LayerRunning}
use Rattle.dch_layer2.proofs.BoundedLayers.{opened_are}
use Rattle.dch_rnc.specs.Opened.{AreNew, IsNodeOf}
use Rattle.dch_rnc.specs.Standing.{RepresentsHistory}
use Rattle.dch_rnc.specs.State.{opened_state}
use Rattle.dch_rnc.specs.Values.{Next, Parts, node_of}

pub opened_is : (planned : Planned) (first : ℕ) (layer : LayerRunning) (parts : Parts) (next : Option Next) → IsOpened planned.config Down Up layer → AreNew planned parts → IsNodeOf planned (node_of first layer None parts next)
opened_is planned first layer parts next opened new = record {
  sends = opened.sends;
  receives = opened.receives;
  layer = record { layer = opened_layer planned.config Down; stands = opened.stands; bounded = opened_are planned.config Down };
  channel_sets = new.channel_sets;
  rx_sets = record { all = new.rx_sets.all; each = new.rx_sets.each };
  tx_buffers = record { all = new.tx_buffers.all; each = new.tx_buffers.each };
}

pub opened_stands : (planned : Planned) (first : ℕ) (layer : LayerRunning) (parts : Parts) (next : Option Next) → IsOpened planned.config Down Up layer → AreNew planned parts
    → RepresentsHistory planned planned first [] [] (node_of first layer None parts next)
opened_stands planned first layer parts next opened new = record {
  state = opened_state planned first;
  last = no_output;
  after = (refl, refl, refl);
  stands = record {
    at = record { active = refl; cfn = refl; layer = opened.stands };
    readings = λ i inside. refl;
  };
  shows = record { iub = λ s few. new.tx_buffers.quiet s few };
}
