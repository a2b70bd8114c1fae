-- The parts of a Node B that are new, and a Node B made of them.
use Rattle.std.proofs.Common.{◌≡◌, ◌<◌, ◌∙◌, ℕ, List, [], length, refl, ap, sym, subst, true, false, Option, Some, arith}
use Rattle.dch_types.specs.Limits.{IsSide}
use Rattle.dch_types.specs.Parts.{channel_at}
use Rattle.dch_accept.specs.Plans.{Planned}
use Rattle.dch_tti.specs.Loaded.{loaded_at}
use Rattle.dch_dlphy.specs.Loaded.{IsLoaded}
use Rattle.dch_types.specs.Timing.{starts}
use Rattle.dch_node.specs.Values.{Blocks, idle_blocks, no_output}
use Rattle.dch_nodeb.specs.Moves.{AreGiven}
use Rattle.dch_nodeb.specs.Opened.{AreNew, AreNewRxBuffers, AreNoted, AreRxBuffersOf, IsNewTransmitter, IsNodeOf}
use Rattle.dch_nodeb.specs.Standing.{Represents, RepresentsHistory, Shows}
use Rattle.dch_nodeb.specs.State.{opened_state}
use Rattle.dch_nodeb.specs.Steps.{AreAllLoaded}
use Rattle.dch_nodeb.specs.Values.{IubRxBuffer, DownlinkTransmitter, Parts, node_of, rx_buffer_at}
use Rattle.dch_nodeb.proofs.Departing.{idle_set}
use Rattle.dch_nodeb.proofs.Steady.{starts-eighth}

-- new receive buffers are receive buffers
new_places : (planned : Planned) (rx_buffers : List IubRxBuffer) → AreNewRxBuffers planned 8 rx_buffers → AreRxBuffersOf planned rx_buffers
new_places planned rx_buffers new = record { all = new.all; each = λ s few. (new.idle s few).opened }

-- every channel starts at CFN 0
all_start : (planned : Planned) (i : ℕ) → IsSide planned.config.downlink.side → i < length planned.config.downlink.side.channels
    → starts (channel_at planned.config.downlink.side i).frames 0 ≡ true
all_start planned i good inside = starts-eighth (channel_at planned.config.downlink.side i).frames 0 (good.channels i inside).frames refl

all_noted : (planned : Planned) (rx_buffers : List IubRxBuffer) (empty transmitter : DownlinkTransmitter) → IsSide planned.config.downlink.side
    → AreGiven planned 0 (length planned.config.downlink.side.channels) rx_buffers empty transmitter → AreNoted planned transmitter.formats transmitter.running
all_noted planned rx_buffers empty transmitter good given i inside =
    let own = given.on i inside (all_start planned i good inside) in
    own.loaded.format ∙ ap (λ n. Some n) (sym own.noted)

all_idle : (planned : Planned) (rx_buffers : List IubRxBuffer) (empty transmitter : DownlinkTransmitter) → IsSide planned.config.downlink.side → AreNewRxBuffers planned 8 rx_buffers
    → AreGiven planned 0 (length planned.config.downlink.side.channels) rx_buffers empty transmitter → AreAllLoaded planned (idle_blocks planned.config.downlink.side) transmitter.running
all_idle planned rx_buffers empty transmitter good new given i inside =
    let side = planned.config.downlink.side in
    let set : ℕ = (channel_at side i).set in
    let few : set < 8 = omega (arith, (good.channels i inside).set) in
    let own = given.on i inside (all_start planned i good inside) in
    subst (λ (b : Blocks). IsLoaded planned i b.format b.bits (loaded_at transmitter.running i))
    (idle_set planned.config set i (rx_buffer_at rx_buffers set).held (new.idle set few) inside refl) own.loaded

-- what sends radio frames is new where it was loaded from new receive buffers
pub new_transmitter : (planned : Planned) (rx_buffers : List IubRxBuffer) (empty transmitter : DownlinkTransmitter) → IsSide planned.config.downlink.side → AreNewRxBuffers planned 8 rx_buffers
    → empty.radio.sent ≡ false → AreGiven planned 0 (length planned.config.downlink.side.channels) rx_buffers empty transmitter → IsNewTransmitter planned transmitter
new_transmitter planned rx_buffers empty transmitter good new quiet given = record {
  opened = given.opened;
  noted = all_noted planned rx_buffers empty transmitter good given;
  idle = all_idle planned rx_buffers empty transmitter good new given;
  quiet = given.sent ∙ quiet;
}

-- a Node B of new parts fits the configuration
pub new_node : (planned : Planned) (cfn : ℕ) (parts : Parts) (next : Option Parts) → AreNew planned parts → IsNodeOf planned (node_of cfn parts next)
new_node planned cfn parts next new = record {
  rx_buffers = new_places planned parts.rx_buffers new.rx_buffers;
  transmitter = new.transmitter.opened;
  noted = new.transmitter.noted;
  receiver = new.receiver.opened;
  tx_buffers = record { all = new.tx_buffers.all; each = new.tx_buffers.each };
}

-- it stands for the state at opening, and shows nothing
pub new_stands : (planned : Planned) (cfn : ℕ) (parts : Parts) (next : Option Parts) → AreNew planned parts → Represents planned (opened_state planned cfn) (node_of cfn parts next)
new_stands planned cfn parts next new = record {
  active = refl;
  cfn = refl;
  kept = new.rx_buffers.empty;
  given = new.transmitter.idle;
  frames = λ k few. new.receiver.missing.none k;
}

pub new_shows : (planned : Planned) (cfn : ℕ) (parts : Parts) (next : Option Parts) → AreNew planned parts → Shows no_output (node_of cfn parts next)
new_shows planned cfn parts next new = record { radio = rw new.transmitter.quiet refl; iub = new.tx_buffers.quiet }

-- and it stands for what has not happened
pub new_history : (planned : Planned) (first : ℕ) (parts : Parts) (next : Option Parts) → AreNew planned parts → RepresentsHistory planned planned first [] [] (node_of first parts next)
new_history planned first parts next new = record {
  state = opened_state planned first;
  last = no_output;
  after = (refl, refl, refl);
  stands = new_stands planned first parts next new;
  shows = new_shows planned first parts next new;
}
