-- What is compared of the nodes is what they stand for.
use Rattle.std.proofs.Common.{◌≡◌, ◌<◌, ◌∙◌, ℕ, length, refl, ap, sym, subst, List}
use Rattle.dch_types.specs.declared.channel.Dir.{Dir}
use Rattle.dch_types.specs.declared.channel.Dir.TheVariants.{Up, Down}
use Rattle.dch_types.specs.Parts.{side_of}
use Rattle.dch_accept.specs.HeldSets.{held_at}
use Rattle.dch_accept.specs.Plans.{Planned}
use Rattle.dch_node.specs.Lines.{Line}
use Rattle.dch_layer2.specs.Layers.{Layer}
use Rattle.dch_layer2.specs.Opening.{blocks_in}
use Rattle.dch_layer2.specs.Reading.{Bad, Nothing, Read, Reading}
use Rattle.dch_layer2.specs.Standing.{Represents as LayerStands}
use Rattle.dch_layer2.specs.Values.{LayerRunning}
use Rattle.dch_ue.specs.Values.{blocks_read as ue_read, taken_shown as ue_taken}
use Rattle.dch_rnc.specs.Standing.{blocks_read as rnc_read}
use Rattle.dch_rnc.specs.Values.{taken_shown as rnc_taken}
use Rattle.dch_link.specs.Checks.{good_in}
use Rattle.dch_link.specs.Comparing.{ComparesAll, good_of}
use Rattle.dch_link.specs.Link.{LinkState}
use Rattle.dch_link.specs.LinkNodes.{AreNodesOf, Represents}
use Rattle.dch_link.specs.Values.{Nodes}
use Rattle.dch_link.proofs.Reporting.{checked-same}

ue_good : (reading : Reading) → good_of (ue_read reading) ≡ good_in reading
ue_good Nothing = refl
ue_good (Read held) = refl
ue_good (Bad frame) = refl

rnc_good : (reading : Reading) → good_of (rnc_read reading) ≡ good_in reading
rnc_good Nothing = refl
rnc_good (Read held) = refl
rnc_good (Bad frame) = refl

-- the blocks that a layer 2 gave to a channel
given_is : (planned : Planned) (out : Dir) (layer : Layer) (running : LayerRunning) (i : ℕ) → running.out ≡ out → LayerStands planned.config layer running → i < length (side_of planned.config out).channels → blocks_in (held_at running.given i) ≡ (layer.given i).blocks
given_is planned out layer running i sends is inside = (is.given i (subst (λ (d : Dir). i < length (side_of planned.config d).channels) (sym sends) inside)).blocks

pub compared_down : (began planned : Planned) (first : ℕ) (link : LinkState) (nodes : Nodes) (Says : List Line → Type 0) → AreNodesOf planned nodes → Represents began planned first link nodes
    → ComparesAll Down (λ i. good_of (ue_taken nodes.ue i)) (λ i. blocks_in (held_at nodes.rnc.layer.given i)) (length planned.config.downlink.side.channels) Says
    → ComparesAll Down (λ i. good_in (link.ue.state.readings i)) (λ i. (link.rnc.state.layer.given i).blocks) (length planned.config.downlink.side.channels) Says
compared_down began planned first link nodes Says opened is all = record {
  lines = all.lines;
  checked = checked-same Down (λ i. good_of (ue_taken nodes.ue i)) (λ i. blocks_in (held_at nodes.rnc.layer.given i)) (λ i. good_in (link.ue.state.readings i)) (λ i. (link.rnc.state.layer.given i).blocks) (length planned.config.downlink.side.channels) all.lines
      (λ i inside. ap good_of (is.ue.stands.readings i inside) ∙ ue_good (link.ue.state.readings i)) (λ i inside. given_is planned Down link.rnc.state.layer nodes.rnc.layer i opened.rnc.sends is.rnc.stands.at.layer inside) all.checked;
  tells = all.tells;
}

pub compared_up : (began planned : Planned) (first : ℕ) (link : LinkState) (nodes : Nodes) (Says : List Line → Type 0) → AreNodesOf planned nodes → Represents began planned first link nodes
    → ComparesAll Up (λ i. good_of (rnc_taken nodes.rnc i)) (λ i. blocks_in (held_at nodes.ue.layer.given i)) (length planned.config.uplink.side.channels) Says
    → ComparesAll Up (λ i. good_in (link.rnc.state.readings i)) (λ i. (link.ue.state.layer.given i).blocks) (length planned.config.uplink.side.channels) Says
compared_up began planned first link nodes Says opened is all = record {
  lines = all.lines;
  checked = checked-same Up (λ i. good_of (rnc_taken nodes.rnc i)) (λ i. blocks_in (held_at nodes.ue.layer.given i)) (λ i. good_in (link.rnc.state.readings i)) (λ i. (link.ue.state.layer.given i).blocks) (length planned.config.uplink.side.channels) all.lines
      (λ i inside. ap good_of (is.rnc.stands.readings i inside) ∙ rnc_good (link.rnc.state.readings i)) (λ i inside. given_is planned Up link.ue.state.layer nodes.ue.layer i opened.ue.sends is.ue.stands.at.layer inside) all.checked;
  tells = all.tells;
}
