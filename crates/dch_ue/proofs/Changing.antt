-- A terminal in which another configuration becomes active.
use Rattle.std.proofs.Common.{◌≡◌, ◌∙◌, ℕ, Option, None, Some, refl, ap, sym, subst, true}
use Rattle.std.specs.Prelude.{◌%◌}
use Rattle.dch_types.specs.declared.channel.Dir.{Dir}
use Rattle.dch_types.specs.declared.config.Config.{Config}
use Rattle.dch_types.specs.Limits.{IsSide}
use Rattle.dch_config.specs.Changes.{KeepsBearer}
use Rattle.dch_accept.specs.Plans.{Planned}
use Rattle.dch_node.specs.Standing.{AreNone}
use Rattle.dch_node.specs.Values.{no_output}
use Rattle.dch_layer2.specs.Layers.{Layer, changed_layer}
use Rattle.dch_layer2.proofs.BoundedLayers.{changed_are}
use Rattle.dch_layer2.specs.Changing.{CanGoOn, IsNextLayer}
use Rattle.dch_layer2.specs.Standing.{IsSameEnd, Represents as StandsFor}
use Rattle.dch_layer2.specs.Values.{LayerRunning}
use Rattle.dch_ue.specs.Opened.{CanChange, HasNext, Holds, IsNextOf, IsNodeOf}
use Rattle.dch_ue.specs.Standing.{IsAt, Stepped}
use Rattle.dch_ue.specs.State.{Change, State, changed}
use Rattle.dch_ue.specs.Values.{DownlinkReceiver, NextParts, Node, UplinkTransmitter}
use Rattle.dch_ue.proofs.Moving.{none_shown, none_taken}
use Rattle.dch_ue.proofs.Opening.{none_goes_on}

-- what is held for a second configuration stays with its parts
pub next_kept : (first second : Planned) (old new : Node) → new.next ≡ old.next → HasNext first second old → HasNext first second new
next_kept first second old new same has = record { kept = has.kept; parts = subst (λ (parts : Option NextParts). Holds second parts) (sym same) has.parts }

pub can_still : (planned : Planned) (old new : Node) → ((p : Planned) → IsNodeOf p old → IsNodeOf p new) → new.next ≡ old.next → new.cfn ≡ old.cfn → CanChange planned old → CanChange planned new
can_still planned old new opened next cfn can = record {
  first = can.first;
  opened = opened can.first can.opened;
  next = next_kept can.first planned old new next can.next;
  whole = ap (λ n. n % 8) cfn ∙ can.whole;
}

-- the parts that are held
pub held_parts : (planned : Planned) (node : Node) (parts : NextParts) → CanChange planned node → node.next ≡ Some parts → IsNextOf planned parts
held_parts planned node parts can is = subst (λ (o : Option NextParts). Holds planned o) is can.next.parts

pub none_held : (planned : Planned) (node : Node) → CanChange planned node → node.next ≡ None → ⊥
none_held planned node can is = subst (λ (o : Option NextParts). Holds planned o) is can.next.parts

-- layer 2 goes on
pub goes_on : (planned : Planned) (node : Node) → CanChange planned node → CanGoOn planned.config node.layer
goes_on planned node can = record {
  first = can.first.config;
  layer = can.opened.layer.layer;
  stands = can.opened.layer.stands;
  keeps = can.next.kept;
}

pub next_layer : (planned : Planned) (node : Node) (parts : NextParts) → CanChange planned node → node.next ≡ Some parts → IsNextLayer planned.config node.layer.out parts.layer
next_layer planned node parts can is = subst (λ (d : Dir). IsNextLayer planned.config d parts.layer) (sym can.opened.sends) (held_parts planned node parts can is).layer

-- layer 2 stands for the same bearers in the configuration that becomes active
abbrev pub LayerGoesOn : Config → LayerRunning → LayerRunning → Type 0
LayerGoesOn config old new =
    (first : Config) (layer : Layer) → StandsFor first layer old → ((b : ℕ) → KeepsBearer first config b) → StandsFor config (changed_layer config old.out layer) new

-- the parts take the place of those for the first configuration
abbrev pub changed_node : Node → LayerRunning → NextParts → Node
changed_node node layer parts = record { cfn = node.cfn; layer = layer; receiver = parts.receiver; transmitter = parts.transmitter; next = None }

-- whatever holds of a terminal with these parts
pub changed_as : (P : Node → Type 0) (node : Node) (layer : LayerRunning) (parts : NextParts) (receiver : DownlinkReceiver) (transmitter : UplinkTransmitter) (next : Option NextParts) → receiver ≡ parts.receiver → transmitter ≡ parts.transmitter → next ≡ None
    → P (changed_node node layer parts) → P (record { cfn = node.cfn; layer = layer; receiver = receiver; transmitter = transmitter; next = next })
changed_as P node layer parts receiver transmitter next r t n holds =
    subst (λ (x : DownlinkReceiver). P (record { cfn = node.cfn; layer = layer; receiver = x; transmitter = transmitter; next = next })) (sym r)
    (subst (λ (x : UplinkTransmitter). P (record { cfn = node.cfn; layer = layer; receiver = parts.receiver; transmitter = x; next = next })) (sym t)
    (subst (λ (x : Option NextParts). P (record { cfn = node.cfn; layer = layer; receiver = parts.receiver; transmitter = parts.transmitter; next = x })) (sym n) holds))

pub changed_is : (planned : Planned) (node : Node) (layer : LayerRunning) (parts : NextParts) → IsSide planned.config.uplink.side → CanChange planned node → node.next ≡ Some parts → LayerGoesOn planned.config node.layer layer → IsSameEnd node.layer layer
    → IsNodeOf planned (changed_node node layer parts)
changed_is planned node layer parts good can is stands same =
    let held : IsNextOf planned parts = held_parts planned node parts can is in
    let old : Layer = can.opened.layer.layer in
    record {
      sends = same.sends ∙ can.opened.sends;
      receives = same.receives ∙ can.opened.receives;
      layer = record {
        layer = changed_layer planned.config node.layer.out old;
        stands = stands can.first.config old can.opened.layer.stands can.next.kept;
        bounded = changed_are can.first.config planned.config node.layer.out old can.next.kept can.opened.layer.bounded;
      };
      receiver = held.receiver;
      transmitter = held.transmitter;
      noted = λ i inside off. absurd (none_goes_on planned.config.uplink.side node.cfn i good can.whole inside off);
      last = λ (pushed : parts.receiver.pushed ≡ true). absurd (cc (sym held.none ∙ pushed));
    }

pub changed_now : (planned before : Planned) (state : State) (node : Node) (layer : LayerRunning) (parts : NextParts) → IsSide planned.config.uplink.side → CanChange planned node → node.next ≡ Some parts → LayerGoesOn planned.config node.layer layer
    → HasNext before planned node → IsAt before state node → Stepped planned state (Change planned) (changed_node node layer parts) AreNone
changed_now planned before state node layer parts good can is stands has at =
    let held : IsNextOf planned parts = held_parts planned node parts can is in
    record {
      next = changed planned state;
      output = no_output;
      step = record { state = refl; quiet = refl };
      stands = record {
        at = record {
          active = refl;
          cfn = at.cfn;
          frames = record {
            before = λ k few apart. held.missing.none k;
            last = λ (pushed : parts.receiver.pushed ≡ true). absurd (cc (sym held.none ∙ pushed));
            came = λ (pushed : parts.receiver.pushed ≡ true). absurd (cc (sym held.none ∙ pushed));
            none = λ m. refl;
          };
          layer = subst (λ (d : Dir). StandsFor planned.config (changed_layer planned.config d state.layer) layer) can.opened.sends (stands before.config state.layer at.layer has.kept);
          loaded = λ i inside off. absurd (none_goes_on planned.config.uplink.side state.cfn i good (ap (λ n. n % 8) (sym at.cfn) ∙ can.whole) inside off);
        };
        readings = λ i inside. none_taken parts.receiver.ttis i (held.ttis.each i inside);
      };
      shows = record { radio = none_shown (changed_node node layer parts) held.quiet };
      tells = refl;
    }
