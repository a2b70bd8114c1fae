-- A second configuration that becomes active.
use Rattle.std.proofs.Common.{◌≡◌, ◌∙◌, ℕ, refl, ap, sym, subst, Option, Some, None}
use Rattle.std.specs.Prelude.{option_map}
use Rattle.dch_types.specs.declared.channel.Dir.{Dir}
use Rattle.dch_types.specs.declared.channel.Dir.TheVariants.{Down}
use Rattle.dch_types.specs.declared.config.Config.{Config}
use Rattle.dch_config.specs.Changes.{KeepsBearer}
use Rattle.dch_accept.specs.Plans.{Planned}
use Rattle.dch_node.specs.Values.{no_output}
use Rattle.dch_layer2.specs.Layers.{Layer, changed_layer}
use Rattle.dch_layer2.specs.Standing.{IsSameEnd, Represents as StandsFor}
use Rattle.dch_layer2.specs.Values.{LayerRunning}
use Rattle.dch_layer2.proofs.BoundedLayers.{changed_are}
use Rattle.dch_node.specs.Standing.{AreNone}
use Rattle.dch_rnc.specs.Opened.{AreNew, CanChange, HasNext, Holds, IsNext, IsNodeOf}
use Rattle.dch_rnc.specs.Standing.{IsAt, NothingShown, Stepped}
use Rattle.dch_rnc.specs.State.{Change, State, changed}
use Rattle.dch_rnc.specs.Holding.{next_of}
use Rattle.dch_rnc.specs.Values.{Next, Node, Parts, node_of}
use Rattle.dch_rnc.specs.declared.parts.Next.{Next as NextHeld}

-- what a network controller holds for a second configuration stays where nothing else becomes of it
pub next_kept : (first second : Planned) (old new : Node) → new.next ≡ old.next → HasNext first second old → HasNext first second new
next_kept first second old new same has = record { kept = has.kept; parts = subst (λ (o : Option Next). Holds second o) (sym same) has.parts }

pub can_kept : (planned : Planned) (old new : Node) → ((p : Planned) → IsNodeOf p old → IsNodeOf p new) → new.next ≡ old.next → CanChange planned old → CanChange planned new
can_kept planned old new opened same can = record { first = can.first; opened = opened can.first can.opened; next = next_kept can.first planned old new same can.next }

-- what that is held, as it is taken; and something is
pub held_as : (first second : Planned) (node : Node) (next : Option Next) → HasNext first second node → next ≡ node.next → Holds second next
held_as first second node next has same = subst (λ (o : Option Next). Holds second o) (sym same) has.parts

pub held_new : (first second : Planned) (node : Node) (next held : Option NextHeld) (one : NextHeld) → HasNext first second node → node.next ≡ option_map next_of next → held ≡ next → held ≡ Some one → IsNext second (next_of one)
held_new first second node next held one has view was is =
    held_as first second node (Some (next_of one)) has (ap (λ (o : Option NextHeld). option_map next_of o) (sym is ∙ was) ∙ sym view)

pub some_held : (first second : Planned) (node : Node) (next held : Option NextHeld) → HasNext first second node → node.next ≡ option_map next_of next → held ≡ next → held ≡ None → ⊥
some_held first second node next held has view was is =
    held_as first second node None has (ap (λ (o : Option NextHeld). option_map next_of o) (sym is ∙ was) ∙ sym view)

-- layer 2 goes on in the second configuration, whatever it stands for
abbrev pub GoesOn : Planned → LayerRunning → LayerRunning → Type 0
GoesOn planned old new =
    (first : Config) (layer : Layer) → StandsFor first layer old → ((b : ℕ) → KeepsBearer first planned.config b) → StandsFor planned.config (changed_layer planned.config old.out layer) new

-- the network controller is one of the second configuration then
pub changed_is : (first planned : Planned) (node : Node) (layer : LayerRunning) (parts : Parts) → IsNodeOf first node → ((b : ℕ) → KeepsBearer first.config planned.config b) → IsSameEnd node.layer layer
    → GoesOn planned node.layer layer → AreNew planned parts → IsNodeOf planned (node_of node.cfn layer node.read parts None)
changed_is first planned node layer parts opened kept same goes new =
    let old : Layer = opened.layer.layer in
    record {
      sends = same.sends ∙ opened.sends;
      receives = same.receives ∙ opened.receives;
      layer = record {
        layer = changed_layer planned.config node.layer.out old;
        stands = goes first.config old opened.layer.stands kept;
        bounded = changed_are first.config planned.config node.layer.out old kept opened.layer.bounded;
      };
      channel_sets = new.channel_sets;
      rx_sets = record { all = new.rx_sets.all; each = new.rx_sets.each };
      tx_buffers = record { all = new.tx_buffers.all; each = new.tx_buffers.each };
    }

-- the step of a change
pub changes : (before planned : Planned) (state : State) (node : Node) (layer : LayerRunning) (parts : Parts) → NothingShown node → IsAt before state node → node.layer.out ≡ Down
    → ((b : ℕ) → KeepsBearer before.config planned.config b) → GoesOn planned node.layer layer → AreNew planned parts → Stepped planned state (Change planned) (node_of node.cfn layer node.read parts None) AreNone
changes before planned state node layer parts quiet at down kept goes new = record {
  next = changed planned state;
  output = no_output;
  step = record { state = refl; quiet = refl };
  stands = record {
    at = record {
      active = refl;
      cfn = at.cfn;
      layer = subst (λ (d : Dir). StandsFor planned.config (changed_layer planned.config d state.layer) layer) down (goes before.config state.layer at.layer kept);
    };
    readings = λ i inside. rw quiet.read refl;
  };
  shows = record { iub = λ s few. new.tx_buffers.quiet s few };
  tells = refl;
}
