-- A second configuration that becomes active.
use Rattle.std.proofs.Common.{◌≡◌, ◌∙◌, refl, ap, sym, subst, Option, Some, None}
use Rattle.std.specs.Prelude.{option_map}
use Rattle.dch_accept.specs.Plans.{Planned}
use Rattle.dch_node.specs.Standing.{AreNone}
use Rattle.dch_node.specs.Values.{no_output}
use Rattle.dch_nodeb.specs.Opened.{AreNew, CanChange, HasNext, Holds, IsNodeOf}
use Rattle.dch_nodeb.specs.Standing.{Represents, Stepped}
use Rattle.dch_nodeb.specs.State.{Change, State, changed, opened_state}
use Rattle.dch_nodeb.specs.Holding.{parts_of}
use Rattle.dch_nodeb.specs.Values.{Node, Parts, node_of}
use Rattle.dch_nodeb.specs.declared.parts.Parts.{Parts as PartsHeld}
use Rattle.dch_nodeb.proofs.Opening.{new_shows, new_stands}

-- what a Node B holds for a second configuration stays where nothing else becomes of it
pub next_kept : (first second : Planned) (old new : Node) → new.next ≡ old.next → HasNext first second old → HasNext first second new
next_kept first second old new same has = record { kept = has.kept; parts = subst (λ (o : Option Parts). Holds second o) (sym same) has.parts }

pub can_kept : (planned : Planned) (old new : Node) → ((p : Planned) → IsNodeOf p old → IsNodeOf p new) → new.next ≡ old.next → CanChange planned old → CanChange planned new
can_kept planned old new opened same can = record { first = can.first; opened = opened can.first can.opened; next = next_kept can.first planned old new same can.next }

-- the parts that are held, as they are taken; and something is
pub held_as : (first second : Planned) (node : Node) (next : Option Parts) → HasNext first second node → next ≡ node.next → Holds second next
held_as first second node next has same = subst (λ (o : Option Parts). Holds second o) (sym same) has.parts

pub held_new : (first second : Planned) (node : Node) (next held : Option PartsHeld) (one : PartsHeld) → HasNext first second node → node.next ≡ option_map parts_of next → held ≡ next → held ≡ Some one → AreNew second (parts_of one)
held_new first second node next held one has view was is =
    held_as first second node (Some (parts_of one)) has (ap (λ (o : Option PartsHeld). option_map parts_of o) (sym is ∙ was) ∙ sym view)

pub some_held : (first second : Planned) (node : Node) (next held : Option PartsHeld) → HasNext first second node → node.next ≡ option_map parts_of next → held ≡ next → held ≡ None → ⊥
some_held first second node next held has view was is =
    held_as first second node None has (ap (λ (o : Option PartsHeld). option_map parts_of o) (sym is ∙ was) ∙ sym view)

-- the step of a change
pub changes : (planned before : Planned) (state : State) (node : Node) (parts : Parts) → AreNew planned parts → Represents before state node
    → Stepped planned state (Change planned) (node_of node.cfn parts None) AreNone
changes planned before state node parts new stands = record {
  next = changed planned state;
  output = no_output;
  step = record { state = refl; quiet = refl };
  stands = subst (λ cfn. Represents planned (opened_state planned cfn) (node_of node.cfn parts None)) stands.cfn (new_stands planned node.cfn parts None new);
  shows = new_shows planned node.cfn parts None new;
  tells = refl;
}
