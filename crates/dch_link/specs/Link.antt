-- The three nodes that run together, and the damage that waits for the next radio frame.
use Rattle.std.specs.Prelude.{ℕ, List, []}
use Rattle.dch_accept.specs.Plans.{Planned}
use Rattle.dch_damage.specs.Damage.{Damage}
use Rattle.dch_ue.specs.State.{Event as UeEvent, State as UeState, opened_state as opened_ue}
use Rattle.dch_nodeb.specs.State.{Event as NodeBEvent, State as NodeBState, opened_state as opened_node_b}
use Rattle.dch_rnc.specs.State.{Event as RncEvent, State as RncState, opened_state as opened_rnc}
use Rattle.dch_link.specs.Courses.{Course, opened_course}

-- what happened at the terminal, the Node B and the network controller, and the damage, the newest first
pub record LinkState : Type 0 where
  pub ue : Course UeState UeEvent
  pub node_b : Course NodeBState NodeBEvent
  pub rnc : Course RncState RncEvent
  pub damage : List Damage

-- at opening each node is as it is opened
abbrev pub opened_link : Planned → ℕ → LinkState
opened_link planned first = record {
  ue = opened_course (opened_ue planned first);
  node_b = opened_course (opened_node_b planned first);
  rnc = opened_course (opened_rnc planned first);
  damage = [];
}

-- the configuration that is active
abbrev pub active : LinkState → Planned
active link = link.rnc.state.planned
