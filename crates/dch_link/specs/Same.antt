-- Two states of three nodes that run together that say the same.
use Rattle.std.specs.Prelude.{◌≡◌}
use Rattle.dch_accept.specs.Plans.{IsPlanned}
use Rattle.dch_node.specs.Outputs.{IsSameOutput}
use Rattle.dch_ue.specs.Same.{IsSameState as IsSameUe}
use Rattle.dch_nodeb.specs.Same.{IsSameState as IsSameNodeB}
use Rattle.dch_rnc.specs.Same.{IsSameState as IsSameRnc}
use Rattle.dch_link.specs.Courses.{Course}
use Rattle.dch_link.specs.Link.{LinkState}

-- the states of a node say the same, and so do the outputs of its last steps
pub record IsSameCourse {S E : Type 0} (IsSame : S → S → Type 0) (course other : Course S E) : Type 0 where
  pub state : IsSame course.state other.state
  pub last : IsSameOutput course.last other.last

-- and so at each node, and the damage that waits is the same
pub record IsSameLink (link other : LinkState) : Type 0 where
  pub ue : IsSameCourse IsSameUe link.ue other.ue
  pub node_b : IsSameCourse IsSameNodeB link.node_b other.node_b
  pub rnc : IsSameCourse IsSameRnc link.rnc other.rnc
  pub damage : other.damage ≡ link.damage

-- the configurations that are active at the terminal and at the Node B can be accepted
pub record ArePlanned (link : LinkState) : Type 0 where
  pub ue : IsPlanned link.ue.state.planned
  pub node_b : IsPlanned link.node_b.state.planned
