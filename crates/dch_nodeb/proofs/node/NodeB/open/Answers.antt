use Rattle.std.specs.Prelude.{None}
use Rattle.dch_nodeb.specs.Holding.{parts_of}
use Rattle.dch_nodeb.proofs.Opening.{new_history, new_node}
use Rattle.dch_nodeb.proofs.node.NodeB.open.Goals as goal

pub returns-clause-opened : goal.returns-clause-opened
returns-clause-opened c = new_node c.args.accepted.now c.args.first_cfn (parts_of c.in_ok-open.field-0) None c.in_ok-open.ensures

pub returns-clause-stands : goal.returns-clause-stands
returns-clause-stands c = new_history c.args.accepted.now c.args.first_cfn (parts_of c.in_ok-open.field-0) None c.in_ok-open.ensures
