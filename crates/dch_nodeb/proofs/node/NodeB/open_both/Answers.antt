use Rattle.std.specs.Prelude.{Some}
use Rattle.dch_nodeb.specs.Holding.{parts_of}
use Rattle.dch_nodeb.proofs.Opening.{new_history, new_node}
use Rattle.dch_nodeb.proofs.node.NodeB.open_both.Goals as goal

pub returns-clause-opened : goal.returns-clause-opened
returns-clause-opened c = new_node c.args.first.now c.args.first_cfn (parts_of c.in_ok-open.field-0) (Some (parts_of c.in_ok-open-2.field-0)) c.in_ok-open.ensures

pub returns-clause-stands : goal.returns-clause-stands
returns-clause-stands c = new_history c.args.first.now c.args.first_cfn (parts_of c.in_ok-open.field-0) (Some (parts_of c.in_ok-open-2.field-0)) c.in_ok-open.ensures

pub returns-clause-next : goal.returns-clause-next
returns-clause-next c = record { kept = c.requires.kept; parts = c.in_ok-open-2.ensures }
