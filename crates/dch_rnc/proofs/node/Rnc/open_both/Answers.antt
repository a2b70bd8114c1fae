use Rattle.std.specs.Prelude.{Some}
use Rattle.dch_rnc.specs.Holding.{next_of, parts_of}
use Rattle.dch_rnc.proofs.Opening.{opened_is, opened_stands}
use Rattle.dch_rnc.proofs.node.Rnc.open_both.Goals as goal

pub returns-clause-opened : goal.returns-clause-opened
returns-clause-opened c =
    opened_is c.args.first.now c.args.first_cfn c.in_ok-open.field-0 (parts_of c.in_ok-open-2.field-0) (Some (next_of c.in_ok-open-3.field-0)) c.in_ok-open.ensures c.in_ok-open-2.ensures

pub returns-clause-stands : goal.returns-clause-stands
returns-clause-stands c =
    opened_stands c.args.first.now c.args.first_cfn c.in_ok-open.field-0 (parts_of c.in_ok-open-2.field-0) (Some (next_of c.in_ok-open-3.field-0)) c.in_ok-open.ensures c.in_ok-open-2.ensures

pub returns-clause-next : goal.returns-clause-next
returns-clause-next c = record { kept = c.requires.kept; parts = c.in_ok-open-3.ensures }
