use Rattle.dch_stages.specs.Rules.{opened}
use Rattle.dch_stages.proofs.Steps.{begun_stands}
use Rattle.dch_stages.proofs.handler.StagesHandler.open.Goals as goal

pub returns-clause-ready : goal.returns-clause-ready
returns-clause-ready c = record {
  showing = c.in_ok-showing.ensures.showing_is;
  rooms = c.in_ok-rooms.ensures;
  state = opened c.args.accepted;
  stands = begun_stands c.args.accepted _ c.in_ok-showing.ensures;
}

pub returns-clause-stands : goal.returns-clause-stands
returns-clause-stands c = begun_stands c.args.accepted _ c.in_ok-showing.ensures
