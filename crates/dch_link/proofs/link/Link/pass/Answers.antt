use Rattle.dch_node.specs.Standing.{Tells}
use Rattle.dch_link.specs.Stages.{AtStage}
use Rattle.dch_link.proofs.Cfns.{pass_cfn}
use Rattle.dch_link.proofs.Nexts.{still}
use Rattle.dch_link.proofs.link.Link.pass.Goals as goal

pub returns-clause-opened : goal.returns-clause-opened
returns-clause-opened g c =
    still c.args.accepted.now (AtStage c.args.stage) c.args.self.now c.run_stage.new.self (Tells g.U.Indications.shows c.args.user.now c.run_stage.new.user) c.requires.opened c.run_stage.ensures.opened c.run_stage.ensures.passes

pub returns-clause-cfn : goal.returns-clause-cfn
returns-clause-cfn g c =
    pass_cfn c.args.accepted.now c.args.stage c.args.self.now c.run_stage.new.self (Tells g.U.Indications.shows c.args.user.now c.run_stage.new.user) c.requires.opened c.run_stage.ensures.passes
