use Rattle.dch_nodecmd.proofs.node_b.NodeBCommandNode.change.Goals as goal

pub returns-clause-steps : goal.returns-clause-steps
returns-clause-steps g c = λ first state stands next. c.step_with.ensures.step first state next stands
