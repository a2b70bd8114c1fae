use Rattle.dch_handle.proofs.ue.UeSessionNode.change.Goals as goal

pub returns-clause-goes : goal.returns-clause-goes
returns-clause-goes g c = λ before next. record {
  step = λ state stands. c.step_with.ensures.step before state next stands;
  history = λ began first events lines was. c.step_with.ensures.history began before first events lines next was;
}
