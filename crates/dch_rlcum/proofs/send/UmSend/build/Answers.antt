use Rattle.std.proofs.Common.{◌++◌, ◌∷◌, [], ◌∙◌, sym, ap, subst, length}
use Rattle.dch_rlcum.specs.History.{IsSenderOf, texts}
use Rattle.dch_rlcum.proofs.Histories.{built_next, sender_built}
use Rattle.dch_rlcum.proofs.send.UmSend.build.Goals as goal

pub returns-clause-history : goal.returns-clause-history
returns-clause-history c = λ units cuts is. subst (IsSenderOf units (cuts ++ length units ∷ [])) (sym c.write_next.ensures.after) (sender_built units cuts c.args.self.now c.requires.due is)

pub returns-clause-next : goal.returns-clause-next
returns-clause-next c = λ units cuts is. built_next units cuts c.args.self.now is ∙ sym (ap (λ t. texts c.args.self.now.pdu c.args.self.now.mark_start units cuts ++ t ∷ []) c.write_next.ensures.text)
