use Rattle.std.proofs.Common.{◌≡◌, ◌-◌, ◌∷◌, ◌∙◌, Some, ap, ap₂, subst, sym, true}
use Rattle.dch_am.specs.Discards.{after_moving}
use Rattle.dch_am.specs.Numbers.{wrapped}
use Rattle.dch_retx.specs.RetxBuffer.{RetxBuffer, is_due}
use Rattle.dch_retx.proofs.Ticking.{due_is}
use Rattle.dch_rlcpdu.specs.Fields.{mrw_fields}
use Rattle.dch_rlcpdu.specs.Writing.{IsText, mrw_text}
use Rattle.dch_amsend.specs.Outgoing.{IsOutgoing, IsRunning, Outgoing}
use Rattle.dch_amsend.proofs.Events.{mrw_goes, mrw_runs}
use Rattle.dch_amsend.proofs.outgoing.Outgoing.write_mrw.Goals as goal

pub invariant_of-self : goal.invariant_of-self
invariant_of-self c =
    let v : Outgoing = record { size = c.self.inside.size; line = c.self.inside.line; tx_buffer = c.self.inside.tx_buffer } in
    let run : IsRunning v = c.self.invariant in
    let due : is_due c.self.inside.line.running ≡ true = subst (λ (x : Outgoing). is_due x.line.running ≡ true) (sym c.self.view_is) c.requires.due in
    record {
      from = run.from;
      most = run.most;
      rules = run.rules;
      sender = after_moving run.rules run.sender run.sender.discard;
      stands = mrw_runs run.rules (c.self.inside.size - 2) v run.sender c.write_mrw-2.new.self (sym (due_is run.rules c.self.inside.line run.sender run.stands.line) ∙ due) (ap (λ (l : RetxBuffer). l.in_flight) c.write_mrw-2.ensures.after) run.stands (λ x e. c.write_mrw-2.ensures.history run.rules run.sender x run.stands.line e);
    }

pub returns-clause-history : goal.returns-clause-history
returns-clause-history c = λ rules d s x is e.
    let v : Outgoing = record { size = c.self.inside.size; line = c.self.inside.line; tx_buffer = c.self.inside.tx_buffer } in
    let here : IsOutgoing rules d v s = subst (λ y. IsOutgoing rules d y s) (sym c.self.view_is) is in
    let told = c.mrw-place.ensures.history rules s x here.line e in
    let sn : c.place.inside.sn ≡ wrapped x.k = ap (λ p. p.0) c.place.view_is ∙ told.0 in
    let n : c.place.inside.n ≡ x.n = ap (λ p. p.1) c.place.view_is ∙ told.1 in (
      subst (λ k. IsText c.write_mrw.new.out (0 ∷ mrw_text k x.n)) sn (subst (λ m. IsText c.write_mrw.new.out (0 ∷ mrw_text c.place.inside.sn m)) n c.write_mrw.ensures.text),
      c.write_mrw.ensures.back ∙ ap₂ (λ k m. Some (mrw_fields k m)) sn n,
      mrw_goes rules d v s x c.write_mrw-2.new.self (ap (λ (l : RetxBuffer). l.in_flight) c.write_mrw-2.ensures.after) here (c.write_mrw-2.ensures.history rules s x here.line e),
    )
