use Rattle.std.proofs.Common.{◌-◌, ◌∙◌, ap, arith, length, length-drop, subst, sym}
use Rattle.dch_am.specs.Restart.{restarted_sender}
use Rattle.dch_retx.specs.RetxBuffer.{RetxBuffer}
use Rattle.dch_amsend.specs.TxBuffer.{TxBuffer, begun_in}
use Rattle.dch_amsend.specs.Outgoing.{IsOutgoing, IsRunning, Outgoing}
use Rattle.dch_amsend.proofs.Events.{restart_goes}
use Rattle.dch_amsend.proofs.outgoing.Outgoing.restart.Goals as goal

pub invariant_of-self : goal.invariant_of-self
invariant_of-self c =
    let v : Outgoing = record { size = c.self.inside.size; line = c.self.inside.line; tx_buffer = c.self.inside.tx_buffer } in
    let run : IsRunning v = c.self.invariant in
    let waits = c.restart-2.ensures.history (c.self.inside.size - 2) run.sender run.stands.tx_buffer run.stands.cut in
    record {
      from = run.from;
      most = run.most;
      rules = run.rules;
      sender = restarted_sender run.sender;
      stands = restart_goes run.rules (c.self.inside.size - 2) v run.sender c.restart.new.self c.restart-2.new.self (ap (λ (l : RetxBuffer). length l.in_flight) c.restart.ensures.after) (ap (λ (w : TxBuffer). w.blocks) c.restart-2.ensures.after) run.stands (c.restart.ensures.history run.rules run.sender run.stands.line) waits.1;
    }

pub returns-clause-history : goal.returns-clause-history
returns-clause-history c = λ rules d s is.
    let v : Outgoing = record { size = c.self.inside.size; line = c.self.inside.line; tx_buffer = c.self.inside.tx_buffer } in
    let here : IsOutgoing rules d v s = subst (λ x. IsOutgoing rules d x s) (sym c.self.view_is) is in
    let waits = c.restart-2.ensures.history d s here.tx_buffer here.cut in
    (waits.0, restart_goes rules d v s c.restart.new.self c.restart-2.new.self (ap (λ (l : RetxBuffer). length l.in_flight) c.restart.ensures.after) (ap (λ (w : TxBuffer). w.blocks) c.restart-2.ensures.after) here (c.restart.ensures.history rules s here.line) waits.1)

pub returns-clause-blocks : goal.returns-clause-blocks
returns-clause-blocks c = ap (λ (w : TxBuffer). w.blocks) c.restart-2.ensures.after ∙ ap (λ (x : Outgoing). x.tx_buffer.blocks) c.self.view_is

pub returns-clause-few : goal.returns-clause-few
returns-clause-few c = omega (arith, ap (λ (w : TxBuffer). length w.sdus) c.restart-2.ensures.after, length-drop (begun_in c.self.inside.tx_buffer) c.self.inside.tx_buffer.sdus, ap (λ (x : Outgoing). length x.tx_buffer.sdus) c.self.view_is)
