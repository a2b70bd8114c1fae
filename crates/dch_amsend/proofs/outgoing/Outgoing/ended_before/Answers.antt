use Rattle.std.proofs.Common.{◌-◌, ◌<◌, ◌∙◌, Some, ap, length, subst, sym}
use Rattle.dch_retx.specs.declared.sent_pdu.SentPdu.{SentPdu}
use Rattle.dch_amsend.specs.TxBuffer.{ended_before}
use Rattle.dch_amsend.specs.Scanning.{ends_below}
use Rattle.dch_amsend.specs.Outgoing.{IsRunning, Outgoing}
use Rattle.dch_amsend.proofs.Due.{ended_below}
use Rattle.dch_amsend.proofs.outgoing.Outgoing.ended_before.Goals as goal

pub returns-clause-value : goal.returns-clause-value
returns-clause-value c =
    let v : Outgoing = record { size = c.self.inside.size; line = c.self.inside.line; tx_buffer = c.self.inside.tx_buffer } in
    let run : IsRunning v = c.self.invariant in
    c.ended_before.ensures ∙ (ap (λ (f : SentPdu). ended_before (Some f) c.self.inside.tx_buffer) c.at.ensures
    ∙ (ended_below run.rules (c.self.inside.size - 2) v run.sender c.args.place (subst (λ (x : Outgoing). c.args.place < length x.line.in_flight) (sym c.self.view_is) c.requires) run.stands
    ∙ ap (λ (x : Outgoing). ends_below c.args.place x.line.in_flight) c.self.view_is))
