use Rattle.std.proofs.Common.{◌+◌, ◌-◌, ◌<◌, ◌∙◌, ap, length, subst, sym}
use Rattle.dch_am.specs.Building.{Again, after_choice}
use Rattle.dch_am.specs.Sender.{vt_a}
use Rattle.dch_retx.specs.declared.sent_pdu.SentPdu.{SentPdu}
use Rattle.dch_amsend.specs.TxBuffer.{IsHere}
use Rattle.dch_retx.specs.RetxBuffer.{RetxBuffer}
use Rattle.dch_amsend.specs.Outgoing.{IsOutgoing, IsRunning, Outgoing, with_line}
use Rattle.dch_amsend.proofs.Events.{again_stands, place_here, size_same}
use Rattle.dch_amsend.proofs.outgoing.Outgoing.again.Goals as goal

pub write-requires-clause-here : goal.write-requires-clause-here
write-requires-clause-here c =
    let v : Outgoing = record { size = c.self.inside.size; line = c.self.inside.line; tx_buffer = c.self.inside.tx_buffer } in
    let run : IsRunning v = c.self.invariant in
    subst (λ (f : SentPdu). IsHere c.self.inside.tx_buffer f) (sym c.at-pdu.ensures) (place_here run.rules (c.self.inside.size - 2) v run.sender c.args.place (subst (λ (x : Outgoing). c.args.place < length x.line.in_flight) (sym c.self.view_is) c.requires.place) run.stands)

pub write-requires-clause-size : goal.write-requires-clause-size
write-requires-clause-size c =
    let v : Outgoing = record { size = c.self.inside.size; line = c.self.inside.line; tx_buffer = c.self.inside.tx_buffer } in
    let run : IsRunning v = c.self.invariant in
    c.requires.size ∙ (ap (λ (x : Outgoing). x.size) (sym c.self.view_is) ∙ sym (size_same v run))

pub invariant_of-self : goal.invariant_of-self
invariant_of-self c =
    let v : Outgoing = record { size = c.self.inside.size; line = c.self.inside.line; tx_buffer = c.self.inside.tx_buffer } in
    let run : IsRunning v = c.self.invariant in
    record {
      from = run.from;
      most = run.most;
      rules = run.rules;
      sender = after_choice (Again (vt_a run.sender + c.args.place)) run.rules (c.self.inside.size - 2) run.sender;
      stands = subst (λ (l : RetxBuffer). IsOutgoing run.rules (c.self.inside.size - 2) (with_line l v) (after_choice (Again (vt_a run.sender + c.args.place)) run.rules (c.self.inside.size - 2) run.sender)) (sym c.again-poll.ensures.after)
          (again_stands run.rules (c.self.inside.size - 2) v run.sender c.args.place (subst (λ (x : Outgoing). c.args.place < length x.line.in_flight) (sym c.self.view_is) c.requires.place) run.stands);
    }
