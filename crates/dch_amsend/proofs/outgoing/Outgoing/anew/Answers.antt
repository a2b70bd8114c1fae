use Rattle.std.proofs.Common.{◌-◌, ◌<◌, ◌∙◌, ap, length, subst, sym}
use Rattle.dch_am.specs.Building.{New, after_choice, anew}
use Rattle.dch_retx.specs.RetxBuffer.{number_at}
use Rattle.dch_amsend.specs.TxBuffer.{TxBuffer}
use Rattle.dch_amsend.specs.Outgoing.{IsOutgoing, IsRunning, Outgoing}
use Rattle.dch_amsend.proofs.Events.{Built, IsFilled, low_next, new_goes, new_here, new_stands, size_same}
use Rattle.dch_amsend.proofs.outgoing.Outgoing.anew.Goals as goal

pub write-requires-clause-here : goal.write-requires-clause-here
write-requires-clause-here c =
    let v : Outgoing = record { size = c.self.inside.size; line = c.self.inside.line; tx_buffer = c.self.inside.tx_buffer } in
    let run : IsRunning v = c.self.invariant in
    let both = c.build-pdu.ensures.history (c.self.inside.size - 2) run.sender run.stands.tx_buffer run.stands.cut (low_next run.rules (c.self.inside.size - 2) v.line run.sender run.stands.line) in
    new_here run.rules (c.self.inside.size - 2) v run.sender c.build-pdu.result c.build-pdu.new.self run.stands (record { fresh = c.build-pdu.ensures.taken; has = both.0; takes = both.1; keeps = both.2; after = c.build-pdu.ensures.after })

pub write-requires-clause-size : goal.write-requires-clause-size
write-requires-clause-size c =
    let v : Outgoing = record { size = c.self.inside.size; line = c.self.inside.line; tx_buffer = c.self.inside.tx_buffer } in
    let run : IsRunning v = c.self.invariant in
    let next_size = sym (size_same v run) ∙ ap (λ (w : TxBuffer). w.size) (sym c.build-pdu.ensures.after) in
    c.requires.size ∙ (ap (λ (x : Outgoing). x.size) (sym c.self.view_is) ∙ next_size)

pub invariant_of-self : goal.invariant_of-self
invariant_of-self c =
    let v : Outgoing = record { size = c.self.inside.size; line = c.self.inside.line; tx_buffer = c.self.inside.tx_buffer } in
    let run : IsRunning v = c.self.invariant in
    let both = c.build-pdu.ensures.history (c.self.inside.size - 2) run.sender run.stands.tx_buffer run.stands.cut (low_next run.rules (c.self.inside.size - 2) v.line run.sender run.stands.line) in
    let filled : IsFilled (c.self.inside.size - 2) v run.sender c.build-pdu.result c.build-pdu.new.self = record { fresh = c.build-pdu.ensures.taken; has = both.0; takes = both.1; keeps = both.2; after = c.build-pdu.ensures.after } in
    record {
      from = run.from;
      most = run.most;
      rules = run.rules;
      sender = after_choice New run.rules (c.self.inside.size - 2) run.sender;
      stands = new_stands run.rules (c.self.inside.size - 2) v run.sender c.build-pdu.result c.build-pdu.new.self c.push-poll.new.self c.is_left-left.result
          (subst (λ (x : Outgoing). length x.line.in_flight < x.line.window) (sym c.self.view_is) c.requires.room)
          run.stands filled
          (c.is_left-left.ensures.history (c.self.inside.size - 2) (anew (c.self.inside.size - 2) run.sender) both.2)
          c.push-poll.ensures.after;
    }

pub returns-clause-history : goal.returns-clause-history
returns-clause-history c = λ rules d s is.
    let v : Outgoing = record { size = c.self.inside.size; line = c.self.inside.line; tx_buffer = c.self.inside.tx_buffer } in
    let here : IsOutgoing rules d v s = subst (λ x. IsOutgoing rules d x s) (sym c.self.view_is) is in
    let both = c.build-pdu.ensures.history d s here.tx_buffer here.cut (low_next rules d v.line s here.line) in
    let filled : IsFilled d v s c.build-pdu.result c.build-pdu.new.self = record { fresh = c.build-pdu.ensures.taken; has = both.0; takes = both.1; keeps = both.2; after = c.build-pdu.ensures.after } in
    let b : Built rules d s c.write.new.out _ New =
    new_goes rules d v s c.build-pdu.result c.build-pdu.new.self c.push-poll.new.self c.is_left-left.result c.push-poll.result c.number_at-number.result c.write.new.out
    (subst (λ (x : Outgoing). length x.line.in_flight < x.line.window) (sym c.self.view_is) c.requires.room)
    here filled
    (c.number_at-number.ensures.number ∙ ap (λ n. number_at n c.self.inside.line) c.len.ensures.count)
    (c.is_left-left.ensures.history d (anew d s) both.2)
    c.push-poll.ensures.poll
    c.push-poll.ensures.after
    c.write.ensures
    in
    (b.text, b.goes, b.short)
