use Rattle.std.proofs.Common.{◌≡◌, ◌+◌, ◌-◌, ◌<◌, ◌∙◌, ap, arith, false, length, subst, sym}
use Rattle.dch_am.specs.Building.{Last, after_choice}
use Rattle.dch_am.specs.Numbers.{has}
use Rattle.dch_am.specs.Sender.{vt_a, vt_s}
use Rattle.dch_retx.specs.declared.sent_pdu.SentPdu.{SentPdu}
use Rattle.dch_amsend.specs.TxBuffer.{IsHere}
use Rattle.dch_retx.specs.RetxBuffer.{RetxBuffer}
use Rattle.dch_amsend.specs.Outgoing.{IsLast, IsOutgoing, IsRunning, Outgoing, with_line}
use Rattle.dch_amsend.proofs.Counting.{last_is, last_not}
use Rattle.dch_amsend.proofs.Events.{last_stands, place_here, size_same}
use Rattle.dch_amsend.proofs.outgoing.Outgoing.last.Goals as goal

pub number_at-number-requires : goal.number_at-number-requires
number_at-number-requires c =
    let last : IsLast c.self.inside.line c.args.place = subst (λ (x : Outgoing). IsLast x.line c.args.place) (sym c.self.view_is) c.requires.last in
    omega (arith, last.place_is, last.some)

pub at-pdu-requires : goal.at-pdu-requires
at-pdu-requires c =
    let last : IsLast c.self.inside.line c.args.place = subst (λ (x : Outgoing). IsLast x.line c.args.place) (sym c.self.view_is) c.requires.last in
    omega (arith, last.place_is, last.some)

pub last-poll-requires : goal.last-poll-requires
last-poll-requires c =
    let last : IsLast c.self.inside.line c.args.place = subst (λ (x : Outgoing). IsLast x.line c.args.place) (sym c.self.view_is) c.requires.last in
    omega (arith, last.place_is, last.some)

pub write-requires-clause-here : goal.write-requires-clause-here
write-requires-clause-here c =
    let v : Outgoing = record { size = c.self.inside.size; line = c.self.inside.line; tx_buffer = c.self.inside.tx_buffer } in
    let run : IsRunning v = c.self.invariant in
    let last : IsLast c.self.inside.line c.args.place = subst (λ (x : Outgoing). IsLast x.line c.args.place) (sym c.self.view_is) c.requires.last in
    let inside : c.args.place < length c.self.inside.line.in_flight = omega (arith, last.place_is, last.some) in
    subst (λ (f : SentPdu). IsHere c.self.inside.tx_buffer f) (sym c.at-pdu.ensures) (place_here run.rules (c.self.inside.size - 2) v run.sender c.args.place inside run.stands)

pub write-requires-clause-size : goal.write-requires-clause-size
write-requires-clause-size c =
    let v : Outgoing = record { size = c.self.inside.size; line = c.self.inside.line; tx_buffer = c.self.inside.tx_buffer } in
    let run : IsRunning v = c.self.invariant in
    c.requires.size ∙ (ap (λ (x : Outgoing). x.size) (sym c.self.view_is) ∙ sym (size_same v run))

pub invariant_of-self : goal.invariant_of-self
invariant_of-self c =
    let v : Outgoing = record { size = c.self.inside.size; line = c.self.inside.line; tx_buffer = c.self.inside.tx_buffer } in
    let run : IsRunning v = c.self.invariant in
    let last : IsLast c.self.inside.line c.args.place = subst (λ (x : Outgoing). IsLast x.line c.args.place) (sym c.self.view_is) c.requires.last in
    let inside : c.args.place < length c.self.inside.line.in_flight = omega (arith, last.place_is, last.some) in
    let number : vt_a run.sender + c.args.place ≡ vt_s run.sender - 1 = ap (λ k. vt_a run.sender + k) last.place_is ∙ last_is run.rules c.self.inside.line run.sender last.some run.stands.line in
    let none : has (vt_a run.sender + c.args.place) run.sender.requested ≡ false = ap (λ k. has (vt_a run.sender + k) run.sender.requested) last.place_is ∙ last_not run.rules c.self.inside.line run.sender last.some last.none run.stands.line in
    record {
      from = run.from;
      most = run.most;
      rules = run.rules;
      sender = after_choice (Last (vt_a run.sender + c.args.place)) run.rules (c.self.inside.size - 2) run.sender;
      stands = subst (λ (l : RetxBuffer). IsOutgoing run.rules (c.self.inside.size - 2) (with_line l v) (after_choice (Last (vt_a run.sender + c.args.place)) run.rules (c.self.inside.size - 2) run.sender)) (sym c.last-poll.ensures.after)
          (last_stands run.rules (c.self.inside.size - 2) v run.sender c.args.place inside number none run.stands);
    }
