use Rattle.std.proofs.Common.{◌+◌, ◌-◌, ◌<◌, Some, length, subst, sym}
use Rattle.dch_am.specs.Discards.{discards_at}
use Rattle.dch_am.specs.Sender.{vt_a}
use Rattle.dch_amsend.specs.Outgoing.{IsOutgoing, IsRunning, Outgoing}
use Rattle.dch_amsend.proofs.Events.{discards_goes}
use Rattle.dch_amsend.proofs.outgoing.Outgoing.discard.Goals as goal

pub returns-clause-history : goal.returns-clause-history
returns-clause-history c = λ rules d s i is.
    let v : Outgoing = record { size = c.self.inside.size; line = c.self.inside.line; tx_buffer = c.self.inside.tx_buffer } in
    discards_goes rules d v s c.discard.new.self c.args.place c.args.indicator i (subst (λ (x : Outgoing). c.args.place < length x.line.in_flight) (sym c.self.view_is) c.requires.place) c.discard.ensures.after (subst (λ x. IsOutgoing rules d x s) (sym c.self.view_is) is)

pub invariant_of-self : goal.invariant_of-self
invariant_of-self c =
    let v : Outgoing = record { size = c.self.inside.size; line = c.self.inside.line; tx_buffer = c.self.inside.tx_buffer } in
    let run : IsRunning v = c.self.invariant in
    record {
      from = run.from;
      most = run.most;
      rules = run.rules;
      sender = discards_at run.sender 0 (Some (vt_a run.sender + c.args.place, c.args.indicator));
      stands = discards_goes run.rules (c.self.inside.size - 2) v run.sender c.discard.new.self c.args.place c.args.indicator 0 (subst (λ (x : Outgoing). c.args.place < length x.line.in_flight) (sym c.self.view_is) c.requires.place) c.discard.ensures.after run.stands;
    }
