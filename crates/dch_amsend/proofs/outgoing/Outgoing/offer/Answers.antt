use Rattle.std.proofs.Common.{◌≡◌, ◌+◌, ◌-◌, ◌<◌, ◌∙◌, ap, length, subst, sym}
use Rattle.dch_am.specs.Sender.{after_offer}
use Rattle.dch_amsend.specs.TxBuffer.{TxBuffer}
use Rattle.dch_amsend.specs.Outgoing.{IsOutgoing, IsRunning, Outgoing}
use Rattle.dch_amsend.proofs.Due.{blocks_stay, one_more, refused_same, room_left}
use Rattle.dch_amsend.proofs.Events.{offer_goes}
use Rattle.dch_amsend.proofs.outgoing.Outgoing.offer.Goals as goal

pub invariant_of-self : goal.invariant_of-self
invariant_of-self c =
    let v : Outgoing = record { size = c.self.inside.size; line = c.self.inside.line; tx_buffer = c.self.inside.tx_buffer } in
    let run : IsRunning v = c.self.invariant in
    let both = c.offer.ensures.history run.rules (c.self.inside.size - 2) run.sender run.stands.tx_buffer run.stands.cut run.stands.room in
    record {
      from = run.from;
      most = run.most;
      rules = run.rules;
      sender = after_offer c.offer.result run.sender c.args.unit.now;
      stands = offer_goes run.rules (c.self.inside.size - 2) v run.sender c.args.unit.now c.offer.result c.offer.new.self run.stands both.0 c.offer.ensures.after both.1;
    }

pub returns-clause-history : goal.returns-clause-history
returns-clause-history c = λ rules d s is.
    let v : Outgoing = record { size = c.self.inside.size; line = c.self.inside.line; tx_buffer = c.self.inside.tx_buffer } in
    let here : IsOutgoing rules d v s = subst (λ x. IsOutgoing rules d x s) (sym c.self.view_is) is in
    let both = c.offer.ensures.history rules d s here.tx_buffer here.cut here.room in
    (both.0, offer_goes rules d v s c.args.unit.now c.offer.result c.offer.new.self here both.0 c.offer.ensures.after both.1)

pub returns-clause-accepted : goal.returns-clause-accepted
returns-clause-accepted c = λ yes. subst (λ (x : Outgoing). length c.offer.new.self.sdus ≡ length x.tx_buffer.sdus + 1) c.self.view_is (one_more c.args.unit.now c.self.inside.tx_buffer c.offer.new.self c.offer.result c.offer.ensures.after yes)

pub returns-clause-blocks : goal.returns-clause-blocks
returns-clause-blocks c = blocks_stay c.args.unit.now c.self.inside.tx_buffer c.offer.new.self c.offer.result c.offer.ensures.after ∙ ap (λ (x : Outgoing). x.tx_buffer.blocks) c.self.view_is

pub returns-clause-room : goal.returns-clause-room
returns-clause-room c = λ yes.
    let v : Outgoing = record { size = c.self.inside.size; line = c.self.inside.line; tx_buffer = c.self.inside.tx_buffer } in
    let run : IsRunning v = c.self.invariant in
    subst (λ (x : Outgoing). length x.tx_buffer.sdus < x.tx_buffer.blocks) c.self.view_is (room_left run.rules (c.self.inside.size - 2) v run.sender c.args.unit.now c.offer.result run.stands c.offer.ensures.answer yes)

pub returns-clause-refused : goal.returns-clause-refused
returns-clause-refused c = λ other. ap (λ (w : TxBuffer). record { size = c.self.inside.size; line = c.self.inside.line; tx_buffer = w }) (refused_same c.args.unit.now c.self.inside.tx_buffer c.offer.new.self c.offer.result c.offer.ensures.after other) ∙ c.self.view_is
