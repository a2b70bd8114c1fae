use Rattle.std.proofs.Common.{◌-◌, ◌≤◌, ◌∙◌, Option, ap, ap₂, arith, length, length-drop, subst, sym}
use Rattle.dch_am.specs.Acknowledging.{after_fields}
use Rattle.dch_retx.specs.declared.sent_pdu.SentPdu.{SentPdu}
use Rattle.dch_retx.specs.RetxBuffer.{RetxBuffer}
use Rattle.dch_amsend.specs.TxBuffer.{TxBuffer, ended_before, released_by}
use Rattle.dch_amsend.specs.Outgoing.{IsOutgoing, IsRunning, Outgoing}
use Rattle.dch_amsend.proofs.Events.{hears_few, hears_goes, none_leaves}
use Rattle.dch_amsend.proofs.outgoing.Outgoing.status.Goals as goal

pub release-requires : goal.release-requires
release-requires c =
    let v : Outgoing = record { size = c.self.inside.size; line = c.self.inside.line; tx_buffer = c.self.inside.tx_buffer } in
    let run : IsRunning v = c.self.invariant in
    let heard = c.hear-taken.ensures.history run.rules run.sender run.stands.line in
    subst (λ (first : Option SentPdu). ended_before first c.self.inside.tx_buffer ≤ c.self.inside.tx_buffer.start.sdu) (sym c.first_in_flight-first.ensures) (hears_few run.rules (c.self.inside.size - 2) v run.sender c.hear-taken.new.self c.args.status.now run.stands heard.1 c.hear-taken.ensures.kept)

pub invariant_of-self : goal.invariant_of-self
invariant_of-self c =
    let v : Outgoing = record { size = c.self.inside.size; line = c.self.inside.line; tx_buffer = c.self.inside.tx_buffer } in
    let run : IsRunning v = c.self.invariant in
    let heard = c.hear-taken.ensures.history run.rules run.sender run.stands.line in
    let after = c.release.ensures.after ∙ ap (λ (first : Option SentPdu). released_by (ended_before first c.self.inside.tx_buffer) c.self.inside.tx_buffer) c.first_in_flight-first.ensures in
    record {
      from = run.from;
      most = run.most;
      rules = run.rules;
      sender = after_fields run.rules run.sender c.args.status.now;
      stands = subst (λ w. IsOutgoing run.rules (c.self.inside.size - 2) (record { size = c.self.inside.size; line = c.hear-taken.new.self; tx_buffer = w }) (after_fields run.rules run.sender c.args.status.now)) (sym after) (hears_goes run.rules (c.self.inside.size - 2) v run.sender c.hear-taken.new.self c.args.status.now run.stands heard.1 c.hear-taken.ensures.kept);
    }

pub returns-clause-history : goal.returns-clause-history
returns-clause-history c = λ rules d s is.
    let v : Outgoing = record { size = c.self.inside.size; line = c.self.inside.line; tx_buffer = c.self.inside.tx_buffer } in
    let here : IsOutgoing rules d v s = subst (λ x. IsOutgoing rules d x s) (sym c.self.view_is) is in
    let heard = c.hear-taken.ensures.history rules s here.line in
    let after = c.release.ensures.after ∙ ap (λ (first : Option SentPdu). released_by (ended_before first c.self.inside.tx_buffer) c.self.inside.tx_buffer) c.first_in_flight-first.ensures in
    (heard.0, subst (λ w. IsOutgoing rules d (record { size = c.self.inside.size; line = c.hear-taken.new.self; tx_buffer = w }) (after_fields rules s c.args.status.now)) (sym after) (hears_goes rules d v s c.hear-taken.new.self c.args.status.now here heard.1 c.hear-taken.ensures.kept))

pub returns-clause-outside : goal.returns-clause-outside
returns-clause-outside c = λ other.
    let v : Outgoing = record { size = c.self.inside.size; line = c.self.inside.line; tx_buffer = c.self.inside.tx_buffer } in
    let run : IsRunning v = c.self.invariant in
    let same = c.hear-taken.ensures.outside other in
    let after = c.release.ensures.after ∙ ap (λ (first : Option SentPdu). released_by (ended_before first c.self.inside.tx_buffer) c.self.inside.tx_buffer) c.first_in_flight-first.ensures in
    ap₂ (λ (l : RetxBuffer) (w : TxBuffer). record { size = c.self.inside.size; line = l; tx_buffer = w }) same (after ∙ none_leaves run.rules (c.self.inside.size - 2) v run.sender c.hear-taken.new.self run.stands same) ∙ c.self.view_is

pub returns-clause-blocks : goal.returns-clause-blocks
returns-clause-blocks c = ap (λ (w : TxBuffer). w.blocks) c.release.ensures.after ∙ ap (λ (x : Outgoing). x.tx_buffer.blocks) c.self.view_is

pub returns-clause-fewer : goal.returns-clause-fewer
returns-clause-fewer c = omega (arith, ap (λ (w : TxBuffer). length w.sdus) c.release.ensures.after, length-drop (ended_before c.first_in_flight-first.result c.self.inside.tx_buffer) c.self.inside.tx_buffer.sdus, ap (λ (x : Outgoing). length x.tx_buffer.sdus) c.self.view_is)
