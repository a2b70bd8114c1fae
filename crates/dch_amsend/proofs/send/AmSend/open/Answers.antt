use Rattle.std.proofs.Common.{◌-◌, refl, subst, sym}
use Rattle.dch_am.specs.Sender.{opened_sender}
use Rattle.dch_am.specs.Rules.{rules_of}
use Rattle.dch_amsend.specs.Outgoing.{IsOutgoing}
use Rattle.dch_amsend.proofs.send.AmSend.open.Goals as goal

pub returns-clause-stands : goal.returns-clause-stands
returns-clause-stands c = record {
  rules_are = refl;
  outgoing = subst (λ n. IsOutgoing (rules_of c.args.buffer c.args.rules) (n - 2) c.in_ok-outgoing.outgoing opened_sender) (sym c.in_ok-outgoing.ensures.size) c.in_ok-outgoing.ensures.history;
  sdu_discard = c.in_ok-discard.ensures.history (rules_of c.args.buffer c.args.rules);
}

pub returns-clause-history : goal.returns-clause-history
returns-clause-history c = returns-clause-stands c
