use Rattle.std.proofs.Common.{take}
use Rattle.dch_pair.specs.Running.{rules_in}
use Rattle.dch_pair.proofs.Units.{ok_more}
use Rattle.dch_reset.proofs.Safe.{always_safe}
use Rattle.dch_reset.specs.Running.{IsOutcome, history, pair_after}
use Rattle.dch_reset.proofs.Delivered.{delivered_is}
use Rattle.dch_reset.proofs.run.run_reset.Goals as goal

pub returns-clause-delivered : goal.returns-clause-delivered
returns-clause-delivered c =
    ok_more c.run.result (λ o. IsOutcome o (pair_after c.args.setup.now (history c.args.octets.now c.args.events.now))) _
    (λ o is. delivered_is (rules_in c.args.setup.now) (pair_after c.args.setup.now (history c.args.octets.now c.args.events.now)) o
    (always_safe (rules_in c.args.setup.now) c.args.setup.now.first_pdu c.args.setup.now.second_pdu (history c.args.octets.now c.args.events.now) c.requires.window) is)
    c.run.ensures

pub returns-clause-safe : goal.returns-clause-safe
returns-clause-safe c k = always_safe (rules_in c.args.setup.now) c.args.setup.now.first_pdu c.args.setup.now.second_pdu (take k (history c.args.octets.now c.args.events.now)) c.requires.window
