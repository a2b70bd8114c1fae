use Rattle.std.proofs.Common.{◌≡◌, ◌∙◌, take, arith, subst, sym}
use Rattle.std.proofs.lemmas.List.{take_all}
use Rattle.dch_pair.specs.Running.{rules_in}
use Rattle.dch_reset.specs.Ends.{ResetPair}
use Rattle.dch_reset.specs.Law.{AreShort, handed}
use Rattle.dch_reset.proofs.Short.{always_short}
use Rattle.dch_reset.specs.Running.{IsOutcome, history, pair_after}
use Rattle.dch_reset.specs.RunStanding.{AreRunning, Running}
use Rattle.dch_reset.proofs.Meeting.{runs_on}
use Rattle.dch_reset.proofs.Delivered.{whole_short}
use Rattle.dch_reset.proofs.run.run.Goals as goal

pub loop-event-preserved : goal.loop-event-preserved
loop-event-preserved c = record {
  running = runs_on c.args.setup.now c.args.octets.now c.args.events.now c.loop-event.event-index _ c.happen.new.self.first c.happen.new.self.second c.happen.new.self.to_second c.happen.new.self.to_first (omega arith)
      (c.in_ok-happen.ensures.history (rules_in c.args.setup.now) (pair_after c.args.setup.now (history c.args.octets.now (take c.loop-event.event-index c.args.events.now))) c.loop-event.invariant.running);
  first = omega (arith, c.happen.ensures.first);
  second = omega (arith, c.happen.ensures.second);
}

pub returns : goal.returns
returns c =
    let all : take c.loop-event.event-index c.args.events.now ≡ c.args.events.now = take_all c.loop-event.event-index c.args.events.now (omega arith) in
    let p : ResetPair = pair_after c.args.setup.now (history c.args.octets.now c.args.events.now) in
    let run : AreRunning (rules_in c.args.setup.now) c.loop-event.pair.first c.loop-event.pair.second c.loop-event.pair.to_second c.loop-event.pair.to_first p = subst (λ es. AreRunning (rules_in c.args.setup.now) c.loop-event.pair.first c.loop-event.pair.second c.loop-event.pair.to_second c.loop-event.pair.to_first (pair_after c.args.setup.now (history c.args.octets.now es))) all c.loop-event.invariant.running in
    let here : AreRunning (rules_in c.args.setup.now) c.pair-2.inside.first c.pair-2.inside.second c.pair-2.inside.to_second c.pair-2.inside.to_first p = subst (λ (v : Running). AreRunning (rules_in c.args.setup.now) v.first v.second v.to_second v.to_first p) (sym c.pair-2.view_is) run in
    let short : AreShort (handed p.near) × AreShort (handed p.far) = always_short (rules_in c.args.setup.now) c.args.setup.now.first_pdu c.args.setup.now.second_pdu (history c.args.octets.now c.args.events.now) c.requires.window in
    subst (λ o. IsOutcome o p) (sym c.new.ensures) (record {
      first = record {
        accepted = c.close.ensures.accepted (rules_in c.args.setup.now) p.near here.near;
        restarts = c.close.ensures.restarts (rules_in c.args.setup.now) p.near here.near;
        units = c.close.ensures.units (rules_in c.args.setup.now) p.near here.near ∙ whole_short (handed p.near) short.0;
      };
      second = record {
        accepted = c.close-2.ensures.accepted (rules_in c.args.setup.now) p.far here.far;
        restarts = c.close-2.ensures.restarts (rules_in c.args.setup.now) p.far here.far;
        units = c.close-2.ensures.units (rules_in c.args.setup.now) p.far here.far ∙ whole_short (handed p.far) short.1;
      };
    })
