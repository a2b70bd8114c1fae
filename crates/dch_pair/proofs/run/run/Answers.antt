use Rattle.std.proofs.Common.{◌≡◌, ◌∙◌, take, arith, subst, sym}
use Rattle.std.proofs.lemmas.List.{take_all}
use Rattle.dch_pair.specs.Running.{IsOutcome, history, pair_after, rules_in}
use Rattle.dch_pair.specs.Standing.{AreRunning, Running, nothing_earlier}
use Rattle.dch_pair.proofs.Meeting.{runs_on}
use Rattle.dch_pair.proofs.Delivered.{whole_short}
use Rattle.dch_amlaw.specs.Pair.{Pair}
use Rattle.dch_amlaw.proofs.Short.{BothRead, always_short}
use Rattle.dch_pair.proofs.run.run.Goals as goal

pub loop-event-preserved : goal.loop-event-preserved
loop-event-preserved c = record {
  running = runs_on c.args.setup.now c.args.octets.now c.args.events.now c.loop-event.event-index _ c.happen.new.self.first c.happen.new.self.second (omega arith)
      (c.in_ok-happen.ensures.history (rules_in c.args.setup.now) (pair_after c.args.setup.now (history c.args.octets.now (take c.loop-event.event-index c.args.events.now))) c.loop-event.invariant.running);
  first = omega (arith, c.happen.ensures.first);
  second = omega (arith, c.happen.ensures.second);
}

pub returns : goal.returns
returns c =
    let all : take c.loop-event.event-index c.args.events.now ≡ c.args.events.now = take_all c.loop-event.event-index c.args.events.now (omega arith) in
    let p : Pair = pair_after c.args.setup.now (history c.args.octets.now c.args.events.now) in
    let run : AreRunning (rules_in c.args.setup.now) c.loop-event.pair.first c.loop-event.pair.second p = subst (λ es. AreRunning (rules_in c.args.setup.now) c.loop-event.pair.first c.loop-event.pair.second (pair_after c.args.setup.now (history c.args.octets.now es))) all c.loop-event.invariant.running in
    let here : AreRunning (rules_in c.args.setup.now) c.pair-2.inside.first c.pair-2.inside.second p = subst (λ (v : Running). AreRunning (rules_in c.args.setup.now) v.first v.second p) (sym c.pair-2.view_is) run in
    let short : BothRead p = always_short (rules_in c.args.setup.now) c.args.setup.now.first_pdu c.args.setup.now.second_pdu (history c.args.octets.now c.args.events.now) c.requires.window in
    subst (λ o. IsOutcome o p) (sym c.new.ensures) (record {
      first = record {
        accepted = omega (arith, c.close.ensures.accepted (rules_in c.args.setup.now) nothing_earlier p.near.entity here.near.peer);
        discarded = c.close.ensures.discarded (rules_in c.args.setup.now) nothing_earlier p.near.entity here.near.peer;
        units = c.close.ensures.units (rules_in c.args.setup.now) nothing_earlier p.near.entity here.near.peer ∙ whole_short p.near.entity.receiver.reading.units short.near;
      };
      second = record {
        accepted = omega (arith, c.close-2.ensures.accepted (rules_in c.args.setup.now) nothing_earlier p.far.entity here.far.peer);
        discarded = c.close-2.ensures.discarded (rules_in c.args.setup.now) nothing_earlier p.far.entity here.far.peer;
        units = c.close-2.ensures.units (rules_in c.args.setup.now) nothing_earlier p.far.entity here.far.peer ∙ whole_short p.far.entity.receiver.reading.units short.far;
      };
    })
