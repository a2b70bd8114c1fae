use Rattle.std.proofs.Common.{◌≡◌, ◌<◌, ◌+◌, ◌-◌, ◌∙◌, ◌&&◌, suc, [], true, ap, arith, get_or, length, set, subst, sym}
use Rattle.std.specs.Prelude.{◌==◌}
use Rattle.dch_config.specs.Good.{IsGood}
use Rattle.dch_mac.specs.Asked.{priority_of}
use Rattle.dch_layer2.specs.Starting.{is_on}
use Rattle.dch_layer2.specs.BearerStanding.{Represents as StandsFor}
use Rattle.dch_layer2.specs.declared.bearer.Bearer.{Bearer}
use Rattle.dch_layer2.specs.Sharing.{Fills, Offers, asked_by, head_in, share}
use Rattle.dch_layer2.specs.Values.{entity_at}
use Rattle.dch_layer2.proofs.Serving.{AreServed}
use Rattle.dch_layer2.proofs.Places.{inside_or}
use Rattle.dch_layer2.proofs.Sharing.{all_served, next_served, none_served, skip_served, turn_offers, turn_served}
use Rattle.dch_layer2.proofs.choosing.Moment.give.Goals.{then-is_turn, else-is_turn}
use Rattle.dch_layer2.proofs.choosing.Moment.give.Goals as goal

pub loop-q-init : goal.loop-q-init
loop-q-init c =
    let good : IsGood c.args.self.now.config = subst IsGood c.config-config.ensures.value c.config-config.ensures.good in
    none_served c.args.self.now c.args.channel c.args.format c.args.bearers.now c.args.blocks.now (λ b l. (good.bearers b l).least_priority)

pub fill-built-requires-clause-offers : goal.fill-built-requires-clause-offers
fill-built-requires-clause-offers c =
    let inside : c.loop-b.b < length c.loop-b.bearers = omega (arith, c.loop-b-test.true, c.loop-b.auto.bearers) in
    let there : c.loop-b.b < length c.args.self.now.config.bearers = omega (arith, inside, c.loop-b.invariant.all, c.requires.can.ready.standing.all) in
    let more : c.loop-q.q + 1 ≡ suc c.loop-q.q = omega arith in
    let mine : (priority_of (asked_by c.args.self.now) c.loop-b.b == suc c.loop-q.q && is_on (asked_by c.args.self.now) c.args.channel c.loop-b.b) ≡ true =
    ap (λ k. priority_of (asked_by c.args.self.now) c.loop-b.b == k && is_on (asked_by c.args.self.now) c.args.channel c.loop-b.b) (sym more) ∙ (sym c.is_turn.ensures ∙ c.if-is_turn.true) in
    subst (λ h. Offers (get_or c.loop-b.bearers c.loop-b.b c.index-bearers-b.result) h) (sym c.head-head.ensures)
    (subst (λ (x : Bearer). Offers x (head_in c.args.self.now.heads c.loop-b.b)) (inside_or c.loop-b.bearers c.loop-b.b (entity_at [] 0) c.index-bearers-b.result inside)
    (turn_offers c.args.self.now c.args.channel c.args.format c.loop-q.q c.loop-b.b c.loop-b.built c.args.bearers.now c.loop-b.bearers c.args.blocks.now c.loop-b.blocks there mine c.requires.can c.loop-b.invariant))

pub loop-b-preserved : goal.loop-b-preserved
loop-b-preserved c =
    let inside : c.loop-b.b < length c.loop-b.bearers = omega (arith, c.loop-b-test.true, c.loop-b.auto.bearers) in
    let there : c.loop-b.b < length c.args.self.now.config.bearers = omega (arith, inside, c.loop-b.invariant.all, c.requires.can.ready.standing.all) in
    let more : c.loop-q.q + 1 ≡ suc c.loop-q.q = omega arith in
    let next : suc c.loop-b.b ≡ c.loop-b.b + 1 = omega arith in
    let turn : c.is_turn.result ≡ (priority_of (asked_by c.args.self.now) c.loop-b.b == suc c.loop-q.q && is_on (asked_by c.args.self.now) c.args.channel c.loop-b.b) =
    c.is_turn.ensures ∙ ap (λ k. priority_of (asked_by c.args.self.now) c.loop-b.b == k && is_on (asked_by c.args.self.now) c.args.channel c.loop-b.b) more in
    elim c.if-is_turn.branch [
      | then-is_turn w ↦
          rw (w.built-is, w.bearers-is, w.blocks-is)
          (subst (λ k. AreServed c.args.self.now c.args.channel c.args.format c.loop-q.q k w.fill-built.result c.args.bearers.now (set c.loop-b.bearers c.loop-b.b w.fill-built.new.bearer) c.args.blocks.now w.fill-built.new.blocks) next
          (turn_served c.args.self.now c.args.channel c.args.format c.loop-q.q c.loop-b.b c.loop-b.built w.fill-built.result c.args.bearers.now c.loop-b.bearers w.fill-built.new.bearer c.args.blocks.now c.loop-b.blocks w.fill-built.new.blocks there inside (sym turn ∙ w.if-is_turn.true)
          (ap length c.loop-b.invariant.shape.good ∙ c.requires.count) c.requires.can c.loop-b.invariant
          (w.fill-built.ensures.value ∙ ap (λ h. c.loop-b.built + share h c.args.format.size (length c.loop-b.blocks.good - c.loop-b.built)) w.head-head.ensures)
          (λ config out into k bearing is. subst (λ h. Fills config out into k (share h c.args.format.size (length c.loop-b.blocks.good - c.loop-b.built)) c.loop-b.built bearing w.fill-built.new.bearer c.loop-b.blocks w.fill-built.new.blocks) w.head-head.ensures
          (w.fill-built.ensures.filled config out into k bearing (subst (StandsFor config out into k bearing) (inside_or c.loop-b.bearers c.loop-b.b (entity_at [] 0) w.index-bearers-b.result inside) is)))))
      | else-is_turn w ↦
          rw (w.built-is, w.bearers-is, w.blocks-is)
          (subst (λ k. AreServed c.args.self.now c.args.channel c.args.format c.loop-q.q k c.loop-b.built c.args.bearers.now c.loop-b.bearers c.args.blocks.now c.loop-b.blocks) next
          (skip_served c.args.self.now c.args.channel c.args.format c.loop-q.q c.loop-b.b c.loop-b.built c.args.bearers.now c.loop-b.bearers c.args.blocks.now c.loop-b.blocks there (sym turn ∙ w.if-is_turn.false) c.loop-b.invariant))
    ]

pub loop-q-preserved : goal.loop-q-preserved
loop-q-preserved c =
    let all : c.loop-b.b ≡ length c.args.self.now.config.bearers = omega (arith, c.loop-b-test.false, c.loop-b.auto.b-end, c.loop-b.auto.bearers, c.loop-b.invariant.all, c.loop-q.invariant.all, c.requires.can.ready.standing.all) in
    let next : suc c.loop-q.q ≡ c.loop-q.q + 1 = omega arith in
    subst (λ k. AreServed c.args.self.now c.args.channel c.args.format k 0 c.loop-b.built c.args.bearers.now c.loop-b.bearers c.args.blocks.now c.loop-b.blocks) next
    (next_served c.args.self.now c.args.channel c.args.format c.loop-q.q c.loop-b.built c.args.bearers.now c.loop-b.bearers c.args.blocks.now c.loop-b.blocks
    (subst (λ k. AreServed c.args.self.now c.args.channel c.args.format c.loop-q.q k c.loop-b.built c.args.bearers.now c.loop-b.bearers c.args.blocks.now c.loop-b.blocks) all c.loop-b.invariant))

pub returns : goal.returns
returns c =
    let good : IsGood c.args.self.now.config = subst IsGood c.config-config.ensures.value c.config-config.ensures.good in
    let eight : c.loop-q.q ≡ 8 = omega (arith, c.loop-q-test.false, c.loop-q.auto.q-end) in
    all_served c.args.self.now c.args.channel c.args.format c.loop-q.built c.args.bearers.now c.loop-q.bearers c.args.blocks.now c.loop-q.blocks (λ b l. (good.bearers b l).most_priority)
    (subst (λ k. AreServed c.args.self.now c.args.channel c.args.format k 0 c.loop-q.built c.args.bearers.now c.loop-q.bearers c.args.blocks.now c.loop-q.blocks) eight c.loop-q.invariant)
