use Rattle.std.proofs.Common.{◌≡◌, ◌<◌, ◌∙◌, ℕ, length, ap, sym, subst}
use Rattle.dch_types.specs.declared.channel.Side.{Side}
use Rattle.dch_types.specs.declared.config.Config.{Config}
use Rattle.dch_ue.specs.Values.{RxTti, reading_of, readings_of, tti_at}
use Rattle.dch_ue.proofs.Receiving.{tti_in}
use Rattle.dch_ue.proofs.ReceivingBlocks.{given_next}
use Rattle.dch_ue.proofs.receiver.give_ttis.Goals as goal

pub give-requires-clause-layer : goal.give-requires-clause-layer
give-requires-clause-layer g c = record { layer = _; stands = c.loop-i.invariant.stands c.requires.layer.layer c.requires.layer.stands }

pub loop-i-preserved : goal.loop-i-preserved
loop-i-preserved g c =
    let config : Config = c.args.accepted.now.config in
    let i : ℕ = c.loop-i.i in
    let inside : i < length config.downlink.side.channels = subst (λ (side : Side). i < length side.channels) c.side-side.ensures.value (subst (λ n. i < n) c.len-i-end.ensures c.loop-i-test.true) in
    let tti : RxTti = c.index-ttis-i.result in
    let own : tti ≡ tti_at c.args.ttis.now i = c.index-ttis-i.is ∙ tti_in c.args.ttis.now i c.index-ttis-i.result (subst (λ n. i < n) (sym c.requires.ttis.all) inside) in
    given_next g.U.Indications.shows config (readings_of c.args.ttis.now) i (reading_of tti) c.args.layer.now c.loop-i.layer c.give.new.layer c.args.user.now c.loop-i.user c.give.new.user c.loop-i.invariant (ap reading_of (sym own)) c.give.ensures
