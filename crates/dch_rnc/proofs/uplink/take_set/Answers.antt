use Rattle.std.proofs.Common.{◌≡◌, ◌≢◌, ◌<◌, ◌+◌, ◌∙◌, ℕ, ap, length, sym, subst}
use Rattle.dch_types.specs.declared.channel.Dir.TheVariants.{Up}
use Rattle.dch_types.specs.declared.channel.Side.{Side}
use Rattle.dch_types.specs.declared.channel.Trch.{Trch}
use Rattle.dch_types.specs.declared.config.Config.{Config}
use Rattle.dch_types.specs.Parts.{channel_at}
use Rattle.dch_layer2.specs.Bounded.{HasRead}
use Rattle.dch_layer2.specs.Reading.{Reading}
use Rattle.dch_layer2.specs.Values.{LayerRunning}
use Rattle.dch_layer2.proofs.Readings.{skipped}
use Rattle.dch_rnc.specs.State.{set_readings}
use Rattle.dch_rnc.proofs.Taking.{reading_off, taken_next}
use Rattle.dch_rnc.proofs.uplink.take_set.Goals as goal
use Rattle.dch_rnc.proofs.uplink.take_set.Goals.{then-channel-set, else-channel-set}

pub take-requires-clause-layer : goal.take-requires-clause-layer
take-requires-clause-layer g c = record { layer = _; stands = c.loop-i.invariant.stands c.requires.layer.layer c.requires.layer.stands }

pub loop-i-preserved : goal.loop-i-preserved
loop-i-preserved g c =
    let config : Config = c.args.accepted.now.config in
    let readings : ℕ → Reading = set_readings config.uplink.side c.args.set c.args.blocks.now in
    let i : ℕ = c.loop-i.i in
    let channel : c.channel.result.now ≡ channel_at config.uplink.side i = c.channel.ensures.value ∙ ap (λ (side : Side). channel_at side i) c.side-side.ensures.value in
    let inside : i < length config.uplink.side.channels = subst (λ (side : Side). i < length side.channels) c.side-side.ensures.value (subst (λ n. i < n) c.len-i-end.ensures c.loop-i-test.true) in
    elim c.if-channel-set.branch [
      | then-channel-set w ↦
          subst (λ (v : LayerRunning). HasRead g.U.Indications.shows config Up readings (i + 1) c.args.layer.now v c.args.user.now c.if-channel-set.user) (sym w.layer-is)
          (subst (λ t. HasRead g.U.Indications.shows config Up readings (i + 1) c.args.layer.now w.take.new.self c.args.user.now t) (sym w.user-is)
          (taken_next g.U.Indications.shows c.args.accepted.now c.args.set i c.args.blocks.now w.channel-then-channel-set.result.now c.args.layer.now c.loop-i.layer w.take.new.self c.args.user.now c.loop-i.user w.take.new.user c.loop-i.invariant
          (c.loop-i.invariant.ends.receives ∙ c.requires.receives) w.channel-then-channel-set.ensures inside (ap (λ (t : Trch). t.set) (sym channel) ∙ w.if-channel-set.true) w.take.ensures.ends w.take.ensures.told w.take.ensures.stands))
      | else-channel-set w ↦
          let other : (channel_at config.uplink.side i).set ≢ c.args.set = (λ (e : (channel_at config.uplink.side i).set ≡ c.args.set). w.if-channel-set.false (ap (λ (t : Trch). t.set) channel ∙ e)) in
          subst (λ (v : LayerRunning). HasRead g.U.Indications.shows config Up readings (i + 1) c.args.layer.now v c.args.user.now c.if-channel-set.user) (sym w.layer-is)
          (subst (λ t. HasRead g.U.Indications.shows config Up readings (i + 1) c.args.layer.now c.loop-i.layer c.args.user.now t) (sym w.user-is)
          (skipped g.U.Indications.shows config Up readings i c.args.layer.now c.loop-i.layer c.args.user.now c.loop-i.user c.loop-i.invariant (reading_off config.uplink.side c.args.set c.args.blocks.now i other)))
    ]
