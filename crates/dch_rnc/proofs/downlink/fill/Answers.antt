use Rattle.std.proofs.Common.{◌≡◌, ◌≢◌, ◌<◌, ◌+◌, ◌∙◌, ℕ, ap, length, sym, subst}
use Rattle.dch_types.specs.declared.channel.Dir.TheVariants.{Down}
use Rattle.dch_types.specs.declared.channel.Side.{Side}
use Rattle.dch_types.specs.declared.channel.Trch.{Trch}
use Rattle.dch_types.specs.Parts.{channel_at}
use Rattle.dch_accept.specs.Blocks.{Held}
use Rattle.dch_accept.specs.HeldSets.{HasFormat, HeldSet, IsSetOf, held_at}
use Rattle.dch_layer2.proofs.Joined.{given_format}
use Rattle.dch_rnc.specs.Moves.{AreFilledTo}
use Rattle.dch_rnc.proofs.Filling.{channel_inside, filled_off, filled_on}
use Rattle.dch_rnc.proofs.downlink.fill.Goals as goal
use Rattle.dch_rnc.proofs.downlink.fill.Goals.{then-channel-set, else-channel-set}

pub loop-i-preserved : goal.loop-i-preserved
loop-i-preserved c =
    let planned = c.args.accepted.now in
    let config = planned.config in
    let i : ℕ = c.loop-i.i in
    let channel : c.channel.result.now ≡ channel_at config.downlink.side i = c.channel.ensures.value ∙ ap (λ (side : Side). channel_at side i) c.side-side.ensures.value in
    let inside : i < length config.downlink.side.channels = subst (λ (side : Side). i < length side.channels) c.side-side.ensures.value (subst (λ n. i < n) c.len-i-end.ensures c.loop-i-test.true) in
    elim c.if-channel-set.branch [
      | then-channel-set w ↦
          let format : HasFormat (channel_at config.downlink.side i) w.given.result.now = subst (λ (h : Held). HasFormat (channel_at config.downlink.side i) h) (sym w.given.ensures) (given_format config Down c.args.layer.now i c.requires.layer c.requires.sends inside) in
          record {
            blocks = subst (λ (b : HeldSet). IsSetOf config Down c.args.set b) (sym w.blocks-is) (w.add.ensures.set config Down c.args.set format c.loop-i.invariant.blocks);
            filled = subst (λ (b : HeldSet). AreFilledTo config (i + 1) c.args.set c.args.layer.now b) (sym w.blocks-is)
                (filled_on config c.args.set i c.args.layer.now c.loop-i.blocks w.add.new.self w.given.result.now (held_at c.loop-i.blocks.blocks i).room c.loop-i.invariant.filled
                (channel_inside config c.args.set i c.loop-i.blocks c.loop-i.invariant.blocks inside) w.given.ensures w.add.ensures.added);
          }
      | else-channel-set w ↦
          let other : (channel_at config.downlink.side i).set ≢ c.args.set = (λ (e : (channel_at config.downlink.side i).set ≡ c.args.set). w.if-channel-set.false (ap (λ (t : Trch). t.set) channel ∙ e)) in
          record {
            blocks = subst (λ (b : HeldSet). IsSetOf config Down c.args.set b) (sym w.blocks-is) c.loop-i.invariant.blocks;
            filled = subst (λ (b : HeldSet). AreFilledTo config (i + 1) c.args.set c.args.layer.now b) (sym w.blocks-is) (filled_off config c.args.set i c.args.layer.now c.loop-i.blocks c.loop-i.invariant.filled other);
          }
    ]
