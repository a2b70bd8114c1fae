use Rattle.std.proofs.Common.{◌≡◌, ◌≢◌, ◌<◌, ◌+◌, ◌∙◌, ℕ, ap, length, subst, sym}
use Rattle.dch_types.specs.declared.channel.Dir.TheVariants.{Up}
use Rattle.dch_types.specs.declared.channel.Side.{Side}
use Rattle.dch_types.specs.declared.channel.Trch.{Trch}
use Rattle.dch_types.specs.Parts.{channel_at}
use Rattle.dch_accept.specs.Blocks.{Held}
use Rattle.dch_accept.specs.HeldSets.{HeldSet, IsSetOf, held_at}
use Rattle.dch_combine.specs.Combined.{IsCombinedTti}
use Rattle.dch_combine.specs.Values.{frames_in}
use Rattle.dch_combine.proofs.Combining.{added_next, other_next}
use Rattle.dch_combine.proofs.channel.combine.Goals as goal
use Rattle.dch_combine.proofs.channel.combine.Goals.{then-channel-set, else-channel-set}

pub loop-i-preserved : goal.loop-i-preserved
loop-i-preserved c =
    let config = c.args.accepted.now.config in
    let i : ℕ = c.loop-i.i in
    let legs = frames_in c.args.legs.now in
    let channel : c.channel.result.now ≡ channel_at config.uplink.side i = c.channel.ensures.value ∙ ap (λ (side : Side). channel_at side i) c.side-side.ensures.value in
    elim c.if-channel-set.branch [
      | then-channel-set w ↦
          let inside : i < length config.uplink.side.channels = subst (λ (side : Side). i < length side.channels) c.side-side.ensures.value (subst (λ n. i < n) c.len-i-end.ensures c.loop-i-test.true) in
          record {
            combined = subst (λ (out : HeldSet). (j : ℕ) → j < i + 1 → (channel_at config.uplink.side j).set ≡ c.args.set → IsCombinedTti legs j (held_at out.blocks j)) (sym (w.out-is ∙ w.add.ensures.added))
                (added_next legs config.uplink.side c.args.set i c.loop-i.out w.combine_channel.new.tti (subst (λ n. i < n) (sym c.loop-i.invariant.out.rooms.all) inside) c.loop-i.invariant.combined w.combine_channel.ensures.combined);
            out = subst (λ (out : HeldSet). IsSetOf config Up c.args.set out) (sym w.out-is) (w.add.ensures.set config Up c.args.set w.combine_channel.ensures.format c.loop-i.invariant.out);
            room = ap (λ (tti : Held). tti.room) w.tti-is ∙ (w.combine_channel.ensures.room ∙ c.loop-i.invariant.room);
          }
      | else-channel-set w ↦
          let other : (channel_at config.uplink.side i).set ≢ c.args.set = (λ (e : (channel_at config.uplink.side i).set ≡ c.args.set). w.if-channel-set.false (ap (λ (t : Trch). t.set) channel ∙ e)) in
          record {
            combined = subst (λ (out : HeldSet). (j : ℕ) → j < i + 1 → (channel_at config.uplink.side j).set ≡ c.args.set → IsCombinedTti legs j (held_at out.blocks j)) (sym w.out-is)
                (other_next legs config.uplink.side c.args.set i c.loop-i.out c.loop-i.invariant.combined other);
            out = subst (λ (out : HeldSet). IsSetOf config Up c.args.set out) (sym w.out-is) c.loop-i.invariant.out;
            room = ap (λ (tti : Held). tti.room) w.tti-is ∙ c.loop-i.invariant.room;
          }
    ]
