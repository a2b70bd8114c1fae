use Rattle.std.proofs.Common.{◌≡◌, ◌≢◌, ◌+◌, ◌<◌, ◌∙◌, ℕ, ap, length, sym, subst}
use Rattle.dch_types.specs.declared.channel.Dir.TheVariants.{Up}
use Rattle.dch_types.specs.declared.channel.Side.{Side}
use Rattle.dch_types.specs.declared.channel.Trch.{Trch}
use Rattle.dch_types.specs.Parts.{channel_at}
use Rattle.dch_accept.specs.HeldSets.{HeldSet, IsSetOf, held_at}
use Rattle.dch_ulphy.specs.Read.{IsTtiRead}
use Rattle.dch_nodeb.specs.Opened.{IsReceiverOf}
use Rattle.dch_nodeb.specs.Values.{UplinkReceiver}
use Rattle.dch_nodeb.proofs.Reading.{bad_first, read_off, read_on}
use Rattle.dch_nodeb.proofs.receiver.UplinkReceiver.read_set.Goals as goal
use Rattle.dch_nodeb.proofs.receiver.UplinkReceiver.read_set.Goals.{then-channel-set+in-Ok, else-channel-set}

pub returns-in-Err-clause-bad : goal.returns-in-Err-clause-bad
returns-in-Err-clause-bad c =
    let planned = c.args.accepted.now in
    let i : ℕ = c.loop-i.i in
    let channel : c.channel.result.now ≡ channel_at planned.config.uplink.side i = c.channel.ensures.value ∙ ap (λ (side : Side). channel_at side i) c.side-side.ensures.value in
    let inside : i < length planned.config.uplink.side.channels = subst (λ (side : Side). i < length side.channels) c.side-side.ensures.value (subst (λ n. i < n) c.len-i-end.ensures c.loop-i-test.true) in
    bad_first planned c.args.self.now.rx_frames c.loop-i.self.rx_frames c.args.set i c.in-Err.bad.channel c.in-Err.bad.frame c.loop-i.blocks c.loop-i.invariant.same inside
    (ap (λ (t : Trch). t.set) (sym channel) ∙ c.if-channel-set.true) c.loop-i.invariant.read c.in-Err.ensures.bad.0 c.in-Err.ensures.bad.1

pub loop-i-preserved : goal.loop-i-preserved
loop-i-preserved c =
    let planned = c.args.accepted.now in
    let i : ℕ = c.loop-i.i in
    let channel : c.channel.result.now ≡ channel_at planned.config.uplink.side i = c.channel.ensures.value ∙ ap (λ (side : Side). channel_at side i) c.side-side.ensures.value in
    elim c.if-channel-set.branch [
      | then-channel-set+in-Ok w ↦ record {
        read = subst (λ (blocks : HeldSet). (j : ℕ) → j < i + 1 → (channel_at planned.config.uplink.side j).set ≡ c.args.set → IsTtiRead planned c.args.self.now.rx_frames j (held_at blocks.blocks j)) (sym w.blocks-is)
            (read_on planned c.args.self.now.rx_frames c.loop-i.self.rx_frames c.args.set i c.loop-i.blocks w.read.new.blocks c.loop-i.invariant.same c.loop-i.invariant.read w.in-Ok.ensures.read w.in-Ok.ensures.others);
        blocks = subst (λ (blocks : HeldSet). IsSetOf planned.config Up c.args.set blocks) (sym w.blocks-is) w.in-Ok.ensures.blocks;
        opened = subst (λ (r : UplinkReceiver). IsReceiverOf planned r) (sym w.self-is) w.in-Ok.ensures.opened;
        same = ap (λ (r : UplinkReceiver). r.rx_frames) w.self-is ∙ w.in-Ok.ensures.same ∙ c.loop-i.invariant.same;
      }
      | else-channel-set w ↦
          let other : (channel_at planned.config.uplink.side i).set ≢ c.args.set = (λ (e : (channel_at planned.config.uplink.side i).set ≡ c.args.set). w.if-channel-set.false (ap (λ (t : Trch). t.set) channel ∙ e)) in
          record {
            read = subst (λ (blocks : HeldSet). (j : ℕ) → j < i + 1 → (channel_at planned.config.uplink.side j).set ≡ c.args.set → IsTtiRead planned c.args.self.now.rx_frames j (held_at blocks.blocks j)) (sym w.blocks-is)
                (read_off planned c.args.self.now.rx_frames c.args.set i c.loop-i.blocks c.loop-i.invariant.read other);
            blocks = subst (λ (blocks : HeldSet). IsSetOf planned.config Up c.args.set blocks) (sym w.blocks-is) c.loop-i.invariant.blocks;
            opened = subst (λ (r : UplinkReceiver). IsReceiverOf planned r) (sym w.self-is) c.loop-i.invariant.opened;
            same = ap (λ (r : UplinkReceiver). r.rx_frames) w.self-is ∙ c.loop-i.invariant.same;
          }
    ]
