use Rattle.std.proofs.Common.{◌≡◌, ◌+◌, ◌∙◌, ℕ, List, ap, sym, subst}
use Rattle.dch_types.specs.declared.channel.Side.{Side}
use Rattle.dch_types.specs.declared.channel.Trch.{Trch}
use Rattle.dch_types.specs.Parts.{channel_at}
use Rattle.dch_types.specs.Timing.{starts}
use Rattle.dch_accept.specs.Blocks.{Held}
use Rattle.dch_tti.specs.Loaded.{Loaded}
use Rattle.dch_ue.specs.Moves.{AreLoadedTo}
use Rattle.dch_ue.proofs.Loading.{loaded_off, loaded_on}
use Rattle.dch_ue.proofs.transmitter.load.Goals as goal
use Rattle.dch_ue.proofs.transmitter.load.Goals.{then-starts, else-starts}

pub loop-i-preserved : goal.loop-i-preserved
loop-i-preserved c =
    let planned = c.args.accepted.now in
    let i : ℕ = c.loop-i.i in
    let channel : c.channel.result.now ≡ channel_at planned.config.uplink.side i = c.channel.ensures.value ∙ ap (λ (side : Side). channel_at side i) c.side-side.ensures.value in
    let test : starts (channel_at planned.config.uplink.side i).frames c.args.cfn ≡ c.starts.result =
    ap (λ (t : Trch). starts t.frames c.args.cfn) (sym channel) ∙ sym c.starts.ensures.value in
    elim c.if-starts.branch [
      | then-starts w ↦ subst (λ (tti : List Loaded). AreLoadedTo planned c.args.cfn (i + 1) c.args.layer.now c.args.tti.now tti) (sym w.tti-is)
          (loaded_on planned c.args.cfn i w.format.result c.args.layer.now w.bits.result.now c.args.tti.now c.loop-i.tti w.load.new.self c.loop-i.invariant (test ∙ w.if-starts.true)
          (w.format.ensures ∙ ap (λ (h : Held). h.format) w.given-given.ensures) (w.bits.ensures.value ∙ ap (λ (h : Held). h.bits) w.given-given.ensures) w.load.ensures.opened w.load.ensures.loaded w.load.ensures.same)
      | else-starts w ↦ subst (λ (tti : List Loaded). AreLoadedTo planned c.args.cfn (i + 1) c.args.layer.now c.args.tti.now tti) (sym w.tti-is)
          (loaded_off planned c.args.cfn i c.args.layer.now c.args.tti.now c.loop-i.tti c.loop-i.invariant (test ∙ w.if-starts.false))
    ]
