use Rattle.std.proofs.Common.{◌≡◌, ◌+◌, ◌<◌, ◌∙◌, ℕ, List, length, ap, sym, subst}
use Rattle.dch_types.specs.declared.channel.Side.{Side}
use Rattle.dch_types.specs.declared.channel.Trch.{Trch}
use Rattle.dch_types.specs.Parts.{channel_at}
use Rattle.dch_types.specs.Timing.{ends}
use Rattle.dch_tti.specs.RxFrames.{RxFrames}
use Rattle.dch_ue.specs.Moves.{AreReadTo}
use Rattle.dch_ue.specs.Steps.{IsReading}
use Rattle.dch_ue.specs.Values.{RxTti, reading_of}
use Rattle.dch_ue.proofs.Receiving.{read_next, read_skipped, tti_in}
use Rattle.dch_ue.proofs.receiver.read_ttis.Goals as goal
use Rattle.dch_ue.proofs.receiver.read_ttis.Goals.{then-ends, else-ends}

pub loop-i-preserved : goal.loop-i-preserved
loop-i-preserved c =
    let planned = c.args.accepted.now in
    let i : ℕ = c.loop-i.i in
    let channel : c.channel.result.now ≡ channel_at planned.config.downlink.side i = c.channel.ensures.value ∙ ap (λ (side : Side). channel_at side i) c.side-side.ensures.value in
    let inside : i < length planned.config.downlink.side.channels = subst (λ (side : Side). i < length side.channels) c.side-side.ensures.value (subst (λ n. i < n) c.len-i-end.ensures c.loop-i-test.true) in
    let there : i < length c.loop-i.ttis = subst (λ n. i < n) (sym c.loop-i.invariant.read.opened.all) inside in
    let test : ends (channel_at planned.config.downlink.side i).frames c.args.cfn ≡ c.ends.result = ap (λ (t : Trch). ends t.frames c.args.cfn) (sym channel) ∙ sym c.ends.ensures.value in
    elim c.if-ends.branch [
      | then-ends w ↦ record {
        read = subst (λ (ttis : List RxTti). AreReadTo planned c.args.reader.now (i + 1) ttis) (sym w.ttis-is)
            (read_next planned c.args.reader.now i c.loop-i.ttis w.read.new.self c.loop-i.invariant.read inside
            (subst (λ (r : RxFrames). IsReading planned r i (reading_of w.read.new.self)) c.loop-i.invariant.kept w.read.ensures.reading)
            (w.read.ensures.room ∙ ap (λ (t : RxTti). t.held.room) (tti_in c.loop-i.ttis i w.index-ttis-i.result there)));
        kept = w.reader-is ∙ w.read.ensures.kept ∙ c.loop-i.invariant.kept;
      }
      | else-ends w ↦ record {
        read = subst (λ (ttis : List RxTti). AreReadTo planned c.args.reader.now (i + 1) ttis) (sym w.ttis-is)
            (read_skipped planned c.args.reader.now i c.loop-i.ttis c.loop-i.invariant.read (ap (ends (channel_at planned.config.downlink.side i).frames) c.requires.last ∙ test ∙ w.if-ends.false));
        kept = w.reader-is ∙ c.loop-i.invariant.kept;
      }
    ]
