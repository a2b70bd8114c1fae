use Rattle.std.proofs.Common.{◌≡◌, ◌≤◌, ◌<◌, ◌+◌, ◌*◌, ◌%◌, ℕ, length, arith, ap, sym, ◌∙◌, subst}
use Rattle.std.specs.Prelude.{slice_index}
use Rattle.std.proofs.lemmas.Nat.{mod_below}
use Rattle.dch_types.specs.declared.config.Config.{Config}
use Rattle.dch_types.specs.Parts.{channel_at}
use Rattle.dch_config.specs.Good.{IsGood}
use Rattle.dch_frame.specs.declared.pattern.Pattern.{Pattern}
use Rattle.dch_frame.specs.declared.uplink_plan.UplinkPlan.{UplinkPlan}
use Rattle.dch_frame.specs.Patterns.{copies_below}
use Rattle.dch_frame.specs.Uplinks.{before_of, sent_of, uplink_pattern}
use Rattle.dch_frame.specs.Stages.{origin_of}
use Rattle.dch_frame.proofs.KeptBits.{origin_of-inside}
use Rattle.dch_collision.specs.Plans.{plan_at}
use Rattle.dch_tti.specs.Loaded.{loaded_at, Loaded, frame_number}
use Rattle.dch_ulphy.specs.Frames.{pattern_of}
use Rattle.dch_ulphy.proofs.Sent.{segment_room, sent_is}
use Rattle.dch_ulphy.proofs.writer.write_channel.Goals as goal

pub segment-requires : goal.segment-requires
segment-requires c =
    let i : ℕ = c.args.i in
    let comb : ℕ = c.args.combination in
    let side = c.args.accepted.now.config.uplink.side in
    let n : ℕ = c.args.cfn % c.frames_of.result in
    let before : ℕ = before_of side comb i in
    let value = c.config.ensures.value in
    let frames : c.frames_of.result ≡ (channel_at side i).frames = c.frames_of.ensures.value in
    let len : c.frame-pattern.result.len ≡ before = c.frame-pattern.ensures.len ∙ ap (λ (config : Config). before_of config.uplink.side comb i) value in
    let good : IsGood c.args.accepted.now.config = subst IsGood value c.config.ensures.good in
    let small : n < c.frames_of.result = mod_below c.args.cfn c.frames_of.result c.frames_of.ensures.some in
    let room : n * before + before ≤ length (loaded_at c.args.tti_buffers.now i).cells = segment_room c.args.accepted.now comb i n c.args.tti_buffers.now good.uplink.side c.requires.opened c.requires.combination c.requires.formats c.requires.channel (omega (arith, frames, small)) in
    subst (λ m. n * m + m ≤ length c.buffer_of.result.now.cells) (sym len)
    (subst (λ (loaded : Loaded). n * before + before ≤ length loaded.cells) (sym c.buffer_of.ensures) room)

pub returns : goal.returns
returns c q inside =
    let i : ℕ = c.args.i in
    let comb : ℕ = c.args.combination in
    let planned = c.args.accepted.now in
    let side = planned.config.uplink.side in
    let n : ℕ = c.args.cfn % c.frames_of.result in
    let pattern : Pattern = c.frame-pattern.result in
    let plan : UplinkPlan = c.uplink_plan.result.now in
    let value = c.config.ensures.value in
    let frame : n ≡ frame_number side i c.args.cfn = ap (λ f. c.args.cfn % f) c.frames_of.ensures.value in
    let kept : copies_below pattern.kind pattern.len ≡ sent_of side comb plan.ndata i = c.frame-pattern.ensures.kept ∙ ap (λ (config : Config). sent_of config.uplink.side comb plan.ndata i) value in
    let fits : length c.args.out.now ≡ copies_below pattern.kind pattern.len =
    c.requires.room ∙ ap (λ (plan : UplinkPlan). slice_index plan.sent i) (sym c.uplink_plan.ensures.value) ∙ c.uplink_plan.ensures.plan.sent i c.requires.channel ∙ sym kept in
    let origin : origin_of pattern q < pattern.len = origin_of-inside pattern q (omega (arith, fits, inside, c.rate_match.auto.out)) in
    let same : pattern ≡ pattern_of planned c.args.cfn comb i =
    c.frame-pattern.ensures.value
    ∙ ap (λ (config : Config). uplink_pattern config.uplink.side comb plan.ndata i n) value
    ∙ ap (λ (plan : UplinkPlan). uplink_pattern side comb plan.ndata i n) c.uplink_plan.ensures.value
    ∙ ap (λ n. uplink_pattern side comb (plan_at planned.uplink comb).ndata i n) frame in
    c.rate_match.ensures q _ inside
    ∙ c.segment.ensures.shown (origin_of pattern q) origin
    ∙ sent_is planned c.args.tti_buffers.now c.args.cfn comb i q n pattern c.buffer_of.result.now same frame c.buffer_of.ensures
